use Rattle.line_theory.proofs.Lists as lists
use Rattle.line_theory.proofs.changes.ids_stay_distinct.Goals as goal

pub returns-clause-cut : goal.returns-clause-cut
returns-clause-cut c = lists.cut_distinct

pub returns-clause-grown : goal.returns-clause-grown
returns-clause-grown c = lists.grown_distinct
