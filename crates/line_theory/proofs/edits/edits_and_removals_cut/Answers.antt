use Rattle.line_theory.specs.Lines.{ids}
use Rattle.line_theory.proofs.Lists as lists
use Rattle.line_theory.proofs.Words as words
use Rattle.line_theory.proofs.Removals as edits
use Rattle.line_theory.proofs.edits.edits_and_removals_cut.Goals as goal

pub returns-clause-edited : goal.returns-clause-edited
returns-clause-edited c = λ d i n. edits.edited_behind i d n

pub returns-clause-edited_by_place : goal.returns-clause-edited_by_place
returns-clause-edited_by_place c = λ d i n. edits.edited_place i d n

pub returns-clause-removed : goal.returns-clause-removed
returns-clause-removed c = λ d i. edits.removed_from i d

pub returns-clause-removed_by_place : goal.returns-clause-removed_by_place
returns-clause-removed_by_place c = λ d i. edits.removed_place i d

pub returns-clause-behind : goal.returns-clause-behind
returns-clause-behind c = λ d e i h. words.behind_cut i d e h

pub returns-clause-from : goal.returns-clause-from
returns-clause-from c = λ d e i h. edits.from_cut i d e h

pub returns-clause-gone : goal.returns-clause-gone
returns-clause-gone c = λ d e h k. lists.cut_gone (ids d) (ids e) h k

pub returns-clause-distinct : goal.returns-clause-distinct
returns-clause-distinct c = edits.cancelled_distinct
