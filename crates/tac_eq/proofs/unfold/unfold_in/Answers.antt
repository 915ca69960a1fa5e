use Rattle.std.proofs.Common.{sym}
use Rattle.tactic_theory.proofs.Found.{named_below}
use Rattle.tac_base.specs.Sites.{goal_at}
use Rattle.tac_eq.proofs.unfold.unfold_in.Goals as goal

pub unfold_at-requires-clause-below : goal.unfold_at-requires-clause-below
unfold_at-requires-clause-below c = named_below (goal_at c.args.site.now).slots c.in_ok-name.name c.in-Some.number (sym c.in-Some.ensures)
