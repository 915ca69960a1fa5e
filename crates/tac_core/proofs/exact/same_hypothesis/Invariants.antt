use Rattle.std.proofs.Common.{length}
use Rattle.fol_theory.specs.Slots.{entries}
use Rattle.term_core.specs.Context.{slots}
use Rattle.tac_base.specs.Sites.{env_of, goal_at}
use Rattle.tac_core.proofs.Passed.{IsPassed}
use Rattle.tac_core.proofs.exact.same_hypothesis.Given as goal

abbrev pub invariant-loop-slot : goal.invariant-loop-slot
invariant-loop-slot l = IsPassed (env_of l.site) (entries (goal_at l.site).slots) (goal_at l.site).shown l.newer (entries (slots l.at))

abbrev pub decreases-loop-slot : goal.decreases-loop-slot
decreases-loop-slot l = length (slots l.at)
