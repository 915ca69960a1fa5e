use Rattle.fol_theory.specs.Measures.{nodes}
use Rattle.term_core.specs.Context.{slots}
use Rattle.term_core.specs.Formula.{meaning}
use Rattle.tac_base.specs.Openings.{drafted}
use Rattle.tac_base.specs.Sites.{env_of, goal_at}
use Rattle.tac_core.proofs.Walks.{Walked}
use Rattle.tac_core.proofs.intros.introduced.Given as goal

abbrev pub invariant-loop-sort : goal.invariant-loop-sort
invariant-loop-sort l = Walked (env_of l.site) (goal_at l.site) (slots l.context) (drafted l.draft) (meaning l.at)

abbrev pub decreases-loop-sort : goal.decreases-loop-sort
decreases-loop-sort l = nodes (meaning l.at)
