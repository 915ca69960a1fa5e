use Rattle.std.proofs.Common.{◌≡◌, ◌++◌, map, length}
use Rattle.proof_tree.specs.Places.{goal_of}
use Rattle.proof_state.specs.Sequents.{goals_in}
use Rattle.proof_state.proofs.sequents.Sequents.push_all.Given as goal

abbrev pub invariant-loop-sequent : goal.invariant-loop-sequent
invariant-loop-sequent l = map goal_of l.first.items ++ goals_in l.all ≡ map goal_of l.fn.first.items ++ goals_in l.fn.self

abbrev pub decreases-loop-sequent : goal.decreases-loop-sequent
decreases-loop-sequent l = length l.first.items
