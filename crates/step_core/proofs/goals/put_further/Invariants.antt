use Rattle.std.proofs.Common.{◌≡◌, ◌++◌, length}
use Rattle.env_core.specs.Meaning.{declarations}
use Rattle.proof_state.specs.Sequents.{goals_in}
use Rattle.step_theory.specs.Texts.{further_text}
use Rattle.step_core.proofs.goals.put_further.Given as goal

abbrev pub invariant-loop-goal : goal.invariant-loop-goal
invariant-loop-goal l = l.text.items ++ further_text (declarations l.env) (goals_in l.at)
    ≡ l.initial.text.items ++ further_text (declarations l.env) (goals_in l.goals)

abbrev pub decreases-loop-goal : goal.decreases-loop-goal
decreases-loop-goal l = length (goals_in l.at)
