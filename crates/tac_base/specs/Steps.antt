-- What a refinement makes of a goal, and of the first focused goal of a state.
use Rattle.std.specs.Prelude.{◌≡◌, List, ◌∷◌, Result, IfOk}
use Rattle.env_theory.specs.Declarations.{Declaration}
use Rattle.logic_theory.specs.Goals.{Goal}
use Rattle.vern_sentence.specs.Trees as sentence
use Rattle.base_core.specs.Answers.{and_then}
use Rattle.script_theory.specs.Sizes.{large}
use Rattle.tactic_theory.specs.Refinements.{row}
use Rattle.tactic_theory.specs.States.{row_fault, refined, typed_then}
use Rattle.tactic_theory.specs.Typing.{typed}
use Rattle.proof_state.specs.declared.state.State.{State}
use Rattle.proof_state.specs.States.{state_of, Fits}
use Rattle.tac_base.specs.declared.fault.TacFault.{TacFault}
use Rattle.tac_base.specs.declared.opening.Opening.{Opening}
use Rattle.tac_base.specs.Faults.{Gives}
use Rattle.tac_base.specs.Openings.{Answers}

-- what is made opens the goal to the parts that the row of a refinement wants, its arguments typed; else it is the first fault of it
abbrev pub Makes : List Declaration → Goal → sentence.Refinement → Result Opening TacFault → Type 0
Makes E g x r = Answers E g r (and_then (typed E g x) (row E g.slots g.shown))

-- where g is the first focused goal, the answer is what the refinement makes of the state
abbrev pub Refines : List Declaration → Goal → State → sentence.Refinement → Result State TacFault → Type 0
Refines E g s x r = (gs : List Goal) → (state_of s).focused ≡ g ∷ gs
    → Gives state_of row_fault r (refined gs (state_of s).frames (typed_then (large E) E g (typed E g x)))

-- the new state fits whatever the state fits
abbrev pub KeepsFit : List Declaration → State → Result State TacFault → Type 0
KeepsFit E s r = IfOk r (λ t. (root : Goal) → Fits E root s → Fits E root t)
