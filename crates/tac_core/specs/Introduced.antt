-- One introduction at the first focused goal of a state.
use Rattle.std.specs.Prelude.{◌≡◌, ℕ, List, [], ◌∷◌, Some, Result, Ok, Err}
use Rattle.env_theory.specs.Declarations.{Declaration}
use Rattle.logic_theory.specs.Goals.{Goal, sequent}
use Rattle.logic_theory.specs.Rules.{Formed}
use Rattle.tactic_theory.specs.Refinements.{refine, intro}
use Rattle.tactic_theory.specs.States as theory
use Rattle.script_theory.specs.Sizes.{large}
use Rattle.proof_state.specs.declared.state.State.{State}
use Rattle.proof_state.specs.States.{state_of}
use Rattle.tac_base.specs.declared.fault.TacFault.{TacFault}
use Rattle.tac_base.specs.Faults.{Refuses}

-- In the place of the goal h stands the one goal that is left when it is introduced under the name n, before the goals gs and the
-- frames fs; it is well formed. Else the fault is the one that the introduction meets.
abbrev pub Introduces : List Declaration → Goal → List Goal → List theory.Frame → List ℕ → Result State TacFault → Type 0
Introduces E h gs fs n (Ok t) = (k : Goal) × (refine (large E) E h (intro (Some n)) ≡ Ok (k ∷ []))
    × (state_of t ≡ theory.state (k ∷ gs) fs) × Formed E (sequent k)
Introduces E h gs fs n (Err f) = Refuses (λ z. z) f (refine (large E) E h (intro (Some n)))
