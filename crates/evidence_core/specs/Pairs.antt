-- The formulas that have to be the same where evidence shows what it does.
use Rattle.std.specs.Prelude.{ℕ, List, [], ◌∷◌, ◌++◌, Result, Ok}
use Rattle.fol_theory.specs.Syntax.{Formula, implies}
use Rattle.fol_theory.specs.Slots.{Slot}
use Rattle.env_theory.specs.Declarations.{Declaration}
use Rattle.env_theory.specs.Heads.{head_form}
use Rattle.env_theory.specs.Normal.{Same}
use Rattle.env_theory.specs.Typing.{WellFormed}
use Rattle.tactic_theory.specs.Faults.{Fault}
use Rattle.tactic_theory.specs.Evidence.{Evidence, assumed, declared, with_term, with_proof, shows}

-- the premise of an implication, with what is shown for it
abbrev pub premise_with : Formula → Formula → List (Formula × Formula)
premise_with p (implies a b) = (a, p) ∷ []
premise_with p a = []

-- the same for the head form of what is shown
abbrev pub premise_at : List Declaration → Result Formula Fault → Result Formula Fault → List (Formula × Formula)
premise_at E (Ok a) (Ok p) = premise_with p (head_form E a)
premise_at E a p = []

-- each premise with what is shown for it, in the order of the arguments, those within an argument before its own
abbrev pub pairs_of : List Declaration → List Slot → Evidence → List (Formula × Formula)
pairs_of E c (assumed i) = []
pairs_of E c (declared n a) = []
pairs_of E c (with_term e s t) = pairs_of E c e
pairs_of E c (with_proof e d) = pairs_of E c e ++ (pairs_of E c d ++ premise_at E (shows E c e) (shows E c d))

-- the two formulas of each are the same
abbrev pub AreSame : List Declaration → List (Formula × Formula) → Type 0
AreSame E [] = Unit {0}
AreSame E (p ∷ ps) = Same E p.0 p.1 × AreSame E ps

-- and are well formed over variables of these sorts
abbrev pub AreFormed : List Declaration → List (List ℕ) → List (Formula × Formula) → Type 0
AreFormed E V [] = Unit {0}
AreFormed E V (p ∷ ps) = WellFormed E V p.0 × WellFormed E V p.1 × AreFormed E V ps
