-- Answers of which something is known.
use Rattle.std.proofs.Common.{◌≡◌, Bool, true, false, refl, if◌then◌else◌, Result, Ok, Err}
use Rattle.base_core.specs.Answers.{and_then}
use Rattle.tactic_theory.specs.Faults.{Fault}

pub ok_is : (A : Type 0) (x y : A) → Path (Result A Fault) (Ok x) (Ok y) → x ≡ y
ok_is A x y e = cc

pub never : (A : Type 0) (f : Fault) (x : A) → Path (Result A Fault) (Err f) (Ok x) → ⊥
never A f x e = cc

-- both steps went well
pub steps : {A B : Type 0} (r : Result A Fault) (f : A → Result B Fault) (y : B) → and_then r f ≡ Ok y → (x : A) × (r ≡ Ok x) × (f x ≡ Ok y)
steps (Ok x) f y e = (x, refl, e)
steps {B = B} (Err g) f y e = absurd (never B g y e)

-- a test went well
pub passed : {A : Type 0} (q : Bool) (r : Result A Fault) (g : Fault) (y : A) → (if q then r else Err g) ≡ Ok y → (q ≡ true) × (r ≡ Ok y)
passed true r g y e = (refl, e)
passed {A = A} false r g y e = absurd (never A g y e)
