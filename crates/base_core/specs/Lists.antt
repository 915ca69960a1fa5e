-- Words on lists that several crates cite.
use Rattle.std.specs.Prelude.{ℕ, List, [], ◌∷◌, ◌++◌, Bool, if◌then◌else◌, ◌≡◌}

-- the elements up to and with the first that passes a test, or all where none does
abbrev pub through : {X : Type 0} → (X → Bool) → List X → List X
through p [] = []
through p (x ∷ xs) = x ∷ (if p x then [] else through p xs)

-- the second list begins with the first
abbrev pub Begins : {X : Type 0} → List X → List X → Type 0
Begins {X} xs ys = (rest : List X) × (ys ≡ xs ++ rest)

-- the elements of a list, and how many more it takes without memory
pub record Spared (X : Type 0) : Type 0 where
  pub items : List X
  pub spare : ℕ
