-- Words on lists of entries, each of which names its author by a number.
use Rattle.std.specs.Prelude.{◌≡◌, ℕ, eqb, ltb, if◌then◌else◌, List, [], ◌∷◌, ◌++◌, length, filter}

-- P holds of each element
abbrev pub Each : {X : Type 0} → (X → Type 0) → List X → Type 0
Each P [] = Unit {0}
Each P (x ∷ xs) = P x × Each P xs

-- the longer of two lists, the first where they are as long
abbrev pub longer : {E : Type 0} → List E → List E → List E
longer xs ys = if ltb (length xs) (length ys) then ys else xs

module _ {E : Type 0} (author : E → ℕ) where
  -- the entries of one author, in order
  unfoldable pub only : ℕ → List E → List E
  only n es = filter (λ e. eqb (author e) n) es

  -- ys is xs, and behind it entries of this author alone, or none
  abbrev pub Adds : ℕ → List E → List E → Type 0
  Adds n xs ys = (more : List E) × (ys ≡ xs ++ more) × Each (λ e. author e ≡ n) more
