-- The names that bound variables are printed with.
use Rattle.std.specs.Prelude.{
  ◌≡◌,
  ◌⊎◌,
  ℕ,
  zero,
  suc,
  ◌+◌,
  ◌<◌,
  List,
  [],
  ◌∷◌,
  ◌++◌,
  length,
  map,
  true,
  false,
  if◌then◌else◌,
  Option,
  Some,
  None,
}
use Rattle.std.specs.Int.Digits.{digits_of}
use Rattle.fol_theory.specs.Syntax.{is_name}
use Rattle.elab_theory.specs.Sentences.{is_among}

-- a number in decimal digits, with no zero before it
abbrev pub numeral : ℕ → List ℕ
numeral zero = 48 ∷ []
numeral (suc n) = map (λ d. 48 + d) (digits_of 10 (suc n))

-- a name with a number behind it
abbrev pub numbered : List ℕ → ℕ → List ℕ
numbered x k = x ++ numeral k

-- the name with the first number, of so many from k on and the next one, with which it isn't used
abbrev pub free_from : ℕ → ℕ → List ℕ → List (List ℕ) → List ℕ
free_from zero k x used = numbered x k
free_from (suc most) k x used = if is_among (numbered x k) used then free_from most (k + 1) x used else numbered x k

-- The name itself, where it isn't used; else the name with the least number with which it isn't. As many tries as there are names
-- are enough.
abbrev pub picked : List ℕ → List (List ℕ) → List ℕ
picked x used = if is_among x used then free_from (length used) 0 x used else x

-- ---- the same as a relation

-- the first name, with the least number with which it isn't used, is the second
abbrev pub IsNumbered : List ℕ → List (List ℕ) → List ℕ → Type 0
IsNumbered x used y = (k : ℕ) × (y ≡ numbered x k) × (is_among y used ≡ false) × ((j : ℕ) → j < k → is_among (numbered x j) used ≡ true)

-- a name that isn't used is kept, and any other is numbered
abbrev pub IsPicked : List ℕ → List (List ℕ) → List ℕ → Type 0
IsPicked x used y = ((is_among x used ≡ false) × (y ≡ x)) ⊎ ((is_among x used ≡ true) × IsNumbered x used y)

-- ---- names of variables, the newest first

-- the name of a variable; none where it has no name
abbrev pub name_of : List (List ℕ) → ℕ → List ℕ
name_of [] i = []
name_of (x ∷ xs) zero = x
name_of (x ∷ xs) (suc i) = name_of xs i

-- the newest variable with a name
abbrev pub position : List ℕ → List (List ℕ) → Option ℕ
position x [] = None
position x (y ∷ ys) = if is_name x y then Some 0 else elim (position x ys) [ None ↦ None | Some i ↦ Some (suc i) ]

-- no two are equal
abbrev pub IsDistinct : List (List ℕ) → Type 0
IsDistinct [] = Unit {0}
IsDistinct (x ∷ xs) = (is_among x xs ≡ false) × IsDistinct xs
