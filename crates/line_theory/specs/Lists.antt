-- Lists: what is in one, its last, and the one change of a list that each change of a line is.
use Rattle.std.specs.Prelude.{◌≡◌, ℕ, nat_eq, ◌||◌, List, [], ◌∷◌, ◌++◌, Bool, false, not, if◌then◌else◌}

-- whether a number is in a list
abbrev pub has : ℕ → List ℕ → Bool
has n [] = false
has n (m ∷ ms) = nat_eq n m || has n ms

-- no number is twice in a list
abbrev pub Distinct : List ℕ → Type 0
Distinct [] = Unit {0}
Distinct (n ∷ ns) = (has n ns ≡ false) × Distinct ns

-- the last of a list, or this one
abbrev pub last_or : ℕ → List ℕ → ℕ
last_or n [] = n
last_or n (m ∷ ms) = last_or m ms

-- the number that stands before the first n in a list, or this one where n is the first
abbrev pub before_in : ℕ → ℕ → List ℕ → ℕ
before_in p n [] = p
before_in p n (m ∷ ms) = if nat_eq n m then p else before_in m n ms

-- what passes a test, in order
abbrev pub chosen : {A : Type 0} → (A → Bool) → List A → List A
chosen p [] = []
chosen p (x ∷ xs) = if p x then x ∷ chosen p xs else chosen p xs

-- the numbers of a list that aren't in another, in order
abbrev pub missing_in : List ℕ → List ℕ → List ℕ
missing_in new old = chosen (λ n. not (has n new)) old

-- every element has a property
abbrev pub Every : {A : Type 0} → (A → Type 0) → List A → Type 0
Every P [] = Unit {0}
Every P (x ∷ xs) = P x × Every P xs

-- one piece goes
pub record IsCut (old new : List ℕ) : Type 0 where
  pub front : List ℕ
  pub gone : List ℕ
  pub back : List ℕ
  pub was : old ≡ front ++ (gone ++ back)
  pub is : new ≡ front ++ back

-- a number comes in at one place
pub record IsGrown (n : ℕ) (old new : List ℕ) : Type 0 where
  pub front : List ℕ
  pub back : List ℕ
  pub was : old ≡ front ++ back
  pub is : new ≡ front ++ (n ∷ back)
