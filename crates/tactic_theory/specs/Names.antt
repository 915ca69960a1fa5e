-- Names that are taken, names that are fresh, and hypotheses by name and by number.
use Rattle.fol_theory.specs.Slots.{Slot, entries, names}
use Rattle.env_theory.specs.Declarations.{Declaration, name_of}
use Rattle.std.specs.Prelude.{
  ◌≡◌,
  ℕ,
  zero,
  suc,
  ◌+◌,
  Bool,
  false,
  ◌||◌,
  if◌then◌else◌,
  ◌==◌,
  List,
  [],
  ◌∷◌,
  ◌++◌,
  map,
  length,
  decimal,
  Option,
  Some,
  None,
  option_map,
}
use Rattle.fol_theory.specs.Syntax.{Formula, is_name}
use Rattle.fol_theory.specs.Substitution.{under}
use Rattle.fol_theory.specs.Contexts.{Entry, variable, hypothesis, count}

-- the name is one of the list
abbrev pub is_among : List ℕ → List (List ℕ) → Bool
is_among n [] = false
is_among n (m ∷ ms) = is_name n m || is_among n ms

-- the context has the name, or the environment declares it
abbrev pub is_taken : List Declaration → List Slot → List ℕ → Bool
is_taken E c n = is_among n (names c) || is_among n (map name_of E)

-- the name followed by the least number from k on with which it isn't taken; of m numbers one isn't
abbrev pub numbered : (List ℕ → Bool) → ℕ → ℕ → List ℕ → List ℕ
numbered taken zero k x = x ++ decimal k
numbered taken (suc m) k x = if taken (x ++ decimal k) then numbered taken m (suc k) x else x ++ decimal k

-- the name itself, or with the least number with which it is free
abbrev pub fresh : List Declaration → List Slot → List ℕ → List ℕ
fresh E c x = if is_taken E c x then numbered (is_taken E c) (length c + length E) 0 x else x

-- the number of an entry that is pushed on the slots, if it is a hypothesis
abbrev pub number_of : Entry → List Slot → Option ℕ
number_of (variable s) c = None
number_of (hypothesis a) c = Some (count (entries c))

-- the number of the hypothesis with this name, counted from the oldest
abbrev pub hypothesis_named : List Slot → List ℕ → Option ℕ
hypothesis_named [] n = None
hypothesis_named (x ∷ c) n = if is_name n x.name then number_of x.entry c else hypothesis_named c n

-- the hypothesis with this number, as it stands under all variables
abbrev pub hypothesis_at : List Entry → ℕ → Option Formula
hypothesis_at [] i = None
hypothesis_at (variable s ∷ c) i = option_map under (hypothesis_at c i)
hypothesis_at (hypothesis a ∷ c) i = if i == count c then Some a else hypothesis_at c i

-- names are distinct
abbrev pub AreApart : List (List ℕ) → Type 0
AreApart [] = Unit {0}
AreApart (n ∷ ns) = (is_among n ns ≡ false) × AreApart ns
