-- Natural deduction over many sorts, which may be empty: what follows from hypotheses over an environment.
use Rattle.std.specs.Prelude.{◌≡◌, ◌⊎◌, ℕ, List, [], ◌∷◌, map}
use Rattle.fol_theory.specs.Syntax.{Term, Formula, truth, falsity, equal, both, either, implies, all, ex}
use Rattle.fol_theory.specs.Substitution.{under, instantiate}
use Rattle.env_theory.specs.Declarations.{Declaration, stated, find}
use Rattle.env_theory.specs.Orders.{Member}
use Rattle.env_theory.specs.Typing.{IsSort, HasSort, WellFormed}
use Rattle.env_theory.specs.Normal.{Same}

-- a formula is among these
abbrev pub Among : Formula → List Formula → Type 0
Among a [] = ⊥
Among a (b ∷ bs) = (a ≡ b) ⊎ Among a bs

-- From the formulas G, over the environment E and variables of the sorts V, the newest first, the formula follows. Each
-- formula and each term in a rule is over E and the variables of its place.
pub data Derives (E : List Declaration) : List (List ℕ) → List Formula → Formula → Type 0 where
  -- a formula of G
  given : {V : List (List ℕ)} {G : List Formula} {A : Formula} → Among A G → WellFormed E V A → Derives E V G A
  -- the formula of a Stated declaration
  declared : {V : List (List ℕ)} {G : List Formula} {A : Formula} → (n : List ℕ) → Member (stated n A) E → WellFormed E [] A →
      Derives E V G A
  -- True
  truth_in : {V : List (List ℕ)} {G : List Formula} → Derives E V G truth
  -- from False any formula
  falsity_out : {V : List (List ℕ)} {G : List Formula} {A : Formula} → WellFormed E V A → Derives E V G falsity → Derives E V G A
  -- from A and B, both
  both_in : {V : List (List ℕ)} {G : List Formula} {A B : Formula} → Derives E V G A → Derives E V G B → Derives E V G (both A B)
  -- from both, A
  both_left : {V : List (List ℕ)} {G : List Formula} {A B : Formula} → Derives E V G (both A B) → Derives E V G A
  -- from both, B
  both_right : {V : List (List ℕ)} {G : List Formula} {A B : Formula} → Derives E V G (both A B) → Derives E V G B
  -- from A, either
  either_left : {V : List (List ℕ)} {G : List Formula} {A B : Formula} → WellFormed E V B → Derives E V G A → Derives E V G (either A B)
  -- from B, either
  either_right : {V : List (List ℕ)} {G : List Formula} {A B : Formula} → WellFormed E V A → Derives E V G B → Derives E V G (either A B)
  -- from either, C under A, and C under B, C
  either_out : {V : List (List ℕ)} {G : List Formula} {A B C : Formula} → Derives E V G (either A B) → Derives E V (A ∷ G) C →
      Derives E V (B ∷ G) C → Derives E V G C
  -- from B under A, that A implies B
  implies_in : {V : List (List ℕ)} {G : List Formula} {A B : Formula} → WellFormed E V A → Derives E V (A ∷ G) B →
      Derives E V G (implies A B)
  -- from that A implies B, and A, B
  implies_out : {V : List (List ℕ)} {G : List Formula} {A B : Formula} → Derives E V G (implies A B) → Derives E V G A → Derives E V G B
  -- from B with a further variable, which G hasn't, B for all of its sort
  all_in : {V : List (List ℕ)} {G : List Formula} {s x : List ℕ} {B : Formula} → IsSort (find E s) →
      Derives E (s ∷ V) (map under G) B → Derives E V G (all s x B)
  -- from B for all of a sort, B with a term of that sort
  all_out : {V : List (List ℕ)} {G : List Formula} {s x : List ℕ} {B : Formula} (t : Term) → Derives E V G (all s x B) →
      HasSort E V t s → Derives E V G (instantiate B t)
  -- from B with a term, that B for one of its sort
  ex_in : {V : List (List ℕ)} {G : List Formula} {s x : List ℕ} {B : Formula} (t : Term) → WellFormed E V (ex s x B) →
      HasSort E V t s → Derives E V G (instantiate B t) → Derives E V G (ex s x B)
  -- from B for one of a sort, and C under B with a further variable, which G and C haven't, C
  ex_out : {V : List (List ℕ)} {G : List Formula} {s x : List ℕ} {B C : Formula} → WellFormed E V C → Derives E V G (ex s x B) →
      Derives E (s ∷ V) (B ∷ map under G) (under C) → Derives E V G C
  -- a term is equal to itself
  equal_in : {V : List (List ℕ)} {G : List Formula} {s : List ℕ} {t : Term} → IsSort (find E s) → HasSort E V t s →
      Derives E V G (equal s t t)
  -- from that t is equal to u, and B with u, B with t
  equal_out : {V : List (List ℕ)} {G : List Formula} {s : List ℕ} (t u : Term) (B : Formula) → IsSort (find E s) →
      WellFormed E (s ∷ V) B → HasSort E V t s → HasSort E V u s → Derives E V G (equal s t u) → Derives E V G (instantiate B u)
      → Derives E V G (instantiate B t)
  -- from A, each formula that is the same as A
  convert : {V : List (List ℕ)} {G : List Formula} {A B : Formula} → Same E A B → WellFormed E V B → Derives E V G A → Derives E V G B
