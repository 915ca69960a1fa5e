-- The kernel's rules over one ordered context, the newest entry first, and trees as their lists of rules in preorder.
use Rattle.std.specs.Prelude.{◌≡◌, ℕ, List, [], ◌∷◌, ◌++◌, length, Some}
use Rattle.fol_theory.specs.Syntax.{Term, Formula, truth, falsity, equal, both, either, implies, all, ex}
use Rattle.fol_theory.specs.Substitution.{under, instantiate}
use Rattle.fol_theory.specs.Contexts.{Entry, variable, hypothesis, variables, hypotheses, IsHypothesis, without, Sequent}
use Rattle.env_theory.specs.Declarations.{Declaration, stated, find}
use Rattle.env_theory.specs.Typing.{IsSort, HasSort, WellFormed}
use Rattle.env_theory.specs.Normal.{Same}
use Rattle.logic_theory.specs.Derivations.{Derives}

-- a rule of the kernel with what it names: hypotheses by their number from the oldest, Stated formulas by name, formulas, sorts and terms
pub data Step : Type 0 where
  hyp : ℕ → Step
  known : List ℕ → Step
  true_i : Step
  false_e : Step
  and_i and_e or_i1 or_i2 or_e imp_i : Formula → Formula → Step
  imp_e cut conv : Formula → Step
  all_i ex_e : List ℕ → Formula → Step
  all_e ex_i : List ℕ → Formula → Term → Step
  eq_i : List ℕ → Term → Step
  eq_e : List ℕ → Formula → Term → Term → Step
  drop : ℕ → Step

-- a rule of a tree, or an open leaf with the names of its entries
pub data Rule : Type 0 where
  leaf : List (List ℕ) → Rule
  step : Step → Rule

-- the printing name of a quantifier that a rule makes
abbrev pub plain : List ℕ
plain = 120 ∷ []

-- a sequent from its parts
abbrev pub seq : List Entry → Formula → Sequent
seq c a = record { context = c; goal = a }

-- the sequents that a rule asks to be shown, in order
abbrev pub children : Step → List Entry → Formula → List Sequent
children (hyp i) c g = []
children (known n) c g = []
children true_i c g = []
children false_e c g = seq c falsity ∷ []
children (and_i a b) c g = seq c a ∷ seq c b ∷ []
children (and_e a b) c g = seq c (both a b) ∷ seq (hypothesis b ∷ hypothesis a ∷ c) g ∷ []
children (or_i1 a b) c g = seq c a ∷ []
children (or_i2 a b) c g = seq c b ∷ []
children (or_e a b) c g = seq c (either a b) ∷ seq (hypothesis a ∷ c) g ∷ seq (hypothesis b ∷ c) g ∷ []
children (imp_i a b) c g = seq (hypothesis a ∷ c) b ∷ []
children (imp_e a) c g = seq c (implies a g) ∷ seq c a ∷ []
children (all_i s b) c g = seq (variable s ∷ c) b ∷ []
children (all_e s b t) c g = seq c (all s plain b) ∷ []
children (ex_i s b t) c g = seq c (instantiate b t) ∷ []
children (ex_e s b) c g = seq c (ex s plain b) ∷ seq (hypothesis b ∷ variable s ∷ c) (under g) ∷ []
children (eq_i s t) c g = []
children (eq_e s b t u) c g = seq c (instantiate b u) ∷ seq c (equal s t u) ∷ []
children (cut a) c g = seq c a ∷ seq (hypothesis a ∷ c) g ∷ []
children (drop i) c g = seq (without c i) g ∷ []
children (conv a) c g = seq c a ∷ []

-- the open leaves of trees, one for each sequent, in preorder
abbrev pub leaves : List Rule → List Sequent → List Sequent
leaves [] gs = []
leaves (r ∷ rs) [] = []
leaves (leaf ns ∷ rs) (g ∷ gs) = g ∷ leaves rs gs
leaves (step r ∷ rs) (g ∷ gs) = leaves rs (children r g.context g.goal ++ gs)

-- each element is so
abbrev pub Every : {A : Type 0} → (A → Type 0) → List A → Type 0
Every P [] = Unit {0}
Every P (x ∷ xs) = P x × Every P xs

-- each entry is over those before it
abbrev pub FormedContext : List Declaration → List Entry → Type 0
FormedContext E [] = Unit {0}
FormedContext E (variable s ∷ c) = IsSort (find E s) × FormedContext E c
FormedContext E (hypothesis a ∷ c) = WellFormed E (variables c) a × FormedContext E c

-- the context and the goal are well formed
abbrev pub Formed : List Declaration → Sequent → Type 0
Formed E g = FormedContext E g.context × WellFormed E (variables g.context) g.goal

-- what a rule asks where g is to be shown in the context c; each formula and term that it names is well formed there
abbrev pub Asks : List Declaration → Step → List Entry → Formula → Type 0
Asks E (hyp i) c g = (a : Formula) × IsHypothesis c i a × Same E a g
Asks E (known n) c g = (a : Formula) × (find E n ≡ Some (stated n a)) × WellFormed E [] a × Same E a g
Asks E true_i c g = Same E truth g
Asks E false_e c g = Unit {0}
Asks E (and_i a b) c g = WellFormed E (variables c) (both a b) × Same E (both a b) g
Asks E (and_e a b) c g = WellFormed E (variables c) (both a b)
Asks E (or_i1 a b) c g = WellFormed E (variables c) (either a b) × Same E (either a b) g
Asks E (or_i2 a b) c g = WellFormed E (variables c) (either a b) × Same E (either a b) g
Asks E (or_e a b) c g = WellFormed E (variables c) (either a b)
Asks E (imp_i a b) c g = WellFormed E (variables c) (implies a b) × Same E (implies a b) g
Asks E (imp_e a) c g = WellFormed E (variables c) a
Asks E (all_i s b) c g = WellFormed E (variables c) (all s plain b) × Same E (all s plain b) g
Asks E (all_e s b t) c g = WellFormed E (variables c) (all s plain b) × HasSort E (variables c) t s × Same E (instantiate b t) g
Asks E (ex_i s b t) c g = WellFormed E (variables c) (ex s plain b) × HasSort E (variables c) t s × Same E (ex s plain b) g
Asks E (ex_e s b) c g = WellFormed E (variables c) (ex s plain b)
Asks E (eq_i s t) c g = IsSort (find E s) × HasSort E (variables c) t s × Same E (equal s t t) g
Asks E (eq_e s b t u) c g = IsSort (find E s) × WellFormed E (s ∷ variables c) b × WellFormed E (variables c) (equal s t u) ×
    Same E (instantiate b t) g
Asks E (cut a) c g = WellFormed E (variables c) a
Asks E (drop i) c g = (a : Formula) × IsHypothesis c i a
Asks E (conv a) c g = WellFormed E (variables c) a × Same E a g

-- the rules are trees, one for each sequent in order; an open leaf has a name for each entry of its sequent's context
abbrev pub Follows : List Declaration → List Rule → List Sequent → Type 0
Follows E [] [] = Unit {0}
Follows E [] (g ∷ gs) = ⊥
Follows E (r ∷ rs) [] = ⊥
Follows E (leaf ns ∷ rs) (g ∷ gs) = (length ns ≡ length g.context) × Follows E rs gs
Follows E (step r ∷ rs) (g ∷ gs) = Asks E r g.context g.goal × Follows E rs (children r g.context g.goal ++ gs)

-- the sequent has a derivation
abbrev pub Holds : List Declaration → Sequent → Type 0
Holds E g = Derives E (variables g.context) (hypotheses g.context) g.goal
