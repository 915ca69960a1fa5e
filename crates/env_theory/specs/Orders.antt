-- Environments in order: what is asked of names beside the typing, and what the crates above use of an environment.
use Rattle.std.specs.Prelude.{◌≡◌, ◌⊎◌, ℕ, List, [], ◌∷◌, Some}
use Rattle.fol_theory.specs.Syntax.{Term, Formula, truth, falsity, pred, equal, both, either, implies, all, ex}
use Rattle.env_theory.specs.Declarations.{Parameter, Declaration, sort, function, predicate, stated, term, formula, name_of, find}
use Rattle.env_theory.specs.Typing.{HasSort, WellFormed, IsSort, AreSorts, Environment}
use Rattle.env_theory.specs.Normal.{expand, normal, Same}
use Rattle.env_theory.specs.Heads.{head_form}

-- a declaration of the list
abbrev pub Member : Declaration → List Declaration → Type 0
Member d [] = ⊥
Member d (e ∷ E) = (d ≡ e) ⊎ Member d E

-- ---- names

-- no parameter has the name
abbrev pub IsNoParameter : List ℕ → List Parameter → Type 0
IsNoParameter n [] = Unit {0}
IsNoParameter n (p ∷ ps) = (p.name ≡ n → ⊥) × IsNoParameter n ps

-- no two parameters have one name
abbrev pub AreDistinct : List Parameter → Type 0
AreDistinct [] = Unit {0}
AreDistinct (p ∷ ps) = IsNoParameter p.name ps × AreDistinct ps

-- the parameters of a definition; other declarations have none
abbrev pub parameters : Declaration → List Parameter
parameters (sort n) = []
parameters (function n ss s) = []
parameters (predicate n ss) = []
parameters (stated n a) = []
parameters (term n ps s b) = ps
parameters (formula n ps b) = ps

-- each declared name is one, and each declaration's parameters have names of their own
abbrev pub AreNamed : List Declaration → Type 0
AreNamed [] = Unit {0}
AreNamed (d ∷ E) = (name_of d ≡ [] → ⊥) × AreDistinct (parameters d) × AreNamed E

-- an environment in order: each declaration is new and well formed over those before it, and is named
abbrev pub InOrder : List Declaration → Type 0
InOrder E = Environment E × AreNamed E

-- Which names a language has is for the crates above, that give it as N. What a formula prints for its variables is a name of the language,
abbrev pub PrintsNames : (List ℕ → Type 0) → Formula → Type 0
PrintsNames N truth = Unit {0}
PrintsNames N falsity = Unit {0}
PrintsNames N (pred p ts) = Unit {0}
PrintsNames N (equal s t u) = Unit {0}
PrintsNames N (both a b) = PrintsNames N a × PrintsNames N b
PrintsNames N (either a b) = PrintsNames N a × PrintsNames N b
PrintsNames N (implies a b) = PrintsNames N a × PrintsNames N b
PrintsNames N (all s x a) = N x × PrintsNames N a
PrintsNames N (ex s x a) = N x × PrintsNames N a

-- and so is the name of each parameter,
abbrev pub ParametersHaveNames : (List ℕ → Type 0) → List Parameter → Type 0
ParametersHaveNames N [] = Unit {0}
ParametersHaveNames N (p ∷ ps) = N p.name × ParametersHaveNames N ps

-- and each name that is declared, or printed in what is declared; a Stated name may be any
abbrev pub DeclaresNames : (List ℕ → Type 0) → Declaration → Type 0
DeclaresNames N (sort n) = N n
DeclaresNames N (function n ss s) = N n
DeclaresNames N (predicate n ss) = N n
DeclaresNames N (stated n a) = PrintsNames N a
DeclaresNames N (term n ps s b) = N n × ParametersHaveNames N ps
DeclaresNames N (formula n ps b) = N n × ParametersHaveNames N ps × PrintsNames N b

-- all of them are names of the language
abbrev pub NamesAre : (List ℕ → Type 0) → List Declaration → Type 0
NamesAre N [] = Unit {0}
NamesAre N (d ∷ E) = DeclaresNames N d × NamesAre N E

-- ---- what is used of an environment

-- Head forms, unfolded formulas and normal forms are the same as before, and well formed; the sort of a term is declared; a Stated formula
-- is closed.
pub record Lawful (E : List Declaration) : Type 0 where
  pub head_same : (a : Formula) → Same E (head_form E a) a
  pub head_formed : (V : List (List ℕ)) (a : Formula) → WellFormed E V a → WellFormed E V (head_form E a)
  pub unfold_same : (n : List ℕ) (d : Declaration) → find E n ≡ Some d → (a : Formula) → Same E (expand d a) a
  pub unfold_formed : (n : List ℕ) (d : Declaration) → find E n ≡ Some d → (V : List (List ℕ)) (a : Formula) → WellFormed E V a
      → WellFormed E V (expand d a)
  pub normal_same : (a : Formula) → Same E (normal E a) a
  pub normal_formed : (V : List (List ℕ)) (a : Formula) → WellFormed E V a → WellFormed E V (normal E a)
  pub sort_declared : (V : List (List ℕ)) → AreSorts E V → (t : Term) (s : List ℕ) → HasSort E V t s → IsSort (find E s)
  pub stated_formed : (n m : List ℕ) (a : Formula) → find E n ≡ Some (stated m a) → WellFormed E [] a
