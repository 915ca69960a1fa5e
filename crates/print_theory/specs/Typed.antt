-- What the tree of a printed text is typed as, over an environment and the locals that have the names of the variables.
use Rattle.std.specs.Prelude.{◌≡◌, ℕ, List, [], ◌∷◌, false, Some, Ok}
use Rattle.vern_lex.specs.Tokens.{tokens_of}
use Rattle.vern_grammar.specs.Trees.{Expression}
use Rattle.vern_grammar.specs.Kinds.{lexemes}
use Rattle.vern_grammar.specs.Grammar.{IsExpression}
use Rattle.fol_theory.specs.Syntax.{Term, Formula}
use Rattle.fol_theory.specs.Printing.{Alike}
use Rattle.env_theory.specs.Declarations.{Declaration, find}
use Rattle.env_theory.specs.Typing.{HasSort, WellFormed}
use Rattle.elab_theory.specs.Locals.{Local, variable, hypothesis, sorts_in}
use Rattle.elab_theory.specs.Expressions.{term_of, formula_of}
use Rattle.elab_theory.specs.Sentences.{is_among}
use Rattle.print_theory.specs.Apart.{IsApart, IsApartTerm, IsApartFormula}

-- the names of the variables, the newest first
abbrev pub variables_in : List Local → List (List ℕ)
variables_in [] = []
variables_in (variable x s ∷ c) = x ∷ variables_in c
variables_in (hypothesis h ∷ c) = variables_in c

-- the names of variables and hypotheses, the newest first
abbrev pub local_names : List Local → List (List ℕ)
local_names [] = []
local_names (variable x s ∷ c) = x ∷ local_names c
local_names (hypothesis h ∷ c) = h ∷ local_names c

-- no local hides an older variable
abbrev pub AreSeen : List Local → Type 0
AreSeen [] = Unit {0}
AreSeen (variable x s ∷ c) = (is_among x (variables_in c) ≡ false) × AreSeen c
AreSeen (hypothesis h ∷ c) = (is_among h (variables_in c) ≡ false) × AreSeen c

-- What is asked of the environment and the locals over which a formula is typed: the variables have the names, and none is hidden; what
-- the formula names otherwise is taken and is no local's name; the formula is well formed.
pub record IsPlaced (E : List Declaration) (c : List Local) (names taken : List (List ℕ)) (a : Formula) : Type 0 where
  pub named : variables_in c ≡ names
  pub seen : AreSeen c
  pub apart : IsApartFormula (local_names c) taken a
  pub formed : WellFormed E (sorts_in c) a

-- the same of a term with its sort
pub record IsPlacedTerm (E : List Declaration) (c : List Local) (names taken : List (List ℕ)) (t : Term) (s : List ℕ) : Type 0 where
  pub named : variables_in c ≡ names
  pub seen : AreSeen c
  pub apart : IsApartTerm (local_names c) taken t
  pub formed : HasSort E (sorts_in c) t s

-- each declared name is taken, and no local has it
abbrev pub AreDeclaredApart : List Declaration → List Local → List (List ℕ) → Type 0
AreDeclaredApart E c taken = (n : List ℕ) (d : Declaration) → find E n ≡ Some d → IsApart (local_names c) taken n

-- the tokens of the text are an expression that is typed as the formula, printing names aside
abbrev pub IsTypedAs : List Declaration → List Local → List ℕ → Formula → Type 0
IsTypedAs E c text a = (t : Expression) × (b : Formula) × IsExpression (lexemes text (tokens_of text)) t × (formula_of E c t ≡ Ok b)
    × Alike b a

-- the tokens of the text are an expression that is typed as the term, with this sort
abbrev pub IsTermTypedAs : List Declaration → List Local → List ℕ → Term → List ℕ → Type 0
IsTermTypedAs E c text u s = (t : Expression) × IsExpression (lexemes text (tokens_of text)) t × (term_of E c t ≡ Ok (u, s))
