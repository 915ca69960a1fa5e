-- What the summaries of an environment tell.
use Rattle.std.specs.Prelude.{◌≡◌, ℕ, List, [], ◌∷◌, Option, Some, None, MatchOption}
use Rattle.fol_theory.specs.Syntax.{Term, Formula, var}
use Rattle.env_theory.specs.Declarations.{Declaration, sort, function, predicate, stated, term, formula}
use Rattle.env_theory.specs.Normal.{normal_term}
use Rattle.env_theory.specs.Count.{Scale, Row, Table, by_nodes, by_height, table, term_row, formula_row}
use Rattle.env_core.specs.declared.declaration.Decl.TheVariants.{Sort, Fun, Pred, Stated, DefFun, DefPred}
use Rattle.env_core.specs.declared.declaration.Decl.{Decl}
use Rattle.env_core.specs.declared.entry.Entry.{Entry}
use Rattle.env_core.specs.declared.summary.Summary.{Summary}
use Rattle.env_core.specs.Meaning.{declaration, declarations}
use Rattle.env_core.specs.Layers.{decls}
use Rattle.env_core.specs.Rows.{IsRow, nodes_row, height_row, nodes_rows, height_rows, nodes_table, height_table}

-- which parameter a body's normal form is; None exactly where it is none
abbrev pub Projects : List Declaration → Term → Option ℕ → Type 0
Projects E b p = MatchOption p ((i : ℕ) → normal_term E b ≡ var i → ⊥) (λ i. normal_term E b ≡ var i)

-- a summary tells a definition's row by a scale, over the declarations before it
abbrev pub TellsRow : Scale → (Summary → Row) → List Declaration → Declaration → Summary → Type 0
TellsRow S f E (sort n) y = Unit {0}
TellsRow S f E (function n ss s) y = Unit {0}
TellsRow S f E (predicate n ss) y = Unit {0}
TellsRow S f E (stated n a) y = Unit {0}
TellsRow S f E (term n ps s b) y = IsRow (f y) (term_row S (Table.functions (table S E)) n b)
TellsRow S f E (formula n ps b) y = IsRow (f y) (formula_row S (table S E) n b)

-- it tells which parameter a function's definition projects to
abbrev pub TellsParameter : List Declaration → Declaration → Summary → Type 0
TellsParameter E (sort n) y = Unit {0}
TellsParameter E (function n ss s) y = Unit {0}
TellsParameter E (predicate n ss) y = Unit {0}
TellsParameter E (stated n a) y = Unit {0}
TellsParameter E (term n ps s b) y = Projects E b y.projects
TellsParameter E (formula n ps b) y = Unit {0}

-- what the summary of a declaration tells, over those before it
abbrev pub SummaryOf : List Declaration → Declaration → Summary → Type 0
SummaryOf E d y = TellsRow by_nodes nodes_row E d y × TellsRow by_height height_row E d y × TellsParameter E d y

-- what the summary of a term tells of it
abbrev pub IsTermSummary : List Decl → Term → Summary → Type 0
IsTermSummary E b y =
    IsRow (nodes_row y) (term_row by_nodes (nodes_rows E) [] b) × IsRow (height_row y) (term_row by_height (height_rows E) [] b)
    × Projects (declarations E) b y.projects

-- what the summary of a formula tells of it
abbrev pub IsFormulaSummary : List Decl → Formula → Summary → Type 0
IsFormulaSummary E b y =
    IsRow (nodes_row y) (formula_row by_nodes (nodes_table E) [] b) × IsRow (height_row y) (formula_row by_height (height_table E) [] b)

-- each entry has the summary of its declaration
abbrev pub AreSummed : List Entry → Type 0
AreSummed [] = Unit {0}
AreSummed (e ∷ es) = SummaryOf (declarations (decls es)) (declaration e.decl) e.summary × AreSummed es

-- the summary of a function's definition
abbrev pub function_in : Decl → Summary → Option Summary
function_in (Sort n) y = None
function_in (Fun n ss s) y = None
function_in (Pred n ss) y = None
function_in (Stated n a) y = None
function_in (DefFun n ps s b) y = Some y
function_in (DefPred n ps b) y = None

-- the summary of a predicate's definition
abbrev pub predicate_in : Decl → Summary → Option Summary
predicate_in (Sort n) y = None
predicate_in (Fun n ss s) y = None
predicate_in (Pred n ss) y = None
predicate_in (Stated n a) y = None
predicate_in (DefFun n ps s b) y = None
predicate_in (DefPred n ps b) y = Some y

-- the same of an entry, if there is one
abbrev pub function_of : Option Entry → Option Summary
function_of None = None
function_of (Some e) = function_in e.decl e.summary

-- the same of an entry, if there is one
abbrev pub predicate_of : Option Entry → Option Summary
predicate_of None = None
predicate_of (Some e) = predicate_in e.decl e.summary
