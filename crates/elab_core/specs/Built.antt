-- What is built of an expression that has no fault; of others, anything.
use Rattle.std.specs.Prelude.{ℕ, List, [], ◌∷◌, Option, Some, None}
use Rattle.vern_grammar.specs.Trees.{
  Operator,
  implication,
  equivalence,
  disjunction,
  conjunction,
  equation,
  inequation,
  Name,
  Group,
  Expression,
  constant,
  application,
  binary,
  negation,
  quantified,
  Expressions,
}
use Rattle.vern_grammar.specs.Trees as tree
use Rattle.std.specs.Prelude.{if◌then◌else◌}
use Rattle.fol_theory.specs.Syntax.{Term, var, app, Terms, nil, cons, Formula, truth, falsity, pred, equal, both, either, implies}
use Rattle.env_theory.specs.Declarations.{Declaration, sort, function, predicate, stated, term, formula}
use Rattle.elab_theory.specs.Locals.{Local, Known, bound, assumed, declared, unknown, known}
use Rattle.elab_theory.specs.Expressions.{over_groups, under_names}

-- the variable that a name is, if it is one
abbrev pub variable_in : Known → Option ℕ
variable_in (bound i s) = Some i
variable_in assumed = None
variable_in (declared d) = None
variable_in unknown = None

-- a variable, or a function with its arguments
abbrev pub headed_by : Option ℕ → List ℕ → Terms → Term
headed_by (Some i) n ts = var i
headed_by None n ts = app n ts

-- the sort of a term with this head
abbrev pub head_sort : Known → List ℕ
head_sort (bound i s) = s
head_sort assumed = []
head_sort (declared (sort n)) = []
head_sort (declared (function n ss s)) = s
head_sort (declared (predicate n ss)) = []
head_sort (declared (stated n a)) = []
head_sort (declared (term n ps s b)) = s
head_sort (declared (formula n ps b)) = []
head_sort unknown = []

abbrev mutual
  -- a term
  pub term_built : List Declaration → List Local → Expression → Term
  term_built E c (constant b p) = var 0
  term_built E c (application x ys p) = headed_by (variable_in (known E c x.text)) x.text (terms_built E c ys)
  term_built E c (binary op a b p) = var 0
  term_built E c (negation a p) = var 0
  term_built E c (quantified q gs a p) = var 0

  -- arguments
  pub terms_built : List Declaration → List Local → Expressions → Terms
  terms_built E c tree.nil = nil
  terms_built E c (tree.cons a es) = cons (term_built E c a) (terms_built E c es)

-- the sort of a term
abbrev pub sort_built : List Declaration → List Local → Expression → List ℕ
sort_built E c (constant b p) = []
sort_built E c (application x ys p) = head_sort (known E c x.text)
sort_built E c (binary op a b p) = []
sort_built E c (negation a p) = []
sort_built E c (quantified q gs a p) = []

-- the locals under groups
abbrev pub under_all : List Group → List Local → List Local
under_all [] c = c
under_all (g ∷ gs) c = under_all gs (under_names g.sort.text g.names c)

-- an operator over two formulas, or over the equation of its sides
abbrev pub operated : Operator → Formula → Formula → Formula → Formula
operated implication x y e = implies x y
operated equivalence x y e = both (implies x y) (implies y x)
operated disjunction x y e = either x y
operated conjunction x y e = both x y
operated equation x y e = e
operated inequation x y e = implies e falsity

-- a formula
abbrev pub formula_built : List Declaration → List Local → Expression → Formula
formula_built E c (constant b p) = if b then truth else falsity
formula_built E c (application x ys p) = pred x.text (terms_built E c ys)
formula_built E c (binary op a b p) = operated op (formula_built E c a) (formula_built E c b) (equal (sort_built E c a) (term_built E c a)
    (term_built E c b))
formula_built E c (negation a p) = implies (formula_built E c a) falsity
formula_built E c (quantified q gs a p) = over_groups q gs (formula_built E (under_all gs c) a)
