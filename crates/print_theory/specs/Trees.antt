-- The trees of printed terms and formulas, and trees without their spans.
use Rattle.std.specs.Prelude.{ℕ, List, [], ◌∷◌, Bool, true, false}
use Rattle.vern_lex.specs.declared.span.Span.{Span}
use Rattle.vern_grammar.specs.Trees.{Operator, implication, disjunction, conjunction, equation, Name, Group, Expression, Expressions, Shape}
use Rattle.vern_grammar.specs.Trees as made
use Rattle.vern_grammar.specs.Grammar.{span, named, group}
use Rattle.fol_theory.specs.Syntax.{Term, var, app, Terms, nil, cons, Formula, truth, falsity, pred, equal, both, either, implies, all, ex}
use Rattle.print_theory.specs.Names.{name_of}
use Rattle.print_theory.specs.Printing.{bound_name}

-- ---- trees without spans: each span is from 0 to 0

abbrev pub nowhere : Span
nowhere = span 0 0

abbrev pub spanless_name : Name → Name
spanless_name x = named x.text nowhere

abbrev pub spanless_names : List Name → List Name
spanless_names [] = []
spanless_names (x ∷ xs) = spanless_name x ∷ spanless_names xs

abbrev pub spanless_groups : List Group → List Group
spanless_groups [] = []
spanless_groups (g ∷ gs) = group (spanless_names g.names) (spanless_name g.sort) ∷ spanless_groups gs

abbrev mutual
  pub spanless : Expression → Expression
  spanless (made.constant b c) = made.constant b nowhere
  spanless (made.application x ys c) = made.application (spanless_name x) (spanless_list ys) nowhere
  spanless (made.binary op a b c) = made.binary op (spanless a) (spanless b) nowhere
  spanless (made.negation a c) = made.negation (spanless a) nowhere
  spanless (made.quantified q gs a c) = made.quantified q (spanless_groups gs) (spanless a) nowhere

  pub spanless_list : Expressions → Expressions
  spanless_list made.nil = made.nil
  spanless_list (made.cons a ys) = made.cons (spanless a) (spanless_list ys)

abbrev pub spanless_shape : Shape → Shape
spanless_shape (made.set c) = made.set nowhere
spanless_shape (made.prop c) = made.prop nowhere
spanless_shape (made.arrow a s) = made.arrow (spanless a) (spanless_shape s)
spanless_shape (made.plain a) = made.plain (spanless a)

-- ---- the trees of terms and formulas, without spans and with the names that are printed

abbrev pub word : List ℕ → Name
word x = named x nowhere

-- a name with arguments, which may be none
abbrev pub applied_tree : List ℕ → Expressions → Expression
applied_tree f ts = made.application (word f) ts nowhere

abbrev mutual
  pub term_tree : List (List ℕ) → Term → Expression
  term_tree names (var i) = applied_tree (name_of names i) made.nil
  term_tree names (app f ts) = applied_tree f (terms_tree names ts)

  pub terms_tree : List (List ℕ) → Terms → Expressions
  terms_tree names nil = made.nil
  terms_tree names (cons t ts) = made.cons (term_tree names t) (terms_tree names ts)

-- two operands of an operator
abbrev pub joined_tree : Operator → Expression → Expression → Expression
joined_tree op a b = made.binary op a b nowhere

-- a quantifier with one name
abbrev pub bound_tree : Bool → List ℕ → List ℕ → Expression → Expression
bound_tree q x s a = made.quantified q (group (word x ∷ []) (word s) ∷ []) a nowhere

abbrev pub formula_tree : List (List ℕ) → List (List ℕ) → Formula → Expression
formula_tree names taken truth = made.constant true nowhere
formula_tree names taken falsity = made.constant false nowhere
formula_tree names taken (pred p ts) = applied_tree p (terms_tree names ts)
formula_tree names taken (equal s t u) = joined_tree equation (term_tree names t) (term_tree names u)
formula_tree names taken (both a b) = joined_tree conjunction (formula_tree names taken a) (formula_tree names taken b)
formula_tree names taken (either a b) = joined_tree disjunction (formula_tree names taken a) (formula_tree names taken b)
formula_tree names taken (implies a b) = joined_tree implication (formula_tree names taken a) (formula_tree names taken b)
formula_tree names taken (all s x a) =
    bound_tree true (bound_name names taken x) s (formula_tree (bound_name names taken x ∷ names) taken a)
formula_tree names taken (ex s x a) =
    bound_tree false (bound_name names taken x) s (formula_tree (bound_name names taken x ∷ names) taken a)

-- the shape that a formula's text is: its arrows at the outer level are the shape's
abbrev pub formula_shape : List (List ℕ) → List (List ℕ) → Formula → Shape
formula_shape names taken (implies a b) = made.arrow (formula_tree names taken a) (formula_shape names taken b)
formula_shape names taken a = made.plain (formula_tree names taken a)
