-- Typing with the formula left out: the sort, or nothing, or the first fault.
use Rattle.std.specs.Prelude.{ℕ, List, [], ◌∷◌, length, if◌then◌else◌, ◌==◌, Result, Ok, Err}
use Rattle.vern_lex.specs.declared.span.Span.{Span}
use Rattle.vern_grammar.specs.Trees.{
  Operator,
  implication,
  equivalence,
  disjunction,
  conjunction,
  equation,
  inequation,
  Name,
  Group,
  Expression,
  constant,
  application,
  binary,
  negation,
  quantified,
  Expressions,
}
use Rattle.vern_grammar.specs.Trees as tree
use Rattle.fol_theory.specs.Syntax.{is_name}
use Rattle.env_theory.specs.Declarations.{Declaration, sort, function, predicate, stated, term, formula, sorts_of}
use Rattle.base_core.specs.Answers.{and_then}
use Rattle.elab_theory.specs.Faults.{Fault, unknown_name, wrong_kind, wrong_sort, wrong_arity}
use Rattle.elab_theory.specs.Locals.{Local, Known, bound, assumed, declared, unknown, known}
use Rattle.elab_theory.specs.Expressions.{span_of, how_many, under_groups}

-- what stands at the head of a term: a variable with its sort, or a function with the sorts of its arguments and of its value
pub data Head : Type 0 where
  variable_head : ℕ → List ℕ → Head
  function_head : List (List ℕ) → List ℕ → Head

-- as many sorts as arguments, else the fault at the head
abbrev pub counted : {A : Type 0} → ℕ → List (List ℕ) → Name → A → Result A Fault
counted n ss x a = if n == length ss then Ok a else Err (wrong_arity x.span)

-- the head of a term, with so many arguments
abbrev pub term_head : Known → Name → ℕ → Result Head Fault
term_head (bound i s) x n = if n == 0 then Ok (variable_head i s) else Err (wrong_arity x.span)
term_head assumed x n = Err (wrong_kind x.span)
term_head unknown x n = Err (unknown_name x.span)
term_head (declared (sort m)) x n = Err (wrong_kind x.span)
term_head (declared (function m ss s)) x n = counted n ss x (function_head ss s)
term_head (declared (predicate m ss)) x n = Err (wrong_kind x.span)
term_head (declared (stated m a)) x n = Err (wrong_kind x.span)
term_head (declared (term m ps s b)) x n = counted n (sorts_of ps) x (function_head (sorts_of ps) s)
term_head (declared (formula m ps b)) x n = Err (wrong_kind x.span)

-- the sorts of a predicate's arguments
abbrev pub formula_head : Known → Name → ℕ → Result (List (List ℕ)) Fault
formula_head (bound i s) x n = Err (wrong_kind x.span)
formula_head assumed x n = Err (wrong_kind x.span)
formula_head unknown x n = Err (unknown_name x.span)
formula_head (declared (sort m)) x n = Err (wrong_kind x.span)
formula_head (declared (function m ss s)) x n = Err (wrong_kind x.span)
formula_head (declared (predicate m ss)) x n = counted n ss x ss
formula_head (declared (stated m a)) x n = Err (wrong_kind x.span)
formula_head (declared (term m ps s b)) x n = Err (wrong_kind x.span)
formula_head (declared (formula m ps b)) x n = counted n (sorts_of ps) x (sorts_of ps)

-- a sort that is the one that is asked
abbrev pub fits : List ℕ → Span → List ℕ → Result (Unit {0}) Fault
fits s p r = if is_name r s then Ok tt else Err (wrong_sort p)

-- the sort of a term under a head whose arguments are checked by a function of their sorts
abbrev pub headed : Head → (List (List ℕ) → Result (Unit {0}) Fault) → Result (List ℕ) Fault
headed (variable_head i s) f = Ok s
headed (function_head ss s) f = and_then (f ss) (λ _. Ok s)

abbrev mutual
  -- the sort of a term
  pub sort_of : List Declaration → List Local → Expression → Result (List ℕ) Fault
  sort_of E c (constant b p) = Err (wrong_kind p)
  sort_of E c (application x ys p) = and_then (term_head (known E c x.text) x (how_many ys)) (λ h. headed h (λ ss. arguments_fit E c ys ss))
  sort_of E c (binary op a b p) = Err (wrong_kind p)
  sort_of E c (negation a p) = Err (wrong_kind p)
  sort_of E c (quantified q gs a p) = Err (wrong_kind p)

  -- each argument and then its sort
  pub arguments_fit : List Declaration → List Local → Expressions → List (List ℕ) → Result (Unit {0}) Fault
  arguments_fit E c tree.nil ss = Ok tt
  arguments_fit E c (tree.cons a es) [] = Ok tt
  arguments_fit E c (tree.cons a es) (s ∷ ss) = and_then (and_then (sort_of E c a) (fits s (span_of a))) (λ _. arguments_fit E c es ss)

-- two terms of one sort
abbrev pub sides_fit : List Declaration → List Local → Expression → Expression → Result (Unit {0}) Fault
sides_fit E c a b = and_then (sort_of E c a) (λ s. and_then (sort_of E c b) (fits s (span_of b)))

-- a formula
abbrev pub fits_formula : List Declaration → List Local → Expression → Result (Unit {0}) Fault
fits_formula E c (constant b p) = Ok tt
fits_formula E c (application x ys p) = and_then (formula_head (known E c x.text) x (how_many ys)) (λ ss. arguments_fit E c ys ss)
fits_formula E c (binary implication a b p) = and_then (fits_formula E c a) (λ _. fits_formula E c b)
fits_formula E c (binary equivalence a b p) = and_then (fits_formula E c a) (λ _. fits_formula E c b)
fits_formula E c (binary disjunction a b p) = and_then (fits_formula E c a) (λ _. fits_formula E c b)
fits_formula E c (binary conjunction a b p) = and_then (fits_formula E c a) (λ _. fits_formula E c b)
fits_formula E c (binary equation a b p) = sides_fit E c a b
fits_formula E c (binary inequation a b p) = sides_fit E c a b
fits_formula E c (negation a p) = fits_formula E c a
fits_formula E c (quantified q gs a p) = and_then (under_groups E gs c) (λ d. fits_formula E d a)
