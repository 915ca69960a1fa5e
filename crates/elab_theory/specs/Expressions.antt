-- The term or the formula of an expression, or the first fault, from left to right.
use Rattle.std.specs.Prelude.{ℕ, suc, Bool, true, false, List, [], ◌∷◌, length, if◌then◌else◌, ◌==◌, Result, Ok, Err}
use Rattle.vern_lex.specs.declared.span.Span.{Span}
use Rattle.vern_grammar.specs.Trees.{
  Operator,
  implication,
  equivalence,
  disjunction,
  conjunction,
  equation,
  inequation,
  Name,
  Group,
  Expression,
  constant,
  application,
  binary,
  negation,
  quantified,
  Expressions,
}
use Rattle.vern_grammar.specs.Trees as tree
use Rattle.fol_theory.specs.Syntax.{
  Term,
  var,
  app,
  Terms,
  nil,
  cons,
  Formula,
  truth,
  falsity,
  pred,
  equal,
  both,
  either,
  implies,
  all,
  ex,
  is_name,
}
use Rattle.env_theory.specs.Declarations.{Declaration, sort, function, predicate, stated, term, formula, sorts_of}
use Rattle.base_core.specs.Answers.{and_then}
use Rattle.elab_theory.specs.Faults.{Fault, unknown_name, wrong_kind, wrong_sort, wrong_arity}
use Rattle.elab_theory.specs.Locals.{Local, variable, Known, bound, assumed, declared, unknown, known}

-- the bytes of an expression
abbrev pub span_of : Expression → Span
span_of (constant b p) = p
span_of (application x ys p) = p
span_of (binary op a b p) = p
span_of (negation a p) = p
span_of (quantified q gs a p) = p

-- how many arguments
abbrev pub how_many : Expressions → ℕ
how_many tree.nil = 0
how_many (tree.cons a es) = suc (how_many es)

-- the sort that a name stands for, where a sort has to stand
abbrev pub sort_at : Known → Name → Result (List ℕ) Fault
sort_at (bound i s) x = Err (wrong_kind x.span)
sort_at assumed x = Err (wrong_kind x.span)
sort_at unknown x = Err (unknown_name x.span)
sort_at (declared (sort n)) x = Ok x.text
sort_at (declared (function n ss s)) x = Err (wrong_kind x.span)
sort_at (declared (predicate n ss)) x = Err (wrong_kind x.span)
sort_at (declared (stated n a)) x = Err (wrong_kind x.span)
sort_at (declared (term n ps s b)) x = Err (wrong_kind x.span)
sort_at (declared (formula n ps b)) x = Err (wrong_kind x.span)

-- the arguments, where there are as many as sorts
abbrev pub arguments_at : ℕ → List (List ℕ) → Name → (List (List ℕ) → Result Terms Fault) → Result Terms Fault
arguments_at n ss x ts = if n == length ss then ts ss else Err (wrong_arity x.span)

-- the application of a name as a term, with its sort: the head is looked at first, then the number of arguments, then each in order
abbrev pub term_at : Known → Name → ℕ → (List (List ℕ) → Result Terms Fault) → Result (Term × List ℕ) Fault
term_at (bound i s) x n ts = if n == 0 then Ok (var i, s) else Err (wrong_arity x.span)
term_at assumed x n ts = Err (wrong_kind x.span)
term_at unknown x n ts = Err (unknown_name x.span)
term_at (declared (sort m)) x n ts = Err (wrong_kind x.span)
term_at (declared (function m ss s)) x n ts = and_then (arguments_at n ss x ts) (λ us. Ok (app x.text us, s))
term_at (declared (predicate m ss)) x n ts = Err (wrong_kind x.span)
term_at (declared (stated m a)) x n ts = Err (wrong_kind x.span)
term_at (declared (term m ps s b)) x n ts = and_then (arguments_at n (sorts_of ps) x ts) (λ us. Ok (app x.text us, s))
term_at (declared (formula m ps b)) x n ts = Err (wrong_kind x.span)

-- the application of a name as a formula
abbrev pub formula_at : Known → Name → ℕ → (List (List ℕ) → Result Terms Fault) → Result Formula Fault
formula_at (bound i s) x n ts = Err (wrong_kind x.span)
formula_at assumed x n ts = Err (wrong_kind x.span)
formula_at unknown x n ts = Err (unknown_name x.span)
formula_at (declared (sort m)) x n ts = Err (wrong_kind x.span)
formula_at (declared (function m ss s)) x n ts = Err (wrong_kind x.span)
formula_at (declared (predicate m ss)) x n ts = and_then (arguments_at n ss x ts) (λ us. Ok (pred x.text us))
formula_at (declared (stated m a)) x n ts = Err (wrong_kind x.span)
formula_at (declared (term m ps s b)) x n ts = Err (wrong_kind x.span)
formula_at (declared (formula m ps b)) x n ts = and_then (arguments_at n (sorts_of ps) x ts) (λ us. Ok (pred x.text us))

-- a term that has the sort that is asked of it
abbrev pub of_sort : List ℕ → Span → Term × List ℕ → Result Term Fault
of_sort s p t = if is_name t.1 s then Ok t.0 else Err (wrong_sort p)

abbrev mutual
  -- a term with its sort
  pub term_of : List Declaration → List Local → Expression → Result (Term × List ℕ) Fault
  term_of E c (constant b p) = Err (wrong_kind p)
  term_of E c (application x ys p) = term_at (known E c x.text) x (how_many ys) (λ ss. terms_of E c ys ss)
  term_of E c (binary op a b p) = Err (wrong_kind p)
  term_of E c (negation a p) = Err (wrong_kind p)
  term_of E c (quantified q gs a p) = Err (wrong_kind p)

  -- each argument and then its sort
  pub terms_of : List Declaration → List Local → Expressions → List (List ℕ) → Result Terms Fault
  terms_of E c tree.nil ss = Ok nil
  terms_of E c (tree.cons a es) [] = Ok nil
  terms_of E c (tree.cons a es) (s ∷ ss) = and_then (and_then (term_of E c a) (of_sort s (span_of a)))
      (λ t. and_then (terms_of E c es ss) (λ ts. Ok (cons t ts)))

-- an equation of two sides of one sort; the fault is at the right side
abbrev pub equation_of : Span → Term × List ℕ → Term × List ℕ → Result Formula Fault
equation_of p t u = and_then (of_sort t.1 p u) (λ v. Ok (equal t.1 t.0 v))

-- for all where the flag is true, else exists
abbrev pub quantifier : Bool → List ℕ → List ℕ → Formula → Formula
quantifier q s x a = if q then all s x a else ex s x a

-- the locals under names of one sort, the last name the newest
abbrev pub under_names : List ℕ → List Name → List Local → List Local
under_names s [] c = c
under_names s (x ∷ xs) c = under_names s xs (variable x.text s ∷ c)

-- the locals under the groups of a quantifier: the sort of each is looked up before its names are bound
abbrev pub under_groups : List Declaration → List Group → List Local → Result (List Local) Fault
under_groups E [] c = Ok c
under_groups E (g ∷ gs) c = and_then (sort_at (known E c g.sort.text) g.sort) (λ s. under_groups E gs (under_names s g.names c))

-- a formula under the names of one sort, the first outermost
abbrev pub over_names : Bool → List ℕ → List Name → Formula → Formula
over_names q s [] a = a
over_names q s (x ∷ xs) a = quantifier q s x.text (over_names q s xs a)

-- a formula under groups, the first outermost
abbrev pub over_groups : Bool → List Group → Formula → Formula
over_groups q [] a = a
over_groups q (g ∷ gs) a = over_names q g.sort.text g.names (over_groups q gs a)

-- the formula of an expression
abbrev pub formula_of : List Declaration → List Local → Expression → Result Formula Fault
formula_of E c (constant true p) = Ok truth
formula_of E c (constant false p) = Ok falsity
formula_of E c (application x ys p) = formula_at (known E c x.text) x (how_many ys) (λ ss. terms_of E c ys ss)
formula_of E c (binary implication a b p) = and_then (formula_of E c a) (λ x. and_then (formula_of E c b) (λ y. Ok (implies x y)))
formula_of E c (binary equivalence a b p) =
    and_then (formula_of E c a) (λ x. and_then (formula_of E c b) (λ y. Ok (both (implies x y) (implies y x))))
formula_of E c (binary disjunction a b p) = and_then (formula_of E c a) (λ x. and_then (formula_of E c b) (λ y. Ok (either x y)))
formula_of E c (binary conjunction a b p) = and_then (formula_of E c a) (λ x. and_then (formula_of E c b) (λ y. Ok (both x y)))
formula_of E c (binary equation a b p) = and_then (term_of E c a) (λ t. and_then (term_of E c b) (λ u. equation_of (span_of b) t u))
formula_of E c (binary inequation a b p) =
    and_then (term_of E c a) (λ t. and_then (term_of E c b) (λ u. and_then (equation_of (span_of b) t u) (λ x. Ok (implies x falsity))))
formula_of E c (negation a p) = and_then (formula_of E c a) (λ x. Ok (implies x falsity))
formula_of E c (quantified q gs a p) = and_then (under_groups E gs c) (λ d. and_then (formula_of E d a) (λ b. Ok (over_groups q gs b)))
