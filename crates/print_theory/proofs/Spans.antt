-- Typing sees no spans, but in its faults.
use Rattle.std.proofs.Common.{
  ◌≡◌,
  ℕ,
  suc,
  List,
  [],
  ◌∷◌,
  Bool,
  true,
  false,
  Option,
  Some,
  None,
  Result,
  Ok,
  Err,
  if◌then◌else◌,
  ◌==◌,
  length,
  refl,
  sym,
  ap,
  ◌∙◌,
}
use Rattle.vern_lex.specs.declared.span.Span.{Span}
use Rattle.vern_grammar.specs.Trees.{
  implication,
  equivalence,
  disjunction,
  conjunction,
  equation,
  inequation,
  Name,
  Group,
  Expression,
  Expressions,
}
use Rattle.vern_grammar.specs.Trees as made
use Rattle.fol_theory.specs.Syntax.{Term, var, app, Terms, cons, Formula, falsity, pred, equal, both, either, implies, is_name}
use Rattle.env_theory.specs.Declarations.{Declaration, sort, function, predicate, stated, term, formula, sorts_of}
use Rattle.base_core.specs.Answers.{and_then}
use Rattle.elab_theory.specs.Faults.{Fault, wrong_sort, wrong_arity}
use Rattle.elab_theory.specs.Locals.{Local, variable, Known, bound, assumed, declared, unknown, known}
use Rattle.elab_theory.specs.Expressions.{
  span_of,
  how_many,
  sort_at,
  arguments_at,
  term_at,
  formula_at,
  of_sort,
  term_of,
  terms_of,
  equation_of,
  quantifier,
  under_names,
  under_groups,
  over_names,
  over_groups,
  formula_of,
}
use Rattle.print_theory.specs.Trees.{spanless, spanless_list, spanless_name, spanless_names, spanless_groups}

-- the value, without the fault
abbrev pub value : {A : Type 0} → Result A Fault → Option A
value (Ok x) = Some x
value (Err f) = None

some_is : (A : Type 0) (x y : A) → Path (Option A) (Some x) (Some y) → x ≡ y
some_is A x y e = cc

some_none : (A : Type 0) (x : A) → Path (Option A) (Some x) None → ⊥
some_none A x e = cc

-- what has the same value is the same where it is well
pub same_ok : {A : Type 0} (r q : Result A Fault) (x : A) → value r ≡ value q → r ≡ Ok x → q ≡ Ok x
same_ok {A = A} r (Ok y) x e h = ap Ok (sym (some_is A x y (sym (ap value h) ∙ e)))
same_ok {A = A} r (Err f) x e h = absurd (some_none A x (sym (ap value h) ∙ e))

-- two steps with the same values
pub then_same : {A B : Type 0} (r q : Result A Fault) (f g : A → Result B Fault) → value r ≡ value q → ((x : A) → value (f x) ≡ value (g x))
    → value (and_then r f) ≡ value (and_then q g)
then_same {A = A} (Ok x) (Ok y) f g e h = ap (λ z. value (f z)) (some_is A x y e) ∙ h y
then_same {A = A} (Ok x) (Err k) f g e h = absurd (some_none A x e)
then_same {A = A} (Err k) (Ok y) f g e h = absurd (some_none A y (sym e))
then_same (Err k) (Err l) f g e h = refl

-- a test with the same value behind it
test_same : {A : Type 0} (q : Bool) (r s : Result A Fault) (f g : Fault) → value r ≡ value s
    → value (if q then r else Err f) ≡ value (if q then s else Err g)
test_same true r s f g h = h
test_same false r s f g h = refl

-- ---- names with their arguments

arguments_same : (n : ℕ) (ss : List (List ℕ)) (x y : Name) (ts us : List (List ℕ) → Result Terms Fault)
    → ((ss : List (List ℕ)) → value (ts ss) ≡ value (us ss)) → value (arguments_at n ss x ts) ≡ value (arguments_at n ss y us)
arguments_same n ss x y ts us h = test_same (n == length ss) (ts ss) (us ss) (wrong_arity x.span) (wrong_arity y.span) (h ss)

term_at_same : (k : Known) (x : Name) (n : ℕ) (ts us : List (List ℕ) → Result Terms Fault)
    → ((ss : List (List ℕ)) → value (ts ss) ≡ value (us ss)) → value (term_at k (spanless_name x) n ts) ≡ value (term_at k x n us)
term_at_same (bound i s) x n ts us h =
    test_same (n == 0) (Ok (var i, s)) (Ok (var i, s)) (wrong_arity (Name.span (spanless_name x))) (wrong_arity x.span) refl
term_at_same assumed x n ts us h = refl
term_at_same unknown x n ts us h = refl
term_at_same (declared (sort m)) x n ts us h = refl
term_at_same (declared (function m ss s)) x n ts us h =
    then_same (arguments_at n ss (spanless_name x) ts) (arguments_at n ss x us) (λ us. Ok (app x.text us, s)) (λ us. Ok (app x.text us, s))
    (arguments_same n ss (spanless_name x) x ts us h) (λ us. refl)
term_at_same (declared (predicate m ss)) x n ts us h = refl
term_at_same (declared (stated m a)) x n ts us h = refl
term_at_same (declared (term m ps s b)) x n ts us h =
    then_same (arguments_at n (sorts_of ps) (spanless_name x) ts) (arguments_at n (sorts_of ps) x us) (λ us. Ok (app x.text us, s))
    (λ us. Ok (app x.text us, s)) (arguments_same n (sorts_of ps) (spanless_name x) x ts us h) (λ us. refl)
term_at_same (declared (formula m ps b)) x n ts us h = refl

formula_at_same : (k : Known) (x : Name) (n : ℕ) (ts us : List (List ℕ) → Result Terms Fault)
    → ((ss : List (List ℕ)) → value (ts ss) ≡ value (us ss)) → value (formula_at k (spanless_name x) n ts) ≡ value (formula_at k x n us)
formula_at_same (bound i s) x n ts us h = refl
formula_at_same assumed x n ts us h = refl
formula_at_same unknown x n ts us h = refl
formula_at_same (declared (sort m)) x n ts us h = refl
formula_at_same (declared (function m ss s)) x n ts us h = refl
formula_at_same (declared (predicate m ss)) x n ts us h =
    then_same (arguments_at n ss (spanless_name x) ts) (arguments_at n ss x us) (λ us. Ok (pred x.text us)) (λ us. Ok (pred x.text us))
    (arguments_same n ss (spanless_name x) x ts us h) (λ us. refl)
formula_at_same (declared (stated m a)) x n ts us h = refl
formula_at_same (declared (term m ps s b)) x n ts us h = refl
formula_at_same (declared (formula m ps b)) x n ts us h =
    then_same (arguments_at n (sorts_of ps) (spanless_name x) ts) (arguments_at n (sorts_of ps) x us) (λ us. Ok (pred x.text us))
    (λ us. Ok (pred x.text us)) (arguments_same n (sorts_of ps) (spanless_name x) x ts us h) (λ us. refl)

pub sort_at_same : (k : Known) (x : Name) → value (sort_at k (spanless_name x)) ≡ value (sort_at k x)
sort_at_same (bound i s) x = refl
sort_at_same assumed x = refl
sort_at_same unknown x = refl
sort_at_same (declared (sort m)) x = refl
sort_at_same (declared (function m ss s)) x = refl
sort_at_same (declared (predicate m ss)) x = refl
sort_at_same (declared (stated m a)) x = refl
sort_at_same (declared (term m ps s b)) x = refl
sort_at_same (declared (formula m ps b)) x = refl

-- ---- terms

as_many : (ys : Expressions) → how_many (spanless_list ys) ≡ how_many ys
as_many made.nil = refl
as_many (made.cons a es) = ap suc (as_many es)

of_sort_same : (s : List ℕ) (p q : Span) (t : Term × List ℕ) → value (of_sort s p t) ≡ value (of_sort s q t)
of_sort_same s p q t = test_same (is_name t.1 s) (Ok t.0) (Ok t.0) (wrong_sort p) (wrong_sort q) refl

mutual
  pub term_spanless : (E : List Declaration) (c : List Local) (a : Expression) → value (term_of E c (spanless a)) ≡ value (term_of E c a)
  term_spanless E c (made.constant b p) = refl
  term_spanless E c (made.application x ys p) =
      ap (λ n. value (term_at (known E c x.text) (spanless_name x) n (λ ss. terms_of E c (spanless_list ys) ss))) (as_many ys)
      ∙ term_at_same (known E c x.text) x (how_many ys) (λ ss. terms_of E c (spanless_list ys) ss) (λ ss. terms_of E c ys ss)
      (terms_spanless E c ys)
  term_spanless E c (made.binary op a b p) = refl
  term_spanless E c (made.negation a p) = refl
  term_spanless E c (made.quantified q gs a p) = refl

  terms_spanless : (E : List Declaration) (c : List Local) (ys : Expressions) (ss : List (List ℕ))
      → value (terms_of E c (spanless_list ys) ss) ≡ value (terms_of E c ys ss)
  terms_spanless E c made.nil ss = refl
  terms_spanless E c (made.cons a es) [] = refl
  terms_spanless E c (made.cons a es) (s ∷ ss) =
      then_same (and_then (term_of E c (spanless a)) (of_sort s (span_of (spanless a)))) (and_then (term_of E c a) (of_sort s (span_of a)))
      (λ t. and_then (terms_of E c (spanless_list es) ss) (λ ts. Ok (cons t ts)))
      (λ t. and_then (terms_of E c es ss) (λ ts. Ok (cons t ts)))
      (then_same (term_of E c (spanless a)) (term_of E c a) (of_sort s (span_of (spanless a))) (of_sort s (span_of a))
      (term_spanless E c a) (of_sort_same s (span_of (spanless a)) (span_of a)))
      (λ t. then_same (terms_of E c (spanless_list es) ss) (terms_of E c es ss) (λ ts. Ok (cons t ts)) (λ ts. Ok (cons t ts))
      (terms_spanless E c es ss) (λ ts. refl))

-- ---- what a quantifier binds

under_spanless : (s : List ℕ) (xs : List Name) (c : List Local) → under_names s (spanless_names xs) c ≡ under_names s xs c
under_spanless s [] c = refl
under_spanless s (x ∷ xs) c = under_spanless s xs (variable x.text s ∷ c)

groups_spanless : (E : List Declaration) (gs : List Group) (c : List Local)
    → value (under_groups E (spanless_groups gs) c) ≡ value (under_groups E gs c)
groups_spanless E [] c = refl
groups_spanless E (g ∷ gs) c =
    then_same (sort_at (known E c g.sort.text) (spanless_name g.sort)) (sort_at (known E c g.sort.text) g.sort)
    (λ s. under_groups E (spanless_groups gs) (under_names s (spanless_names g.names) c)) (λ s. under_groups E gs (under_names s g.names c))
    (sort_at_same (known E c g.sort.text) g.sort)
    (λ s. ap (λ d. value (under_groups E (spanless_groups gs) d)) (under_spanless s g.names c)
    ∙ groups_spanless E gs (under_names s g.names c))

over_names_spanless : (q : Bool) (s : List ℕ) (xs : List Name) (a : Formula) → over_names q s (spanless_names xs) a ≡ over_names q s xs a
over_names_spanless q s [] a = refl
over_names_spanless q s (x ∷ xs) a = ap (quantifier q s x.text) (over_names_spanless q s xs a)

over_groups_spanless : (q : Bool) (gs : List Group) (a : Formula) → over_groups q (spanless_groups gs) a ≡ over_groups q gs a
over_groups_spanless q [] a = refl
over_groups_spanless q (g ∷ gs) a = over_names_spanless q g.sort.text g.names (over_groups q (spanless_groups gs) a)
    ∙ ap (over_names q g.sort.text g.names) (over_groups_spanless q gs a)

-- ---- formulas

-- two formulas put together
joined_same : (f : Formula → Formula → Formula) (r q s t : Result Formula Fault) → value r ≡ value q → value s ≡ value t
    → value (and_then r (λ x. and_then s (λ y. Ok (f x y)))) ≡ value (and_then q (λ x. and_then t (λ y. Ok (f x y))))
joined_same f r q s t e h =
    then_same r q (λ x. and_then s (λ y. Ok (f x y))) (λ x. and_then t (λ y. Ok (f x y))) e
    (λ x. then_same s t (λ y. Ok (f x y)) (λ y. Ok (f x y)) h (λ y. refl))

equation_same : (p q : Span) (t u : Term × List ℕ) → value (equation_of p t u) ≡ value (equation_of q t u)
equation_same p q t u =
    then_same (of_sort t.1 p u) (of_sort t.1 q u) (λ v. Ok (equal t.1 t.0 v)) (λ v. Ok (equal t.1 t.0 v))
    (of_sort_same t.1 p q u) (λ v. refl)

-- two terms put together, with a step behind
equated_same : (E : List Declaration) (c : List Local) (a b : Expression) (f : Formula → Result Formula Fault)
    → value (and_then (term_of E c (spanless a)) (λ t. and_then (term_of E c (spanless b)) (λ u.
    and_then (equation_of (span_of (spanless b)) t u) f)))
    ≡ value (and_then (term_of E c a) (λ t. and_then (term_of E c b) (λ u. and_then (equation_of (span_of b) t u) f)))
equated_same E c a b f =
    then_same (term_of E c (spanless a)) (term_of E c a)
    (λ t. and_then (term_of E c (spanless b)) (λ u. and_then (equation_of (span_of (spanless b)) t u) f))
    (λ t. and_then (term_of E c b) (λ u. and_then (equation_of (span_of b) t u) f)) (term_spanless E c a)
    (λ t. then_same (term_of E c (spanless b)) (term_of E c b) (λ u. and_then (equation_of (span_of (spanless b)) t u) f)
    (λ u. and_then (equation_of (span_of b) t u) f) (term_spanless E c b)
    (λ u. then_same (equation_of (span_of (spanless b)) t u) (equation_of (span_of b) t u) f f
    (equation_same (span_of (spanless b)) (span_of b) t u) (λ x. refl)))

sides_same : (E : List Declaration) (c : List Local) (a b : Expression)
    → value (and_then (term_of E c (spanless a)) (λ t. and_then (term_of E c (spanless b)) (λ u. equation_of (span_of (spanless b)) t u)))
    ≡ value (and_then (term_of E c a) (λ t. and_then (term_of E c b) (λ u. equation_of (span_of b) t u)))
sides_same E c a b =
    then_same (term_of E c (spanless a)) (term_of E c a)
    (λ t. and_then (term_of E c (spanless b)) (λ u. equation_of (span_of (spanless b)) t u))
    (λ t. and_then (term_of E c b) (λ u. equation_of (span_of b) t u)) (term_spanless E c a)
    (λ t. then_same (term_of E c (spanless b)) (term_of E c b) (λ u. equation_of (span_of (spanless b)) t u)
    (λ u. equation_of (span_of b) t u) (term_spanless E c b) (λ u. equation_same (span_of (spanless b)) (span_of b) t u))

pub formula_spanless : (E : List Declaration) (a : Expression) (c : List Local)
    → value (formula_of E c (spanless a)) ≡ value (formula_of E c a)
formula_spanless E (made.constant true p) c = refl
formula_spanless E (made.constant false p) c = refl
formula_spanless E (made.application x ys p) c =
    ap (λ n. value (formula_at (known E c x.text) (spanless_name x) n (λ ss. terms_of E c (spanless_list ys) ss))) (as_many ys)
    ∙ formula_at_same (known E c x.text) x (how_many ys) (λ ss. terms_of E c (spanless_list ys) ss) (λ ss. terms_of E c ys ss)
    (terms_spanless E c ys)
formula_spanless E (made.binary implication a b p) c =
    joined_same implies (formula_of E c (spanless a)) (formula_of E c a) (formula_of E c (spanless b)) (formula_of E c b)
    (formula_spanless E a c) (formula_spanless E b c)
formula_spanless E (made.binary equivalence a b p) c =
    joined_same (λ x y. both (implies x y) (implies y x)) (formula_of E c (spanless a)) (formula_of E c a) (formula_of E c (spanless b))
    (formula_of E c b) (formula_spanless E a c) (formula_spanless E b c)
formula_spanless E (made.binary disjunction a b p) c =
    joined_same either (formula_of E c (spanless a)) (formula_of E c a) (formula_of E c (spanless b)) (formula_of E c b)
    (formula_spanless E a c) (formula_spanless E b c)
formula_spanless E (made.binary conjunction a b p) c =
    joined_same both (formula_of E c (spanless a)) (formula_of E c a) (formula_of E c (spanless b)) (formula_of E c b)
    (formula_spanless E a c) (formula_spanless E b c)
formula_spanless E (made.binary equation a b p) c = sides_same E c a b
formula_spanless E (made.binary inequation a b p) c = equated_same E c a b (λ x. Ok (implies x falsity))
formula_spanless E (made.negation a p) c =
    then_same (formula_of E c (spanless a)) (formula_of E c a) (λ x. Ok (implies x falsity)) (λ x. Ok (implies x falsity))
    (formula_spanless E a c) (λ x. refl)
formula_spanless E (made.quantified q gs a p) c =
    then_same (under_groups E (spanless_groups gs) c) (under_groups E gs c)
    (λ d. and_then (formula_of E d (spanless a)) (λ b. Ok (over_groups q (spanless_groups gs) b)))
    (λ d. and_then (formula_of E d a) (λ b. Ok (over_groups q gs b))) (groups_spanless E gs c)
    (λ d. then_same (formula_of E d (spanless a)) (formula_of E d a) (λ b. Ok (over_groups q (spanless_groups gs) b))
    (λ b. Ok (over_groups q gs b)) (formula_spanless E a d) (λ b. ap Some (over_groups_spanless q gs b)))
