-- The formula of an expression has the nodes and the height that the expression tells.
use Rattle.std.proofs.Common.{
  ◌≡◌,
  ℕ,
  ◌+◌,
  max,
  Bool,
  true,
  false,
  List,
  [],
  ◌∷◌,
  length,
  refl,
  sym,
  ap,
  subst,
  ◌∙◌,
  ◌==◌,
  Result,
  Ok,
  arith,
}
use Rattle.std.proofs.lemmas.Bool.Decides.{nat_tests}
use Rattle.vern_lex.specs.declared.span.Span.{Span}
use Rattle.vern_grammar.specs.Trees.{
  Operator,
  implication,
  equivalence,
  disjunction,
  conjunction,
  equation,
  inequation,
  Name,
  Group,
  Expression,
  constant,
  application,
  binary,
  negation,
  quantified,
  Expressions,
}
use Rattle.vern_grammar.specs.Trees as tree
use Rattle.fol_theory.specs.Syntax.{Term, var, app, Terms, cons, Formula, falsity, pred, equal, both, either, implies, is_name}
use Rattle.fol_theory.specs.Measures.{term_nodes, terms_nodes, nodes, term_height, terms_height, height}
use Rattle.env_theory.specs.Declarations.{Declaration, sort, function, predicate, stated, term, formula, sorts_of}
use Rattle.base_core.specs.Answers.{and_then}
use Rattle.elab_theory.specs.Faults.{Fault, wrong_sort, wrong_arity}
use Rattle.elab_theory.specs.Locals.{Local, Known, bound, assumed, declared, unknown, known}
use Rattle.elab_theory.specs.Expressions.{span_of, how_many, arguments_at, term_at, formula_at, of_sort, term_of, terms_of, equation_of, quantifier, under_groups, over_names, over_groups, formula_of}
use Rattle.elab_theory.specs.Sizes.{names_in, nodes_in, all_nodes_in, height_in, all_height_in}
use Rattle.elab_theory.proofs.Results.{ok_is, never, steps, passed}

no_number : (n : ℕ) → (n == 0) ≡ true → n ≡ 0
no_number n h = grind (arith, nat_tests)

same_number : (m n : ℕ) → (m == n) ≡ true → m ≡ n
same_number m n h = grind (arith, nat_tests)

-- ---- nodes

none_nodes : (ys : Expressions) → how_many ys ≡ 0 → all_nodes_in ys ≡ 0
none_nodes tree.nil h = refl
none_nodes (tree.cons a es) h = cc

-- as many arguments as sorts
abbrev Sized_nodes : Expressions → (List (List ℕ) → Result Terms Fault) → Type 0
Sized_nodes ys ts = (ss : List (List ℕ)) (us : Terms) → how_many ys ≡ length ss → ts ss ≡ Ok us → terms_nodes us ≡ all_nodes_in ys

arguments_nodes : (ys : Expressions) (ts : List (List ℕ) → Result Terms Fault) → Sized_nodes ys ts →
    (x : Name) (ss : List (List ℕ)) (us : Terms) → arguments_at (how_many ys) ss x ts ≡ Ok us → terms_nodes us ≡ all_nodes_in ys
arguments_nodes ys ts f x ss us e = let r = passed (how_many ys == length ss) (ts ss) (wrong_arity x.span) us e in
    f ss us (same_number (how_many ys) (length ss) r.0) r.1

term_at_nodes : (k : Known) (x : Name) (ys : Expressions) (ts : List (List ℕ) → Result Terms Fault) → Sized_nodes ys ts →
    (r : Term × List ℕ) → term_at k x (how_many ys) ts ≡ Ok r → term_nodes r.0 ≡ all_nodes_in ys + 1
term_at_nodes (bound i s) x ys ts f r e = let k = passed (how_many ys == 0) (Ok (var i, s)) (wrong_arity x.span) r e in
    subst (λ z. term_nodes z.0 ≡ all_nodes_in ys + 1) (ok_is (Term × List ℕ) _ _ k.1)
    (omega (arith, none_nodes ys (no_number (how_many ys) k.0)))
term_at_nodes assumed x ys ts f r e = absurd (never _ _ _ e)
term_at_nodes unknown x ys ts f r e = absurd (never _ _ _ e)
term_at_nodes (declared (sort m)) x ys ts f r e = absurd (never _ _ _ e)
term_at_nodes (declared (function m ss s)) x ys ts f r e = let k = steps (arguments_at (how_many ys) ss x ts)
    (λ us. Ok (app x.text us, s)) r e in
    subst (λ z. term_nodes z.0 ≡ all_nodes_in ys + 1) (ok_is (Term × List ℕ) _ _ k.2)
    (ap (λ n. n + 1) (arguments_nodes ys ts f x ss k.0 k.1))
term_at_nodes (declared (predicate m ss)) x ys ts f r e = absurd (never _ _ _ e)
term_at_nodes (declared (stated m a)) x ys ts f r e = absurd (never _ _ _ e)
term_at_nodes (declared (term m ps s b)) x ys ts f r e = let k = steps (arguments_at (how_many ys) (sorts_of ps) x ts)
    (λ us. Ok (app x.text us, s)) r e in
    subst (λ z. term_nodes z.0 ≡ all_nodes_in ys + 1) (ok_is (Term × List ℕ) _ _ k.2)
    (ap (λ n. n + 1) (arguments_nodes ys ts f x (sorts_of ps) k.0 k.1))
term_at_nodes (declared (formula m ps b)) x ys ts f r e = absurd (never _ _ _ e)

formula_at_nodes : (k : Known) (x : Name) (ys : Expressions) (ts : List (List ℕ) → Result Terms Fault) → Sized_nodes ys ts →
    (a : Formula) → formula_at k x (how_many ys) ts ≡ Ok a → nodes a ≡ all_nodes_in ys + 1
formula_at_nodes (bound i s) x ys ts f a e = absurd (never _ _ _ e)
formula_at_nodes assumed x ys ts f a e = absurd (never _ _ _ e)
formula_at_nodes unknown x ys ts f a e = absurd (never _ _ _ e)
formula_at_nodes (declared (sort m)) x ys ts f a e = absurd (never _ _ _ e)
formula_at_nodes (declared (function m ss s)) x ys ts f a e = absurd (never _ _ _ e)
formula_at_nodes (declared (predicate m ss)) x ys ts f a e = let k = steps (arguments_at (how_many ys) ss x ts)
    (λ us. Ok (pred x.text us)) a e in
    subst (λ z. nodes z ≡ all_nodes_in ys + 1) (ok_is Formula _ _ k.2) (ap (λ n. n + 1) (arguments_nodes ys ts f x ss k.0 k.1))
formula_at_nodes (declared (stated m b)) x ys ts f a e = absurd (never _ _ _ e)
formula_at_nodes (declared (term m ps s b)) x ys ts f a e = absurd (never _ _ _ e)
formula_at_nodes (declared (formula m ps b)) x ys ts f a e = let k = steps (arguments_at (how_many ys) (sorts_of ps) x ts)
    (λ us. Ok (pred x.text us)) a e in
    subst (λ z. nodes z ≡ all_nodes_in ys + 1) (ok_is Formula _ _ k.2) (ap (λ n. n + 1) (arguments_nodes ys ts f x (sorts_of ps) k.0 k.1))

of_sort_nodes : (s : List ℕ) (p : Span) (r : Term × List ℕ) (t : Term) → of_sort s p r ≡ Ok t → term_nodes t ≡ term_nodes r.0
of_sort_nodes s p r t e = let k = passed (is_name r.1 s) (Ok r.0) (wrong_sort p) t e in ap term_nodes (sym (ok_is Term _ _ k.1))

mutual
  pub term_of_nodes : (E : List Declaration) (c : List Local) (a : Expression) (r : Term × List ℕ) → term_of E c a ≡ Ok r →
      term_nodes r.0 ≡ nodes_in a
  term_of_nodes E c (constant b p) r e = absurd (never _ _ _ e)
  term_of_nodes E c (application x ys p) r e = term_at_nodes (known E c x.text) x ys (λ ss. terms_of E c ys ss)
      (λ ss us n k. terms_of_nodes E c ys ss us n k) r e
  term_of_nodes E c (binary op a b p) r e = absurd (never _ _ _ e)
  term_of_nodes E c (negation a p) r e = absurd (never _ _ _ e)
  term_of_nodes E c (quantified q gs a p) r e = absurd (never _ _ _ e)

  pub terms_of_nodes : (E : List Declaration) (c : List Local) (ys : Expressions) (ss : List (List ℕ)) (us : Terms) →
      how_many ys ≡ length ss → terms_of E c ys ss ≡ Ok us → terms_nodes us ≡ all_nodes_in ys
  terms_of_nodes E c tree.nil ss us n e = ap terms_nodes (sym (ok_is Terms _ _ e))
  terms_of_nodes E c (tree.cons a es) [] us n e = cc
  terms_of_nodes E c (tree.cons a es) (s ∷ ss) us n e =
      let k = steps (and_then (term_of E c a) (of_sort s (span_of a))) (λ t. and_then (terms_of E c es ss) (λ ts. Ok (cons t ts))) us e in
      let j = steps (term_of E c a) (of_sort s (span_of a)) k.0 k.1 in
      let l = steps (terms_of E c es ss) (λ ts. Ok (cons k.0 ts)) us k.2 in
      ap terms_nodes (sym (ok_is Terms _ _ l.2)) ∙
      (λ i. (((of_sort_nodes s (span_of a) j.0 k.0 j.2) ∙ term_of_nodes E c a j.0 j.1) i)
      + (terms_of_nodes E c es ss l.0 (omega (arith, n)) l.1 i))

equation_nodes : (p : Span) (t u : Term × List ℕ) (a : Formula) → equation_of p t u ≡ Ok a → nodes a ≡ term_nodes t.0 + term_nodes u.0 + 1
equation_nodes p t u a e = let j = steps (of_sort t.1 p u) (λ v. Ok (equal t.1 t.0 v)) a e in
    ap nodes (sym (ok_is Formula _ _ j.2)) ∙ ap (λ n. term_nodes t.0 + n + 1) (of_sort_nodes t.1 p u j.0 j.1)

quantifier_nodes : (q : Bool) (s x : List ℕ) (a : Formula) → nodes (quantifier q s x a) ≡ nodes a + 1
quantifier_nodes true s x a = refl
quantifier_nodes false s x a = refl

over_names_nodes : (q : Bool) (s : List ℕ) (xs : List Name) (a : Formula) → nodes (over_names q s xs a) ≡ nodes a + length xs
over_names_nodes q s [] a = omega arith
over_names_nodes q s (y ∷ xs) a = quantifier_nodes q s y.text (over_names q s xs a) ∙ omega (arith, over_names_nodes q s xs a)

over_groups_nodes : (q : Bool) (gs : List Group) (a : Formula) → nodes (over_groups q gs a) ≡ nodes a + names_in gs
over_groups_nodes q [] a = omega arith
over_groups_nodes q (y ∷ gs) a = over_names_nodes q y.sort.text y.names (over_groups q gs a) ∙ omega (arith, over_groups_nodes q gs a)

pub formula_of_nodes : (E : List Declaration) (a : Expression) (c : List Local) (b : Formula) → formula_of E c a ≡ Ok b →
    nodes b ≡ nodes_in a
formula_of_nodes E (constant true p) c b e = ap nodes (sym (ok_is Formula _ _ e))
formula_of_nodes E (constant false p) c b e = ap nodes (sym (ok_is Formula _ _ e))
formula_of_nodes E (application y ys p) c b e = formula_at_nodes (known E c y.text) y ys (λ ss. terms_of E c ys ss)
    (λ ss us n k. terms_of_nodes E c ys ss us n k) b e
formula_of_nodes E (binary implication l r p) c b e =
    let j = steps (formula_of E c l) (λ y. and_then (formula_of E c r) (λ z. Ok (implies y z))) b e in let k =
    steps (formula_of E c r) (λ z. Ok (implies j.0 z)) b j.2 in
    ap nodes (sym (ok_is Formula _ _ k.2)) ∙ omega (arith, formula_of_nodes E l c j.0 j.1, formula_of_nodes E r c k.0 k.1)
formula_of_nodes E (binary equivalence l r p) c b e =
    let j = steps (formula_of E c l) (λ y. and_then (formula_of E c r) (λ z. Ok (both (implies y z) (implies z y)))) b e in
    let k = steps (formula_of E c r) (λ z. Ok (both (implies j.0 z) (implies z j.0))) b j.2 in
    ap nodes (sym (ok_is Formula _ _ k.2)) ∙ omega (arith, formula_of_nodes E l c j.0 j.1, formula_of_nodes E r c k.0 k.1)
formula_of_nodes E (binary disjunction l r p) c b e =
    let j = steps (formula_of E c l) (λ y. and_then (formula_of E c r) (λ z. Ok (either y z))) b e in let k =
    steps (formula_of E c r) (λ z. Ok (either j.0 z)) b j.2 in
    ap nodes (sym (ok_is Formula _ _ k.2)) ∙ omega (arith, formula_of_nodes E l c j.0 j.1, formula_of_nodes E r c k.0 k.1)
formula_of_nodes E (binary conjunction l r p) c b e =
    let j = steps (formula_of E c l) (λ y. and_then (formula_of E c r) (λ z. Ok (both y z))) b e in let k =
    steps (formula_of E c r) (λ z. Ok (both j.0 z)) b j.2 in
    ap nodes (sym (ok_is Formula _ _ k.2)) ∙ omega (arith, formula_of_nodes E l c j.0 j.1, formula_of_nodes E r c k.0 k.1)
formula_of_nodes E (binary equation l r p) c b e =
    let j = steps (term_of E c l) (λ t. and_then (term_of E c r) (λ u. equation_of (span_of r) t u)) b e in let k =
    steps (term_of E c r) (λ u. equation_of (span_of r) j.0 u) b j.2 in
    equation_nodes (span_of r) j.0 k.0 b k.2 ∙ omega (arith, term_of_nodes E c l j.0 j.1, term_of_nodes E c r k.0 k.1)
formula_of_nodes E (binary inequation l r p) c b e =
    let j = steps (term_of E c l) (λ t. and_then (term_of E c r) (λ u. and_then (equation_of (span_of r) t u)
    (λ y. Ok (implies y falsity)))) b e in
    let k = steps (term_of E c r) (λ u. and_then (equation_of (span_of r) j.0 u) (λ y. Ok (implies y falsity))) b j.2 in
    let m = steps (equation_of (span_of r) j.0 k.0) (λ y. Ok (implies y falsity)) b k.2 in
    ap nodes (sym (ok_is Formula _ _ m.2)) ∙ omega (
      arith,
      equation_nodes (span_of r) j.0 k.0 m.0 m.1,
      term_of_nodes E c l j.0 j.1,
      term_of_nodes E c r k.0 k.1,
    )
formula_of_nodes E (negation a p) c b e = let j = steps (formula_of E c a) (λ y. Ok (implies y falsity)) b e in
    ap nodes (sym (ok_is Formula _ _ j.2)) ∙ omega (arith, formula_of_nodes E a c j.0 j.1)
formula_of_nodes E (quantified q gs a p) c b e =
    let j = steps (under_groups E gs c) (λ d. and_then (formula_of E d a) (λ y. Ok (over_groups q gs y))) b e in
    let k = steps (formula_of E j.0 a) (λ y. Ok (over_groups q gs y)) b j.2 in
    ap nodes (sym (ok_is Formula _ _ k.2)) ∙ over_groups_nodes q gs k.0 ∙ ap (λ n. n + names_in gs) (formula_of_nodes E a j.0 k.0 k.1)

-- ---- height

none_height : (ys : Expressions) → how_many ys ≡ 0 → all_height_in ys ≡ 0
none_height tree.nil h = refl
none_height (tree.cons a es) h = cc

-- as many arguments as sorts
abbrev Sized_height : Expressions → (List (List ℕ) → Result Terms Fault) → Type 0
Sized_height ys ts = (ss : List (List ℕ)) (us : Terms) → how_many ys ≡ length ss → ts ss ≡ Ok us → terms_height us ≡ all_height_in ys

arguments_height : (ys : Expressions) (ts : List (List ℕ) → Result Terms Fault) → Sized_height ys ts →
    (x : Name) (ss : List (List ℕ)) (us : Terms) → arguments_at (how_many ys) ss x ts ≡ Ok us → terms_height us ≡ all_height_in ys
arguments_height ys ts f x ss us e = let r = passed (how_many ys == length ss) (ts ss) (wrong_arity x.span) us e in
    f ss us (same_number (how_many ys) (length ss) r.0) r.1

term_at_height : (k : Known) (x : Name) (ys : Expressions) (ts : List (List ℕ) → Result Terms Fault) → Sized_height ys ts →
    (r : Term × List ℕ) → term_at k x (how_many ys) ts ≡ Ok r → term_height r.0 ≡ all_height_in ys + 1
term_at_height (bound i s) x ys ts f r e = let k = passed (how_many ys == 0) (Ok (var i, s)) (wrong_arity x.span) r e in
    subst (λ z. term_height z.0 ≡ all_height_in ys + 1) (ok_is (Term × List ℕ) _ _ k.1)
    (omega (arith, none_height ys (no_number (how_many ys) k.0)))
term_at_height assumed x ys ts f r e = absurd (never _ _ _ e)
term_at_height unknown x ys ts f r e = absurd (never _ _ _ e)
term_at_height (declared (sort m)) x ys ts f r e = absurd (never _ _ _ e)
term_at_height (declared (function m ss s)) x ys ts f r e = let k = steps (arguments_at (how_many ys) ss x ts)
    (λ us. Ok (app x.text us, s)) r e in
    subst (λ z. term_height z.0 ≡ all_height_in ys + 1) (ok_is (Term × List ℕ) _ _ k.2)
    (ap (λ n. n + 1) (arguments_height ys ts f x ss k.0 k.1))
term_at_height (declared (predicate m ss)) x ys ts f r e = absurd (never _ _ _ e)
term_at_height (declared (stated m a)) x ys ts f r e = absurd (never _ _ _ e)
term_at_height (declared (term m ps s b)) x ys ts f r e = let k = steps (arguments_at (how_many ys) (sorts_of ps) x ts)
    (λ us. Ok (app x.text us, s)) r e in
    subst (λ z. term_height z.0 ≡ all_height_in ys + 1) (ok_is (Term × List ℕ) _ _ k.2)
    (ap (λ n. n + 1) (arguments_height ys ts f x (sorts_of ps) k.0 k.1))
term_at_height (declared (formula m ps b)) x ys ts f r e = absurd (never _ _ _ e)

formula_at_height : (k : Known) (x : Name) (ys : Expressions) (ts : List (List ℕ) → Result Terms Fault) → Sized_height ys ts →
    (a : Formula) → formula_at k x (how_many ys) ts ≡ Ok a → height a ≡ all_height_in ys + 1
formula_at_height (bound i s) x ys ts f a e = absurd (never _ _ _ e)
formula_at_height assumed x ys ts f a e = absurd (never _ _ _ e)
formula_at_height unknown x ys ts f a e = absurd (never _ _ _ e)
formula_at_height (declared (sort m)) x ys ts f a e = absurd (never _ _ _ e)
formula_at_height (declared (function m ss s)) x ys ts f a e = absurd (never _ _ _ e)
formula_at_height (declared (predicate m ss)) x ys ts f a e = let k = steps (arguments_at (how_many ys) ss x ts)
    (λ us. Ok (pred x.text us)) a e in
    subst (λ z. height z ≡ all_height_in ys + 1) (ok_is Formula _ _ k.2) (ap (λ n. n + 1) (arguments_height ys ts f x ss k.0 k.1))
formula_at_height (declared (stated m b)) x ys ts f a e = absurd (never _ _ _ e)
formula_at_height (declared (term m ps s b)) x ys ts f a e = absurd (never _ _ _ e)
formula_at_height (declared (formula m ps b)) x ys ts f a e = let k = steps (arguments_at (how_many ys) (sorts_of ps) x ts)
    (λ us. Ok (pred x.text us)) a e in
    subst (λ z. height z ≡ all_height_in ys + 1) (ok_is Formula _ _ k.2)
    (ap (λ n. n + 1) (arguments_height ys ts f x (sorts_of ps) k.0 k.1))

of_sort_height : (s : List ℕ) (p : Span) (r : Term × List ℕ) (t : Term) → of_sort s p r ≡ Ok t → term_height t ≡ term_height r.0
of_sort_height s p r t e = let k = passed (is_name r.1 s) (Ok r.0) (wrong_sort p) t e in ap term_height (sym (ok_is Term _ _ k.1))

mutual
  pub term_of_height : (E : List Declaration) (c : List Local) (a : Expression) (r : Term × List ℕ) → term_of E c a ≡ Ok r →
      term_height r.0 ≡ height_in a
  term_of_height E c (constant b p) r e = absurd (never _ _ _ e)
  term_of_height E c (application x ys p) r e = term_at_height (known E c x.text) x ys (λ ss. terms_of E c ys ss)
      (λ ss us n k. terms_of_height E c ys ss us n k) r e
  term_of_height E c (binary op a b p) r e = absurd (never _ _ _ e)
  term_of_height E c (negation a p) r e = absurd (never _ _ _ e)
  term_of_height E c (quantified q gs a p) r e = absurd (never _ _ _ e)

  pub terms_of_height : (E : List Declaration) (c : List Local) (ys : Expressions) (ss : List (List ℕ)) (us : Terms) →
      how_many ys ≡ length ss → terms_of E c ys ss ≡ Ok us → terms_height us ≡ all_height_in ys
  terms_of_height E c tree.nil ss us n e = ap terms_height (sym (ok_is Terms _ _ e))
  terms_of_height E c (tree.cons a es) [] us n e = cc
  terms_of_height E c (tree.cons a es) (s ∷ ss) us n e =
      let k = steps (and_then (term_of E c a) (of_sort s (span_of a))) (λ t. and_then (terms_of E c es ss) (λ ts. Ok (cons t ts))) us e in
      let j = steps (term_of E c a) (of_sort s (span_of a)) k.0 k.1 in
      let l = steps (terms_of E c es ss) (λ ts. Ok (cons k.0 ts)) us k.2 in
      ap terms_height (sym (ok_is Terms _ _ l.2)) ∙
      (λ i. max (((of_sort_height s (span_of a) j.0 k.0 j.2) ∙ term_of_height E c a j.0 j.1) i)
      (terms_of_height E c es ss l.0 (omega (arith, n)) l.1 i))

equation_height : (p : Span) (t u : Term × List ℕ) (a : Formula) → equation_of p t u ≡ Ok a → height a ≡ max (term_height t.0)
    (term_height u.0) + 1
equation_height p t u a e = let j = steps (of_sort t.1 p u) (λ v. Ok (equal t.1 t.0 v)) a e in
    ap height (sym (ok_is Formula _ _ j.2)) ∙ ap (λ n. max (term_height t.0) n + 1) (of_sort_height t.1 p u j.0 j.1)

quantifier_height : (q : Bool) (s x : List ℕ) (a : Formula) → height (quantifier q s x a) ≡ height a + 1
quantifier_height true s x a = refl
quantifier_height false s x a = refl

over_names_height : (q : Bool) (s : List ℕ) (xs : List Name) (a : Formula) → height (over_names q s xs a) ≡ height a + length xs
over_names_height q s [] a = omega arith
over_names_height q s (y ∷ xs) a = quantifier_height q s y.text (over_names q s xs a) ∙ omega (arith, over_names_height q s xs a)

over_groups_height : (q : Bool) (gs : List Group) (a : Formula) → height (over_groups q gs a) ≡ height a + names_in gs
over_groups_height q [] a = omega arith
over_groups_height q (y ∷ gs) a = over_names_height q y.sort.text y.names (over_groups q gs a) ∙ omega (arith, over_groups_height q gs a)

pub formula_of_height : (E : List Declaration) (a : Expression) (c : List Local) (b : Formula) → formula_of E c a ≡ Ok b →
    height b ≡ height_in a
formula_of_height E (constant true p) c b e = ap height (sym (ok_is Formula _ _ e))
formula_of_height E (constant false p) c b e = ap height (sym (ok_is Formula _ _ e))
formula_of_height E (application y ys p) c b e = formula_at_height (known E c y.text) y ys (λ ss. terms_of E c ys ss)
    (λ ss us n k. terms_of_height E c ys ss us n k) b e
formula_of_height E (binary implication l r p) c b e =
    let j = steps (formula_of E c l) (λ y. and_then (formula_of E c r) (λ z. Ok (implies y z))) b e in let k =
    steps (formula_of E c r) (λ z. Ok (implies j.0 z)) b j.2 in
    ap height (sym (ok_is Formula _ _ k.2)) ∙ omega (arith, formula_of_height E l c j.0 j.1, formula_of_height E r c k.0 k.1)
formula_of_height E (binary equivalence l r p) c b e =
    let j = steps (formula_of E c l) (λ y. and_then (formula_of E c r) (λ z. Ok (both (implies y z) (implies z y)))) b e in
    let k = steps (formula_of E c r) (λ z. Ok (both (implies j.0 z) (implies z j.0))) b j.2 in
    ap height (sym (ok_is Formula _ _ k.2)) ∙ omega (arith, formula_of_height E l c j.0 j.1, formula_of_height E r c k.0 k.1)
formula_of_height E (binary disjunction l r p) c b e =
    let j = steps (formula_of E c l) (λ y. and_then (formula_of E c r) (λ z. Ok (either y z))) b e in let k =
    steps (formula_of E c r) (λ z. Ok (either j.0 z)) b j.2 in
    ap height (sym (ok_is Formula _ _ k.2)) ∙ omega (arith, formula_of_height E l c j.0 j.1, formula_of_height E r c k.0 k.1)
formula_of_height E (binary conjunction l r p) c b e =
    let j = steps (formula_of E c l) (λ y. and_then (formula_of E c r) (λ z. Ok (both y z))) b e in let k =
    steps (formula_of E c r) (λ z. Ok (both j.0 z)) b j.2 in
    ap height (sym (ok_is Formula _ _ k.2)) ∙ omega (arith, formula_of_height E l c j.0 j.1, formula_of_height E r c k.0 k.1)
formula_of_height E (binary equation l r p) c b e =
    let j = steps (term_of E c l) (λ t. and_then (term_of E c r) (λ u. equation_of (span_of r) t u)) b e in let k =
    steps (term_of E c r) (λ u. equation_of (span_of r) j.0 u) b j.2 in
    equation_height (span_of r) j.0 k.0 b k.2 ∙ omega (arith, term_of_height E c l j.0 j.1, term_of_height E c r k.0 k.1)
formula_of_height E (binary inequation l r p) c b e =
    let j = steps (term_of E c l) (λ t. and_then (term_of E c r) (λ u. and_then (equation_of (span_of r) t u)
    (λ y. Ok (implies y falsity)))) b e in
    let k = steps (term_of E c r) (λ u. and_then (equation_of (span_of r) j.0 u) (λ y. Ok (implies y falsity))) b j.2 in
    let m = steps (equation_of (span_of r) j.0 k.0) (λ y. Ok (implies y falsity)) b k.2 in
    ap height (sym (ok_is Formula _ _ m.2)) ∙ omega (
      arith,
      equation_height (span_of r) j.0 k.0 m.0 m.1,
      term_of_height E c l j.0 j.1,
      term_of_height E c r k.0 k.1,
    )
formula_of_height E (negation a p) c b e = let j = steps (formula_of E c a) (λ y. Ok (implies y falsity)) b e in
    ap height (sym (ok_is Formula _ _ j.2)) ∙ omega (arith, formula_of_height E a c j.0 j.1)
formula_of_height E (quantified q gs a p) c b e =
    let j = steps (under_groups E gs c) (λ d. and_then (formula_of E d a) (λ y. Ok (over_groups q gs y))) b e in
    let k = steps (formula_of E j.0 a) (λ y. Ok (over_groups q gs y)) b j.2 in
    ap height (sym (ok_is Formula _ _ k.2)) ∙ over_groups_height q gs k.0 ∙ ap (λ n. n + names_in gs) (formula_of_height E a j.0 k.0 k.1)
