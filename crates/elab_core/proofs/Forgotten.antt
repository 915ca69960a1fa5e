-- Checking is typing with the term or the formula left out.
use Rattle.std.proofs.Common.{◌≡◌, ℕ, Bool, true, false, List, [], ◌∷◌, length, if◌then◌else◌, ◌==◌, Result, Ok, Err, refl, ap, ◌∙◌}
use Rattle.vern_lex.specs.declared.span.Span.{Span}
use Rattle.vern_grammar.specs.Trees.{
  Operator,
  implication,
  equivalence,
  disjunction,
  conjunction,
  equation,
  inequation,
  Name,
  Group,
  Expression,
  constant,
  application,
  binary,
  negation,
  quantified,
  Expressions,
}
use Rattle.vern_grammar.specs.Trees as tree
use Rattle.fol_theory.specs.Syntax.{Term, var, app, Terms, cons, Formula, falsity, pred, equal, both, either, implies}
use Rattle.fol_theory.specs.Syntax.{is_name}
use Rattle.env_theory.specs.Declarations.{Declaration, sort, function, predicate, stated, term, formula, sorts_of}
use Rattle.base_core.specs.Answers.{and_then}
use Rattle.elab_theory.specs.Faults.{Fault, wrong_sort, wrong_arity}
use Rattle.elab_theory.specs.Locals.{Local, Known, bound, assumed, declared, unknown, known}
use Rattle.elab_theory.specs.Expressions.{span_of, how_many, arguments_at, term_at, formula_at, of_sort, term_of, terms_of, equation_of, over_groups, formula_of, under_groups}
use Rattle.elab_core.specs.Checked.{variable_head, function_head, counted, term_head, formula_head, fits, headed, sort_of, arguments_fit, sides_fit, fits_formula}

-- a value left out
abbrev pub nothing : {A : Type 0} → Result A Fault → Result (Unit {0}) Fault
nothing r = and_then r (λ _. Ok tt)

-- the sort alone
abbrev pub sort_alone : Result (Term × List ℕ) Fault → Result (List ℕ) Fault
sort_alone r = and_then r (λ t. Ok t.1)

pub chained : {A B C : Type 0} (r : Result A Fault) (f : A → Result B Fault) (g : B → Result C Fault) → and_then (and_then r f) g
    ≡ and_then r (λ a. and_then (f a) g)
chained (Ok a) f g = refl
chained (Err e) f g = refl

applied : (n : ℕ) (ss : List (List ℕ)) (s : List ℕ) (x : Name) (f : List (List ℕ) → Result Terms Fault) (g : List (List ℕ)
    → Result (Unit {0}) Fault) → g ss ≡ nothing (f ss) →
    and_then (counted n ss x (function_head ss s)) (λ h. headed h g)
    ≡ sort_alone (and_then (arguments_at n ss x f) (λ us. Ok (app x.text us, s)))
applied n ss s x f g e = go (n == length ss)
  where
    took : (r : Result Terms Fault) → and_then (nothing r) (λ _. Ok s) ≡ sort_alone (and_then r (λ us. Ok (app x.text us, s)))
    took (Ok us) = refl
    took (Err d) = refl

    go : (q : Bool) → and_then (if q then Ok (function_head ss s) else Err (wrong_arity x.span)) (λ h. headed h g)
        ≡ sort_alone (and_then (if q then f ss else Err (wrong_arity x.span)) (λ us. Ok (app x.text us, s)))
    go true = ap (λ r. and_then r (λ _. Ok s)) e ∙ took (f ss)
    go false = refl

-- a head and then its arguments is the head's application with the term left out
pub term_forgotten : (k : Known) (x : Name) (n : ℕ) (f : List (List ℕ) → Result Terms Fault) (g : List (List ℕ) → Result (Unit {0}) Fault)
    → ((ss : List (List ℕ)) → g ss ≡ nothing (f ss)) →
    and_then (term_head k x n) (λ h. headed h g) ≡ sort_alone (term_at k x n f)
term_forgotten (bound i s) x n f g e = go (n == 0)
  where
    go : (q : Bool) → and_then (if q then Ok (variable_head i s) else Err (wrong_arity x.span)) (λ h. headed h g)
        ≡ sort_alone (if q then Ok (var i, s) else Err (wrong_arity x.span))
    go true = refl
    go false = refl
term_forgotten assumed x n f g e = refl
term_forgotten unknown x n f g e = refl
term_forgotten (declared (sort m)) x n f g e = refl
term_forgotten (declared (function m ss s)) x n f g e = applied n ss s x f g (e ss)
term_forgotten (declared (predicate m ss)) x n f g e = refl
term_forgotten (declared (stated m a)) x n f g e = refl
term_forgotten (declared (term m ps s b)) x n f g e = applied n (sorts_of ps) s x f g (e (sorts_of ps))
term_forgotten (declared (formula m ps b)) x n f g e = refl

atom : (n : ℕ) (ss : List (List ℕ)) (x : Name) (f : List (List ℕ) → Result Terms Fault) (g : List (List ℕ) → Result (Unit {0}) Fault)
    → g ss ≡ nothing (f ss) →
    and_then (counted n ss x ss) g ≡ nothing (and_then (arguments_at n ss x f) (λ us. Ok (pred x.text us)))
atom n ss x f g e = go (n == length ss)
  where
    took : (r : Result Terms Fault) → nothing r ≡ nothing (and_then r (λ us. Ok (pred x.text us)))
    took (Ok us) = refl
    took (Err d) = refl

    go : (q : Bool) → and_then (if q then Ok ss else Err (wrong_arity x.span)) g
        ≡ nothing (and_then (if q then f ss else Err (wrong_arity x.span)) (λ us. Ok (pred x.text us)))
    go true = e ∙ took (f ss)
    go false = refl

pub atom_forgotten : (k : Known) (x : Name) (n : ℕ) (f : List (List ℕ) → Result Terms Fault) (g : List (List ℕ) → Result (Unit {0}) Fault)
    → ((ss : List (List ℕ)) → g ss ≡ nothing (f ss)) →
    and_then (formula_head k x n) g ≡ nothing (formula_at k x n f)
atom_forgotten (bound i s) x n f g e = refl
atom_forgotten assumed x n f g e = refl
atom_forgotten unknown x n f g e = refl
atom_forgotten (declared (sort m)) x n f g e = refl
atom_forgotten (declared (function m ss s)) x n f g e = refl
atom_forgotten (declared (predicate m ss)) x n f g e = atom n ss x f g (e ss)
atom_forgotten (declared (stated m a)) x n f g e = refl
atom_forgotten (declared (term m ps s b)) x n f g e = refl
atom_forgotten (declared (formula m ps b)) x n f g e = atom n (sorts_of ps) x f g (e (sorts_of ps))

-- a term and its sort, where the sort alone is asked for
pub fitted : (s : List ℕ) (p : Span) (r : Result (Term × List ℕ) Fault) → and_then (sort_alone r) (fits s p)
    ≡ nothing (and_then r (of_sort s p))
fitted s p (Ok t) = go (is_name t.1 s)
  where
    go : (q : Bool) → (if q then Ok tt else Err (wrong_sort p)) ≡ nothing (if q then Ok t.0 else Err (wrong_sort p))
    go true = refl
    go false = refl
fitted s p (Err e) = refl

-- an argument and the rest
one_more : (r : Result Term Fault) (u : Result Terms Fault) → and_then (nothing r) (λ _. nothing u)
    ≡ nothing (and_then r (λ t. and_then u (λ ts. Ok (cons t ts))))
one_more (Ok t) (Ok ts) = refl
one_more (Ok t) (Err e) = refl
one_more (Err e) u = refl

mutual
  pub sort_forgotten : (E : List Declaration) (c : List Local) (a : Expression) → sort_of E c a ≡ sort_alone (term_of E c a)
  sort_forgotten E c (constant b p) = refl
  sort_forgotten E c (application x ys p) = term_forgotten (known E c x.text) x (how_many ys) (λ ss. terms_of E c ys ss)
      (λ ss. arguments_fit E c ys ss) (λ ss. arguments_forgotten E c ys ss)
  sort_forgotten E c (binary op a b p) = refl
  sort_forgotten E c (negation a p) = refl
  sort_forgotten E c (quantified q gs a p) = refl

  pub arguments_forgotten : (E : List Declaration) (c : List Local) (ys : Expressions) (ss : List (List ℕ)) → arguments_fit E c ys ss
      ≡ nothing (terms_of E c ys ss)
  arguments_forgotten E c tree.nil ss = refl
  arguments_forgotten E c (tree.cons a es) [] = refl
  arguments_forgotten E c (tree.cons a es) (s ∷ ss) =
      ap (λ r. and_then (and_then r (fits s (span_of a))) (λ _. arguments_fit E c es ss)) (sort_forgotten E c a)
      ∙ ap (λ r. and_then r (λ _. arguments_fit E c es ss)) (fitted s (span_of a) (term_of E c a))
      ∙ ap (λ r. and_then (nothing (and_then (term_of E c a) (of_sort s (span_of a)))) (λ _. r)) (arguments_forgotten E c es ss)
      ∙ one_more (and_then (term_of E c a) (of_sort s (span_of a))) (terms_of E c es ss)

-- ---- formulas

sides : (p : Span) (r t : Result (Term × List ℕ) Fault) → and_then (sort_alone r) (λ s. and_then (sort_alone t) (fits s p))
    ≡ nothing (and_then r (λ a. and_then t (λ b. equation_of p a b)))
sides p (Ok a) t = fitted a.1 p t ∙ go t
  where
    made : (r : Result Term Fault) → nothing r ≡ nothing (and_then r (λ v. Ok (equal a.1 a.0 v)))
    made (Ok v) = refl
    made (Err e) = refl

    go : (t : Result (Term × List ℕ) Fault) → nothing (and_then t (of_sort a.1 p)) ≡ nothing (and_then t (λ b. equation_of p a b))
    go (Ok b) = made (of_sort a.1 p b)
    go (Err e) = refl
sides p (Err e) t = refl

pub sides_forgotten : (E : List Declaration) (c : List Local) (a b : Expression) → sides_fit E c a b
    ≡ nothing (and_then (term_of E c a) (λ t. and_then (term_of E c b) (λ u. equation_of (span_of b) t u)))
sides_forgotten E c a b =
    ap (λ r. and_then r (λ s. and_then (sort_of E c b) (fits s (span_of b)))) (sort_forgotten E c a)
    ∙ ap (λ t. and_then (sort_alone (term_of E c a)) (λ s. and_then t (fits s (span_of b)))) (sort_forgotten E c b)
    ∙ sides (span_of b) (term_of E c a) (term_of E c b)

-- what is made of a formula doesn't matter
made_of : (r : Result Formula Fault) (f : Formula → Formula) → nothing r ≡ nothing (and_then r (λ a. Ok (f a)))
made_of (Ok a) f = refl
made_of (Err e) f = refl

made_of_two : (r t : Result Formula Fault) (f : Formula → Formula → Formula) → and_then (nothing r) (λ _. nothing t)
    ≡ nothing (and_then r (λ a. and_then t (λ b. Ok (f a b))))
made_of_two (Ok a) t f = made_of t (f a)
made_of_two (Err e) t f = refl

denied : (r t : Result (Term × List ℕ) Fault) (p : Span) → nothing (and_then r (λ a. and_then t (λ b. equation_of p a b)))
    ≡ nothing (and_then r (λ a. and_then t (λ b. and_then (equation_of p a b) (λ x. Ok (implies x falsity)))))
denied (Ok a) (Ok b) p = made_of (equation_of p a b) (λ x. implies x falsity)
denied (Ok a) (Err e) p = refl
denied (Err e) t p = refl

pub two_forgotten : (m n : Result (Unit {0}) Fault) (r t : Result Formula Fault) → m ≡ nothing r → n ≡ nothing t → (f : Formula → Formula
    → Formula) → and_then m (λ _. n) ≡ nothing (and_then r (λ a. and_then t (λ b. Ok (f a b))))
two_forgotten m n r t e k f = ap (λ z. and_then z (λ _. n)) e ∙ ap (λ z. and_then (nothing r) (λ _. z)) k ∙ made_of_two r t f

under_forgotten : (r : Result (List Local) Fault) (f : List Local → Result (Unit {0}) Fault) (g : List Local → Result Formula Fault)
    (h : Formula → Formula) → ((d : List Local) → f d ≡ nothing (g d)) → and_then r f
    ≡ nothing (and_then r (λ d. and_then (g d) (λ b. Ok (h b))))
under_forgotten (Ok d) f g h e = e d ∙ made_of (g d) h
under_forgotten (Err x) f g h e = refl

pub formula_forgotten : (E : List Declaration) (c : List Local) (a : Expression) → fits_formula E c a ≡ nothing (formula_of E c a)
formula_forgotten E c (constant true p) = refl
formula_forgotten E c (constant false p) = refl
formula_forgotten E c (application x ys p) = atom_forgotten (known E c x.text) x (how_many ys) (λ ss. terms_of E c ys ss)
    (λ ss. arguments_fit E c ys ss) (λ ss. arguments_forgotten E c ys ss)
formula_forgotten E c (binary implication a b p) = two_forgotten _ _ (formula_of E c a) (formula_of E c b) (formula_forgotten E c a)
    (formula_forgotten E c b) (λ x y. implies x y)
formula_forgotten E c (binary equivalence a b p) = two_forgotten _ _ (formula_of E c a) (formula_of E c b) (formula_forgotten E c a)
    (formula_forgotten E c b) (λ x y. both (implies x y) (implies y x))
formula_forgotten E c (binary disjunction a b p) = two_forgotten _ _ (formula_of E c a) (formula_of E c b) (formula_forgotten E c a)
    (formula_forgotten E c b) (λ x y. either x y)
formula_forgotten E c (binary conjunction a b p) = two_forgotten _ _ (formula_of E c a) (formula_of E c b) (formula_forgotten E c a)
    (formula_forgotten E c b) (λ x y. both x y)
formula_forgotten E c (binary equation a b p) = sides_forgotten E c a b
formula_forgotten E c (binary inequation a b p) = sides_forgotten E c a b ∙ denied (term_of E c a) (term_of E c b) (span_of b)
formula_forgotten E c (negation a p) = formula_forgotten E c a ∙ made_of (formula_of E c a) (λ x. implies x falsity)
formula_forgotten E c (quantified q gs a p) = under_forgotten (under_groups E gs c) (λ d. fits_formula E d a) (λ d. formula_of E d a)
    (over_groups q gs) (λ d. formula_forgotten E d a)
