-- What an expression is typed as is well formed.
use Rattle.std.proofs.Common.{◌≡◌, ℕ, Bool, true, false, List, [], ◌∷◌, length, refl, sym, subst, if◌then◌else◌, ◌==◌, Option, Some, None, Result, Ok, arith}
use Rattle.std.proofs.lemmas.Bool.Decides.{nat_tests}
use Rattle.vern_lex.specs.declared.span.Span.{Span}
use Rattle.vern_grammar.specs.Trees.{implication, equivalence, disjunction, conjunction, equation, inequation, Name, Group, Expression, constant, application, binary, negation, quantified, Expressions}
use Rattle.vern_grammar.specs.Trees as tree
use Rattle.fol_theory.specs.Syntax.{Term, var, app, Terms, cons, Formula, falsity, pred, equal, both, either, implies, is_name}
use Rattle.env_theory.specs.Declarations.{Declaration, sort, function, predicate, stated, term, formula, find, sorts_of}
use Rattle.env_theory.specs.Typing.{At, HasSort, HaveSorts, WellFormed, takes, Gives, IsSort, IsPredicate, AreSorts, Environment}
use Rattle.env_theory.proofs.SameNames.{one_name}
use Rattle.env_theory.proofs.Declared.{sort_declared}
use Rattle.base_core.specs.Answers.{and_then}
use Rattle.elab_theory.specs.Faults.{Fault, wrong_sort, wrong_arity}
use Rattle.elab_theory.specs.Locals.{Local, variable, hypothesis, sorts_in, Known, bound, assumed, declared, unknown, known, declared_or_not, farther}
use Rattle.elab_theory.specs.Expressions.{span_of, how_many, sort_at, arguments_at, term_at, formula_at, of_sort, term_of, terms_of, equation_of, quantifier, under_names, under_groups, over_names, over_groups, formula_of}
use Rattle.elab_theory.proofs.Results.{ok_is, never, steps, passed}

-- ---- names

-- what is so of a name that stands for this
abbrev pub IsKnown : List Declaration → List Local → List ℕ → Known → Type 0
IsKnown E c n (bound i s) = At (sorts_in c) i s
IsKnown E c n assumed = Unit {0}
IsKnown E c n (declared d) = find E n ≡ Some d
IsKnown E c n unknown = Unit {0}

known_farther : (E : List Declaration) (c : List Local) (n x s : List ℕ) (k : Known) → IsKnown E c n k →
    IsKnown E (variable x s ∷ c) n (farther k)
known_farther E c n x s (bound i r) h = h
known_farther E c n x s assumed h = h
known_farther E c n x s (declared d) h = h
known_farther E c n x s unknown h = h

known_past : (E : List Declaration) (c : List Local) (n x : List ℕ) (k : Known) → IsKnown E c n k → IsKnown E (hypothesis x ∷ c) n k
known_past E c n x (bound i r) h = h
known_past E c n x assumed h = h
known_past E c n x (declared d) h = h
known_past E c n x unknown h = h

-- what a name stands for is there
pub is_known : (E : List Declaration) (c : List Local) (n : List ℕ) → IsKnown E c n (known E c n)
is_known E [] n = go (find E n) refl
  where
    go : (o : Option Declaration) → find E n ≡ o → IsKnown E [] n (declared_or_not o)
    go None e = tt
    go (Some d) e = e
is_known E (variable x s ∷ c) n = go (is_name x n) (is_known E c n)
  where
    go : (q : Bool) → IsKnown E c n (known E c n) → IsKnown E (variable x s ∷ c) n (if q then bound 0 s else farther (known E c n))
    go true h = refl
    go false h = known_farther E c n x s (known E c n) h
is_known E (hypothesis x ∷ c) n = go (is_name x n) (is_known E c n)
  where
    go : (q : Bool) → IsKnown E c n (known E c n) → IsKnown E (hypothesis x ∷ c) n (if q then assumed else known E c n)
    go true h = tt
    go false h = known_past E c n x (known E c n) h

-- a sort
pub sort_formed : (E : List Declaration) (c : List Local) (x : Name) (s : List ℕ) → sort_at (known E c x.text) x ≡ Ok s → IsSort (find E s)
sort_formed E c x s = go (known E c x.text) (is_known E c x.text)
  where
    go : (k : Known) → IsKnown E c x.text k → sort_at k x ≡ Ok s → IsSort (find E s)
    go (bound i r) h e = absurd (never _ _ _ e)
    go assumed h e = absurd (never _ _ _ e)
    go unknown h e = absurd (never _ _ _ e)
    go (declared (sort n)) h e = subst (λ z. IsSort (find E z)) (ok_is _ _ _ e) (subst IsSort (sym h) tt)
    go (declared (function n ss r)) h e = absurd (never _ _ _ e)
    go (declared (predicate n ss)) h e = absurd (never _ _ _ e)
    go (declared (stated n a)) h e = absurd (never _ _ _ e)
    go (declared (term n ps r b)) h e = absurd (never _ _ _ e)
    go (declared (formula n ps b)) h e = absurd (never _ _ _ e)

-- a sort is the name that was looked up
pub sort_text : (k : Known) (x : Name) (s : List ℕ) → sort_at k x ≡ Ok s → s ≡ x.text
sort_text (bound i r) x s e = absurd (never _ _ _ e)
sort_text assumed x s e = absurd (never _ _ _ e)
sort_text unknown x s e = absurd (never _ _ _ e)
sort_text (declared (sort n)) x s e = sym (ok_is (List ℕ) x.text s e)
sort_text (declared (function n ss r)) x s e = absurd (never _ _ _ e)
sort_text (declared (predicate n ss)) x s e = absurd (never _ _ _ e)
sort_text (declared (stated n a)) x s e = absurd (never _ _ _ e)
sort_text (declared (term n ps r b)) x s e = absurd (never _ _ _ e)
sort_text (declared (formula n ps b)) x s e = absurd (never _ _ _ e)

same_number : (m n : ℕ) → (m == n) ≡ true → m ≡ n
same_number m n h = grind (arith, nat_tests)

-- ---- applications

-- as many arguments as sorts, each with its own
abbrev Arguments : List Declaration → List Local → ℕ → (List (List ℕ) → Result Terms Fault) → Type 0
Arguments E c n ts = (ss : List (List ℕ)) (us : Terms) → n ≡ length ss → ts ss ≡ Ok us → HaveSorts E (sorts_in c) us ss

module _ (E : List Declaration) (c : List Local) (x : Name) (n : ℕ) (ts : List (List ℕ) → Result Terms Fault)
    (f : Arguments E c n ts) where
  arguments_formed : (ss : List (List ℕ)) (us : Terms) → arguments_at n ss x ts ≡ Ok us → HaveSorts E (sorts_in c) us ss
  arguments_formed ss us e = let r = passed (n == length ss) (ts ss) (wrong_arity x.span) us e in
      f ss us (same_number n (length ss) r.0) r.1

  term_at_formed : (r : Term × List ℕ) → term_at (known E c x.text) x n ts ≡ Ok r → HasSort E (sorts_in c) r.0 r.1
  term_at_formed r = go (known E c x.text) (is_known E c x.text)
    where
      applied : (d : Declaration) (ss : List (List ℕ)) (s : List ℕ) → Gives (Some d) s → takes (Some d) ≡ ss →
          find E x.text ≡ Some d → and_then (arguments_at n ss x ts) (λ us. Ok (app x.text us, s)) ≡ Ok r → HasSort E (sorts_in c) r.0 r.1
      applied d ss s g t h e = let k = steps (arguments_at n ss x ts) (λ us. Ok (app x.text us, s)) r e in
          subst (λ z. HasSort E (sorts_in c) z.0 z.1) (ok_is (Term × List ℕ) _ _ k.2) (
            subst (λ o. Gives o s) (sym h) g,
            subst (λ o. HaveSorts E (sorts_in c) k.0 (takes o)) (sym h)
                (subst (HaveSorts E (sorts_in c) k.0) (sym t) (arguments_formed ss k.0 k.1)),
          )

      go : (k : Known) → IsKnown E c x.text k → term_at k x n ts ≡ Ok r → HasSort E (sorts_in c) r.0 r.1
      go (bound i s) h e = let k = passed (n == 0) (Ok (var i, s)) (wrong_arity x.span) r e in
          subst (λ z. HasSort E (sorts_in c) z.0 z.1) (ok_is (Term × List ℕ) _ _ k.1) h
      go assumed h e = absurd (never _ _ _ e)
      go unknown h e = absurd (never _ _ _ e)
      go (declared (sort m)) h e = absurd (never _ _ _ e)
      go (declared (function m ss s)) h e = applied (function m ss s) ss s refl refl h e
      go (declared (predicate m ss)) h e = absurd (never _ _ _ e)
      go (declared (stated m a)) h e = absurd (never _ _ _ e)
      go (declared (term m ps s b)) h e = applied (term m ps s b) (sorts_of ps) s refl refl h e
      go (declared (formula m ps b)) h e = absurd (never _ _ _ e)

  formula_at_formed : (a : Formula) → formula_at (known E c x.text) x n ts ≡ Ok a → WellFormed E (sorts_in c) a
  formula_at_formed a = go (known E c x.text) (is_known E c x.text)
    where
      applied : (d : Declaration) (ss : List (List ℕ)) → IsPredicate (Some d) → takes (Some d) ≡ ss → find E x.text ≡ Some d →
          and_then (arguments_at n ss x ts) (λ us. Ok (pred x.text us)) ≡ Ok a → WellFormed E (sorts_in c) a
      applied d ss g t h e = let k = steps (arguments_at n ss x ts) (λ us. Ok (pred x.text us)) a e in
          subst (WellFormed E (sorts_in c)) (ok_is Formula _ _ k.2) (
            subst IsPredicate (sym h) g,
            subst (λ o. HaveSorts E (sorts_in c) k.0 (takes o)) (sym h)
                (subst (HaveSorts E (sorts_in c) k.0) (sym t) (arguments_formed ss k.0 k.1)),
          )

      go : (k : Known) → IsKnown E c x.text k → formula_at k x n ts ≡ Ok a → WellFormed E (sorts_in c) a
      go (bound i s) h e = absurd (never _ _ _ e)
      go assumed h e = absurd (never _ _ _ e)
      go unknown h e = absurd (never _ _ _ e)
      go (declared (sort m)) h e = absurd (never _ _ _ e)
      go (declared (function m ss s)) h e = absurd (never _ _ _ e)
      go (declared (predicate m ss)) h e = applied (predicate m ss) ss tt refl h e
      go (declared (stated m b)) h e = absurd (never _ _ _ e)
      go (declared (term m ps s b)) h e = absurd (never _ _ _ e)
      go (declared (formula m ps b)) h e = applied (formula m ps b) (sorts_of ps) tt refl h e

-- ---- terms

pub of_sort_formed : (E : List Declaration) (V : List (List ℕ)) (s : List ℕ) (p : Span) (r : Term × List ℕ) (t : Term) →
    HasSort E V r.0 r.1 → of_sort s p r ≡ Ok t → HasSort E V t s
of_sort_formed E V s p r t h e = let k = passed (is_name r.1 s) (Ok r.0) (wrong_sort p) t e in
    subst (λ z. HasSort E V z s) (ok_is Term _ _ k.1) (subst (HasSort E V r.0) (one_name r.1 s k.0) h)

mutual
  pub term_formed : (E : List Declaration) (c : List Local) (a : Expression) (r : Term × List ℕ) → term_of E c a ≡ Ok r →
      HasSort E (sorts_in c) r.0 r.1
  term_formed E c (constant b p) r e = absurd (never _ _ _ e)
  term_formed E c (application x ys p) r e = term_at_formed E c x (how_many ys) (λ ss. terms_of E c ys ss)
      (λ ss us n k. terms_formed E c ys ss us n k) r e
  term_formed E c (binary op a b p) r e = absurd (never _ _ _ e)
  term_formed E c (negation a p) r e = absurd (never _ _ _ e)
  term_formed E c (quantified q gs a p) r e = absurd (never _ _ _ e)

  pub terms_formed : (E : List Declaration) (c : List Local) (ys : Expressions) (ss : List (List ℕ)) (us : Terms) →
      how_many ys ≡ length ss → terms_of E c ys ss ≡ Ok us → HaveSorts E (sorts_in c) us ss
  terms_formed E c tree.nil [] us n e = subst (λ z. HaveSorts E (sorts_in c) z []) (ok_is Terms _ _ e) tt
  terms_formed E c tree.nil (s ∷ ss) us n e = cc
  terms_formed E c (tree.cons a es) [] us n e = cc
  terms_formed E c (tree.cons a es) (s ∷ ss) us n e =
      let k = steps (and_then (term_of E c a) (of_sort s (span_of a))) (λ t. and_then (terms_of E c es ss) (λ ts. Ok (cons t ts))) us e in
      let j = steps (term_of E c a) (of_sort s (span_of a)) k.0 k.1 in
      let l = steps (terms_of E c es ss) (λ ts. Ok (cons k.0 ts)) us k.2 in
      subst (λ z. HaveSorts E (sorts_in c) z (s ∷ ss)) (ok_is Terms _ _ l.2) (
        of_sort_formed E (sorts_in c) s (span_of a) j.0 k.0 (term_formed E c a j.0 j.1) j.2,
        terms_formed E c es ss l.0 (omega (arith, n)) l.1,
      )

-- ---- formulas

module _ (E : List Declaration) (x : Environment E) where
  module _ (V : List (List ℕ)) (g : AreSorts E V) where
    equation_formed : (p : Span) (t u : Term × List ℕ) (a : Formula) → HasSort E V t.0 t.1 →
        HasSort E V u.0 u.1 → equation_of p t u ≡ Ok a → WellFormed E V a
    equation_formed p t u a h k e = let j = steps (of_sort t.1 p u) (λ v. Ok (equal t.1 t.0 v)) a e in
        subst (WellFormed E V) (ok_is Formula _ _ j.2) (sort_declared E x V g t.0 t.1 h, h, of_sort_formed E V t.1 p u j.0 k j.1)

  -- names of one sort
  names_formed : (q : Bool) (s : List ℕ) → IsSort (find E s) → (xs : List Name) (c : List Local) → AreSorts E (sorts_in c) →
      AreSorts E (sorts_in (under_names s xs c)) ×
      ((a : Formula) → WellFormed E (sorts_in (under_names s xs c)) a → WellFormed E (sorts_in c) (over_names q s xs a))
  names_formed q s i [] c g = (g, λ a w. w)
  names_formed q s i (y ∷ xs) c g = let r = names_formed q s i xs (variable y.text s ∷ c) (i, g) in
      (r.0, λ a w. quantified_formed q (over_names q s xs a) (r.1 a w))
    where
      quantified_formed : (q : Bool) (b : Formula) → WellFormed E (s ∷ sorts_in c) b → WellFormed E (sorts_in c) (quantifier q s y.text b)
      quantified_formed true b h = (i, h)
      quantified_formed false b h = (i, h)

  -- groups: the locals under them are of sorts, and what is well formed there is so over the groups outside
  pub groups_formed : (q : Bool) (gs : List Group) (c d : List Local) → AreSorts E (sorts_in c) → under_groups E gs c ≡ Ok d →
      AreSorts E (sorts_in d) × ((a : Formula) → WellFormed E (sorts_in d) a → WellFormed E (sorts_in c) (over_groups q gs a))
  groups_formed q [] c d g e =
      subst (λ z. AreSorts E (sorts_in z) × ((a : Formula) → WellFormed E (sorts_in z) a → WellFormed E (sorts_in c) a))
      (ok_is (List Local) c d e) (g, λ a w. w)
  groups_formed q (y ∷ gs) c d g e =
      let j = steps (sort_at (known E c y.sort.text) y.sort) (λ s. under_groups E gs (under_names s y.names c)) d e in
      let t : j.0 ≡ y.sort.text = sort_text (known E c y.sort.text) y.sort j.0 j.1 in
      let n = names_formed q y.sort.text (subst (λ s. IsSort (find E s)) t (sort_formed E c y.sort j.0 j.1)) y.names c g in
      let r = groups_formed q gs (under_names y.sort.text y.names c) d n.0
      (subst (λ s. under_groups E gs (under_names s y.names c) ≡ Ok d) t j.2) in
      (r.0, λ a w. n.1 (over_groups q gs a) (r.1 a w))

  pub formula_formed : (a : Expression) (c : List Local) → AreSorts E (sorts_in c) → (b : Formula) → formula_of E c a ≡ Ok b →
      WellFormed E (sorts_in c) b
  formula_formed (constant true p) c g b e = subst (WellFormed E (sorts_in c)) (ok_is Formula _ _ e) tt
  formula_formed (constant false p) c g b e = subst (WellFormed E (sorts_in c)) (ok_is Formula _ _ e) tt
  formula_formed (application y ys p) c g b e = formula_at_formed E c y (how_many ys) (λ ss. terms_of E c ys ss)
      (λ ss us n k. terms_formed E c ys ss us n k) b e
  formula_formed (binary implication l r p) c g b e =
      let j = steps (formula_of E c l) (λ y. and_then (formula_of E c r) (λ z. Ok (implies y z))) b e in let k =
      steps (formula_of E c r) (λ z. Ok (implies j.0 z)) b j.2 in
      subst (WellFormed E (sorts_in c)) (ok_is Formula _ _ k.2) (formula_formed l c g j.0 j.1, formula_formed r c g k.0 k.1)
  formula_formed (binary equivalence l r p) c g b e =
      let j = steps (formula_of E c l) (λ y. and_then (formula_of E c r) (λ z. Ok (both (implies y z) (implies z y)))) b e in
      let k = steps (formula_of E c r) (λ z. Ok (both (implies j.0 z) (implies z j.0))) b j.2 in
      let m = formula_formed l c g j.0 j.1 in let n = formula_formed r c g k.0 k.1 in subst (WellFormed E (sorts_in c))
      (ok_is Formula _ _ k.2) ((m, n), (n, m))
  formula_formed (binary disjunction l r p) c g b e =
      let j = steps (formula_of E c l) (λ y. and_then (formula_of E c r) (λ z. Ok (either y z))) b e in let k =
      steps (formula_of E c r) (λ z. Ok (either j.0 z)) b j.2 in
      subst (WellFormed E (sorts_in c)) (ok_is Formula _ _ k.2) (formula_formed l c g j.0 j.1, formula_formed r c g k.0 k.1)
  formula_formed (binary conjunction l r p) c g b e =
      let j = steps (formula_of E c l) (λ y. and_then (formula_of E c r) (λ z. Ok (both y z))) b e in let k =
      steps (formula_of E c r) (λ z. Ok (both j.0 z)) b j.2 in
      subst (WellFormed E (sorts_in c)) (ok_is Formula _ _ k.2) (formula_formed l c g j.0 j.1, formula_formed r c g k.0 k.1)
  formula_formed (binary equation l r p) c g b e =
      let j = steps (term_of E c l) (λ t. and_then (term_of E c r) (λ u. equation_of (span_of r) t u)) b e in let k =
      steps (term_of E c r) (λ u. equation_of (span_of r) j.0 u) b j.2 in
      equation_formed (sorts_in c) g (span_of r) j.0 k.0 b (term_formed E c l j.0 j.1) (term_formed E c r k.0 k.1) k.2
  formula_formed (binary inequation l r p) c g b e =
      let j = steps (term_of E c l) (λ t. and_then (term_of E c r) (λ u. and_then (equation_of (span_of r) t u)
      (λ y. Ok (implies y falsity)))) b e in
      let k = steps (term_of E c r) (λ u. and_then (equation_of (span_of r) j.0 u) (λ y. Ok (implies y falsity))) b j.2 in
      let m = steps (equation_of (span_of r) j.0 k.0) (λ y. Ok (implies y falsity)) b k.2 in
      subst (WellFormed E (sorts_in c)) (ok_is Formula _ _ m.2) (
        equation_formed (sorts_in c) g (span_of r) j.0 k.0 m.0
            (term_formed E c l j.0 j.1) (term_formed E c r k.0 k.1) m.1,
        tt,
      )
  formula_formed (negation a p) c g b e = let j = steps (formula_of E c a) (λ y. Ok (implies y falsity)) b e in
      subst (WellFormed E (sorts_in c)) (ok_is Formula _ _ j.2) (formula_formed a c g j.0 j.1, tt)
  formula_formed (quantified q gs a p) c g b e =
      let j = steps (under_groups E gs c) (λ d. and_then (formula_of E d a) (λ y. Ok (over_groups q gs y))) b e in
      let k = steps (formula_of E j.0 a) (λ y. Ok (over_groups q gs y)) b j.2 in
      let r = groups_formed q gs c j.0 g j.1 in
      subst (WellFormed E (sorts_in c)) (ok_is Formula _ _ k.2) (r.1 k.0 (formula_formed a j.0 r.0 k.0 k.1))
