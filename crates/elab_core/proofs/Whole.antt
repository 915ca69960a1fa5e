-- Where typing has a value, it is what is built.
use Rattle.std.proofs.Common.{◌≡◌, ℕ, true, false, List, [], ◌∷◌, length, ◌==◌, Result, Ok, ap, ◌∙◌, arith}
use Rattle.vern_lex.specs.declared.span.Span.{Span}
use Rattle.vern_grammar.specs.Trees.{
  Operator,
  implication,
  equivalence,
  disjunction,
  conjunction,
  equation,
  inequation,
  Name,
  Group,
  Expression,
  constant,
  application,
  binary,
  negation,
  quantified,
  Expressions,
}
use Rattle.vern_grammar.specs.Trees as tree
use Rattle.fol_theory.specs.Syntax.{Term, var, app, Terms, nil, cons, Formula, truth, falsity, pred, equal, both, either, implies}
use Rattle.fol_theory.specs.Syntax.{is_name}
use Rattle.env_theory.specs.Declarations.{Declaration, sort, function, predicate, stated, term, formula, sorts_of}
use Rattle.base_core.specs.Answers.{and_then}
use Rattle.elab_theory.specs.Faults.{Fault, unknown_name, wrong_kind, wrong_sort, wrong_arity}
use Rattle.elab_theory.specs.Locals.{Local, Known, bound, assumed, declared, unknown, known}
use Rattle.elab_theory.specs.Expressions.{
  span_of,
  how_many,
  sort_at,
  arguments_at,
  term_at,
  formula_at,
  of_sort,
  term_of,
  terms_of,
  equation_of,
  over_groups,
  formula_of,
  under_names,
  under_groups,
}
use Rattle.elab_theory.proofs.Results.{ok_is, never, steps, passed}
use Rattle.std.proofs.lemmas.Bool.Decides.{nat_tests}
use Rattle.elab_core.specs.Built.{variable_in, headed_by, head_sort, term_built, terms_built, sort_built, under_all, formula_built}

same_number : (m n : ℕ) → (m == n) ≡ true → m ≡ n
same_number m n h = grind (arith, nat_tests)

-- arguments that are as many as the sorts are those that are built
abbrev pub Built : ℕ → (List (List ℕ) → Result Terms Fault) → Terms → Type 0
Built n f ts = (ss : List (List ℕ)) (us : Terms) → n ≡ length ss → f ss ≡ Ok us → ts ≡ us

applied : (n : ℕ) (ss : List (List ℕ)) (s : List ℕ) (x : Name) (f : List (List ℕ) → Result Terms Fault) (ts : Terms) (r : Term × List ℕ)
    → Built n f ts → and_then (arguments_at n ss x f) (λ us. Ok (app x.text us, s)) ≡ Ok r → (app x.text ts ≡ r.0) × (s ≡ r.1)
applied n ss s x f ts r g e =
    let p = steps (arguments_at n ss x f) (λ us. Ok (app x.text us, s)) r e in
    let q = passed (n == length ss) (f ss) (wrong_arity x.span) p.0 p.1 in
    let z = ok_is (Term × List ℕ) (app x.text p.0, s) r p.2 in
    (ap (app x.text) (g ss p.0 (same_number n (length ss) q.0) q.1) ∙ ap (λ w. w.0) z, ap (λ w. w.1) z)

term_whole_at : (k : Known) (n : ℕ) (x : Name) (f : List (List ℕ) → Result Terms Fault) (ts : Terms) (r : Term × List ℕ) → Built n f ts
    → term_at k x n f ≡ Ok r → (headed_by (variable_in k) x.text ts ≡ r.0) × (head_sort k ≡ r.1)
term_whole_at (bound i s) n x f ts r g e = let p = passed (n == 0) (Ok (var i, s)) (wrong_arity x.span) r e in let z = ok_is (Term
    × List ℕ) (var i, s) r p.1 in (ap (λ w. w.0) z, ap (λ w. w.1) z)
term_whole_at assumed n x f ts r g e = absurd (never (Term × List ℕ) (wrong_kind x.span) r e)
term_whole_at unknown n x f ts r g e = absurd (never (Term × List ℕ) (unknown_name x.span) r e)
term_whole_at (declared (sort m)) n x f ts r g e = absurd (never (Term × List ℕ) (wrong_kind x.span) r e)
term_whole_at (declared (function m ss s)) n x f ts r g e = applied n ss s x f ts r g e
term_whole_at (declared (predicate m ss)) n x f ts r g e = absurd (never (Term × List ℕ) (wrong_kind x.span) r e)
term_whole_at (declared (stated m a)) n x f ts r g e = absurd (never (Term × List ℕ) (wrong_kind x.span) r e)
term_whole_at (declared (term m ps s b)) n x f ts r g e = applied n (sorts_of ps) s x f ts r g e
term_whole_at (declared (formula m ps b)) n x f ts r g e = absurd (never (Term × List ℕ) (wrong_kind x.span) r e)

atom_applied : (n : ℕ) (ss : List (List ℕ)) (x : Name) (f : List (List ℕ) → Result Terms Fault) (ts : Terms) (b : Formula) → Built n f ts
    → and_then (arguments_at n ss x f) (λ us. Ok (pred x.text us)) ≡ Ok b → pred x.text ts ≡ b
atom_applied n ss x f ts b g e =
    let p = steps (arguments_at n ss x f) (λ us. Ok (pred x.text us)) b e in
    let q = passed (n == length ss) (f ss) (wrong_arity x.span) p.0 p.1 in
    ap (pred x.text) (g ss p.0 (same_number n (length ss) q.0) q.1) ∙ ok_is Formula (pred x.text p.0) b p.2

atom_whole : (k : Known) (n : ℕ) (x : Name) (f : List (List ℕ) → Result Terms Fault) (ts : Terms) (b : Formula) → Built n f ts
    → formula_at k x n f ≡ Ok b → pred x.text ts ≡ b
atom_whole (bound i s) n x f ts b g e = absurd (never Formula (wrong_kind x.span) b e)
atom_whole assumed n x f ts b g e = absurd (never Formula (wrong_kind x.span) b e)
atom_whole unknown n x f ts b g e = absurd (never Formula (unknown_name x.span) b e)
atom_whole (declared (sort m)) n x f ts b g e = absurd (never Formula (wrong_kind x.span) b e)
atom_whole (declared (function m ss s)) n x f ts b g e = absurd (never Formula (wrong_kind x.span) b e)
atom_whole (declared (predicate m ss)) n x f ts b g e = atom_applied n ss x f ts b g e
atom_whole (declared (stated m a)) n x f ts b g e = absurd (never Formula (wrong_kind x.span) b e)
atom_whole (declared (term m ps s a)) n x f ts b g e = absurd (never Formula (wrong_kind x.span) b e)
atom_whole (declared (formula m ps a)) n x f ts b g e = atom_applied n (sorts_of ps) x f ts b g e

-- a term of the sort that is asked
fitted : (s : List ℕ) (p : Span) (r : Term × List ℕ) (t : Term) → of_sort s p r ≡ Ok t → r.0 ≡ t
fitted s p r t e = ok_is Term r.0 t (passed (is_name r.1 s) (Ok r.0) (wrong_sort p) t e).1

mutual
  pub term_whole : (E : List Declaration) (c : List Local) (a : Expression) (r : Term × List ℕ) → term_of E c a ≡ Ok r → (term_built E c a
      ≡ r.0) × (sort_built E c a ≡ r.1)
  term_whole E c (constant b p) r e = absurd (never (Term × List ℕ) (wrong_kind p) r e)
  term_whole E c (application x ys p) r e = term_whole_at (known E c x.text) (how_many ys) x (λ ss. terms_of E c ys ss)
      (terms_built E c ys) r (λ ss us h k. terms_whole E c ys ss us h k) e
  term_whole E c (binary op a b p) r e = absurd (never (Term × List ℕ) (wrong_kind p) r e)
  term_whole E c (negation a p) r e = absurd (never (Term × List ℕ) (wrong_kind p) r e)
  term_whole E c (quantified q gs a p) r e = absurd (never (Term × List ℕ) (wrong_kind p) r e)

  pub terms_whole : (E : List Declaration) (c : List Local) (ys : Expressions) (ss : List (List ℕ)) (us : Terms) → how_many ys ≡ length ss
      → terms_of E c ys ss ≡ Ok us → terms_built E c ys ≡ us
  terms_whole E c tree.nil ss us h e = ok_is Terms nil us e
  terms_whole E c (tree.cons a es) [] us h e = absurd (omega (arith, h))
  terms_whole E c (tree.cons a es) (s ∷ ss) us h e =
      let p = steps (and_then (term_of E c a) (of_sort s (span_of a))) (λ t. and_then (terms_of E c es ss) (λ ts. Ok (cons t ts))) us e in
      let q = steps (term_of E c a) (of_sort s (span_of a)) p.0 p.1 in
      let r = steps (terms_of E c es ss) (λ ts. Ok (cons p.0 ts)) us p.2 in
      ap (λ t. cons t (terms_built E c es)) ((term_whole E c a q.0 q.1).0 ∙ fitted s (span_of a) q.0 p.0 q.2)
      ∙ ap (cons p.0) (terms_whole E c es ss r.0 (omega (arith, h)) r.1)
      ∙ ok_is Terms (cons p.0 r.0) us r.2

-- ---- formulas

equation_whole : (E : List Declaration) (c : List Local) (a b : Expression) (d : Formula)
    → and_then (term_of E c a) (λ t. and_then (term_of E c b) (λ u. equation_of (span_of b) t u)) ≡ Ok d
    → equal (sort_built E c a) (term_built E c a) (term_built E c b) ≡ d
equation_whole E c a b d e =
    let p = steps (term_of E c a) (λ t. and_then (term_of E c b) (λ u. equation_of (span_of b) t u)) d e in
    let q = steps (term_of E c b) (λ u. equation_of (span_of b) p.0 u) d p.2 in
    let r = steps (of_sort p.0.1 (span_of b) q.0) (λ v. Ok (equal p.0.1 p.0.0 v)) d q.2 in
    let left = term_whole E c a p.0 p.1 in
    ap (λ s. equal s (term_built E c a) (term_built E c b)) left.1
    ∙ ap (λ t. equal p.0.1 t (term_built E c b)) left.0
    ∙ ap (equal p.0.1 p.0.0) ((term_whole E c b q.0 q.1).0 ∙ fitted p.0.1 (span_of b) q.0 r.0 r.1)
    ∙ ok_is Formula (equal p.0.1 p.0.0 r.0) d r.2

pub denied_whole : (E : List Declaration) (c : List Local) (a b : Expression) (d : Formula)
    → and_then (term_of E c a) (λ t. and_then (term_of E c b) (λ u. and_then (equation_of (span_of b) t u) (λ x. Ok (implies x falsity))))
    ≡ Ok d → implies (equal (sort_built E c a) (term_built E c a) (term_built E c b)) falsity ≡ d
denied_whole E c a b d e =
    let p = steps (term_of E c a) (λ t. and_then (term_of E c b) (λ u. and_then (equation_of (span_of b) t u) (λ x. Ok
    (implies x falsity)))) d e in
    let q = steps (term_of E c b) (λ u. and_then (equation_of (span_of b) p.0 u) (λ x. Ok (implies x falsity))) d p.2 in
    let r = steps (equation_of (span_of b) p.0 q.0) (λ x. Ok (implies x falsity)) d q.2 in
    ap (λ x. implies x falsity) (equation_whole E c a b r.0 (ap (λ z. and_then z (λ t. and_then (term_of E c b) (λ u. equation_of
    (span_of b) t u))) p.1 ∙ ap (λ z. and_then z (λ u. equation_of (span_of b) p.0 u)) q.1 ∙ r.1))
    ∙ ok_is Formula (implies r.0 falsity) d r.2

-- a sort that is found is the name that is written
sort_text : (k : Known) (x : Name) (s : List ℕ) → sort_at k x ≡ Ok s → x.text ≡ s
sort_text (bound i r) x s e = absurd (never (List ℕ) (wrong_kind x.span) s e)
sort_text assumed x s e = absurd (never (List ℕ) (wrong_kind x.span) s e)
sort_text unknown x s e = absurd (never (List ℕ) (unknown_name x.span) s e)
sort_text (declared (sort m)) x s e = ok_is (List ℕ) x.text s e
sort_text (declared (function m ss r)) x s e = absurd (never (List ℕ) (wrong_kind x.span) s e)
sort_text (declared (predicate m ss)) x s e = absurd (never (List ℕ) (wrong_kind x.span) s e)
sort_text (declared (stated m a)) x s e = absurd (never (List ℕ) (wrong_kind x.span) s e)
sort_text (declared (term m ps r b)) x s e = absurd (never (List ℕ) (wrong_kind x.span) s e)
sort_text (declared (formula m ps b)) x s e = absurd (never (List ℕ) (wrong_kind x.span) s e)

-- groups that are bound without a fault are bound
groups_whole : (E : List Declaration) (gs : List Group) (c d : List Local) → under_groups E gs c ≡ Ok d → under_all gs c ≡ d
groups_whole E [] c d e = ok_is (List Local) c d e
groups_whole E (g ∷ gs) c d e =
    let p = steps (sort_at (known E c g.sort.text) g.sort) (λ s. under_groups E gs (under_names s g.names c)) d e in
    ap (λ s. under_all gs (under_names s g.names c)) (sort_text (known E c g.sort.text) g.sort p.0 p.1)
    ∙ groups_whole E gs (under_names p.0 g.names c) d p.2

-- two formulas under a connective
pub two_whole : (r t : Result Formula Fault) (x y : Formula) (f : Formula → Formula → Formula) (b : Formula) → ((d : Formula) → r ≡ Ok d → x
    ≡ d) → ((d : Formula) → t ≡ Ok d → y ≡ d) → and_then r (λ u. and_then t (λ v. Ok (f u v))) ≡ Ok b → f x y ≡ b
two_whole r t x y f b g h e =
    let p = steps r (λ u. and_then t (λ v. Ok (f u v))) b e in
    let q = steps t (λ v. Ok (f p.0 v)) b p.2 in
    ap (λ u. f u y) (g p.0 p.1) ∙ ap (f p.0) (h q.0 q.1) ∙ ok_is Formula (f p.0 q.0) b q.2

pub formula_whole : (E : List Declaration) (c : List Local) (a : Expression) (b : Formula) → formula_of E c a ≡ Ok b → formula_built E c a
    ≡ b
formula_whole E c (constant true p) b e = ok_is Formula truth b e
formula_whole E c (constant false p) b e = ok_is Formula falsity b e
formula_whole E c (application x ys p) b e = atom_whole (known E c x.text) (how_many ys) x (λ ss. terms_of E c ys ss)
    (terms_built E c ys) b (λ ss us h k. terms_whole E c ys ss us h k) e
formula_whole E c (binary implication l r p) b e = two_whole (formula_of E c l) (formula_of E c r) _ _ (λ x y. implies x y) b
    (λ d h. formula_whole E c l d h) (λ d h. formula_whole E c r d h) e
formula_whole E c (binary equivalence l r p) b e = two_whole (formula_of E c l) (formula_of E c r) _ _ (λ x y. both (implies x y)
    (implies y x)) b (λ d h. formula_whole E c l d h) (λ d h. formula_whole E c r d h) e
formula_whole E c (binary disjunction l r p) b e = two_whole (formula_of E c l) (formula_of E c r) _ _ (λ x y. either x y) b
    (λ d h. formula_whole E c l d h) (λ d h. formula_whole E c r d h) e
formula_whole E c (binary conjunction l r p) b e = two_whole (formula_of E c l) (formula_of E c r) _ _ (λ x y. both x y) b
    (λ d h. formula_whole E c l d h) (λ d h. formula_whole E c r d h) e
formula_whole E c (binary equation l r p) b e = equation_whole E c l r b e
formula_whole E c (binary inequation l r p) b e = denied_whole E c l r b e
formula_whole E c (negation a p) b e = let q = steps (formula_of E c a) (λ x. Ok (implies x falsity)) b e in ap (λ x. implies x falsity)
    (formula_whole E c a q.0 q.1) ∙ ok_is Formula (implies q.0 falsity) b q.2
formula_whole E c (quantified q gs a p) b e =
    let l = steps (under_groups E gs c) (λ d. and_then (formula_of E d a) (λ b. Ok (over_groups q gs b))) b e in
    let m = steps (formula_of E l.0 a) (λ b. Ok (over_groups q gs b)) b l.2 in
    ap (λ d. over_groups q gs (formula_built E d a)) (groups_whole E gs c l.0 l.1)
    ∙ ap (over_groups q gs) (formula_whole E l.0 a m.0 m.1)
    ∙ ok_is Formula (over_groups q gs m.0) b m.2
