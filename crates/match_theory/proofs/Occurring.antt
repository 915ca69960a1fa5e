-- That a variable occurs is tested exactly.
use Rattle.std.proofs.Common.{
  ◌≡◌,
  ◌<◌,
  ℕ,
  zero,
  suc,
  Bool,
  true,
  false,
  ◌&&◌,
  ◌||◌,
  ◌==◌,
  refl,
  sym,
  ap,
  ◌∙◌,
  arith,
  ◌⊎◌,
  inl,
  inr,
  true≢false,
  Decides,
}
use Rattle.std.proofs.lemmas.Bool.Decides.{Decides-eqb}
use Rattle.fol_theory.specs.Syntax.{Term, var, app, Terms, nil, cons, Formula, truth, falsity, pred, equal, both, either, implies, all, ex}
use Rattle.match_theory.specs.Instances.{OccursInTerm, OccursInTerms, Occurs}
use Rattle.match_theory.specs.Places.{occurs_in_term, occurs_in_terms, occurs, all_below}

or_of : {P Q : Type 0} (a b : Bool) → (a ≡ true → P) → (b ≡ true → Q) → (a || b) ≡ true → P ⊎ Q
or_of true b f g e = inl (f refl)
or_of false b f g e = inr (g e)

mutual
  pub term_occurs : (i : ℕ) (t : Term) → occurs_in_term i t ≡ true → OccursInTerm i t
  term_occurs i (var j) e = (Decides-eqb i j).0 e
  term_occurs i (app f ts) e = terms_occur i ts e

  pub terms_occur : (i : ℕ) (ts : Terms) → occurs_in_terms i ts ≡ true → OccursInTerms i ts
  terms_occur i nil e = absurd cc
  terms_occur i (cons t ts) e = or_of (occurs_in_term i t) (occurs_in_terms i ts) (term_occurs i t) (terms_occur i ts) e

pub formula_occurs : (i : ℕ) (a : Formula) → occurs i a ≡ true → Occurs i a
formula_occurs i truth e = absurd cc
formula_occurs i falsity e = absurd cc
formula_occurs i (pred p ts) e = terms_occur i ts e
formula_occurs i (equal s t u) e = or_of (occurs_in_term i t) (occurs_in_term i u) (term_occurs i t) (term_occurs i u) e
formula_occurs i (both a c) e = or_of (occurs i a) (occurs i c) (formula_occurs i a) (formula_occurs i c) e
formula_occurs i (either a c) e = or_of (occurs i a) (occurs i c) (formula_occurs i a) (formula_occurs i c) e
formula_occurs i (implies a c) e = or_of (occurs i a) (occurs i c) (formula_occurs i a) (formula_occurs i c) e
formula_occurs i (all s x a) e = formula_occurs (suc i) a e
formula_occurs i (ex s x a) e = formula_occurs (suc i) a e

pub below_all : (n : ℕ) (f : ℕ → Bool) → all_below n f ≡ true → (i : ℕ) → i < n → f i ≡ true
below_all zero f e i h = absurd (omega (arith, h))
below_all (suc n) f e i h = go (f n) refl (below_all n f) e (i == n) (Decides-eqb i n)
  where
    go : (r : Bool) → f n ≡ r → (all_below n f ≡ true → (j : ℕ) → j < n → f j ≡ true) → (r && all_below n f) ≡ true →
        (v : Bool) → Decides v (i ≡ n) → f i ≡ true
    go false p k e v d = absurd cc
    go true p k e true d = ap f (d.0 refl) ∙ p
    go true p k e false d = k e i (smaller (λ q. true≢false (sym (d.1 q))))
      where
        smaller : (i ≡ n → ⊥) → i < n
        smaller q = grind (arith, h)

-- ---- the other way

to_or : {P Q : Type 0} (a b : Bool) → (P → a ≡ true) → (Q → b ≡ true) → P ⊎ Q → (a || b) ≡ true
to_or true b f g h = refl
to_or false b f g (inl p) = absurd (true≢false (sym (f p)))
to_or false b f g (inr q) = g q

mutual
  pub occurs_term : (i : ℕ) (t : Term) → OccursInTerm i t → occurs_in_term i t ≡ true
  occurs_term i (var j) h = (Decides-eqb i j).1 h
  occurs_term i (app f ts) h = occur_terms i ts h

  pub occur_terms : (i : ℕ) (ts : Terms) → OccursInTerms i ts → occurs_in_terms i ts ≡ true
  occur_terms i nil h = absurd h
  occur_terms i (cons t ts) h = to_or (occurs_in_term i t) (occurs_in_terms i ts) (occurs_term i t) (occur_terms i ts) h

pub occurs_formula : (i : ℕ) (a : Formula) → Occurs i a → occurs i a ≡ true
occurs_formula i truth h = absurd h
occurs_formula i falsity h = absurd h
occurs_formula i (pred p ts) h = occur_terms i ts h
occurs_formula i (equal s t u) h = to_or (occurs_in_term i t) (occurs_in_term i u) (occurs_term i t) (occurs_term i u) h
occurs_formula i (both a c) h = to_or (occurs i a) (occurs i c) (occurs_formula i a) (occurs_formula i c) h
occurs_formula i (either a c) h = to_or (occurs i a) (occurs i c) (occurs_formula i a) (occurs_formula i c) h
occurs_formula i (implies a c) h = to_or (occurs i a) (occurs i c) (occurs_formula i a) (occurs_formula i c) h
occurs_formula i (all s x a) h = occurs_formula (suc i) a h
occurs_formula i (ex s x a) h = occurs_formula (suc i) a h
