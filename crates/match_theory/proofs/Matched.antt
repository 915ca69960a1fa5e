-- The computed terms are an instance, and where there is an instance they are found.
use Rattle.std.proofs.Common.{
  ◌≡◌,
  ◌↔◌,
  ℕ,
  zero,
  suc,
  ◌-◌,
  Bool,
  true,
  false,
  if◌then◌else◌,
  nat_lt,
  List,
  [],
  ◌∷◌,
  length,
  Option,
  Some,
  None,
  refl,
  ap,
  subst,
  ◌∙◌,
  arith,
}
use Rattle.fol_theory.specs.Syntax.{
  Term,
  var,
  app,
  Terms,
  nil,
  cons,
  Formula,
  truth,
  falsity,
  pred,
  equal,
  both,
  either,
  implies,
  all,
  ex,
  is_name,
}
use Rattle.fol_theory.specs.Substitution.{replace_term, replace}
use Rattle.fol_theory.specs.Printing.{Alike}
use Rattle.match_theory.specs.Instances.{fill, IsInstance, IsTermInstance}
use Rattle.match_theory.specs.Matching.{
  and_then,
  same_term,
  lower,
  give,
  match_var,
  match_term,
  match_terms,
  match_formula,
  blank,
  chosen,
  matches,
  term_matches,
}
use Rattle.match_theory.proofs.Solved.{Lowers, Agrees, Fits, Solves, solved, solved_term}

-- ---- the terms that are chosen

pub lowers_fill : (ts : List Term) → Lowers (length ts) (fill ts)
lowers_fill [] i h = ap var (omega arith)
lowers_fill (t ∷ ts) zero h = absurd (omega (arith, h))
lowers_fill (t ∷ ts) (suc i) h = lowers_fill ts i (omega (arith, h)) ∙ ap var (omega arith)

pub lowers_filled : (n : ℕ) (ts : List Term) → length ts ≡ n → Lowers n (fill ts)
lowers_filled n ts e = subst (λ k. Lowers k (fill ts)) e (lowers_fill ts)

pub agrees_chosen : (m : List (Option Term)) → Agrees m (fill (chosen m))
agrees_chosen [] = tt
agrees_chosen (None ∷ m) = (tt, agrees_chosen m)
agrees_chosen (Some t ∷ m) = (refl, agrees_chosen m)

pub length_chosen : (m : List (Option Term)) → length (chosen m) ≡ length m
length_chosen [] = refl
length_chosen (None ∷ m) = ap suc (length_chosen m)
length_chosen (Some t ∷ m) = ap suc (length_chosen m)

pub fits_blank : (n : ℕ) (σ : ℕ → Term) → Fits n (blank n) σ
fits_blank zero σ = (refl, tt)
fits_blank (suc n) σ = let r = fits_blank n (λ i. σ (suc i)) in (omega (arith, r.0), (tt, r.1))

-- ---- nothing that is known is lost: the list keeps its length

abbrev pub Keeps : ℕ → Option (List (Option Term)) → Type 0
Keeps n None = Unit {0}
Keeps n (Some m) = length m ≡ n

keeps_then : (n : ℕ) (o : Option (List (Option Term))) (k : List (Option Term) → Option (List (Option Term))) → Keeps n o →
    ((m : List (Option Term)) → length m ≡ n → Keeps n (k m)) → Keeps n (and_then o k)
keeps_then n None k h f = tt
keeps_then n (Some m) k h f = f m h

keeps_if : (n : ℕ) (r : Bool) (o : Option (List (Option Term))) → Keeps n o → Keeps n (if r then o else None)
keeps_if n true o h = h
keeps_if n false o h = tt

keeps_term : (n : ℕ) (o : Option Term) (k : Term → Option (List (Option Term))) → ((t : Term) → Keeps n (k t)) → Keeps n (and_then o k)
keeps_term n None k f = tt
keeps_term n (Some t) k f = f t

keeps_longer : (n : ℕ) (x : Option Term) (o : Option (List (Option Term))) → Keeps n o → Keeps (suc n) (and_then o (λ k. Some (x ∷ k)))
keeps_longer n x None h = tt
keeps_longer n x (Some k) h = omega (arith, h)

give_keeps : (n j : ℕ) (t : Term) (m : List (Option Term)) → length m ≡ n → Keeps n (give j t m)
give_keeps n j t [] h = tt
give_keeps n zero t (None ∷ m) h = h
give_keeps n zero t (Some u ∷ m) h = keeps_if n (same_term u t) (Some (Some u ∷ m)) h
give_keeps zero (suc j) t (x ∷ m) h = absurd (omega (arith, h))
give_keeps (suc n) (suc j) t (x ∷ m) h = keeps_longer n x (give j t m) (give_keeps n j t m (omega (arith, h)))

var_keeps : (n b i : ℕ) (u : Term) (m : List (Option Term)) → length m ≡ n → Keeps n (match_var n b i u m)
var_keeps n b i u m h = go (nat_lt i b) (nat_lt (i - b) n)
  where
    go : (r s : Bool) → Keeps n (if r then (if same_term (var i) u then Some m else None)
        else (if s then and_then (lower b u) (λ t. give (i - b) t m) else (if same_term (var (i - n)) u then Some m else None)))
    go true s = keeps_if n (same_term (var i) u) (Some m) h
    go false true = keeps_term n (lower b u) (λ t. give (i - b) t m) (λ t. give_keeps n (i - b) t m h)
    go false false = keeps_if n (same_term (var (i - n)) u) (Some m) h

mutual
  term_keeps : (n b : ℕ) (t u : Term) (m : List (Option Term)) → length m ≡ n → Keeps n (match_term n b t u m)
  term_keeps n b (var i) u m h = var_keeps n b i u m h
  term_keeps n b (app f ts) (app g us) m h = keeps_if n (is_name f g) (match_terms n b ts us m) (terms_keep n b ts us m h)
  term_keeps n b (app f ts) u m h = tt

  terms_keep : (n b : ℕ) (ts us : Terms) (m : List (Option Term)) → length m ≡ n → Keeps n (match_terms n b ts us m)
  terms_keep n b nil nil m h = h
  terms_keep n b (cons t ts) (cons u us) m h = keeps_then n (match_term n b t u m) (λ k. match_terms n b ts us k)
      (term_keeps n b t u m h) (λ k g. terms_keep n b ts us k g)
  terms_keep n b ts us m h = tt

formula_keeps : (n b : ℕ) (a c : Formula) (m : List (Option Term)) → length m ≡ n → Keeps n (match_formula n b a c m)
formula_keeps n b truth truth m h = h
formula_keeps n b falsity falsity m h = h
formula_keeps n b (pred p ts) (pred q us) m h = keeps_if n (is_name p q) (match_terms n b ts us m) (terms_keep n b ts us m h)
formula_keeps n b (equal s t u) (equal r v w) m h =
    keeps_if n (is_name s r) (and_then (match_term n b t v m) (λ k. match_term n b u w k)) (keeps_then n (match_term n b t v m)
    (λ k. match_term n b u w k) (term_keeps n b t v m h) (λ k g. term_keeps n b u w k g))
formula_keeps n b (both a c) (both x y) m h = keeps_then n (match_formula n b a x m) (λ k. match_formula n b c y k)
    (formula_keeps n b a x m h) (λ k g. formula_keeps n b c y k g)
formula_keeps n b (either a c) (either x y) m h = keeps_then n (match_formula n b a x m) (λ k. match_formula n b c y k)
    (formula_keeps n b a x m h) (λ k g. formula_keeps n b c y k g)
formula_keeps n b (implies a c) (implies x y) m h = keeps_then n (match_formula n b a x m) (λ k. match_formula n b c y k)
    (formula_keeps n b a x m h) (λ k g. formula_keeps n b c y k g)
formula_keeps n b (all s x a) (all r y c) m h = keeps_if n (is_name s r) (match_formula n (suc b) a c m) (formula_keeps n (suc b) a c m h)
formula_keeps n b (ex s x a) (ex r y c) m h = keeps_if n (is_name s r) (match_formula n (suc b) a c m) (formula_keeps n (suc b) a c m h)
formula_keeps n b a c m h = tt

length_blank : (n : ℕ) → length (blank n) ≡ n
length_blank n = (fits_blank n var).0

-- ---- the two laws

some_injective : {A : Type 0} (x y : A) → Some x ≡ Some y → x ≡ y
some_injective x y e = cc

-- what is computed is an instance
found : {P : (ℕ → Term) → Type 0} (n : ℕ) (o : Option (List (Option Term))) (ts : List Term) → Keeps n o →
    ((σ : ℕ → Term) → Lowers n σ → (Fits n (blank n) σ × P σ) ↔ Solves n o σ) → and_then o (λ m. Some (chosen m)) ≡ Some ts →
    (length ts ≡ n) × P (fill ts)
found n None ts k f e = absurd cc
found {P} n (Some m) ts k f e =
    let l : length (chosen m) ≡ n = length_chosen m ∙ k in
    subst (λ us. (length us ≡ n) × P (fill us)) (some_injective (chosen m) ts e) (
      l,
      ((f (fill (chosen m)) (lowers_filled n (chosen m) l)).1 (k, agrees_chosen m)).1,
    )

-- where there is an instance, one is computed
finds : {P : (ℕ → Term) → Type 0} (n : ℕ) (o : Option (List (Option Term))) (ts : List Term) →
    ((σ : ℕ → Term) → Lowers n σ → (Fits n (blank n) σ × P σ) ↔ Solves n o σ) → length ts ≡ n → P (fill ts) → (us : List Term) ×
    (and_then o (λ m. Some (chosen m)) ≡ Some us)
finds n None ts f l p = absurd ((f (fill ts) (lowers_filled n ts l)).0 (fits_blank n (fill ts), p))
finds n (Some m) ts f l p = (chosen m, refl)

pub matches_sound : (n : ℕ) (pattern target : Formula) (ts : List Term) → matches n pattern target ≡ Some ts →
    IsInstance n pattern target ts
matches_sound n a c ts e = found {P = λ σ. Alike (replace σ a) c} n (match_formula n 0 a c (blank n)) ts
    (formula_keeps n 0 a c (blank n) (length_blank n)) (λ σ l. solved n 0 a c (blank n) σ l) e

pub matches_complete : (n : ℕ) (pattern target : Formula) (ts : List Term) → IsInstance n pattern target ts → (us : List Term) ×
    (matches n pattern target ≡ Some us)
matches_complete n a c ts h = finds {P = λ σ. Alike (replace σ a) c} n (match_formula n 0 a c (blank n)) ts
    (λ σ l. solved n 0 a c (blank n) σ l) h.0 h.1

pub term_matches_sound : (n : ℕ) (pattern target : Term) (ts : List Term) → term_matches n pattern target ≡ Some ts →
    IsTermInstance n pattern target ts
term_matches_sound n t u ts e = found {P = λ σ. replace_term σ t ≡ u} n (match_term n 0 t u (blank n)) ts
    (term_keeps n 0 t u (blank n) (length_blank n)) (λ σ l. solved_term n 0 t u (blank n) σ l) e

pub term_matches_complete : (n : ℕ) (pattern target : Term) (ts : List Term) → IsTermInstance n pattern target ts →
    (us : List Term) × (term_matches n pattern target ≡ Some us)
term_matches_complete n t u ts h = finds {P = λ σ. replace_term σ t ≡ u} n (match_term n 0 t u (blank n)) ts
    (λ σ l. solved_term n 0 t u (blank n) σ l) h.0 h.1
