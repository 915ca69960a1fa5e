-- The laws of simultaneous substitution.
use Rattle.std.proofs.Common.{◌≡◌, ℕ, zero, suc, List, [], ◌∷◌, map, refl, sym, ap, ◌∙◌}
use Rattle.std.proofs.Math.Path.{fun_ext}
use Rattle.fol_theory.specs.Syntax.{Term, var, app, Terms, nil, cons, Formula, truth, falsity, pred, equal, both, either, implies, all, ex}
use Rattle.fol_theory.specs.Syntax.{terms}
use Rattle.fol_theory.specs.Substitution.{replace_term, replace_terms, replace, next, lift, first, under, instantiate}

-- ---- one substitution after another

mutual
  pub term_twice : (τ σ : ℕ → Term) (t : Term) → replace_term τ (replace_term σ t) ≡ replace_term (λ i. replace_term τ (σ i)) t
  term_twice τ σ (var i) = refl
  term_twice τ σ (app f ts) = ap (app f) (terms_twice τ σ ts)

  pub terms_twice : (τ σ : ℕ → Term) (ts : Terms) → replace_terms τ (replace_terms σ ts) ≡ replace_terms (λ i. replace_term τ (σ i)) ts
  terms_twice τ σ nil = refl
  terms_twice τ σ (cons t ts) = λ i. cons (term_twice τ σ t i) (terms_twice τ σ ts i)

lift_twice_at : (τ σ : ℕ → Term) (i : ℕ) → replace_term (lift τ) (lift σ i) ≡ lift (λ j. replace_term τ (σ j)) i
lift_twice_at τ σ zero = refl
lift_twice_at τ σ (suc i) = term_twice (lift τ) next (σ i) ∙ sym (term_twice next τ (σ i))

-- under a binder
pub lift_twice : (τ σ : ℕ → Term) → (λ i. replace_term (lift τ) (lift σ i)) ≡ lift (λ j. replace_term τ (σ j))
lift_twice τ σ = fun_ext (lift_twice_at τ σ)

pub replace_twice : (τ σ : ℕ → Term) (a : Formula) → replace τ (replace σ a) ≡ replace (λ i. replace_term τ (σ i)) a
replace_twice τ σ truth = refl
replace_twice τ σ falsity = refl
replace_twice τ σ (pred p ts) = ap (pred p) (terms_twice τ σ ts)
replace_twice τ σ (equal s t u) = λ i. equal s (term_twice τ σ t i) (term_twice τ σ u i)
replace_twice τ σ (both a b) = λ i. both (replace_twice τ σ a i) (replace_twice τ σ b i)
replace_twice τ σ (either a b) = λ i. either (replace_twice τ σ a i) (replace_twice τ σ b i)
replace_twice τ σ (implies a b) = λ i. implies (replace_twice τ σ a i) (replace_twice τ σ b i)
replace_twice τ σ (all s x a) = ap (all s x) (replace_twice (lift τ) (lift σ) a ∙ ap (λ ρ. replace ρ a) (lift_twice τ σ))
replace_twice τ σ (ex s x a) = ap (ex s x) (replace_twice (lift τ) (lift σ) a ∙ ap (λ ρ. replace ρ a) (lift_twice τ σ))

-- two pairs of substitutions that agree at each variable agree
pub by_points : (τ σ τ' σ' : ℕ → Term) → ((i : ℕ) → replace_term τ (σ i) ≡ replace_term τ' (σ' i)) → (a : Formula)
    → replace τ (replace σ a) ≡ replace τ' (replace σ' a)
by_points τ σ τ' σ' h a = replace_twice τ σ a ∙ ap (λ ρ. replace ρ a) (fun_ext h) ∙ sym (replace_twice τ' σ' a)

pub term_by_points : (τ σ τ' σ' : ℕ → Term) → ((i : ℕ) → replace_term τ (σ i) ≡ replace_term τ' (σ' i)) → (t : Term)
    → replace_term τ (replace_term σ t) ≡ replace_term τ' (replace_term σ' t)
term_by_points τ σ τ' σ' h t = term_twice τ σ t ∙ ap (λ ρ. replace_term ρ t) (fun_ext h) ∙ sym (term_twice τ' σ' t)

-- ---- the identity

mutual
  pub term_identity : (t : Term) → replace_term var t ≡ t
  term_identity (var i) = refl
  term_identity (app f ts) = ap (app f) (terms_identity ts)

  pub terms_identity : (ts : Terms) → replace_terms var ts ≡ ts
  terms_identity nil = refl
  terms_identity (cons t ts) = λ i. cons (term_identity t i) (terms_identity ts i)

lift_identity_at : (i : ℕ) → lift var i ≡ var i
lift_identity_at zero = refl
lift_identity_at (suc i) = refl

pub lift_identity : lift var ≡ var
lift_identity = fun_ext lift_identity_at

pub replace_identity : (a : Formula) → replace var a ≡ a
replace_identity truth = refl
replace_identity falsity = refl
replace_identity (pred p ts) = ap (pred p) (terms_identity ts)
replace_identity (equal s t u) = λ i. equal s (term_identity t i) (term_identity u i)
replace_identity (both a b) = λ i. both (replace_identity a i) (replace_identity b i)
replace_identity (either a b) = λ i. either (replace_identity a i) (replace_identity b i)
replace_identity (implies a b) = λ i. implies (replace_identity a i) (replace_identity b i)
replace_identity (all s x a) = ap (all s x) (ap (λ ρ. replace ρ a) lift_identity ∙ replace_identity a)
replace_identity (ex s x a) = ap (ex s x) (ap (λ ρ. replace ρ a) lift_identity ∙ replace_identity a)

-- two substitutions that undo one another at each variable
pub undo : (τ σ : ℕ → Term) → ((i : ℕ) → replace_term τ (σ i) ≡ var i) → (a : Formula) → replace τ (replace σ a) ≡ a
undo τ σ h a = replace_twice τ σ a ∙ ap (λ ρ. replace ρ a) (fun_ext h) ∙ replace_identity a

pub term_undo : (τ σ : ℕ → Term) → ((i : ℕ) → replace_term τ (σ i) ≡ var i) → (t : Term) → replace_term τ (replace_term σ t) ≡ t
term_undo τ σ h t = term_twice τ σ t ∙ ap (λ ρ. replace_term ρ t) (fun_ext h) ∙ term_identity t

-- ---- a bound variable

pub replace_under : (σ : ℕ → Term) (a : Formula) → replace (lift σ) (under a) ≡ under (replace σ a)
replace_under σ a = replace_twice (lift σ) next a ∙ sym (replace_twice next σ a)

instantiate_at : (σ : ℕ → Term) (t : Term) (i : ℕ) → replace_term σ (first t i) ≡ replace_term (first (replace_term σ t)) (lift σ i)
instantiate_at σ t zero = refl
instantiate_at σ t (suc i) = sym (term_twice (first (replace_term σ t)) next (σ i) ∙ term_identity (σ i))

pub replace_instantiate : (σ : ℕ → Term) (a : Formula) (t : Term)
    → replace σ (instantiate a t) ≡ instantiate (replace (lift σ) a) (replace_term σ t)
replace_instantiate σ a t = by_points σ (first t) (first (replace_term σ t)) (lift σ) (instantiate_at σ t) a

pub instantiate_under : (a : Formula) (t : Term) → instantiate (under a) t ≡ a
instantiate_under a t = undo (first t) next (λ i. refl) a

-- ---- a list of terms

pub replace_each : (σ : ℕ → Term) (ts : List Term) → replace_terms σ (terms ts) ≡ terms (map (replace_term σ) ts)
replace_each σ [] = refl
replace_each σ (t ∷ ts) = ap (cons (replace_term σ t)) (replace_each σ ts)

abbrev listed : Terms → List Term
listed nil = []
listed (cons t ts) = t ∷ listed ts

listed_terms : (ts : List Term) → listed (terms ts) ≡ ts
listed_terms [] = refl
listed_terms (t ∷ ts) = ap (λ us. t ∷ us) (listed_terms ts)

pub terms_injective : (ts us : List Term) → terms ts ≡ terms us → ts ≡ us
terms_injective ts us e = sym (listed_terms ts) ∙ ap listed e ∙ listed_terms us
