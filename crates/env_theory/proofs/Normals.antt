-- Putting a definition in, and substitution.
use Rattle.std.proofs.Common.{◌≡◌, ℕ, zero, suc, ◌+◌, Bool, true, false, List, [], ◌∷◌, refl, sym, ap, ◌∙◌, if◌then◌else◌, ◌==◌, nat_lt}
use Rattle.std.proofs.Math.Path.{fun_ext}
use Rattle.fol_theory.specs.Syntax.{Term, var, app, Terms, nil, cons, Formula, truth, falsity, pred, equal, both, either, implies, all, ex}
use Rattle.fol_theory.specs.Syntax.{is_name}
use Rattle.fol_theory.specs.Substitution.{replace_term, replace_terms, replace, next, lift, raise, shift}
use Rattle.fol_theory.proofs.Laws.{term_twice, replace_twice}
use Rattle.env_theory.specs.Declarations.{Declaration, sort, function, predicate, stated, term, formula}
use Rattle.env_theory.specs.Normal.{many, argument, unfold_term, unfold_terms, unfold_function, unfold_predicate, expand_term, expand}
use Rattle.env_theory.specs.Normal.{normal_term, normal}

pub many_replace : (σ : ℕ → Term) (ts : Terms) → many (replace_terms σ ts) ≡ many ts
many_replace σ nil = refl
many_replace σ (cons t ts) = ap suc (many_replace σ ts)

pub many_unfold : (n : List ℕ) (b : Term) (ts : Terms) → many (unfold_terms n b ts) ≡ many ts
many_unfold n b nil = refl
many_unfold n b (cons t ts) = ap suc (many_unfold n b ts)

pub argument_replace : (σ : ℕ → Term) (ts : Terms) (i : ℕ) → argument (replace_terms σ ts) i ≡ replace_term σ (argument ts i)
argument_replace σ nil i = refl
argument_replace σ (cons t ts) i =
    ap (λ k. if i == k then replace_term σ t else argument (replace_terms σ ts) i) (many_replace σ ts)
    ∙ go (i == many ts) (argument_replace σ ts i)
  where
    go : (r : Bool) → argument (replace_terms σ ts) i ≡ replace_term σ (argument ts i)
        → (if r then replace_term σ t else argument (replace_terms σ ts) i) ≡ replace_term σ (if r then t else argument ts i)
    go true e = refl
    go false e = e

pub arguments_replace : (σ : ℕ → Term) (ts : Terms) → argument (replace_terms σ ts) ≡ (λ i. replace_term σ (argument ts i))
arguments_replace σ ts = fun_ext (argument_replace σ ts)

-- a substitution goes through the unfolding of a function, which then unfolds it in the terms that are put in
mutual
  pub unfold_term_replace : (n : List ℕ) (b : Term) (σ : ℕ → Term) (t : Term)
      → unfold_term n b (replace_term σ t) ≡ replace_term (λ i. unfold_term n b (σ i)) (unfold_term n b t)
  unfold_term_replace n b σ (var i) = refl
  unfold_term_replace n b σ (app f ts) = go (is_name n f) (unfold_terms_replace n b σ ts)
    where
      τ : ℕ → Term
      τ i = unfold_term n b (σ i)

      go : (r : Bool) → unfold_terms n b (replace_terms σ ts) ≡ replace_terms τ (unfold_terms n b ts) →
          (if r then replace_term (argument (unfold_terms n b (replace_terms σ ts))) b else app f (unfold_terms n b (replace_terms σ ts)))
          ≡ replace_term τ (if r then replace_term (argument (unfold_terms n b ts)) b else app f (unfold_terms n b ts))
      go true e = ap (λ us. replace_term (argument us) b) e ∙ ap (λ ρ. replace_term ρ b) (arguments_replace τ (unfold_terms n b ts))
          ∙ sym (term_twice τ (argument (unfold_terms n b ts)) b)
      go false e = ap (app f) e

  pub unfold_terms_replace : (n : List ℕ) (b : Term) (σ : ℕ → Term) (ts : Terms)
      → unfold_terms n b (replace_terms σ ts) ≡ replace_terms (λ i. unfold_term n b (σ i)) (unfold_terms n b ts)
  unfold_terms_replace n b σ nil = refl
  unfold_terms_replace n b σ (cons t ts) = λ i. cons (unfold_term_replace n b σ t i) (unfold_terms_replace n b σ ts i)

unfold_lift_at : (n : List ℕ) (b : Term) (σ : ℕ → Term) (i : ℕ) → unfold_term n b (lift σ i) ≡ lift (λ j. unfold_term n b (σ j)) i
unfold_lift_at n b σ zero = refl
unfold_lift_at n b σ (suc i) = unfold_term_replace n b next (σ i)

unfold_lift : (n : List ℕ) (b : Term) (σ : ℕ → Term) → (λ i. unfold_term n b (lift σ i)) ≡ lift (λ j. unfold_term n b (σ j))
unfold_lift n b σ = fun_ext (unfold_lift_at n b σ)

pub unfold_function_replace : (n : List ℕ) (b : Term) (σ : ℕ → Term) (a : Formula)
    → unfold_function n b (replace σ a) ≡ replace (λ i. unfold_term n b (σ i)) (unfold_function n b a)
unfold_function_replace n b σ truth = refl
unfold_function_replace n b σ falsity = refl
unfold_function_replace n b σ (pred p ts) = ap (pred p) (unfold_terms_replace n b σ ts)
unfold_function_replace n b σ (equal s t u) = λ i. equal s (unfold_term_replace n b σ t i) (unfold_term_replace n b σ u i)
unfold_function_replace n b σ (both a c) = λ i. both (unfold_function_replace n b σ a i) (unfold_function_replace n b σ c i)
unfold_function_replace n b σ (either a c) = λ i. either (unfold_function_replace n b σ a i) (unfold_function_replace n b σ c i)
unfold_function_replace n b σ (implies a c) = λ i. implies (unfold_function_replace n b σ a i) (unfold_function_replace n b σ c i)
unfold_function_replace n b σ (all s x a) =
    ap (all s x) (unfold_function_replace n b (lift σ) a ∙ ap (λ ρ. replace ρ (unfold_function n b a)) (unfold_lift n b σ))
unfold_function_replace n b σ (ex s x a) =
    ap (ex s x) (unfold_function_replace n b (lift σ) a ∙ ap (λ ρ. replace ρ (unfold_function n b a)) (unfold_lift n b σ))

pub unfold_predicate_replace : (n : List ℕ) (b : Formula) (σ : ℕ → Term) (a : Formula)
    → unfold_predicate n b (replace σ a) ≡ replace σ (unfold_predicate n b a)
unfold_predicate_replace n b σ truth = refl
unfold_predicate_replace n b σ falsity = refl
unfold_predicate_replace n b σ (pred p ts) = go (is_name n p)
  where
    go : (r : Bool) → (if r then replace (argument (replace_terms σ ts)) b else pred p (replace_terms σ ts))
        ≡ replace σ (if r then replace (argument ts) b else pred p ts)
    go true = ap (λ ρ. replace ρ b) (arguments_replace σ ts) ∙ sym (replace_twice σ (argument ts) b)
    go false = refl
unfold_predicate_replace n b σ (equal s t u) = refl
unfold_predicate_replace n b σ (both a c) = λ i. both (unfold_predicate_replace n b σ a i) (unfold_predicate_replace n b σ c i)
unfold_predicate_replace n b σ (either a c) = λ i. either (unfold_predicate_replace n b σ a i) (unfold_predicate_replace n b σ c i)
unfold_predicate_replace n b σ (implies a c) = λ i. implies (unfold_predicate_replace n b σ a i) (unfold_predicate_replace n b σ c i)
unfold_predicate_replace n b σ (all s x a) = ap (all s x) (unfold_predicate_replace n b (lift σ) a)
unfold_predicate_replace n b σ (ex s x a) = ap (ex s x) (unfold_predicate_replace n b (lift σ) a)

pub expand_term_replace : (d : Declaration) (σ : ℕ → Term) (t : Term)
    → expand_term d (replace_term σ t) ≡ replace_term (λ i. expand_term d (σ i)) (expand_term d t)
expand_term_replace (sort n) σ t = refl
expand_term_replace (function n ss s) σ t = refl
expand_term_replace (predicate n ss) σ t = refl
expand_term_replace (stated n a) σ t = refl
expand_term_replace (term n ps s b) σ t = unfold_term_replace n b σ t
expand_term_replace (formula n ps b) σ t = refl

pub expand_replace : (d : Declaration) (σ : ℕ → Term) (a : Formula)
    → expand d (replace σ a) ≡ replace (λ i. expand_term d (σ i)) (expand d a)
expand_replace (sort n) σ a = refl
expand_replace (function n ss s) σ a = refl
expand_replace (predicate n ss) σ a = refl
expand_replace (stated n b) σ a = refl
expand_replace (term n ps s b) σ a = unfold_function_replace n b σ a
expand_replace (formula n ps b) σ a = unfold_predicate_replace n b σ a

-- normal forms go through substitution
pub normal_term_replace : (E : List Declaration) (σ : ℕ → Term) (t : Term)
    → normal_term E (replace_term σ t) ≡ replace_term (λ i. normal_term E (σ i)) (normal_term E t)
normal_term_replace [] σ t = refl
normal_term_replace (d ∷ E) σ t =
    ap (normal_term E) (expand_term_replace d σ t) ∙ normal_term_replace E (λ i. expand_term d (σ i)) (expand_term d t)

pub normal_replace : (E : List Declaration) (σ : ℕ → Term) (a : Formula)
    → normal E (replace σ a) ≡ replace (λ i. normal_term E (σ i)) (normal E a)
normal_replace [] σ a = refl
normal_replace (d ∷ E) σ a = ap (normal E) (expand_replace d σ a) ∙ normal_replace E (λ i. expand_term d (σ i)) (expand d a)

-- ---- a variable, lists, and each connective

expand_var : (d : Declaration) (i : ℕ) → expand_term d (var i) ≡ var i
expand_var (sort n) i = refl
expand_var (function n ss s) i = refl
expand_var (predicate n ss) i = refl
expand_var (stated n a) i = refl
expand_var (term n ps s b) i = refl
expand_var (formula n ps b) i = refl

pub normal_var : (E : List Declaration) (i : ℕ) → normal_term E (var i) ≡ var i
normal_var [] i = refl
normal_var (d ∷ E) i = ap (normal_term E) (expand_var d i) ∙ normal_var E i

raise_fixed : (E : List Declaration) (from by i : ℕ) → normal_term E (raise from by i) ≡ raise from by i
raise_fixed E from by i = go (nat_lt i from)
  where
    go : (r : Bool) → normal_term E (if r then var i else var (i + by)) ≡ (if r then var i else var (i + by))
    go true = normal_var E i
    go false = normal_var E (i + by)

pub normal_shift : (E : List Declaration) (from by : ℕ) (a : Formula) → normal E (shift from by a) ≡ shift from by (normal E a)
normal_shift E from by a = normal_replace E (raise from by) a ∙ ap (λ ρ. replace ρ (normal E a)) (fun_ext (raise_fixed E from by))
