-- A declaration that isn't named changes nothing, and substitutions that agree where there are variables.
use Rattle.std.proofs.Common.{◌≡◌, ℕ, zero, suc, Bool, true, false, List, [], ◌∷◌, ◌++◌, refl, sym, ap, subst, ◌∙◌, if◌then◌else◌, Option}
use Rattle.std.proofs.Common.{None}
use Rattle.fol_theory.specs.Syntax.{Term, var, app, Terms, nil, cons, Formula, truth, falsity, pred, equal, both, either, implies, all, ex}
use Rattle.fol_theory.specs.Syntax.{is_name}
use Rattle.fol_theory.specs.Substitution.{replace_term, replace_terms, replace, next, lift}
use Rattle.fol_theory.proofs.Laws.{replace_identity}
use Rattle.env_theory.specs.Declarations.{Declaration, sort, function, predicate, stated, term, formula, name_of, find}
use Rattle.env_theory.specs.Typing.{At, HasSort, HaveSorts, WellFormed, takes, Gives, IsPredicate, Environment, Extends}
use Rattle.env_theory.specs.Normal.{argument, unfold_term, unfold_terms, unfold_function, unfold_predicate, expand_term, expand}
use Rattle.env_theory.specs.Normal.{normal_term, normal}
use Rattle.env_theory.proofs.SameNames.{one_name}
use Rattle.env_theory.proofs.Weaker.{longer, has_sort, well_formed}

-- a name that is found is another than one that isn't
pub differs : (E : List Declaration) (n f : List ℕ) → find E n ≡ None → (P : Option Declaration → Type 0) → (P None → ⊥) → P (find E f)
    → is_name n f ≡ false
differs E n f new P refused h = go (is_name n f) refl
  where
    go : (q : Bool) → is_name n f ≡ q → q ≡ false
    go true e = absurd (refused (subst P (ap (find E) (sym (one_name n f e)) ∙ new) h))
    go false e = refl

module _ (E : List Declaration) (n : List ℕ) (new : find E n ≡ None) where
  mutual
    pub unfold_term_skips : (b : Term) (V : List (List ℕ)) (t : Term) (s : List ℕ) → HasSort E V t s → unfold_term n b t ≡ t
    unfold_term_skips b V (var i) s h = refl
    unfold_term_skips b V (app f ts) s h =
        ap (λ q. if q then replace_term (argument (unfold_terms n b ts)) b else app f (unfold_terms n b ts))
        (differs E n f new (λ o. Gives o s) (λ k. k) h.0) ∙ ap (app f) (unfold_terms_skips b V ts (takes (find E f)) h.1)

    pub unfold_terms_skips : (b : Term) (V : List (List ℕ)) (ts : Terms) (ss : List (List ℕ)) → HaveSorts E V ts ss
        → unfold_terms n b ts ≡ ts
    unfold_terms_skips b V nil ss h = refl
    unfold_terms_skips b V (cons t ts) [] h = absurd h
    unfold_terms_skips b V (cons t ts) (s ∷ ss) h = λ i. cons (unfold_term_skips b V t s h.0 i) (unfold_terms_skips b V ts ss h.1 i)

  unfold_function_skips : (b : Term) (V : List (List ℕ)) (a : Formula) → WellFormed E V a → unfold_function n b a ≡ a
  unfold_function_skips b V truth h = refl
  unfold_function_skips b V falsity h = refl
  unfold_function_skips b V (pred p ts) h = ap (pred p) (unfold_terms_skips b V ts (takes (find E p)) h.1)
  unfold_function_skips b V (equal s t u) h = λ i. equal s (unfold_term_skips b V t s h.1 i) (unfold_term_skips b V u s h.2 i)
  unfold_function_skips b V (both a c) h = λ i. both (unfold_function_skips b V a h.0 i) (unfold_function_skips b V c h.1 i)
  unfold_function_skips b V (either a c) h = λ i. either (unfold_function_skips b V a h.0 i) (unfold_function_skips b V c h.1 i)
  unfold_function_skips b V (implies a c) h = λ i. implies (unfold_function_skips b V a h.0 i) (unfold_function_skips b V c h.1 i)
  unfold_function_skips b V (all s x a) h = ap (all s x) (unfold_function_skips b (s ∷ V) a h.1)
  unfold_function_skips b V (ex s x a) h = ap (ex s x) (unfold_function_skips b (s ∷ V) a h.1)

  unfold_predicate_skips : (b : Formula) (V : List (List ℕ)) (a : Formula) → WellFormed E V a → unfold_predicate n b a ≡ a
  unfold_predicate_skips b V truth h = refl
  unfold_predicate_skips b V falsity h = refl
  unfold_predicate_skips b V (pred p ts) h =
      ap (λ q. if q then replace (argument ts) b else pred p ts) (differs E n p new IsPredicate (λ k. k) h.0)
  unfold_predicate_skips b V (equal s t u) h = refl
  unfold_predicate_skips b V (both a c) h = λ i. both (unfold_predicate_skips b V a h.0 i) (unfold_predicate_skips b V c h.1 i)
  unfold_predicate_skips b V (either a c) h = λ i. either (unfold_predicate_skips b V a h.0 i) (unfold_predicate_skips b V c h.1 i)
  unfold_predicate_skips b V (implies a c) h = λ i. implies (unfold_predicate_skips b V a h.0 i) (unfold_predicate_skips b V c h.1 i)
  unfold_predicate_skips b V (all s x a) h = ap (all s x) (unfold_predicate_skips b (s ∷ V) a h.1)
  unfold_predicate_skips b V (ex s x a) h = ap (ex s x) (unfold_predicate_skips b (s ∷ V) a h.1)

pub term_skips : (d : Declaration) (E : List Declaration) → find E (name_of d) ≡ None → (V : List (List ℕ)) (t : Term) (s : List ℕ)
    → HasSort E V t s → expand_term d t ≡ t
term_skips (sort n) E new V t s h = refl
term_skips (function n ss r) E new V t s h = refl
term_skips (predicate n ss) E new V t s h = refl
term_skips (stated n a) E new V t s h = refl
term_skips (term n ps r b) E new V t s h = unfold_term_skips E n new b V t s h
term_skips (formula n ps b) E new V t s h = refl

pub formula_skips : (d : Declaration) (E : List Declaration) → find E (name_of d) ≡ None → (V : List (List ℕ)) (a : Formula)
    → WellFormed E V a → expand d a ≡ a
formula_skips (sort n) E new V a h = refl
formula_skips (function n ss r) E new V a h = refl
formula_skips (predicate n ss) E new V a h = refl
formula_skips (stated n c) E new V a h = refl
formula_skips (term n ps r b) E new V a h = unfold_function_skips E n new b V a h
formula_skips (formula n ps b) E new V a h = unfold_predicate_skips E n new b V a h

-- an environment that grows
pub grown : (G E : List Declaration) → Environment (G ++ E) → Extends E (G ++ E)
grown [] E x n d h = h
grown (g ∷ G) E x n d h = longer g (G ++ E) x.0 n d (grown G E x.2 n d h)

-- newer declarations change no normal form
pub normal_term_grown : (G E : List Declaration) → Environment (G ++ E) → (V : List (List ℕ)) (t : Term) (s : List ℕ) → HasSort E V t s
    → normal_term (G ++ E) t ≡ normal_term E t
normal_term_grown [] E x V t s h = refl
normal_term_grown (g ∷ G) E x V t s h =
    ap (normal_term (G ++ E)) (term_skips g (G ++ E) x.0 V t s (has_sort E (G ++ E) (grown G E x.2) V t s h))
    ∙ normal_term_grown G E x.2 V t s h

pub normal_grown : (G E : List Declaration) → Environment (G ++ E) → (V : List (List ℕ)) (a : Formula) → WellFormed E V a
    → normal (G ++ E) a ≡ normal E a
normal_grown [] E x V a h = refl
normal_grown (g ∷ G) E x V a h =
    ap (normal (G ++ E)) (formula_skips g (G ++ E) x.0 V a (well_formed E (G ++ E) (grown G E x.2) V a h)) ∙ normal_grown G E x.2 V a h

-- ---- substitutions that agree

abbrev pub Agree : List (List ℕ) → (ℕ → Term) → (ℕ → Term) → Type 0
Agree V σ τ = (i : ℕ) (s : List ℕ) → At V i s → σ i ≡ τ i

mutual
  pub agree_term : (E : List Declaration) (V : List (List ℕ)) (σ τ : ℕ → Term) → Agree V σ τ → (t : Term) (s : List ℕ) → HasSort E V t s
      → replace_term σ t ≡ replace_term τ t
  agree_term E V σ τ g (var i) s h = g i s h
  agree_term E V σ τ g (app f ts) s h = ap (app f) (agree_terms E V σ τ g ts (takes (find E f)) h.1)

  pub agree_terms : (E : List Declaration) (V : List (List ℕ)) (σ τ : ℕ → Term) → Agree V σ τ → (ts : Terms) (ss : List (List ℕ))
      → HaveSorts E V ts ss → replace_terms σ ts ≡ replace_terms τ ts
  agree_terms E V σ τ g nil ss h = refl
  agree_terms E V σ τ g (cons t ts) [] h = absurd h
  agree_terms E V σ τ g (cons t ts) (s ∷ ss) h = λ i. cons (agree_term E V σ τ g t s h.0 i) (agree_terms E V σ τ g ts ss h.1 i)

agree_lift : (V : List (List ℕ)) (σ τ : ℕ → Term) (r : List ℕ) → Agree V σ τ → Agree (r ∷ V) (lift σ) (lift τ)
agree_lift V σ τ r g zero s h = refl
agree_lift V σ τ r g (suc i) s h = ap (replace_term next) (g i s h)

pub agree : (E : List Declaration) (V : List (List ℕ)) (σ τ : ℕ → Term) → Agree V σ τ → (a : Formula) → WellFormed E V a
    → replace σ a ≡ replace τ a
agree E V σ τ g truth h = refl
agree E V σ τ g falsity h = refl
agree E V σ τ g (pred p ts) h = ap (pred p) (agree_terms E V σ τ g ts (takes (find E p)) h.1)
agree E V σ τ g (equal s t u) h = λ i. equal s (agree_term E V σ τ g t s h.1 i) (agree_term E V σ τ g u s h.2 i)
agree E V σ τ g (both a b) h = λ i. both (agree E V σ τ g a h.0 i) (agree E V σ τ g b h.1 i)
agree E V σ τ g (either a b) h = λ i. either (agree E V σ τ g a h.0 i) (agree E V σ τ g b h.1 i)
agree E V σ τ g (implies a b) h = λ i. implies (agree E V σ τ g a h.0 i) (agree E V σ τ g b h.1 i)
agree E V σ τ g (all s x a) h = ap (all s x) (agree E (s ∷ V) (lift σ) (lift τ) (agree_lift V σ τ s g) a h.1)
agree E V σ τ g (ex s x a) h = ap (ex s x) (agree E (s ∷ V) (lift σ) (lift τ) (agree_lift V σ τ s g) a h.1)

-- a formula without variables is left as it is
pub closed : (E : List Declaration) (σ : ℕ → Term) (a : Formula) → WellFormed E [] a → replace σ a ≡ a
closed E σ a h = agree E [] σ var (λ i s k. absurd k) a h ∙ replace_identity a
