-- The normal form of an application, from the normal forms of its arguments and of its definition's body.
use Rattle.std.proofs.Common.{◌≡◌, ℕ, zero, suc, ◌<◌, Bool, true, false, List, [], ◌∷◌, length, refl, sym, ap, subst, ◌∙◌, ◌⊎◌, inl, inr}
use Rattle.std.proofs.Common.{if◌then◌else◌, Some, None, arith}
use Rattle.fol_theory.specs.Syntax.{Term, app, Terms, nil, cons, Formula, pred, is_name}
use Rattle.fol_theory.specs.Substitution.{replace_term, replace}
use Rattle.env_theory.specs.Declarations.{Parameter, Declaration, sort, function, predicate, stated, term, formula, name_of, find, sorts_of}
use Rattle.env_theory.specs.Declarations.{bound}
use Rattle.env_theory.specs.Typing.{HasSort, HaveSorts, WellFormed, Declares, Environment, Put, Puts}
use Rattle.env_theory.specs.Normal.{many, argument, unfold_term, unfold_terms, unfold_predicate, expand_term, expand_terms, expand}
use Rattle.env_theory.specs.Normal.{normal_term, normal_terms, normal}
use Rattle.env_theory.proofs.SameNames.{one_name}
use Rattle.env_theory.proofs.Normals.{many_unfold, normal_term_replace, normal_replace}
use Rattle.env_theory.proofs.Sameness.{normal_cons}
use Rattle.env_theory.proofs.Sorts.{here, there, many_sorts, at_below}
use Rattle.env_theory.proofs.Weaker.{puts}
use Rattle.env_theory.proofs.Keeps.{not_found, normal_sort, normal_formed}
use Rattle.env_theory.proofs.Skips.{term_skips, formula_skips, agree, agree_term}

-- the definition that a name finds is in its place
pub put_found : (F E : List Declaration) → Puts F E → (n : List ℕ) (d : Declaration) → find E n ≡ Some d → Put F d
put_found F [] p n d h = absurd (impossible h)
  where
    impossible : None ≡ Some d → ⊥
    impossible h = cc
put_found F (e ∷ E) p n d h = go (is_name (name_of e) n) h (λ k. put_found F E p.1 n d k)
  where
    go : (q : Bool) → (if q then Some e else find E n) ≡ Some d → (find E n ≡ Some d → Put F d) → Put F d
    go true k f = let same : e ≡ d = cc in subst (Put F) same p.0
    go false k f = f k

many_expand : (d : Declaration) (ts : Terms) → many (expand_terms d ts) ≡ many ts
many_expand (sort n) ts = refl
many_expand (function n ss r) ts = refl
many_expand (predicate n ss) ts = refl
many_expand (stated n a) ts = refl
many_expand (term n ps r b) ts = many_unfold n b ts
many_expand (formula n ps b) ts = refl

pub many_normal : (E : List Declaration) (ts : Terms) → many (normal_terms E ts) ≡ many ts
many_normal [] ts = refl
many_normal (d ∷ E) ts = many_normal E (expand_terms d ts) ∙ many_expand d ts

-- the normal form of an argument
pub normal_argument : (E : List Declaration) (ts : Terms) (i : ℕ) → i < many ts
    → normal_term E (argument ts i) ≡ argument (normal_terms E ts) i
normal_argument E nil i h = absurd (none h)
  where
    none : i < zero → ⊥
    none h = omega (arith, h)
normal_argument E (cons t ts) i h = go (side i (many ts) h) (λ l. normal_argument E ts i l)
  where
    side : (i k : ℕ) → i < suc k → (i < k) ⊎ (i ≡ k)
    side i k h = grind arith

    list : argument (normal_terms E (cons t ts)) i ≡ argument (cons (normal_term E t) (normal_terms E ts)) i
    list = ap (λ us. argument us i) (normal_cons E t ts)

    go : (i < many ts) ⊎ (i ≡ many ts) → (i < many ts → normal_term E (argument ts i) ≡ argument (normal_terms E ts) i)
        → normal_term E (argument (cons t ts) i) ≡ argument (normal_terms E (cons t ts)) i
    go (inl l) f = ap (normal_term E) (there t ts i l) ∙ f l
        ∙ sym (there (normal_term E t) (normal_terms E ts) i (subst (λ k. i < k) (sym (many_normal E ts)) l)) ∙ sym list
    go (inr e) f = ap (normal_term E) (here t ts i e) ∙ sym (here (normal_term E t) (normal_terms E ts) i (e ∙ sym (many_normal E ts)))
        ∙ sym list

-- a body with arguments
body_term : (E : List Declaration) → Environment E → (ps : List Parameter) (r : List ℕ) (b : Term) → HasSort E (bound ps) b r
    → (us : Terms) → many us ≡ length (bound ps) →
    normal_term E (replace_term (argument us) b) ≡ replace_term (argument (normal_terms E us)) (normal_term E b)
body_term E x ps r b h us m = normal_term_replace E (argument us) b ∙
    agree_term E (bound ps) (λ i. normal_term E (argument us i)) (argument (normal_terms E us))
    (λ i s k. normal_argument E us i (subst (λ z. i < z) (sym m) (at_below (bound ps) i s k))) (normal_term E b) r
    (normal_sort E x (bound ps) b r h)

body_formula : (E : List Declaration) → Environment E → (ps : List Parameter) (b : Formula) → WellFormed E (bound ps) b → (us : Terms)
    → many us ≡ length (bound ps) →
    normal E (replace (argument us) b) ≡ replace (argument (normal_terms E us)) (normal E b)
body_formula E x ps b h us m = normal_replace E (argument us) b ∙
    agree E (bound ps) (λ i. normal_term E (argument us i)) (argument (normal_terms E us))
    (λ i s k. normal_argument E us i (subst (λ z. i < z) (sym m) (at_below (bound ps) i s k))) (normal E b)
    (normal_formed E x (bound ps) b h)

-- one declaration put in, at an application of another name
expand_other : (d : Declaration) (f : List ℕ) (ts : Terms) → is_name (name_of d) f ≡ false
    → expand_term d (app f ts) ≡ app f (expand_terms d ts)
expand_other (sort n) f ts e = refl
expand_other (function n ss r) f ts e = refl
expand_other (predicate n ss) f ts e = refl
expand_other (stated n a) f ts e = refl
expand_other (term n ps r b) f ts e = ap (λ q. if q then replace_term (argument (unfold_terms n b ts)) b else app f (unfold_terms n b ts)) e
expand_other (formula n ps b) f ts e = refl

expand_other_pred : (d : Declaration) (p : List ℕ) (ts : Terms) → is_name (name_of d) p ≡ false
    → expand d (pred p ts) ≡ pred p (expand_terms d ts)
expand_other_pred (sort n) p ts e = refl
expand_other_pred (function n ss r) p ts e = refl
expand_other_pred (predicate n ss) p ts e = refl
expand_other_pred (stated n a) p ts e = refl
expand_other_pred (term n ps r b) p ts e = refl
expand_other_pred (formula n ps b) p ts e = ap (λ q. if q then replace (argument ts) b else pred p ts) e

module _ (f n : List ℕ) (ps : List Parameter) (r : List ℕ) (b : Term) where
  module _ (E : List Declaration) (x : Environment E) (ts : Terms) (m : many ts ≡ length (bound ps)) where
    -- the newest declaration is the definition of the name
    own_term : (d : Declaration) → d ≡ term n ps r b → is_name (name_of d) f ≡ true → find E (name_of d) ≡ None → Declares E d →
        normal_term E (expand_term d (app f ts))
        ≡ replace_term (argument (normal_terms E (expand_terms d ts))) (normal_term E (expand_term d b))
    own_term d e = subst (λ d. is_name (name_of d) f ≡ true → find E (name_of d) ≡ None → Declares E d →
        normal_term E (expand_term d (app f ts))
        ≡ replace_term (argument (normal_terms E (expand_terms d ts))) (normal_term E (expand_term d b))) (sym e) put
      where
        us : Terms
        us = unfold_terms n b ts

        put : is_name n f ≡ true → find E n ≡ None → Declares E (term n ps r b)
            → normal_term E (unfold_term n b (app f ts)) ≡ replace_term (argument (normal_terms E us)) (normal_term E (unfold_term n b b))
        put q new k = ap (λ z. normal_term E (if z then replace_term (argument us) b else app f us)) q ∙
            body_term E x ps r b k.2 us (many_unfold n b ts ∙ m) ∙
            ap (λ z. replace_term (argument (normal_terms E us)) (normal_term E z))
            (sym (term_skips (term n ps r b) E new (bound ps) b r k.2))

  -- a function that is defined
  defined_in : (E : List Declaration) → Environment E → find E f ≡ Some (term n ps r b) → (ts : Terms) → many ts ≡ length (bound ps) →
      normal_term E (app f ts) ≡ replace_term (argument (normal_terms E ts)) (normal_term E b)
  defined_in [] x h ts m = cc
  defined_in (d ∷ E) x h ts m =
      go (is_name (name_of d) f) refl h (λ k. defined_in E x.2 k (expand_terms d ts) (many_expand d ts ∙ m))
    where
      go : (q : Bool) → is_name (name_of d) f ≡ q → (if q then Some d else find E f) ≡ Some (term n ps r b) →
          (find E f ≡ Some (term n ps r b)
          → normal_term E (app f (expand_terms d ts)) ≡ replace_term (argument (normal_terms E (expand_terms d ts))) (normal_term E b)) →
          normal_term E (expand_term d (app f ts))
          ≡ replace_term (argument (normal_terms E (expand_terms d ts))) (normal_term E (expand_term d b))
      go true q k g = let e : d ≡ term n ps r b = cc in own_term E x.2 ts m d e q x.0 x.1
      go false q k g = let p = put_found E E (puts E x.2) f (term n ps r b) k in
          ap (normal_term E) (expand_other d f ts q) ∙ g k
          ∙ ap (λ z. replace_term (argument (normal_terms E (expand_terms d ts))) (normal_term E z))
          (sym (term_skips d E x.0 (bound ps) b r p.1))

module _ (p n : List ℕ) (ps : List Parameter) (b : Formula) where
  module _ (E : List Declaration) (x : Environment E) (ts : Terms) (m : many ts ≡ length (bound ps)) where
    own_formula : (d : Declaration) → d ≡ formula n ps b → is_name (name_of d) p ≡ true → find E (name_of d) ≡ None → Declares E d →
        normal E (expand d (pred p ts)) ≡ replace (argument (normal_terms E (expand_terms d ts))) (normal E (expand d b))
    own_formula d e = subst (λ d. is_name (name_of d) p ≡ true → find E (name_of d) ≡ None → Declares E d →
        normal E (expand d (pred p ts)) ≡ replace (argument (normal_terms E (expand_terms d ts))) (normal E (expand d b))) (sym e) put
      where
        put : is_name n p ≡ true → find E n ≡ None → Declares E (formula n ps b)
            → normal E (unfold_predicate n b (pred p ts)) ≡ replace (argument (normal_terms E ts)) (normal E (unfold_predicate n b b))
        put q new k = ap (λ z. normal E (if z then replace (argument ts) b else pred p ts)) q ∙
            body_formula E x ps b k.1 ts m ∙
            ap (λ z. replace (argument (normal_terms E ts)) (normal E z)) (sym (formula_skips (formula n ps b) E new (bound ps) b k.1))

  -- a predicate that is defined
  defined_formula_in : (E : List Declaration) → Environment E → find E p ≡ Some (formula n ps b) → (ts : Terms) →
      many ts ≡ length (bound ps) → normal E (pred p ts) ≡ replace (argument (normal_terms E ts)) (normal E b)
  defined_formula_in [] x h ts m = cc
  defined_formula_in (d ∷ E) x h ts m =
      go (is_name (name_of d) p) refl h (λ k. defined_formula_in E x.2 k (expand_terms d ts) (many_expand d ts ∙ m))
    where
      go : (q : Bool) → is_name (name_of d) p ≡ q → (if q then Some d else find E p) ≡ Some (formula n ps b) →
          (find E p ≡ Some (formula n ps b)
          → normal E (pred p (expand_terms d ts)) ≡ replace (argument (normal_terms E (expand_terms d ts))) (normal E b)) →
          normal E (expand d (pred p ts)) ≡ replace (argument (normal_terms E (expand_terms d ts))) (normal E (expand d b))
      go true q k g = let e : d ≡ formula n ps b = cc in own_formula E x.2 ts m d e q x.0 x.1
      go false q k g = let y = put_found E E (puts E x.2) p (formula n ps b) k in
          ap (normal E) (expand_other_pred d p ts q) ∙ g k
          ∙ ap (λ z. replace (argument (normal_terms E (expand_terms d ts))) (normal E z)) (sym (formula_skips d E x.0 (bound ps) b y.1))

-- a name that isn't declared
normal_unknown : (E : List Declaration) (f : List ℕ) → find E f ≡ None → (ts : Terms) → normal_term E (app f ts) ≡ app f (normal_terms E ts)
normal_unknown [] f h ts = refl
normal_unknown (d ∷ E) f h ts =
    let parts = not_found d E f h in ap (normal_term E) (expand_other d f ts parts.0) ∙ normal_unknown E f parts.1 (expand_terms d ts)

normal_unknown_pred : (E : List Declaration) (p : List ℕ) → find E p ≡ None → (ts : Terms)
    → normal E (pred p ts) ≡ pred p (normal_terms E ts)
normal_unknown_pred [] p h ts = refl
normal_unknown_pred (d ∷ E) p h ts =
    let parts = not_found d E p h in ap (normal E) (expand_other_pred d p ts parts.0) ∙ normal_unknown_pred E p parts.1 (expand_terms d ts)

-- ---- the laws

module _ (E : List Declaration) (x : Environment E) (f n : List ℕ) (ps : List Parameter) (r : List ℕ) (b : Term)
    (e : find E f ≡ Some (term n ps r b)) where
  pub normal_defined : (V : List (List ℕ)) (ts : Terms) → HaveSorts E V ts (sorts_of ps) →
      normal_term E (app f ts) ≡ replace_term (argument (normal_terms E ts)) (normal_term E b)
  normal_defined V ts h = defined_in f n ps r b E x e ts (many_sorts E V ts ps h)

module _ (E : List Declaration) (x : Environment E) (p n : List ℕ) (ps : List Parameter) (b : Formula)
    (e : find E p ≡ Some (formula n ps b)) where
  pub normal_defined_formula : (V : List (List ℕ)) (ts : Terms) → HaveSorts E V ts (sorts_of ps) →
      normal E (pred p ts) ≡ replace (argument (normal_terms E ts)) (normal E b)
  normal_defined_formula V ts h = defined_formula_in p n ps b E x e ts (many_sorts E V ts ps h)

-- a function that is declared without a definition
pub normal_function : (E : List Declaration) → Environment E → (f n : List ℕ) (ss : List (List ℕ)) (r : List ℕ)
    → find E f ≡ Some (function n ss r) → (ts : Terms) → normal_term E (app f ts) ≡ app f (normal_terms E ts)
normal_function [] x f n ss r h ts = refl
normal_function (d ∷ E) x f n ss r h ts = go (is_name (name_of d) f) refl h (λ k. normal_function E x.2 f n ss r k (expand_terms d ts))
  where
    own : (d : Declaration) → d ≡ function n ss r → find E (name_of d) ≡ None → is_name (name_of d) f ≡ true
        → normal_term E (expand_term d (app f ts)) ≡ app f (normal_terms E (expand_terms d ts))
    own d e = subst (λ d. find E (name_of d) ≡ None → is_name (name_of d) f ≡ true
        → normal_term E (expand_term d (app f ts)) ≡ app f (normal_terms E (expand_terms d ts))) (sym e)
        (λ new q. normal_unknown E f (ap (find E) (sym (one_name n f q)) ∙ new) ts)

    go : (q : Bool) → is_name (name_of d) f ≡ q → (if q then Some d else find E f) ≡ Some (function n ss r)
        → (find E f ≡ Some (function n ss r) → normal_term E (app f (expand_terms d ts)) ≡ app f (normal_terms E (expand_terms d ts))) →
        normal_term E (expand_term d (app f ts)) ≡ app f (normal_terms E (expand_terms d ts))
    go true q k g = let e : d ≡ function n ss r = cc in own d e x.0 q
    go false q k g = ap (normal_term E) (expand_other d f ts q) ∙ g k

pub normal_predicate : (E : List Declaration) → Environment E → (p n : List ℕ) (ss : List (List ℕ)) → find E p ≡ Some (predicate n ss)
    → (ts : Terms) → normal E (pred p ts) ≡ pred p (normal_terms E ts)
normal_predicate [] x p n ss h ts = refl
normal_predicate (d ∷ E) x p n ss h ts = go (is_name (name_of d) p) refl h (λ k. normal_predicate E x.2 p n ss k (expand_terms d ts))
  where
    own : (d : Declaration) → d ≡ predicate n ss → find E (name_of d) ≡ None → is_name (name_of d) p ≡ true
        → normal E (expand d (pred p ts)) ≡ pred p (normal_terms E (expand_terms d ts))
    own d e = subst (λ d. find E (name_of d) ≡ None → is_name (name_of d) p ≡ true
        → normal E (expand d (pred p ts)) ≡ pred p (normal_terms E (expand_terms d ts))) (sym e)
        (λ new q. normal_unknown_pred E p (ap (find E) (sym (one_name n p q)) ∙ new) ts)

    go : (q : Bool) → is_name (name_of d) p ≡ q → (if q then Some d else find E p) ≡ Some (predicate n ss)
        → (find E p ≡ Some (predicate n ss) → normal E (pred p (expand_terms d ts)) ≡ pred p (normal_terms E (expand_terms d ts))) →
        normal E (expand d (pred p ts)) ≡ pred p (normal_terms E (expand_terms d ts))
    go true q k g = let e : d ≡ predicate n ss = cc in own d e x.0 q
    go false q k g = ap (normal E) (expand_other_pred d p ts q) ∙ g k
