-- Head forms: substitution goes through, a definition's head form is that of its body, and no defined predicate is left at the head.
use Rattle.std.proofs.Common.{◌≡◌, ℕ, Bool, true, false, List, [], ◌∷◌, refl, sym, ap, subst, ◌∙◌, if◌then◌else◌, Some, None}
use Rattle.fol_theory.specs.Syntax.{Term, Terms, Formula, truth, falsity, pred, equal, both, either, implies, all, ex, is_name}
use Rattle.fol_theory.specs.Substitution.{replace_terms, replace}
use Rattle.fol_theory.proofs.Laws.{replace_twice}
use Rattle.env_theory.specs.Declarations.{Parameter, Declaration, sort, function, predicate, stated, term, formula, name_of, find, bound}
use Rattle.env_theory.specs.Typing.{WellFormed, IsPredicate, Declares, Environment}
use Rattle.env_theory.specs.Normal.{argument}
use Rattle.env_theory.specs.Machine.{formula_body}
use Rattle.env_theory.specs.Heads.{expand_head, head_form, IsNoPredicate}
use Rattle.env_theory.proofs.SameNames.{one_name, own_name}
use Rattle.env_theory.proofs.Normals.{arguments_replace}
use Rattle.env_theory.proofs.Keeps.{not_found}
use Rattle.env_theory.proofs.Skips.{differs}
use Rattle.env_theory.proofs.Weaker.{puts}
use Rattle.env_theory.proofs.Evaluates.{put_found}

-- ---- a substitution

expand_head_replace : (d : Declaration) (σ : ℕ → Term) (a : Formula) → expand_head d (replace σ a) ≡ replace σ (expand_head d a)
expand_head_replace (formula n ps b) σ (pred p ts) = go (is_name n p)
  where
    go : (r : Bool) → (if r then replace (argument (replace_terms σ ts)) b else pred p (replace_terms σ ts))
        ≡ replace σ (if r then replace (argument ts) b else pred p ts)
    go true = ap (λ ρ. replace ρ b) (arguments_replace σ ts) ∙ sym (replace_twice σ (argument ts) b)
    go false = refl
expand_head_replace (formula n ps b) σ truth = refl
expand_head_replace (formula n ps b) σ falsity = refl
expand_head_replace (formula n ps b) σ (equal s t u) = refl
expand_head_replace (formula n ps b) σ (both x y) = refl
expand_head_replace (formula n ps b) σ (either x y) = refl
expand_head_replace (formula n ps b) σ (implies x y) = refl
expand_head_replace (formula n ps b) σ (all s v x) = refl
expand_head_replace (formula n ps b) σ (ex s v x) = refl
expand_head_replace (sort n) σ a = refl
expand_head_replace (function n ss s) σ a = refl
expand_head_replace (predicate n ss) σ a = refl
expand_head_replace (stated n c) σ a = refl
expand_head_replace (term n ps s b) σ a = refl

-- head forms go through substitution
pub head_replace : (E : List Declaration) (σ : ℕ → Term) (a : Formula) → head_form E (replace σ a) ≡ replace σ (head_form E a)
head_replace [] σ a = refl
head_replace (d ∷ E) σ a = ap (head_form E) (expand_head_replace d σ a) ∙ head_replace E σ (expand_head d a)

-- ---- other formulas

expand_head_other : (d : Declaration) (p : List ℕ) (ts : Terms) → is_name (name_of d) p ≡ false → expand_head d (pred p ts) ≡ pred p ts
expand_head_other (sort n) p ts e = refl
expand_head_other (function n ss s) p ts e = refl
expand_head_other (predicate n ss) p ts e = refl
expand_head_other (stated n c) p ts e = refl
expand_head_other (term n ps s b) p ts e = refl
expand_head_other (formula n ps b) p ts e = ap (λ r. if r then replace (argument ts) b else pred p ts) e

-- a declaration with a new name leaves the head of what is well formed
pub head_skips : (d : Declaration) (E : List Declaration) → find E (name_of d) ≡ None → (V : List (List ℕ)) (a : Formula)
    → WellFormed E V a → expand_head d a ≡ a
head_skips d E new V (pred p ts) h = expand_head_other d p ts (differs E (name_of d) p new IsPredicate (λ k. k) h.0)
head_skips (formula n ps b) E new V truth h = refl
head_skips (formula n ps b) E new V falsity h = refl
head_skips (formula n ps b) E new V (equal s t u) h = refl
head_skips (formula n ps b) E new V (both x y) h = refl
head_skips (formula n ps b) E new V (either x y) h = refl
head_skips (formula n ps b) E new V (implies x y) h = refl
head_skips (formula n ps b) E new V (all s v x) h = refl
head_skips (formula n ps b) E new V (ex s v x) h = refl
head_skips (sort n) E new V a h = refl
head_skips (function n ss s) E new V a h = refl
head_skips (predicate n ss) E new V a h = refl
head_skips (stated n c) E new V a h = refl
head_skips (term n ps s b) E new V a h = refl

head_unknown : (E : List Declaration) (p : List ℕ) → find E p ≡ None → (ts : Terms) → head_form E (pred p ts) ≡ pred p ts
head_unknown [] p h ts = refl
head_unknown (d ∷ E) p h ts =
    let parts = not_found d E p h in ap (head_form E) (expand_head_other d p ts parts.0) ∙ head_unknown E p parts.1 ts

expand_head_stays : (d : Declaration) (a : Formula) → IsNoPredicate a → expand_head d a ≡ a
expand_head_stays (formula n ps b) truth h = refl
expand_head_stays (formula n ps b) falsity h = refl
expand_head_stays (formula n ps b) (pred p ts) h = absurd h
expand_head_stays (formula n ps b) (equal s t u) h = refl
expand_head_stays (formula n ps b) (both x y) h = refl
expand_head_stays (formula n ps b) (either x y) h = refl
expand_head_stays (formula n ps b) (implies x y) h = refl
expand_head_stays (formula n ps b) (all s v x) h = refl
expand_head_stays (formula n ps b) (ex s v x) h = refl
expand_head_stays (sort n) a h = refl
expand_head_stays (function n ss s) a h = refl
expand_head_stays (predicate n ss) a h = refl
expand_head_stays (stated n c) a h = refl
expand_head_stays (term n ps s b) a h = refl

-- a formula that isn't a predicate is its own head form
pub head_stays : (E : List Declaration) (a : Formula) → IsNoPredicate a → head_form E a ≡ a
head_stays [] a h = refl
head_stays (d ∷ E) a h = ap (head_form E) (expand_head_stays d a h) ∙ head_stays E a h

-- ---- a predicate

module _ (E : List Declaration) (p n : List ℕ) (ps : List Parameter) (b : Formula) (ts : Terms) where
  own_head : (d : Declaration) → d ≡ formula n ps b → is_name (name_of d) p ≡ true → find E (name_of d) ≡ None → Declares E d →
      head_form E (expand_head d (pred p ts)) ≡ replace (argument ts) (head_form E (expand_head d b))
  own_head d e = subst (λ d. is_name (name_of d) p ≡ true → find E (name_of d) ≡ None → Declares E d →
      head_form E (expand_head d (pred p ts)) ≡ replace (argument ts) (head_form E (expand_head d b))) (sym e) put
    where
      put : is_name n p ≡ true → find E n ≡ None → Declares E (formula n ps b) →
          head_form E (expand_head (formula n ps b) (pred p ts)) ≡ replace (argument ts) (head_form E (expand_head (formula n ps b) b))
      put q new k =
          ap (λ r. head_form E (if r then replace (argument ts) b else pred p ts)) q
          ∙ head_replace E (argument ts) b
          ∙ ap (λ z. replace (argument ts) (head_form E z)) (sym (head_skips (formula n ps b) E new (bound ps) b k.1))

-- a defined predicate has the head form of its body, with the arguments put in once
pub head_defined : (E : List Declaration) → Environment E → (p n : List ℕ) (ps : List Parameter) (b : Formula)
    → find E p ≡ Some (formula n ps b) →
    (ts : Terms) → head_form E (pred p ts) ≡ replace (argument ts) (head_form E b)
head_defined [] x p n ps b h ts = cc
head_defined (d ∷ E) x p n ps b h ts = go (is_name (name_of d) p) refl h (λ k. head_defined E x.2 p n ps b k ts)
  where
    go : (q : Bool) → is_name (name_of d) p ≡ q → (if q then Some d else find E p) ≡ Some (formula n ps b) →
        (find E p ≡ Some (formula n ps b) → head_form E (pred p ts) ≡ replace (argument ts) (head_form E b)) →
        head_form E (expand_head d (pred p ts)) ≡ replace (argument ts) (head_form E (expand_head d b))
    go true q k f = let e : d ≡ formula n ps b = cc in own_head E p n ps b ts d e q x.0 x.1
    go false q k f =
        let y = put_found E E (puts E x.2) p (formula n ps b) k in
        ap (head_form E) (expand_head_other d p ts q) ∙ f k
        ∙ ap (λ z. replace (argument ts) (head_form E z)) (sym (head_skips d E x.0 (bound ps) b y.1))

rigid_newest : (d : Declaration) (p : List ℕ) (ts : Terms) → formula_body (Some d) ≡ None → expand_head d (pred p ts) ≡ pred p ts
rigid_newest (sort n) p ts h = refl
rigid_newest (function n ss s) p ts h = refl
rigid_newest (predicate n ss) p ts h = refl
rigid_newest (stated n c) p ts h = refl
rigid_newest (term n ps s b) p ts h = refl
rigid_newest (formula n ps b) p ts h = absurd (impossible h)
  where
    impossible : Some b ≡ None → ⊥
    impossible h = cc

-- a predicate that isn't defined is its own head form
pub head_rigid : (E : List Declaration) → Environment E → (p : List ℕ) (ts : Terms) → formula_body (find E p) ≡ None
    → head_form E (pred p ts) ≡ pred p ts
head_rigid [] x p ts h = refl
head_rigid (d ∷ E) x p ts h = go (is_name (name_of d) p) refl h (λ k. head_rigid E x.2 p ts k)
  where
    go : (q : Bool) → is_name (name_of d) p ≡ q → formula_body (if q then Some d else find E p) ≡ None →
        (formula_body (find E p) ≡ None → head_form E (pred p ts) ≡ pred p ts) → head_form E (expand_head d (pred p ts)) ≡ pred p ts
    go true q k f = ap (head_form E) (rigid_newest d p ts k) ∙ head_unknown E p (ap (find E) (sym (one_name (name_of d) p q)) ∙ x.0) ts
    go false q k f = ap (head_form E) (expand_head_other d p ts q) ∙ f k

-- ---- no defined predicate is left at the head

-- the predicate n isn't at the head
abbrev Avoids : List ℕ → Formula → Type 0
Avoids n a = (ts : Terms) → a ≡ pred n ts → ⊥

head_name : (p n : List ℕ) (ts us : Terms) → pred p ts ≡ pred n us → p ≡ n
head_name p n ts us h = cc

-- nor in a body that is well formed over an environment without it
body_avoids : (E : List Declaration) (V : List (List ℕ)) (n : List ℕ) → find E n ≡ None → (b : Formula) → WellFormed E V b → (σ : ℕ → Term)
    → Avoids n (replace σ b)
body_avoids E V n new truth h σ ts e = cc
body_avoids E V n new falsity h σ ts e = cc
body_avoids E V n new (pred p us) h σ ts e = subst IsPredicate (ap (find E) (head_name p n (replace_terms σ us) ts e) ∙ new) h.0
body_avoids E V n new (equal s t u) h σ ts e = cc
body_avoids E V n new (both x y) h σ ts e = cc
body_avoids E V n new (either x y) h σ ts e = cc
body_avoids E V n new (implies x y) h σ ts e = cc
body_avoids E V n new (all s v x) h σ ts e = cc
body_avoids E V n new (ex s v x) h σ ts e = cc

expand_avoids : (d : Declaration) (E : List Declaration) → Declares E d → (n : List ℕ) → find E n ≡ None → (a : Formula) → Avoids n a
    → Avoids n (expand_head d a)
expand_avoids (formula m ps b) E k n new (pred p us) h = go (is_name m p)
  where
    go : (r : Bool) → Avoids n (if r then replace (argument us) b else pred p us)
    go true = body_avoids E (bound ps) n new b k.1 (argument us)
    go false = h
expand_avoids d E k n new a h = h

heads_avoid : (E : List Declaration) → Environment E → (n : List ℕ) → find E n ≡ None → (a : Formula) → Avoids n a
    → Avoids n (head_form E a)
heads_avoid [] x n new a h = h
heads_avoid (d ∷ E) x n new a h =
    let older = (not_found d E n new).1 in
    heads_avoid E x.2 n older (expand_head d a) (expand_avoids d E x.1 n older a h)

-- a definition put in at the head isn't there any more
expanded_avoids : (E : List Declaration) (n : List ℕ) (ps : List Parameter) (b : Formula) → find E n ≡ None → Declares E (formula n ps b)
    → (a : Formula) → Avoids n (expand_head (formula n ps b) a)
expanded_avoids E n ps b new k (pred p us) = go (is_name n p) refl
  where
    go : (r : Bool) → is_name n p ≡ r → Avoids n (if r then replace (argument us) b else pred p us)
    go true q = body_avoids E (bound ps) n new b k.1 (argument us)
    go false q = λ ts e. absurd (differ (sym (own_name n) ∙ subst (λ z. is_name n z ≡ false) (head_name p n us ts e) q))
      where
        differ : true ≡ false → ⊥
        differ h = cc
expanded_avoids E n ps b new k truth = λ ts e. cc
expanded_avoids E n ps b new k falsity = λ ts e. cc
expanded_avoids E n ps b new k (equal s t u) = λ ts e. cc
expanded_avoids E n ps b new k (both x y) = λ ts e. cc
expanded_avoids E n ps b new k (either x y) = λ ts e. cc
expanded_avoids E n ps b new k (implies x y) = λ ts e. cc
expanded_avoids E n ps b new k (all s v x) = λ ts e. cc
expanded_avoids E n ps b new k (ex s v x) = λ ts e. cc

undefined_newest : (d : Declaration) (E : List Declaration) → Environment (d ∷ E) → (a : Formula) (ts : Terms)
    → head_form E (expand_head d a) ≡ pred (name_of d) ts → formula_body (Some d) ≡ None
undefined_newest (sort n) E x a ts e = refl
undefined_newest (function n ss s) E x a ts e = refl
undefined_newest (predicate n ss) E x a ts e = refl
undefined_newest (stated n c) E x a ts e = refl
undefined_newest (term n ps s b) E x a ts e = refl
undefined_newest (formula n ps b) E x a ts e =
    absurd (heads_avoid E x.2 n x.0 (expand_head (formula n ps b) a) (expanded_avoids E n ps b x.0 x.1 a) ts e)

-- the predicate at the head of a head form isn't defined
pub head_undefined : (E : List Declaration) → Environment E → (a : Formula) (p : List ℕ) (ts : Terms) → head_form E a ≡ pred p ts
    → formula_body (find E p) ≡ None
head_undefined [] x a p ts e = refl
head_undefined (d ∷ E) x a p ts e = go (is_name (name_of d) p) refl (head_undefined E x.2 (expand_head d a) p ts e)
  where
    go : (q : Bool) → is_name (name_of d) p ≡ q → formula_body (find E p) ≡ None → formula_body (if q then Some d else find E p) ≡ None
    go true q f = undefined_newest d E x a ts (e ∙ ap (λ z. pred z ts) (sym (one_name (name_of d) p q)))
    go false q f = f
