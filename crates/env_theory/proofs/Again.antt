-- Definitions put in again: what was put in before changes no normal form.
use Rattle.std.proofs.Common.{◌≡◌, ℕ, Bool, true, false, List, [], ◌∷◌, refl, sym, ap, subst, ◌∙◌, inl, inr, if◌then◌else◌, ◌==◌, None}
use Rattle.std.proofs.Math.Path.{fun_ext}
use Rattle.fol_theory.specs.Syntax.{Term, var, app, Terms, nil, cons, Formula, truth, falsity, pred, equal, both, either, implies, all, ex}
use Rattle.fol_theory.specs.Syntax.{is_name}
use Rattle.fol_theory.specs.Substitution.{replace_term, replace}
use Rattle.env_theory.specs.Declarations.{Declaration, sort, function, predicate, stated, term, formula, name_of, find, bound}
use Rattle.env_theory.specs.Typing.{Declares, Environment}
use Rattle.env_theory.specs.Normal.{many, argument, unfold_term, unfold_terms, unfold_function, unfold_predicate, expand_term, expand}
use Rattle.env_theory.specs.Normal.{normal}
use Rattle.env_theory.specs.Heads.{expand_head, head_form}
use Rattle.env_theory.specs.Orders.{Member, AreNamed, InOrder}
use Rattle.env_theory.proofs.SameNames.{one_name}
use Rattle.env_theory.proofs.Normals.{many_unfold, unfold_term_replace, unfold_function_replace, unfold_predicate_replace}
use Rattle.env_theory.proofs.Keeps.{not_found}
use Rattle.env_theory.proofs.Members.{member_other}
use Rattle.env_theory.proofs.Skips.{term_skips, formula_skips}

-- ---- a definition put in behind arguments; its name isn't the empty one of the term beyond the last argument

module _ (n : List ℕ) (b : Term) (named : n ≡ [] → ⊥) where
  argument_unfold : (ts : Terms) (i : ℕ) → unfold_term n b (argument ts i) ≡ argument (unfold_terms n b ts) i
  argument_unfold nil i = go (is_name n []) refl
    where
      go : (r : Bool) → is_name n [] ≡ r → (if r then replace_term (argument nil) b else app [] nil) ≡ app [] nil
      go true e = absurd (named (one_name n [] e))
      go false e = refl
  argument_unfold (cons t ts) i =
      go (i == many ts) (argument_unfold ts i)
      ∙ sym (ap (λ k. if i == k then unfold_term n b t else argument (unfold_terms n b ts) i) (many_unfold n b ts))
    where
      go : (r : Bool) → unfold_term n b (argument ts i) ≡ argument (unfold_terms n b ts) i →
          unfold_term n b (if r then t else argument ts i) ≡ (if r then unfold_term n b t else argument (unfold_terms n b ts) i)
      go true e = refl
      go false e = e

  arguments_unfold : (ts : Terms) → (λ i. unfold_term n b (argument ts i)) ≡ argument (unfold_terms n b ts)
  arguments_unfold ts = fun_ext (argument_unfold ts)

  term_behind : (us : Terms) (t : Term)
      → unfold_term n b (replace_term (argument us) t) ≡ replace_term (argument (unfold_terms n b us)) (unfold_term n b t)
  term_behind us t = unfold_term_replace n b (argument us) t ∙ ap (λ ρ. replace_term ρ (unfold_term n b t)) (arguments_unfold us)

  function_behind : (us : Terms) (a : Formula)
      → unfold_function n b (replace (argument us) a) ≡ replace (argument (unfold_terms n b us)) (unfold_function n b a)
  function_behind us a = unfold_function_replace n b (argument us) a ∙ ap (λ ρ. replace ρ (unfold_function n b a)) (arguments_unfold us)

-- ---- at a name that is tested

term_here : (n : List ℕ) (b : Term) (f : List ℕ) (ts : Terms) → is_name n f ≡ true
    → unfold_term n b (app f ts) ≡ replace_term (argument (unfold_terms n b ts)) b
term_here n b f ts e = ap (λ r. if r then replace_term (argument (unfold_terms n b ts)) b else app f (unfold_terms n b ts)) e

term_other : (n : List ℕ) (b : Term) (f : List ℕ) (ts : Terms) → is_name n f ≡ false
    → unfold_term n b (app f ts) ≡ app f (unfold_terms n b ts)
term_other n b f ts e = ap (λ r. if r then replace_term (argument (unfold_terms n b ts)) b else app f (unfold_terms n b ts)) e

formula_here : (n : List ℕ) (b : Formula) (p : List ℕ) (ts : Terms) → is_name n p ≡ true
    → unfold_predicate n b (pred p ts) ≡ replace (argument ts) b
formula_here n b p ts e = ap (λ r. if r then replace (argument ts) b else pred p ts) e

formula_other : (n : List ℕ) (b : Formula) (p : List ℕ) (ts : Terms) → is_name n p ≡ false → unfold_predicate n b (pred p ts) ≡ pred p ts
formula_other n b p ts e = ap (λ r. if r then replace (argument ts) b else pred p ts) e

other_name : (f m n : List ℕ) → (m ≡ n → ⊥) → is_name m f ≡ true → is_name n f ≡ false
other_name f m n apart e = go (is_name n f) refl
  where
    go : (r : Bool) → is_name n f ≡ r → r ≡ false
    go false q = refl
    go true q = absurd (apart (one_name m f e ∙ sym (one_name n f q)))

-- ---- a definition put in twice; its body doesn't name it

module _ (n : List ℕ) (b : Term) (named : n ≡ [] → ⊥) (left : unfold_term n b b ≡ b) where
  mutual
    term_twice : (t : Term) → unfold_term n b (unfold_term n b t) ≡ unfold_term n b t
    term_twice (var i) = refl
    term_twice (app f ts) = go (is_name n f) refl (terms_twice ts)
      where
        us : Terms
        us = unfold_terms n b ts

        go : (r : Bool) → is_name n f ≡ r → unfold_terms n b us ≡ us →
            unfold_term n b (if r then replace_term (argument us) b else app f us) ≡ (if r then replace_term (argument us) b else app f us)
        go true p e = term_behind n b named us b ∙ (λ i. replace_term (argument (e i)) (left i))
        go false p e = term_other n b f us p ∙ ap (app f) e

    terms_twice : (ts : Terms) → unfold_terms n b (unfold_terms n b ts) ≡ unfold_terms n b ts
    terms_twice nil = refl
    terms_twice (cons t ts) = λ i. cons (term_twice t i) (terms_twice ts i)

  function_twice : (a : Formula) → unfold_function n b (unfold_function n b a) ≡ unfold_function n b a
  function_twice truth = refl
  function_twice falsity = refl
  function_twice (pred p ts) = ap (pred p) (terms_twice ts)
  function_twice (equal s t u) = λ i. equal s (term_twice t i) (term_twice u i)
  function_twice (both a c) = λ i. both (function_twice a i) (function_twice c i)
  function_twice (either a c) = λ i. either (function_twice a i) (function_twice c i)
  function_twice (implies a c) = λ i. implies (function_twice a i) (function_twice c i)
  function_twice (all s x a) = ap (all s x) (function_twice a)
  function_twice (ex s x a) = ap (ex s x) (function_twice a)

  -- with the definition of a predicate put in between
  function_again : (m : List ℕ) (c : Formula) (a : Formula)
      → unfold_function n b (unfold_predicate m c (unfold_function n b a)) ≡ unfold_function n b (unfold_predicate m c a)
  function_again m c truth = refl
  function_again m c falsity = refl
  function_again m c (pred p ts) = go (is_name m p)
    where
      us : Terms
      us = unfold_terms n b ts

      go : (r : Bool) → unfold_function n b (if r then replace (argument us) c else pred p us)
          ≡ unfold_function n b (if r then replace (argument ts) c else pred p ts)
      go true = function_behind n b named us c ∙ ap (λ z. replace (argument z) (unfold_function n b c)) (terms_twice ts)
          ∙ sym (function_behind n b named ts c)
      go false = ap (pred p) (terms_twice ts)
  function_again m c (equal s t u) = λ i. equal s (term_twice t i) (term_twice u i)
  function_again m c (both x y) = λ i. both (function_again m c x i) (function_again m c y i)
  function_again m c (either x y) = λ i. either (function_again m c x i) (function_again m c y i)
  function_again m c (implies x y) = λ i. implies (function_again m c x i) (function_again m c y i)
  function_again m c (all s v x) = ap (all s v) (function_again m c x)
  function_again m c (ex s v x) = ap (ex s v) (function_again m c x)

module _ (n : List ℕ) (b : Formula) (left : unfold_predicate n b b ≡ b) where
  predicate_twice : (a : Formula) → unfold_predicate n b (unfold_predicate n b a) ≡ unfold_predicate n b a
  predicate_twice truth = refl
  predicate_twice falsity = refl
  predicate_twice (pred p ts) = go (is_name n p) refl
    where
      go : (r : Bool) → is_name n p ≡ r
          → unfold_predicate n b (if r then replace (argument ts) b else pred p ts) ≡ (if r then replace (argument ts) b else pred p ts)
      go true e = unfold_predicate_replace n b (argument ts) b ∙ ap (replace (argument ts)) left
      go false e = formula_other n b p ts e
  predicate_twice (equal s t u) = refl
  predicate_twice (both a c) = λ i. both (predicate_twice a i) (predicate_twice c i)
  predicate_twice (either a c) = λ i. either (predicate_twice a i) (predicate_twice c i)
  predicate_twice (implies a c) = λ i. implies (predicate_twice a i) (predicate_twice c i)
  predicate_twice (all s x a) = ap (all s x) (predicate_twice a)
  predicate_twice (ex s x a) = ap (ex s x) (predicate_twice a)

-- ---- the older definition m put in before a newer one n and after it; the newer leaves the body of the older alone

module _ (m n : List ℕ) (b c : Term) (older : m ≡ [] → ⊥) (newer : n ≡ [] → ⊥) (apart : m ≡ n → ⊥) (own : unfold_term m b b ≡ b)
    (left : unfold_term n c b ≡ b) where
  mutual
    term_again : (t : Term) → unfold_term m b (unfold_term n c (unfold_term m b t)) ≡ unfold_term m b (unfold_term n c t)
    term_again (var i) = refl
    term_again (app f ts) = go (is_name m f) (is_name n f) refl refl (terms_again ts)
      where
        us : Terms
        us = unfold_terms m b ts

        go : (r s : Bool) → is_name m f ≡ r → is_name n f ≡ s
            → unfold_terms m b (unfold_terms n c us) ≡ unfold_terms m b (unfold_terms n c ts) →
            unfold_term m b (unfold_term n c (unfold_term m b (app f ts))) ≡ unfold_term m b (unfold_term n c (app f ts))
        go true s p q e =
            ap (λ z. unfold_term m b (unfold_term n c z)) (term_here m b f ts p)
            ∙ ap (unfold_term m b) (term_behind n c newer us b ∙ ap (replace_term (argument (unfold_terms n c us))) left)
            ∙ term_behind m b older (unfold_terms n c us) b
            ∙ (λ i. replace_term (argument (e i)) (own i))
            ∙ sym (ap (unfold_term m b) (term_other n c f ts (other_name f m n apart p)) ∙ term_here m b f (unfold_terms n c ts) p)
        go false true p q e =
            ap (λ z. unfold_term m b (unfold_term n c z)) (term_other m b f ts p)
            ∙ ap (unfold_term m b) (term_here n c f us q)
            ∙ term_behind m b older (unfold_terms n c us) c
            ∙ (λ i. replace_term (argument (e i)) (unfold_term m b c))
            ∙ sym (ap (unfold_term m b) (term_here n c f ts q) ∙ term_behind m b older (unfold_terms n c ts) c)
        go false false p q e =
            ap (λ z. unfold_term m b (unfold_term n c z)) (term_other m b f ts p)
            ∙ ap (unfold_term m b) (term_other n c f us q)
            ∙ term_other m b f (unfold_terms n c us) p
            ∙ (λ i. app f (e i))
            ∙ sym (ap (unfold_term m b) (term_other n c f ts q) ∙ term_other m b f (unfold_terms n c ts) p)

    terms_again : (ts : Terms) → unfold_terms m b (unfold_terms n c (unfold_terms m b ts)) ≡ unfold_terms m b (unfold_terms n c ts)
    terms_again nil = refl
    terms_again (cons t ts) = λ i. cons (term_again t i) (terms_again ts i)

  functions_again : (a : Formula)
      → unfold_function m b (unfold_function n c (unfold_function m b a)) ≡ unfold_function m b (unfold_function n c a)
  functions_again truth = refl
  functions_again falsity = refl
  functions_again (pred p ts) = ap (pred p) (terms_again ts)
  functions_again (equal s t u) = λ i. equal s (term_again t i) (term_again u i)
  functions_again (both x y) = λ i. both (functions_again x i) (functions_again y i)
  functions_again (either x y) = λ i. either (functions_again x i) (functions_again y i)
  functions_again (implies x y) = λ i. implies (functions_again x i) (functions_again y i)
  functions_again (all s v x) = ap (all s v) (functions_again x)
  functions_again (ex s v x) = ap (ex s v) (functions_again x)

-- the older is a predicate, the newer a function
module _ (m n : List ℕ) (b : Formula) (c : Term) (newer : n ≡ [] → ⊥) (own : unfold_predicate m b b ≡ b)
    (left : unfold_function n c b ≡ b) where
  predicate_again : (a : Formula)
      → unfold_predicate m b (unfold_function n c (unfold_predicate m b a)) ≡ unfold_predicate m b (unfold_function n c a)
  predicate_again truth = refl
  predicate_again falsity = refl
  predicate_again (pred p ts) = go (is_name m p) refl
    where
      us : Terms
      us = unfold_terms n c ts

      go : (r : Bool) → is_name m p ≡ r
          → unfold_predicate m b (unfold_function n c (unfold_predicate m b (pred p ts)))
          ≡ unfold_predicate m b (unfold_function n c (pred p ts))
      go true q =
          ap (λ z. unfold_predicate m b (unfold_function n c z)) (formula_here m b p ts q)
          ∙ ap (unfold_predicate m b) (function_behind n c newer ts b ∙ ap (replace (argument us)) left)
          ∙ unfold_predicate_replace m b (argument us) b
          ∙ ap (replace (argument us)) own
          ∙ sym (formula_here m b p us q)
      go false q = ap (λ z. unfold_predicate m b (unfold_function n c z)) (formula_other m b p ts q)
  predicate_again (equal s t u) = refl
  predicate_again (both x y) = λ i. both (predicate_again x i) (predicate_again y i)
  predicate_again (either x y) = λ i. either (predicate_again x i) (predicate_again y i)
  predicate_again (implies x y) = λ i. implies (predicate_again x i) (predicate_again y i)
  predicate_again (all s v x) = ap (all s v) (predicate_again x)
  predicate_again (ex s v x) = ap (ex s v) (predicate_again x)

-- both are predicates
module _ (m n : List ℕ) (b c : Formula) (apart : m ≡ n → ⊥) (own : unfold_predicate m b b ≡ b) (left : unfold_predicate n c b ≡ b) where
  predicates_again : (a : Formula)
      → unfold_predicate m b (unfold_predicate n c (unfold_predicate m b a)) ≡ unfold_predicate m b (unfold_predicate n c a)
  predicates_again truth = refl
  predicates_again falsity = refl
  predicates_again (pred p ts) = go (is_name m p) refl
    where
      go : (r : Bool) → is_name m p ≡ r
          → unfold_predicate m b (unfold_predicate n c (unfold_predicate m b (pred p ts)))
          ≡ unfold_predicate m b (unfold_predicate n c (pred p ts))
      go true q =
          ap (λ z. unfold_predicate m b (unfold_predicate n c z)) (formula_here m b p ts q)
          ∙ ap (unfold_predicate m b) (unfold_predicate_replace n c (argument ts) b ∙ ap (replace (argument ts)) left)
          ∙ unfold_predicate_replace m b (argument ts) b
          ∙ ap (replace (argument ts)) own
          ∙ sym (ap (unfold_predicate m b) (formula_other n c p ts (other_name p m n apart q)) ∙ formula_here m b p ts q)
      go false q = ap (λ z. unfold_predicate m b (unfold_predicate n c z)) (formula_other m b p ts q)
  predicates_again (equal s t u) = refl
  predicates_again (both x y) = λ i. both (predicates_again x i) (predicates_again y i)
  predicates_again (either x y) = λ i. either (predicates_again x i) (predicates_again y i)
  predicates_again (implies x y) = λ i. implies (predicates_again x i) (predicates_again y i)
  predicates_again (all s v x) = ap (all s v) (predicates_again x)
  predicates_again (ex s v x) = ap (ex s v) (predicates_again x)

-- ---- declarations

-- e put in leaves the body of d alone
abbrev pub Leaves : Declaration → Declaration → Type 0
Leaves e (sort n) = Unit {0}
Leaves e (function n ss s) = Unit {0}
Leaves e (predicate n ss) = Unit {0}
Leaves e (stated n a) = Unit {0}
Leaves e (term n ps s b) = expand_term e b ≡ b
Leaves e (formula n ps b) = expand e b ≡ b

leaves : (E : List Declaration) (e d : Declaration) → find E (name_of e) ≡ None → Declares E d → Leaves e d
leaves E e (sort n) new k = tt
leaves E e (function n ss s) new k = tt
leaves E e (predicate n ss) new k = tt
leaves E e (stated n a) new k = tt
leaves E e (term n ps s b) new k = term_skips e E new (bound ps) b s k.2
leaves E e (formula n ps b) new k = formula_skips e E new (bound ps) b k.1

-- a definition leaves its own body alone, and the bodies of the older
own_leaves : (E : List Declaration) → Environment E → (d : Declaration) → Member d E → Leaves d d
own_leaves [] x d m = absurd m
own_leaves (c ∷ E) x d (inl m) = subst (λ z. Leaves z z) (sym m) (leaves E c c x.0 x.1)
own_leaves (c ∷ E) x d (inr m) = own_leaves E x.2 d m

newer_leaves : (E : List Declaration) → Environment E → (e d : Declaration) → find E (name_of e) ≡ None → Member d E → Leaves e d
newer_leaves [] x e d new m = absurd m
newer_leaves (c ∷ E) x e d new (inl m) = subst (Leaves e) (sym m) (leaves E e c (not_found c E (name_of e) new).1 x.1)
newer_leaves (c ∷ E) x e d new (inr m) = newer_leaves E x.2 e d (not_found c E (name_of e) new).1 m

expand_twice : (d : Declaration) → (name_of d ≡ [] → ⊥) → Leaves d d → (a : Formula) → expand d (expand d a) ≡ expand d a
expand_twice (sort n) h k a = refl
expand_twice (function n ss s) h k a = refl
expand_twice (predicate n ss) h k a = refl
expand_twice (stated n c) h k a = refl
expand_twice (term n ps s b) h k a = function_twice n b h k a
expand_twice (formula n ps b) h k a = predicate_twice n b k a

-- d is older than e
expand_again : (d e : Declaration) → (name_of d ≡ [] → ⊥) → (name_of e ≡ [] → ⊥) → (name_of d ≡ name_of e → ⊥) → Leaves d d → Leaves e d →
    (a : Formula) → expand d (expand e (expand d a)) ≡ expand d (expand e a)
expand_again (sort m) e hd he h dd ed a = refl
expand_again (function m ss s) e hd he h dd ed a = refl
expand_again (predicate m ss) e hd he h dd ed a = refl
expand_again (stated m c) e hd he h dd ed a = refl
expand_again (term m ps s b) (term n qs r c) hd he h dd ed a = functions_again m n b c hd he h dd ed a
expand_again (term m ps s b) (formula n qs c) hd he h dd ed a = function_again m b hd dd n c a
expand_again (term m ps s b) e hd he h dd ed a = function_twice m b hd dd a
expand_again (formula m ps b) (term n qs r c) hd he h dd ed a = predicate_again m n b c he dd ed a
expand_again (formula m ps b) (formula n qs c) hd he h dd ed a = predicates_again m n b c h dd ed a
expand_again (formula m ps b) e hd he h dd ed a = predicate_twice m b dd a

pub has_name : (E : List Declaration) → AreNamed E → (d : Declaration) → Member d E → name_of d ≡ [] → ⊥
has_name [] o d m e = m
has_name (c ∷ E) o d (inl m) e = o.0 (sym (ap name_of m) ∙ e)
has_name (c ∷ E) o d (inr m) e = has_name E o.2 d m e

-- ---- an unfolded formula has the same normal form

pub normal_expand : (E : List Declaration) → InOrder E → (d : Declaration) → Member d E → (a : Formula) → normal E (expand d a) ≡ normal E a
normal_expand [] o d m a = absurd m
normal_expand (e ∷ E) o d (inl m) a =
    ap (λ z. normal E (expand e (expand z a))) m ∙ ap (normal E) (expand_twice e o.1.0 (own_leaves (e ∷ E) o.0 e (inl refl)) a)
normal_expand (e ∷ E) o d (inr m) a =
    let rest : InOrder E = (o.0.2, o.1.2) in
    sym (normal_expand E rest d m (expand e (expand d a)))
    ∙ ap (normal E) (expand_again d e (has_name E o.1.2 d m) o.1.0 (member_other E (name_of e) d o.0.0 m) (own_leaves E o.0.2 d m)
    (newer_leaves E o.0.2 e d o.0.0 m) a)
    ∙ normal_expand E rest d m (expand e a)

-- the same where only the head is unfolded
head_first : (d : Declaration) → Leaves d d → (a : Formula) → expand d (expand_head d a) ≡ expand d a
head_first (formula n ps b) k (pred p ts) = go (is_name n p) refl
  where
    go : (r : Bool) → is_name n p ≡ r
        → unfold_predicate n b (if r then replace (argument ts) b else pred p ts) ≡ unfold_predicate n b (pred p ts)
    go true q = unfold_predicate_replace n b (argument ts) b ∙ ap (replace (argument ts)) k ∙ sym (formula_here n b p ts q)
    go false q = refl
head_first d k a = refl

pub normal_head : (E : List Declaration) → InOrder E → (d : Declaration) → Member d E → (a : Formula)
    → normal E (expand_head d a) ≡ normal E a
normal_head E o d m a =
    sym (normal_expand E o d m (expand_head d a)) ∙ ap (normal E) (head_first d (own_leaves E o.0 d m) a) ∙ normal_expand E o d m a

-- and where each declaration of a part of the environment is
abbrev pub Within : List Declaration → List Declaration → Type 0
Within F E = (d : Declaration) → Member d F → Member d E

pub within_normal : (E : List Declaration) → InOrder E → (F : List Declaration) → Within F E → (a : Formula)
    → normal E (normal F a) ≡ normal E a
within_normal E o [] i a = refl
within_normal E o (d ∷ F) i a = within_normal E o F (λ c m. i c (inr m)) (expand d a) ∙ normal_expand E o d (i d (inl refl)) a

pub within_head : (E : List Declaration) → InOrder E → (F : List Declaration) → Within F E → (a : Formula)
    → normal E (head_form F a) ≡ normal E a
within_head E o [] i a = refl
within_head E o (d ∷ F) i a = within_head E o F (λ c m. i c (inr m)) (expand_head d a) ∙ normal_head E o d (i d (inl refl)) a
