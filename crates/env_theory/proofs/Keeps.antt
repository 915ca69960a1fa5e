-- Putting definitions in keeps sorts.
use Rattle.std.proofs.Common.{◌≡◌, ℕ, Bool, true, false, List, [], ◌∷◌, ◌++◌, refl, sym, ap, subst, ◌∙◌, if◌then◌else◌, Option, Some, None}
use Rattle.fol_theory.specs.Syntax.{Term, var, app, Terms, nil, cons, Formula, truth, falsity, pred, equal, both, either, implies, all, ex}
use Rattle.fol_theory.specs.Syntax.{is_name}
use Rattle.fol_theory.specs.Substitution.{replace_term, replace}
use Rattle.env_theory.specs.Declarations.{Parameter, Declaration, sort, function, predicate, stated, term, formula, name_of, find, sorts_of}
use Rattle.env_theory.specs.Declarations.{bound}
use Rattle.env_theory.specs.Typing.{HasSort, HaveSorts, WellFormed, takes, Gives, IsSort, IsPredicate, Environment, Put, Puts, undefined}
use Rattle.env_theory.specs.Typing.{Extends}
use Rattle.env_theory.specs.Normal.{argument, unfold_term, unfold_terms, unfold_function, unfold_predicate, expand_term, expand_terms}
use Rattle.env_theory.specs.Normal.{expand, normal_term, normal}
use Rattle.env_theory.proofs.SameNames.{one_name, own_name}
use Rattle.env_theory.proofs.Sorts.{replace_sort, replace_formed, arguments_fit}
use Rattle.env_theory.proofs.Weaker.{has_sort, well_formed, puts}

-- F and G declare the same, but that d is the one with its name in F
abbrev pub Less : List Declaration → Declaration → List Declaration → Type 0
Less F d G = (f : List ℕ) → (is_name (name_of d) f ≡ true → find F f ≡ Some d) × (is_name (name_of d) f ≡ false → find F f ≡ find G f)

-- what is asked of a name that d hasn't got holds in G as well
moved : (F : List Declaration) (d : Declaration) (G : List Declaration) → Less F d G → (P : Option Declaration → Type 0) → (P (Some d) → ⊥)
    → (f : List ℕ) → P (find F f) → find F f ≡ find G f
moved F d G l P refused f h = go (is_name (name_of d) f) refl
  where
    go : (q : Bool) → is_name (name_of d) f ≡ q → find F f ≡ find G f
    go true e = absurd (refused (subst P ((l f).0 e) h))
    go false e = (l f).1 e

-- a definition put in may leave the environment
module _ (F G : List Declaration) (n : List ℕ) (ps : List Parameter) (r : List ℕ) (b : Term) (l : Less F (term n ps r b) G)
    (body : HasSort G (bound ps) b r) where
  mutual
    unfold_sort : (V : List (List ℕ)) (t : Term) (s : List ℕ) → HasSort F V t s → HasSort G V (unfold_term n b t) s
    unfold_sort V (var i) s h = h
    unfold_sort V (app f ts) s h = go (is_name n f) refl (unfold_sorts V ts (takes (find F f)) h.1)
      where
        us : Terms
        us = unfold_terms n b ts

        go : (q : Bool) → is_name n f ≡ q → HaveSorts G V us (takes (find F f))
            → HasSort G V (if q then replace_term (argument us) b else app f us) s
        go true e k = let found = (l f).0 e in
            replace_sort G (argument us) (bound ps) V (arguments_fit G V us ps (subst (λ o. HaveSorts G V us (takes o)) found k)) b s
            (subst (HasSort G (bound ps) b) (subst (λ o. Gives o s) found h.0) body)
        go false e k = let other = (l f).1 e in (subst (λ o. Gives o s) other h.0, subst (λ o. HaveSorts G V us (takes o)) other k)

    unfold_sorts : (V : List (List ℕ)) (ts : Terms) (ss : List (List ℕ)) → HaveSorts F V ts ss → HaveSorts G V (unfold_terms n b ts) ss
    unfold_sorts V nil [] h = h
    unfold_sorts V nil (s ∷ ss) h = h
    unfold_sorts V (cons t ts) [] h = h
    unfold_sorts V (cons t ts) (s ∷ ss) h = (unfold_sort V t s h.0, unfold_sorts V ts ss h.1)

  sort_less : (s : List ℕ) → IsSort (find F s) → IsSort (find G s)
  sort_less s h = subst IsSort (moved F (term n ps r b) G l IsSort (λ k. k) s h) h

  unfold_function_formed : (V : List (List ℕ)) (a : Formula) → WellFormed F V a → WellFormed G V (unfold_function n b a)
  unfold_function_formed V truth h = h
  unfold_function_formed V falsity h = h
  unfold_function_formed V (pred p ts) h = let e = moved F (term n ps r b) G l IsPredicate (λ k. k) p h.0 in
      (subst IsPredicate e h.0, subst (λ o. HaveSorts G V (unfold_terms n b ts) (takes o)) e (unfold_sorts V ts (takes (find F p)) h.1))
  unfold_function_formed V (equal s t u) h = (sort_less s h.0, unfold_sort V t s h.1, unfold_sort V u s h.2)
  unfold_function_formed V (both a c) h = (unfold_function_formed V a h.0, unfold_function_formed V c h.1)
  unfold_function_formed V (either a c) h = (unfold_function_formed V a h.0, unfold_function_formed V c h.1)
  unfold_function_formed V (implies a c) h = (unfold_function_formed V a h.0, unfold_function_formed V c h.1)
  unfold_function_formed V (all s x a) h = (sort_less s h.0, unfold_function_formed (s ∷ V) a h.1)
  unfold_function_formed V (ex s x a) h = (sort_less s h.0, unfold_function_formed (s ∷ V) a h.1)

module _ (F G : List Declaration) (n : List ℕ) (ps : List Parameter) (b : Formula) (l : Less F (formula n ps b) G)
    (body : WellFormed G (bound ps) b) where
  mutual
    term_less : (V : List (List ℕ)) (t : Term) (s : List ℕ) → HasSort F V t s → HasSort G V t s
    term_less V (var i) s h = h
    term_less V (app f ts) s h = let e = moved F (formula n ps b) G l (λ o. Gives o s) (λ k. k) f h.0 in
        (subst (λ o. Gives o s) e h.0, subst (λ o. HaveSorts G V ts (takes o)) e (terms_less V ts (takes (find F f)) h.1))

    terms_less : (V : List (List ℕ)) (ts : Terms) (ss : List (List ℕ)) → HaveSorts F V ts ss → HaveSorts G V ts ss
    terms_less V nil [] h = h
    terms_less V nil (s ∷ ss) h = h
    terms_less V (cons t ts) [] h = h
    terms_less V (cons t ts) (s ∷ ss) h = (term_less V t s h.0, terms_less V ts ss h.1)

  sort_less_too : (s : List ℕ) → IsSort (find F s) → IsSort (find G s)
  sort_less_too s h = subst IsSort (moved F (formula n ps b) G l IsSort (λ k. k) s h) h

  unfold_predicate_formed : (V : List (List ℕ)) (a : Formula) → WellFormed F V a → WellFormed G V (unfold_predicate n b a)
  unfold_predicate_formed V truth h = h
  unfold_predicate_formed V falsity h = h
  unfold_predicate_formed V (pred p ts) h = go (is_name n p) refl
    where
      go : (q : Bool) → is_name n p ≡ q → WellFormed G V (if q then replace (argument ts) b else pred p ts)
      go true e = replace_formed G (argument ts) (bound ps) V
          (arguments_fit G V ts ps (terms_less V ts (sorts_of ps) (subst (λ o. HaveSorts F V ts (takes o)) ((l p).0 e) h.1))) b body
      go false e = let other = (l p).1 e in
          (subst IsPredicate other h.0, subst (λ o. HaveSorts G V ts (takes o)) other (terms_less V ts (takes (find F p)) h.1))
  unfold_predicate_formed V (equal s t u) h = (sort_less_too s h.0, term_less V t s h.1, term_less V u s h.2)
  unfold_predicate_formed V (both a c) h = (unfold_predicate_formed V a h.0, unfold_predicate_formed V c h.1)
  unfold_predicate_formed V (either a c) h = (unfold_predicate_formed V a h.0, unfold_predicate_formed V c h.1)
  unfold_predicate_formed V (implies a c) h = (unfold_predicate_formed V a h.0, unfold_predicate_formed V c h.1)
  unfold_predicate_formed V (all s x a) h = (sort_less_too s h.0, unfold_predicate_formed (s ∷ V) a h.1)
  unfold_predicate_formed V (ex s x a) h = (sort_less_too s h.0, unfold_predicate_formed (s ∷ V) a h.1)

-- ---- the definition stays

stays : (F : List Declaration) (d : Declaration) → find F (name_of d) ≡ Some d → Less F d F
stays F d e f = (λ h. ap (find F) (sym (one_name (name_of d) f h)) ∙ e, λ h. refl)

pub expand_sort : (F : List Declaration) (d : Declaration) → Put F d → (V : List (List ℕ)) (t : Term) (s : List ℕ) → HasSort F V t s
    → HasSort F V (expand_term d t) s
expand_sort F (sort n) p V t s h = h
expand_sort F (function n ss r) p V t s h = h
expand_sort F (predicate n ss) p V t s h = h
expand_sort F (stated n a) p V t s h = h
expand_sort F (term n ps r b) p V t s h = unfold_sort F F n ps r b (stays F (term n ps r b) p.0) p.1 V t s h
expand_sort F (formula n ps b) p V t s h = h

pub expand_sorts : (F : List Declaration) (d : Declaration) → Put F d → (V : List (List ℕ)) (ts : Terms) (ss : List (List ℕ))
    → HaveSorts F V ts ss → HaveSorts F V (expand_terms d ts) ss
expand_sorts F (sort n) p V ts ss h = h
expand_sorts F (function n qs r) p V ts ss h = h
expand_sorts F (predicate n qs) p V ts ss h = h
expand_sorts F (stated n a) p V ts ss h = h
expand_sorts F (term n ps r b) p V ts ss h = unfold_sorts F F n ps r b (stays F (term n ps r b) p.0) p.1 V ts ss h
expand_sorts F (formula n ps b) p V ts ss h = h

pub expand_formed : (F : List Declaration) (d : Declaration) → Put F d → (V : List (List ℕ)) (a : Formula) → WellFormed F V a
    → WellFormed F V (expand d a)
expand_formed F (sort n) p V a h = h
expand_formed F (function n ss r) p V a h = h
expand_formed F (predicate n ss) p V a h = h
expand_formed F (stated n b) p V a h = h
expand_formed F (term n ps r b) p V a h = unfold_function_formed F F n ps r b (stays F (term n ps r b) p.0) p.1 V a h
expand_formed F (formula n ps b) p V a h = unfold_predicate_formed F F n ps b (stays F (formula n ps b) p.0) p.1 V a h

normals_sort : (F E : List Declaration) → Puts F E → (V : List (List ℕ)) (t : Term) (s : List ℕ) → HasSort F V t s
    → HasSort F V (normal_term E t) s
normals_sort F [] p V t s h = h
normals_sort F (d ∷ E) p V t s h = normals_sort F E p.1 V (expand_term d t) s (expand_sort F d p.0 V t s h)

normals_formed : (F E : List Declaration) → Puts F E → (V : List (List ℕ)) (a : Formula) → WellFormed F V a → WellFormed F V (normal E a)
normals_formed F [] p V a h = h
normals_formed F (d ∷ E) p V a h = normals_formed F E p.1 V (expand d a) (expand_formed F d p.0 V a h)

-- a normal form has the sort that the term has
pub normal_sort : (E : List Declaration) → Environment E → (V : List (List ℕ)) (t : Term) (s : List ℕ) → HasSort E V t s
    → HasSort E V (normal_term E t) s
normal_sort E h V t s k = normals_sort E E (puts E h) V t s k

pub normal_formed : (E : List Declaration) → Environment E → (V : List (List ℕ)) (a : Formula) → WellFormed E V a
    → WellFormed E V (normal E a)
normal_formed E h V a k = normals_formed E E (puts E h) V a k

-- ---- no defined name is left

-- a name that a longer list doesn't find
pub not_found : (g : Declaration) (G : List Declaration) (n : List ℕ) → find (g ∷ G) n ≡ None
    → (is_name (name_of g) n ≡ false) × (find G n ≡ None)
not_found g G n = go (is_name (name_of g) n) refl
  where
    go : (q : Bool) → is_name (name_of g) n ≡ q → (if q then Some g else find G n) ≡ None
        → (is_name (name_of g) n ≡ false) × (find G n ≡ None)
    go true e k = (cc, cc)
    go false e k = (e, k)

-- G before d and E, where no other has d's name
less : (G : List Declaration) (d : Declaration) (E : List Declaration) → find G (name_of d) ≡ None → Less (G ++ (d ∷ E)) d (G ++ E)
less [] d E e f = (λ h. ap (λ q. if q then Some d else find E f) h, λ h. ap (λ q. if q then Some d else find E f) h)
less (g ∷ G) d E e f =
    (λ h. skipped h ∙ (less G d E parts.1 f).0 h, λ h. ap (λ o. if is_name (name_of g) f then Some g else o) ((less G d E parts.1 f).1 h))
  where
    parts : (is_name (name_of g) (name_of d) ≡ false) × (find G (name_of d) ≡ None)
    parts = not_found g G (name_of d) e

    skipped : is_name (name_of d) f ≡ true → find (g ∷ (G ++ (d ∷ E))) f ≡ find (G ++ (d ∷ E)) f
    skipped h = ap (λ q. if q then Some g else find (G ++ (d ∷ E)) f) (ap (is_name (name_of g)) (sym (one_name (name_of d) f h)) ∙ parts.0)

-- no declaration of E has a name of G
abbrev Apart : List Declaration → List Declaration → Type 0
Apart G [] = Unit {0}
Apart G (d ∷ E) = (find G (name_of d) ≡ None) × Apart G E

found_apart : (G E : List Declaration) → Apart G E → (n : List ℕ) (x : Declaration) → find E n ≡ Some x → find G n ≡ None
found_apart G [] a n x h = cc
found_apart G (d ∷ E) a n x h = go (is_name (name_of d) n) refl h (λ k. found_apart G E a.1 n x k)
  where
    go : (q : Bool) → is_name (name_of d) n ≡ q → (if q then Some d else find E n) ≡ Some x → (find E n ≡ Some x → find G n ≡ None)
        → find G n ≡ None
    go true e k f = ap (find G) (sym (one_name (name_of d) n e)) ∙ a.0
    go false e k f = f k

find_behind : (G E : List Declaration) (n : List ℕ) → find G n ≡ None → find (G ++ E) n ≡ find E n
find_behind [] E n h = refl
find_behind (g ∷ G) E n h =
    let parts = not_found g G n h in ap (λ q. if q then Some g else find (G ++ E) n) parts.0 ∙ find_behind G E n parts.1

behind : (G E : List Declaration) → Apart G E → Extends E (G ++ E)
behind G E a n x h = find_behind G E n (found_apart G E a n x h) ∙ h

name_turned : (m n : List ℕ) → is_name m n ≡ false → is_name n m ≡ false
name_turned m n h = go (is_name n m) refl
  where
    go : (q : Bool) → is_name n m ≡ q → q ≡ false
    go true e = sym (own_name n) ∙ subst (λ z. is_name z n ≡ false) (sym (one_name n m e)) h
    go false e = refl

apart_one : (G : List Declaration) (d : Declaration) (n : List ℕ) → find G n ≡ None → is_name (name_of d) n ≡ false
    → find (G ++ (d ∷ [])) n ≡ None
apart_one G d n h e = find_behind G (d ∷ []) n h ∙ ap (λ q. if q then Some d else None) e

apart_more : (G E : List Declaration) (d : Declaration) → Apart G E → find E (name_of d) ≡ None → Apart (G ++ (d ∷ [])) E
apart_more G [] d a h = tt
apart_more G (e ∷ E) d a h = let parts = not_found e E (name_of d) h in
    (apart_one G d (name_of e) a.0 (name_turned (name_of e) (name_of d) parts.0), apart_more G E d a.1 parts.1)

joined : (G : List Declaration) (d : Declaration) (E : List Declaration) → (G ++ (d ∷ [])) ++ E ≡ G ++ (d ∷ E)
joined [] d E = refl
joined (g ∷ G) d E = ap (λ z. g ∷ z) (joined G d E)

left : (E G : List Declaration) → Environment E → Apart G E → (V : List (List ℕ)) (a : Formula) → WellFormed (G ++ E) V a
    → WellFormed (G ++ undefined E) V (normal E a)
left [] G x y V a h = h
left (sort n ∷ E) G x y V a h = let d = sort n in
    subst (λ H. WellFormed H V (normal E a)) (joined G d (undefined E))
    (left E (G ++ (d ∷ [])) x.2 (apart_more G E d y.1 x.0) V a (subst (λ H. WellFormed H V a) (sym (joined G d E)) h))
left (function n ss s ∷ E) G x y V a h = let d = function n ss s in
    subst (λ H. WellFormed H V (normal E a)) (joined G d (undefined E))
    (left E (G ++ (d ∷ [])) x.2 (apart_more G E d y.1 x.0) V a (subst (λ H. WellFormed H V a) (sym (joined G d E)) h))
left (predicate n ss ∷ E) G x y V a h = let d = predicate n ss in
    subst (λ H. WellFormed H V (normal E a)) (joined G d (undefined E))
    (left E (G ++ (d ∷ [])) x.2 (apart_more G E d y.1 x.0) V a (subst (λ H. WellFormed H V a) (sym (joined G d E)) h))
left (stated n b ∷ E) G x y V a h = let d = stated n b in
    subst (λ H. WellFormed H V (normal E a)) (joined G d (undefined E))
    (left E (G ++ (d ∷ [])) x.2 (apart_more G E d y.1 x.0) V a (subst (λ H. WellFormed H V a) (sym (joined G d E)) h))
left (term n ps r b ∷ E) G x y V a h = let d = term n ps r b in
    left E G x.2 y.1 V (unfold_function n b a)
    (unfold_function_formed (G ++ (d ∷ E)) (G ++ E) n ps r b (less G d E y.0)
    (has_sort E (G ++ E) (behind G E y.1) (bound ps) b r x.1.2) V a h)
left (formula n ps b ∷ E) G x y V a h = let d = formula n ps b in
    left E G x.2 y.1 V (unfold_predicate n b a)
    (unfold_predicate_formed (G ++ (d ∷ E)) (G ++ E) n ps b (less G d E y.0)
    (well_formed E (G ++ E) (behind G E y.1) (bound ps) b x.1.1) V a h)

apart_none : (E : List Declaration) → Apart [] E
apart_none [] = tt
apart_none (d ∷ E) = (refl, apart_none E)

-- a normal form is well formed over the declarations that aren't definitions
pub normal_undefined : (E : List Declaration) → Environment E → (V : List (List ℕ)) (a : Formula) → WellFormed E V a
    → WellFormed (undefined E) V (normal E a)
normal_undefined E x V a h = left E [] x (apart_none E) V a h
