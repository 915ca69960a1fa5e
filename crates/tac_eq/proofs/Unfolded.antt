-- A well formed formula with a definition put in is the same, over every environment.
use Rattle.std.proofs.Common.{◌≡◌, ℕ, Bool, true, false, List, [], ◌∷◌, refl, sym, ap, subst, ◌∙◌, if◌then◌else◌, Option, Some, None}
use Rattle.std.proofs.Math.Path.{fun_ext}
use Rattle.fol_theory.specs.Syntax.{Term, var, app, Terms, nil, cons, Formula, truth, falsity, pred, equal, both, either, implies, all, ex}
use Rattle.fol_theory.specs.Syntax.{is_name}
use Rattle.fol_theory.specs.Substitution.{replace_term, replace}
use Rattle.fol_theory.specs.Printing.{unnamed}
use Rattle.fol_theory.proofs.Laws.{term_identity}
use Rattle.env_theory.specs.Declarations.{Parameter, Declaration, sort, function, predicate, stated, term, formula, find, sorts_of}
use Rattle.env_theory.specs.Typing.{HasSort, HaveSorts, WellFormed, Gives, IsPredicate, Environment, Put, takes}
use Rattle.env_theory.specs.Normal.{argument, unfold_term, unfold_terms, unfold_function, unfold_predicate, expand}
use Rattle.env_theory.specs.Normal.{normal_term, normal_terms, normal, Same}
use Rattle.env_theory.specs.Scopes.{whole, body}
use Rattle.env_theory.proofs.SameNames.{one_name}
use Rattle.env_theory.proofs.Normals.{normal_term_replace, normal_replace}
use Rattle.env_theory.proofs.Sameness.{normal_cons, normal_equal, normal_both, normal_either, normal_implies, normal_all, normal_ex}
use Rattle.env_theory.proofs.Keeps.{expand_sorts}
use Rattle.env_theory.proofs.Values.{value_defined, value_here, term_whole, formula_defined, formula_whole}
use Rattle.env_theory.proofs.Evaluates.{normal_defined, normal_defined_formula, normal_function, normal_predicate}

module _ (E : List Declaration) (x : Environment E) where
  -- ---- a body with arguments has the normal form of the application

  body_term : (f n : List ℕ) (ps : List Parameter) (r : List ℕ) (b : Term) → find E f ≡ Some (term n ps r b) → (V : List (List ℕ)) (ts : Terms)
      → HaveSorts E V ts (sorts_of ps) → normal_term E (replace_term (argument ts) b) ≡ normal_term E (app f ts)
  body_term f n ps r b e V ts h =
      normal_term_replace E (argument ts) b
      ∙ ap (λ ρ. replace_term ρ (normal_term E b)) (fun_ext (λ i. sym (term_identity (normal_term E (argument ts i)))))
      ∙ sym (value_here E (body ts whole) b)
      ∙ sym (value_defined E x f n ps r b e V ts h whole 0)
      ∙ term_whole E (app f ts)

  body_formula : (p n : List ℕ) (ps : List Parameter) (b : Formula) → find E p ≡ Some (formula n ps b) → (V : List (List ℕ)) (ts : Terms)
      → HaveSorts E V ts (sorts_of ps) → normal E (replace (argument ts) b) ≡ normal E (pred p ts)
  body_formula p n ps b e V ts h =
      normal_replace E (argument ts) b
      ∙ ap (λ ρ. replace ρ (normal E b)) (fun_ext (λ i. sym (term_identity (normal_term E (argument ts i)))))
      ∙ sym (formula_defined E x p n ps b e V ts h whole)
      ∙ formula_whole E (pred p ts)

  -- ---- arguments with the same normal forms

  module _ (V : List (List ℕ)) (ts us : Terms) (k : normal_terms E ts ≡ normal_terms E us) where
    applied : (f s : List ℕ) → Gives (find E f) s → HaveSorts E V ts (takes (find E f)) → HaveSorts E V us (takes (find E f))
        → normal_term E (app f ts) ≡ normal_term E (app f us)
    applied f s = go (find E f) refl
      where
        go : (o : Option Declaration) → find E f ≡ o → Gives o s → HaveSorts E V ts (takes o) → HaveSorts E V us (takes o)
            → normal_term E (app f ts) ≡ normal_term E (app f us)
        go None e g h j = absurd g
        go (Some (sort n)) e g h j = absurd g
        go (Some (function n ss r)) e g h j =
            normal_function E x f n ss r e ts ∙ ap (app f) k ∙ sym (normal_function E x f n ss r e us)
        go (Some (predicate n ss)) e g h j = absurd g
        go (Some (stated n a)) e g h j = absurd g
        go (Some (term n ps r b)) e g h j =
            normal_defined E x f n ps r b e V ts h
            ∙ ap (λ z. replace_term (argument z) (normal_term E b)) k
            ∙ sym (normal_defined E x f n ps r b e V us j)
        go (Some (formula n ps b)) e g h j = absurd g

    predicated : (p : List ℕ) → IsPredicate (find E p) → HaveSorts E V ts (takes (find E p)) → HaveSorts E V us (takes (find E p))
        → normal E (pred p ts) ≡ normal E (pred p us)
    predicated p = go (find E p) refl
      where
        go : (o : Option Declaration) → find E p ≡ o → IsPredicate o → HaveSorts E V ts (takes o) → HaveSorts E V us (takes o)
            → normal E (pred p ts) ≡ normal E (pred p us)
        go None e g h j = absurd g
        go (Some (sort n)) e g h j = absurd g
        go (Some (function n ss r)) e g h j = absurd g
        go (Some (predicate n ss)) e g h j =
            normal_predicate E x p n ss e ts ∙ ap (pred p) k ∙ sym (normal_predicate E x p n ss e us)
        go (Some (stated n a)) e g h j = absurd g
        go (Some (term n ps r b)) e g h j = absurd g
        go (Some (formula n ps b)) e g h j =
            normal_defined_formula E x p n ps b e V ts h
            ∙ ap (λ z. replace (argument z) (normal E b)) k
            ∙ sym (normal_defined_formula E x p n ps b e V us j)

  -- ---- a function's definition put in

  module _ (n : List ℕ) (ps : List Parameter) (r : List ℕ) (b : Term) (put : Put E (term n ps r b)) where
    mutual
      term_kept : (V : List (List ℕ)) (t : Term) (s : List ℕ) → HasSort E V t s → normal_term E (unfold_term n b t) ≡ normal_term E t
      term_kept V (var i) s h = refl
      term_kept V (app f ts) s h = go (is_name n f) refl (terms_kept V ts (takes (find E f)) h.1)
          (expand_sorts E (term n ps r b) put V ts (takes (find E f)) h.1)
        where
          us : Terms
          us = unfold_terms n b ts

          go : (q : Bool) → is_name n f ≡ q → normal_terms E us ≡ normal_terms E ts → HaveSorts E V us (takes (find E f))
              → normal_term E (if q then replace_term (argument us) b else app f us) ≡ normal_term E (app f ts)
          go true e k j =
              let found : find E f ≡ Some (term n ps r b) = ap (find E) (sym (one_name n f e)) ∙ put.0 in
              body_term f n ps r b found V us (subst (λ o. HaveSorts E V us (takes o)) found j) ∙ applied V us ts k f s h.0 j h.1
          go false e k j = applied V us ts k f s h.0 j h.1

      terms_kept : (V : List (List ℕ)) (ts : Terms) (ss : List (List ℕ)) → HaveSorts E V ts ss
          → normal_terms E (unfold_terms n b ts) ≡ normal_terms E ts
      terms_kept V nil ss h = refl
      terms_kept V (cons t ts) [] h = absurd h
      terms_kept V (cons t ts) (s ∷ ss) h =
          normal_cons E (unfold_term n b t) (unfold_terms n b ts)
          ∙ (λ i. cons (term_kept V t s h.0 i) (terms_kept V ts ss h.1 i))
          ∙ sym (normal_cons E t ts)

    function_kept : (V : List (List ℕ)) (a : Formula) → WellFormed E V a → normal E (unfold_function n b a) ≡ normal E a
    function_kept V truth h = refl
    function_kept V falsity h = refl
    function_kept V (pred p ts) h = predicated V (unfold_terms n b ts) ts (terms_kept V ts (takes (find E p)) h.1) p h.0
        (expand_sorts E (term n ps r b) put V ts (takes (find E p)) h.1) h.1
    function_kept V (equal s t u) h =
        normal_equal E s (unfold_term n b t) (unfold_term n b u)
        ∙ (λ i. equal s (term_kept V t s h.1 i) (term_kept V u s h.2 i))
        ∙ sym (normal_equal E s t u)
    function_kept V (both a c) h =
        normal_both E (unfold_function n b a) (unfold_function n b c)
        ∙ (λ i. both (function_kept V a h.0 i) (function_kept V c h.1 i))
        ∙ sym (normal_both E a c)
    function_kept V (either a c) h =
        normal_either E (unfold_function n b a) (unfold_function n b c)
        ∙ (λ i. either (function_kept V a h.0 i) (function_kept V c h.1 i))
        ∙ sym (normal_either E a c)
    function_kept V (implies a c) h =
        normal_implies E (unfold_function n b a) (unfold_function n b c)
        ∙ (λ i. implies (function_kept V a h.0 i) (function_kept V c h.1 i))
        ∙ sym (normal_implies E a c)
    function_kept V (all s v a) h =
        normal_all E s v (unfold_function n b a) ∙ ap (all s v) (function_kept (s ∷ V) a h.1) ∙ sym (normal_all E s v a)
    function_kept V (ex s v a) h =
        normal_ex E s v (unfold_function n b a) ∙ ap (ex s v) (function_kept (s ∷ V) a h.1) ∙ sym (normal_ex E s v a)

  -- ---- a predicate's

  module _ (n : List ℕ) (ps : List Parameter) (b : Formula) (put : Put E (formula n ps b)) where
    predicate_kept : (V : List (List ℕ)) (a : Formula) → WellFormed E V a → normal E (unfold_predicate n b a) ≡ normal E a
    predicate_kept V truth h = refl
    predicate_kept V falsity h = refl
    predicate_kept V (pred p ts) h = go (is_name n p) refl
      where
        go : (q : Bool) → is_name n p ≡ q → normal E (if q then replace (argument ts) b else pred p ts) ≡ normal E (pred p ts)
        go true e =
            let found : find E p ≡ Some (formula n ps b) = ap (find E) (sym (one_name n p e)) ∙ put.0 in
            body_formula p n ps b found V ts (subst (λ o. HaveSorts E V ts (takes o)) found h.1)
        go false e = refl
    predicate_kept V (equal s t u) h = refl
    predicate_kept V (both a c) h =
        normal_both E (unfold_predicate n b a) (unfold_predicate n b c)
        ∙ (λ i. both (predicate_kept V a h.0 i) (predicate_kept V c h.1 i))
        ∙ sym (normal_both E a c)
    predicate_kept V (either a c) h =
        normal_either E (unfold_predicate n b a) (unfold_predicate n b c)
        ∙ (λ i. either (predicate_kept V a h.0 i) (predicate_kept V c h.1 i))
        ∙ sym (normal_either E a c)
    predicate_kept V (implies a c) h =
        normal_implies E (unfold_predicate n b a) (unfold_predicate n b c)
        ∙ (λ i. implies (predicate_kept V a h.0 i) (predicate_kept V c h.1 i))
        ∙ sym (normal_implies E a c)
    predicate_kept V (all s v a) h =
        normal_all E s v (unfold_predicate n b a) ∙ ap (all s v) (predicate_kept (s ∷ V) a h.1) ∙ sym (normal_all E s v a)
    predicate_kept V (ex s v a) h =
        normal_ex E s v (unfold_predicate n b a) ∙ ap (ex s v) (predicate_kept (s ∷ V) a h.1) ∙ sym (normal_ex E s v a)

  expanded_normal : (d : Declaration) → Put E d → (V : List (List ℕ)) (a : Formula) → WellFormed E V a → normal E (expand d a) ≡ normal E a
  expanded_normal (sort n) p V a h = refl
  expanded_normal (function n ss r) p V a h = refl
  expanded_normal (predicate n ss) p V a h = refl
  expanded_normal (stated n c) p V a h = refl
  expanded_normal (term n ps r b) p V a h = function_kept n ps r b p V a h
  expanded_normal (formula n ps b) p V a h = predicate_kept n ps b p V a h

  pub expanded_same : (d : Declaration) → Put E d → (V : List (List ℕ)) (a : Formula) → WellFormed E V a → Same E (expand d a) a
  expanded_same d p V a h = ap unnamed (expanded_normal d p V a h)
