-- The head form of a well formed formula has its normal form, over every environment.
use Rattle.std.proofs.Common.{◌≡◌, ℕ, Bool, true, false, List, [], ◌∷◌, refl, sym, ap, subst, ◌∙◌, if◌then◌else◌, Some}
use Rattle.std.proofs.Math.Path.{fun_ext}
use Rattle.fol_theory.specs.Syntax.{Terms, Formula, pred, is_name}
use Rattle.fol_theory.specs.Substitution.{replace}
use Rattle.fol_theory.proofs.Laws.{term_identity}
use Rattle.env_theory.specs.Declarations.{Parameter, Declaration, formula, find, sorts_of}
use Rattle.env_theory.specs.Typing.{HaveSorts, WellFormed, Environment, Put, Puts, takes}
use Rattle.env_theory.specs.Normal.{argument, normal_term, normal}
use Rattle.env_theory.specs.Heads.{expand_head, head_form}
use Rattle.env_theory.specs.Scopes.{whole}
use Rattle.env_theory.proofs.SameNames.{one_name}
use Rattle.env_theory.proofs.Normals.{normal_replace}
use Rattle.env_theory.proofs.Weaker.{puts}
use Rattle.env_theory.proofs.Values.{formula_defined, formula_whole}
use Rattle.env_theory.proofs.Lawfuls.{expand_head_formed}

module _ (E : List Declaration) (x : Environment E) where
  -- a definition put in at the head has the normal form of the application
  body_normal : (p n : List ℕ) (ps : List Parameter) (b : Formula) → find E p ≡ Some (formula n ps b) → (V : List (List ℕ)) (ts : Terms)
      → HaveSorts E V ts (sorts_of ps) → normal E (replace (argument ts) b) ≡ normal E (pred p ts)
  body_normal p n ps b e V ts h =
      normal_replace E (argument ts) b
      ∙ ap (λ ρ. replace ρ (normal E b)) (fun_ext (λ i. sym (term_identity (normal_term E (argument ts i)))))
      ∙ sym (formula_defined E x p n ps b e V ts h whole)
      ∙ formula_whole E (pred p ts)

  expanded_normal : (d : Declaration) → Put E d → (V : List (List ℕ)) (a : Formula) → WellFormed E V a
      → normal E (expand_head d a) ≡ normal E a
  expanded_normal (formula n ps b) p V (pred q ts) h = go (is_name n q) refl
    where
      go : (r : Bool) → is_name n q ≡ r → normal E (if r then replace (argument ts) b else pred q ts) ≡ normal E (pred q ts)
      go true e =
          let found : find E q ≡ Some (formula n ps b) = ap (find E) (sym (one_name n q e)) ∙ p.0 in
          body_normal q n ps b found V ts (subst (λ o. HaveSorts E V ts (takes o)) found h.1)
      go false e = refl
  expanded_normal d p V a h = refl

  heads_normal : (F : List Declaration) → Puts E F → (V : List (List ℕ)) (a : Formula) → WellFormed E V a
      → normal E (head_form F a) ≡ normal E a
  heads_normal [] p V a h = refl
  heads_normal (d ∷ F) p V a h =
      heads_normal F p.1 V (expand_head d a) (expand_head_formed E d p.0 V a h) ∙ expanded_normal d p.0 V a h

  pub head_normal : (V : List (List ℕ)) (a : Formula) → WellFormed E V a → normal E (head_form E a) ≡ normal E a
  head_normal V a h = heads_normal E (puts E x) V a h
