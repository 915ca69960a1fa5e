-- One strip more: it takes a node off the normal form, and what is left stays well formed.
use Rattle.std.proofs.Common.{◌≡◌, ◌<◌, ◌≤◌, ◌+◌, ℕ, List, ◌∷◌, ◌++◌, [], length, map, Some, refl, sym, ap, subst, ◌∙◌, arith}
use Rattle.std.specs.List.{All}
use Rattle.std.proofs.lemmas.List.Elements.{All-nil, All-weaker, All-map, All-push}
use Rattle.fol_theory.specs.Syntax.{Formula, implies, all}
use Rattle.fol_theory.specs.Substitution.{next, under}
use Rattle.fol_theory.specs.Measures.{nodes}
use Rattle.env_theory.specs.Declarations.{Declaration}
use Rattle.env_theory.specs.Typing.{WellFormed, Environment}
use Rattle.env_theory.specs.Normal.{normal}
use Rattle.env_theory.specs.Heads.{head_form}
use Rattle.env_theory.proofs.Lawfuls.{head_formed}
use Rattle.env_theory.proofs.Sameness.{normal_all, normal_implies}
use Rattle.env_theory.proofs.Sorts.{fits_next, replace_formed}
use Rattle.tactic_theory.specs.Strips.{Strip, strip, strip_form}
use Rattle.strip_core.specs.Drafts.{Stands}
use Rattle.strip_core.proofs.Heads.{head_normal}

some_injective : {A : Type 0} (x y : A) → Some x ≡ Some y → x ≡ y
some_injective x y e = cc

-- a formula behind no strip
pub first_stands : (E : List Declaration) (V : List (List ℕ)) (n : ℕ) (a : Formula) (s : Strip) → s ≡ strip [] [] a → WellFormed E V a
    → length V ≤ n → Stands E n s
first_stands E V n a s e w l = subst (Stands E n) (sym e) (V, l, w, All-nil (WellFormed E V))

-- fewer nodes, and well formed
abbrev Goes : List Declaration → ℕ → Strip → Strip → Type 0
Goes E n s t = (nodes (normal E t.rest) < nodes (normal E s.rest)) × Stands E n t

module _ (E : List Declaration) (x : Environment E) (n : ℕ) (s : Strip) (w : Stands E n s) where
  goes : (h : Formula) → head_form E s.rest ≡ h → (t : Strip) → strip_form s h ≡ Some t → Goes E n s t
  goes (all r y b) q t e =
      let V = s.sorts ++ w.0 in
      let f : WellFormed E V (all r y b) = subst (WellFormed E V) q (head_formed E x V s.rest w.2) in
      let m : nodes (normal E s.rest) ≡ nodes (normal E b) + 1 =
      ap nodes (sym (head_normal E x V s.rest w.2) ∙ ap (normal E) q ∙ normal_all E r y b) in
      let ps = All-map (WellFormed E (r ∷ V)) under s.premises (All-weaker (WellFormed E V) (λ p. WellFormed E (r ∷ V) (under p))
      (λ p k. replace_formed E next V (r ∷ V) (fits_next E r V) p k) s.premises w.3) in
      subst (Goes E n s) (some_injective (strip (r ∷ s.sorts) (map under s.premises) b) t e) (omega (arith, m), (w.0, w.1, f.1, ps))
  goes (implies p b) q t e =
      let V = s.sorts ++ w.0 in
      let f : WellFormed E V (implies p b) = subst (WellFormed E V) q (head_formed E x V s.rest w.2) in
      let m : nodes (normal E s.rest) ≡ nodes (normal E p) + nodes (normal E b) + 1 =
      ap nodes (sym (head_normal E x V s.rest w.2) ∙ ap (normal E) q ∙ normal_implies E p b) in
      subst (Goes E n s) (some_injective (strip s.sorts (s.premises ++ p ∷ []) b) t e) (
        omega (arith, m),
        (w.0, w.1, f.1, All-push (WellFormed E V) s.premises p w.3 f.0),
      )
  goes h q t e = absurd cc

  pub strip_less : (t : Strip) → strip_form s (head_form E s.rest) ≡ Some t → nodes (normal E t.rest) < nodes (normal E s.rest)
  strip_less t e = (goes (head_form E s.rest) refl t e).0

  pub strip_stands : (t : Strip) → strip_form s (head_form E s.rest) ≡ Some t → Stands E n t
  strip_stands t e = (goes (head_form E s.rest) refl t e).1
