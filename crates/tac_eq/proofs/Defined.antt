-- What a name stands for, as a definition.
use Rattle.std.proofs.Common.{◌≡◌, ℕ, List, [], ◌∷◌, Option, Some, Err, refl, sym, ap, ◌∙◌}
use Rattle.fol_theory.specs.Contexts.{Entry, variable, hypothesis}
use Rattle.fol_theory.specs.Slots.{Slot, slot, from_name}
use Rattle.env_theory.specs.Declarations.{Declaration, find}
use Rattle.env_theory.specs.Typing.{Environment, Put}
use Rattle.env_theory.proofs.Weaker.{puts}
use Rattle.env_theory.proofs.Evaluates.{put_found}
use Rattle.elab_theory.specs.Faults.{wrong_kind}
use Rattle.elab_theory.specs.Locals.{declared_or_not}
use Rattle.vern_grammar.specs.Trees.{Name}
use Rattle.tactic_theory.specs.Faults.{of_typing}
use Rattle.tactic_theory.specs.Typing.{definition_at, meaning}
use Rattle.evidence_core.proofs.Looked.{found_none, found_variable, found_assumed}

module _ (E : List Declaration) (c : List Slot) (x : Name) (n : List ℕ) (e : n ≡ x.text) where
  -- an entry of the context has the name
  pub no_definition : (y : Slot) (d : List Slot) → from_name n c ≡ y ∷ d
      → definition_at (meaning E c x.text) x ≡ Err (of_typing (wrong_kind x.span))
  no_definition y d f = go y.entry refl
    where
      there : (k : Entry) → y.entry ≡ k → from_name x.text c ≡ slot y.name k ∷ d
      there k q = ap (λ z. from_name z c) (sym e) ∙ f ∙ ap (λ z. slot y.name z ∷ d) q

      go : (k : Entry) → y.entry ≡ k → definition_at (meaning E c x.text) x ≡ Err (of_typing (wrong_kind x.span))
      go (variable s) q =
          let k = found_variable E x.text c d y.name s (there (variable s) q) in
          ap (λ z. definition_at z x) k.2
      go (hypothesis a) q = ap (λ z. definition_at z x) (found_assumed E x.text c d y.name a (there (hypothesis a) q))

  -- none has it
  module _ (f : from_name n c ≡ []) (o : Option Declaration) (k : o ≡ find E n) where
    looked : meaning E c x.text ≡ declared_or_not o
    looked = found_none E x.text c (ap (λ z. from_name z c) (sym e) ∙ f) ∙ ap (λ z. declared_or_not (find E z)) (sym e) ∙ ap declared_or_not (sym k)

    pub looked_up : definition_at (meaning E c x.text) x ≡ definition_at (declared_or_not o) x
    looked_up = ap (λ z. definition_at z x) looked

-- a declaration that a name finds
pub found_put : (E : List Declaration) → Environment E → (n : List ℕ) (d : Declaration) → Some d ≡ find E n → Put E d
found_put E x n d e = put_found E E (puts E x) n d (sym e)
