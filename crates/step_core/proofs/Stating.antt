-- What a lemma states, unless it is too large.
use Rattle.std.proofs.Common.{◌≡◌, ℕ, List, [], Option, Some, None, Ok, Err, sym, ap, subst, ◌∙◌}
use Rattle.vern_grammar.specs.Trees.{Name, Expression}
use Rattle.base_core.specs.Answers.{Answers, IsRefusal, and_then}
use Rattle.env_theory.specs.Declarations.{Declaration, find}
use Rattle.env_theory.specs.Typing.{WellFormed, Environment}
use Rattle.env_theory.specs.Normal.{normal}
use Rattle.fol_theory.specs.Measures.{nodes, height}
use Rattle.elab_theory.specs.Sentences.{statement_of}
use Rattle.elab_theory.proofs.Admitted.{statement_admitted}
use Rattle.elab_core.specs.declared.fault.ElabFault.{ElabFault}
use Rattle.elab_core.specs.Answers.{Types, formula_size}
use Rattle.term_core.specs.declared.formula.Formula.{Formula as Made}
use Rattle.term_core.specs.Formula.{meaning}
use Rattle.tactic_theory.specs.Faults.{too_large}
use Rattle.tactic_theory.specs.States.{row_fault}
use Rattle.script_theory.specs.Sizes.{measured, large}
use Rattle.script_theory.specs.Sentences.{sized, from_elaboration, lemma}
use Rattle.step_core.specs.declared.refusal.Refusal.{Refusal}
use Rattle.step_core.specs.Refusals.{refused, told_as}
use Rattle.step_core.proofs.Measured.{measured_past, measured_within}
use Rattle.step_core.proofs.Judging.{refused_as}

module _ (E : List Declaration) (x : Name) (a : Expression) where
  -- its name is new, and its formula well formed
  pub stated_new : Environment E → (b : Made) → Types (Ok b) (statement_of E x a) → (find E x.text ≡ None) × WellFormed E [] (meaning b)
  stated_new v b t =
      let k = statement_admitted E v x a (meaning b) t.0 in
      (k.0, k.1)

  within_is : (b : Made) (o : Option (ℕ × ℕ)) → Types (Ok b) (statement_of E x a)
      → o ≡ measured (nodes (normal E (meaning b))) (height (normal E (meaning b))) None → lemma E x a ≡ sized o (x.text, meaning b)
  within_is b o (e, l) n = ap (λ w. and_then (from_elaboration w) (λ b. sized (large E b) (x.text, b))) e
      ∙ ap (λ z. sized z (x.text, meaning b)) (measured_within _ _ _ l ∙ sym n)

  pub stated_good : (b : Made) → Types (Ok b) (statement_of E x a)
      → None ≡ measured (nodes (normal E (meaning b))) (height (normal E (meaning b))) None
      → Answers (λ (b : Made). (x.text, meaning b)) refused (Ok b) (lemma E x a)
  stated_good b t n = within_is b None t n

  pub stated_large : (b : Made) (n h : ℕ) → Types (Ok b) (statement_of E x a)
      → Some (n, h) ≡ measured (nodes (normal E (meaning b))) (height (normal E (meaning b))) None
      → lemma E x a ≡ Err (row_fault (too_large n h))
  stated_large b n h t k = within_is b (Some (n, h)) t k

  pub stated_refused : (e : ElabFault) (r : Refusal) → Types (Err e) (statement_of E x a) → r ≡ told_as e
      → Answers (λ (b : Made). (x.text, meaning b)) refused (Err r) (lemma E x a)
  stated_refused e r t k = subst (λ z. IsRefusal (refused z) (lemma E x a)) (sym k)
      (refused_as meaning formula_size (large E) (λ b. (x.text, b)) (λ b. measured_past _ _ _) e (statement_of E x a) t)
