use Rattle.std.proofs.Common.{[], ◌∷◌, ◌++◌, ap, ◌∙◌}
use Rattle.term_core.specs.Context.{slots}
use Rattle.term_core.specs.Formula as formula
use Rattle.proof_tree.specs.declared.rule.Rule.TheVariants.{Leaf, ExE}
use Rattle.proof_tree.proofs.Rows.{witness_named}
use Rattle.proof_tree.proofs.tests.witness.Goals as goal

pub returns-clause-names : goal.returns-clause-names
returns-clause-names c =
    let one = c.in_ok-push.ensures.items ∙ ap (λ z. z ++ ExE c.in_ok-name.field-0 c.in_ok-about.field-0 ∷ []) c.new-rules.ensures.items in
    let two = c.in_ok-push-2.ensures.items ∙ ap (λ z. z ++ Leaf c.in_ok-names.field-0 ∷ []) one in
    let all = c.in_ok-push-3.ensures.items ∙ ap (λ z. z ++ Leaf c.in_ok-names-2.field-0 ∷ []) two in
    λ s l. witness_named c.push-3.new.self.items c.in_ok-name.field-0 c.in_ok-about.field-0 c.in_ok-names.field-0
    c.in_ok-names-2.field-0 all c.in_ok-names.ensures c.in_ok-names-2.ensures (slots s.context) (formula.meaning s.goal) l
