use Rattle.std.proofs.Common.{List, ◌++◌, map, reverse, append_assoc, ap, ◌∙◌}
use Rattle.logic_theory.specs.Rules.{Rule, leaf}
use Rattle.proof_tree.specs.Meaning.{meanings}
use Rattle.term_core.specs.Formula.{meaning}
use Rattle.term_core.specs.declared.formula.Formula.{Formula}
use Rattle.strip_core.proofs.tree.Descent.route.Goals as goal

pub returns-clause-rules : goal.returns-clause-rules
returns-clause-rules c =
    let heads = meanings (reverse c.args.self.heads.items) in
    let leaves : List Formula → List Rule = λ ps. map (λ p. leaf (reverse c.args.names.now)) (map meaning ps) in
    c.in_ok-push_leaves.ensures
    ∙ (λ i. c.in_ok-push_copies.ensures i ++ leaves (c.deref-2.ensures.value i))
    ∙ ap (λ rs. (meanings rs ++ meanings (map (λ r. r.now) c.deref.result.now)) ++ leaves c.args.self.premises.items) c.reverse.ensures.items
    ∙ ap (λ rs. (heads ++ meanings (map (λ r. r.now) rs)) ++ leaves c.args.self.premises.items) c.deref.ensures.value
    ∙ ap (λ rs. (heads ++ meanings rs) ++ leaves c.args.self.premises.items) c.in_ok-rules.ensures
    ∙ append_assoc heads (meanings c.args.tree.now) (leaves c.args.self.premises.items)
