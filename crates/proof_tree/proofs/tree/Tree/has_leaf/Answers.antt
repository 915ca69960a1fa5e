use Rattle.std.proofs.Common.{ap, refl, subst, sym, ◌∙◌}
use Rattle.proof_tree.specs.Meaning.{meanings, HasLeaf}
use Rattle.proof_tree.specs.Chains.{linked}
use Rattle.proof_tree.proofs.Links.{linked_End, linked_Then}
use Rattle.proof_tree.proofs.Grafted.{leaf_none, leaf_some}
use Rattle.proof_tree.proofs.tree.Tree.has_leaf.Goals as goal

pub returns-in-End : goal.returns-in-End
returns-in-End c = (
  λ h. cc,
  λ h. absurd (leaf_none (linked c.self.inside.closed) (linked c.self.inside.open) c.self.invariant.0 (ap linked c.in-End.is ∙ linked_End)
      (subst (λ z. HasLeaf (meanings z)) (sym c.self.view_is) h)),
)

pub returns-in-Then : goal.returns-in-Then
returns-in-Then c = (
  λ h. subst (λ z. HasLeaf (meanings z)) c.self.view_is
      (leaf_some (linked c.self.inside.closed) (linked c.self.inside.open) _ _ c.self.invariant
      (ap linked c.in-Then.is ∙ linked_Then c.in-Then.field-0)),
  λ h. refl,
)
