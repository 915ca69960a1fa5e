use Rattle.std.proofs.Common.{length, ap, subst, ◌∙◌}
use Rattle.term_core.specs.Context.{slots, meaning as sequent}
use Rattle.proof_tree.specs.Meaning.{meaning}
use Rattle.proof_tree.specs.Places.{NamesEntries}
use Rattle.proof_tree.proofs.Labelled.{named_all}
use Rattle.proof_tree.proofs.walk.push_open.Goals as goal

pub named-requires : goal.named-requires
named-requires c =
    ap length c.deref.ensures.value
    ∙ named_all c.in-Leaf.names.items (slots c.args.place.now.context)
    (subst (λ r. NamesEntries (meaning r) (sequent c.args.place.now)) c.in-Leaf.is c.requires)
