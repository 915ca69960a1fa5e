-- What each variant of a chain stands for.
use Rattle.std.proofs.Common.{◌≡◌, List, [], ◌∷◌, ap, sym, ◌∙◌}
use Rattle.std.specs.Arc.{arc_value}
use Rattle.std.specs.declared.sync.Arc.{Arc}
use Rattle.std.specs.declared.alloc.Global.{Global}
use Rattle.proof_tree.specs.Chains.{linked, linked_step}
use Rattle.proof_tree.specs.declared.rule.Rule.{Rule}
use Rattle.proof_tree.specs.declared.chain.Link.{Link}
use Rattle.proof_tree.specs.declared.chain.Chain.{Chain}
use Rattle.proof_tree.specs.declared.chain.Chain.TheOpen as layer
use Rattle.proof_tree.specs.declared.chain.Chain.TheVariants as made
use Rattle.proof_tree.specs.declared.chain.Chain.TheFolds.{fold-roll-Chain}

pub linked_End : linked made.End ≡ []
linked_End = ap linked (sym made.rolls-End) ∙ fold-roll-Chain (List Rule) linked_step layer.End

pub linked_Then : (l : Arc (Link Chain) Global) → linked (made.Then l) ≡ arc_value (arc_value l).rule ∷ linked (arc_value l).next
linked_Then l = ap linked (sym (made.rolls-Then l)) ∙ fold-roll-Chain (List Rule) linked_step (layer.Then l)

pub ruleset links = (linked_End, linked_Then)
