use Rattle.vcs_graph.proofs.Sums.{sums_take}
use Rattle.vcs_graph.proofs.sizes.Sizes.truncate.Goals as goal

pub invariant_of-self : goal.invariant_of-self
invariant_of-self c = rw (c.truncate.ensures.items, c.truncate-2.ensures.items)
    (sums_take c.args.count c.self.inside.sums.items c.self.inside.sizes.items c.self.invariant)
