use Rattle.std.proofs.Common.{ap, sym, ◌∙◌}
use Rattle.vcs_graph.specs.Blocks.{inside_last}
use Rattle.vcs_graph.proofs.Keeps.{end_items}
use Rattle.vcs_graph.proofs.graph.Graph.closed_inside.Goals as goal

pub returns : goal.returns
returns c = rw (← c.self.view_is) (c.inside_of_last.ensures ∙ ap inside_last (c.as_slice.ensures.value ∙
    sym (end_items c.self.inside.items.items c.self.inside.ending c.self.inside.zone c.self.invariant.kept.zone (rw c.self.view_is c.requires))))
