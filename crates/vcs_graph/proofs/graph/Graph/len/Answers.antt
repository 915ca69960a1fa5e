use Rattle.std.proofs.Common.{sym, ◌∙◌}
use Rattle.vcs_graph.proofs.Keeps.{kept_length}
use Rattle.vcs_graph.proofs.graph.Graph.len.Goals as goal

pub returns : goal.returns
returns c = c.len.ensures.len ∙ sym (kept_length c.self.invariant.kept c.args.self.now c.self.view_is)
