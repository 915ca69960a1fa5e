use Rattle.std.proofs.Common.{◌∙◌, arith}
use Rattle.vcs_graph.proofs.Lasts.{inside_items}
use Rattle.vcs_graph.proofs.graph.inside_of_last.Goals as goal

pub returns-else-len-eq0 : goal.returns-else-len-eq0
returns-else-len-eq0 c = c.inside.ensures ∙ inside_items c.args.items.now (omega arith) c.index-items-len.result c.index-items-len.is
