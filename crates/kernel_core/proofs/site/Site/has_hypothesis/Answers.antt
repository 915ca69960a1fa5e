use Rattle.kernel_core.specs.Sites.{context_at}
use Rattle.kernel_core.proofs.Asked.{there_is}
use Rattle.kernel_core.proofs.site.Site.has_hypothesis.Goals as goal

pub returns : goal.returns
returns c = there_is (context_at c.args.self.now) c.args.number c.count.result c.count.ensures
