use Rattle.fol_theory.specs.Substitution.{shift}
use Rattle.term_core.specs.Formula.{meaning}
use Rattle.kernel_core.specs.Sites.{context_at, environment, sorts_at}
use Rattle.kernel_core.proofs.Asked.{hypothesis_formed, no_hypothesis}
use Rattle.kernel_core.proofs.site.Site.hypothesis.Goals as goal

pub shifted-requires : goal.shifted-requires
shifted-requires c = (
  environment c.args.self.now,
  sorts_at c.args.self.now,
  hypothesis_formed (environment c.args.self.now) (context_at c.args.self.now) c.args.number
      (shift 0 c.in-Some.newer (meaning c.in-Some.a.now)) c.requires.0.0 (rw c.in-Some.is at c.in_ok-hypothesis.ensures.numbered),
  c.requires.1,
)

pub returns-in-None : goal.returns-in-None
returns-in-None c = no_hypothesis (context_at c.args.self.now) c.args.number (rw c.in-None.is at c.in_ok-hypothesis.ensures.numbered)
