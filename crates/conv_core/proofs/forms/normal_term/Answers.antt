use Rattle.std.proofs.Common.{sym, ap, subst, ◌∙◌}
use Rattle.term_core.specs.Term.{meaning}
use Rattle.env_theory.specs.Scopes.{value}
use Rattle.env_theory.proofs.Values.{term_whole}
use Rattle.env_core.specs.Meaning.{declarations}
use Rattle.conv_core.specs.Frames.{scope_of}
use Rattle.conv_core.specs.Heads.{Standing}
use Rattle.conv_core.proofs.Compares.{start_term}
use Rattle.conv_core.proofs.Limits.{within}
use Rattle.conv_core.proofs.forms.normal_term.Goals as goal

pub read_term-requires-clause-standing : goal.read_term-requires-clause-standing
read_term-requires-clause-standing c =
    subst (λ fs. Standing (declarations c.args.env.now) fs 0 0 (meaning c.args.t.now)) (sym c.new-frames.ensures.items)
    (start_term (declarations c.args.env.now) (meaning c.args.t.now) c.requires.sort c.requires.indices)

pub returns : goal.returns
returns c = (
  c.in_ok-made.ensures.value ∙ ap (λ fs. value (declarations c.args.env.now) (scope_of fs 0) 0
      (meaning c.args.t.now)) c.new-frames.ensures.items
      ∙ term_whole (declarations c.args.env.now) (meaning c.args.t.now),
  within c.term_size-size.result.nodes c.term_size-size.result.height _ _ c.term_size-size.ensures.nodes c.term_size-size.ensures.height
      (λ w. let k = c.passes.ensures.1 w in cc),
)
