use Rattle.std.proofs.Common.{sym, ap, subst, ◌∙◌}
use Rattle.term_core.specs.Formula.{meaning}
use Rattle.env_theory.specs.Scopes.{formula_value}
use Rattle.env_theory.proofs.Values.{formula_whole}
use Rattle.env_core.specs.Meaning.{declarations}
use Rattle.conv_core.specs.Frames.{scope_of}
use Rattle.conv_core.specs.Formulas.{StandingFormula}
use Rattle.conv_core.proofs.Tops.{start}
use Rattle.conv_core.proofs.Limits.{within}
use Rattle.conv_core.proofs.forms.normal.Goals as goal

pub read_formula-requires-clause-standing : goal.read_formula-requires-clause-standing
read_formula-requires-clause-standing c =
    subst (λ fs. StandingFormula (declarations c.args.env.now) fs 0 (meaning c.args.a.now)) (sym c.new-frames.ensures.items)
    (start (declarations c.args.env.now) (meaning c.args.a.now) c.requires.formed c.requires.indices)

pub returns : goal.returns
returns c = (
  c.in_ok-made.ensures.value
      ∙ ap (λ fs. formula_value (declarations c.args.env.now) (scope_of fs 0) (meaning c.args.a.now)) c.new-frames.ensures.items
      ∙ formula_whole (declarations c.args.env.now) (meaning c.args.a.now),
  within c.formula_size-size.result.nodes c.formula_size-size.result.height _ _ c.formula_size-size.ensures.nodes c.formula_size-size.ensures.height
      (λ w. let k = c.passes.ensures.1 w in cc),
)
