use Rattle.std.proofs.Common.{◌-◌, take, map, sym, ap, ◌∙◌, arith}
use Rattle.term_core.specs.Formula.{meaning}
use Rattle.vern_parse.specs.Meaning.{name}
use Rattle.elab_theory.specs.Expressions.{quantifier, over_names}
use Rattle.elab_core.proofs.Building.{each_last}
use Rattle.elab_core.proofs.build.quantify_names.Goals as goal

pub names-preserved : goal.names-preserved
names-preserved c = (
  omega (arith, c.names.invariant.0),
  ap (over_names c.args.all c.args.sort.now.text (map name (take (c.names.i - 1) c.args.names.now)))
      (c.in_ok-body.ensures ∙ ap (λ x. quantifier c.args.all c.args.sort.now.text x.text (meaning c.names.body)) c.index-names-i.is)
      ∙ sym (each_last c.args.all c.args.sort.now.text c.args.names.now c.names.i _ (meaning c.names.body)
      (omega (arith, c.names-test.true)) c.names.invariant.0)
      ∙ c.names.invariant.1,
)
