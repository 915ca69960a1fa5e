use Rattle.std.proofs.Common.{◌-◌, take, map, sym, ap, ◌∙◌, arith}
use Rattle.term_core.specs.Formula.{meaning}
use Rattle.vern_parse.specs.Meaning.{name, group}
use Rattle.elab_theory.specs.Expressions.{over_names, over_groups}
use Rattle.elab_core.proofs.Building.{all_last}
use Rattle.elab_core.proofs.build.quantify.Goals as goal

pub groups-preserved : goal.groups-preserved
groups-preserved c = (
  omega (arith, c.groups.invariant.0),
  ap (over_groups c.args.all (map group (take (c.groups.i - 1) c.args.groups.now)))
      (c.in_ok-body.ensures
      ∙ ap (λ l. over_names c.args.all c.index-groups-i.result.sort.text (map name l) (meaning c.groups.body)) c.deref.ensures.value
      ∙ ap (λ g. over_names c.args.all g.sort.text (map name g.names.items) (meaning c.groups.body)) c.index-groups-i.is)
      ∙ sym (all_last c.args.all c.args.groups.now c.groups.i _ (meaning c.groups.body)
      (omega (arith, c.groups-test.true)) c.groups.invariant.0)
      ∙ c.groups.invariant.1,
)
