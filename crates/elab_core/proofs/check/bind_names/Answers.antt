use Rattle.std.proofs.Common.{◌+◌, length, take, drop, map, sym, ap, ◌∙◌}
use Rattle.vern_parse.specs.Meaning.{name}
use Rattle.elab_theory.specs.Expressions.{under_names}
use Rattle.elab_core.specs.Scopes.{binders_onto}
use Rattle.elab_core.proofs.Scoped.{names_step, front_kept, longer}
use Rattle.elab_core.proofs.check.bind_names.Goals as goal

pub loop-x-preserved : goal.loop-x-preserved
loop-x-preserved c = (
  λ d. ap (λ l. under_names c.args.sort.now (map name (drop (c.loop-x.x-index + 1) c.args.names.now))
      (binders_onto d l)) c.in_ok-push.ensures.items
      ∙ sym (names_step c.args.sort.now d c.args.names.now c.loop-x.x-index c.x-item.result c.loop-x.binders.items _ c.loop-x-test.true
      c.x-item.is c.in_ok-name_of.ensures c.in_ok-copy.ensures)
      ∙ c.loop-x.invariant.0 d,
  longer _ _ _ _ c.loop-x.invariant.1 c.in_ok-push.ensures.items,
  ap (take (length c.args.binders.now.items)) c.in_ok-push.ensures.items
      ∙ front_kept (length c.args.binders.now.items) c.loop-x.binders.items _ c.loop-x.invariant.1 ∙ c.loop-x.invariant.2,
)
