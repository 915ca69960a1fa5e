use Rattle.std.proofs.Common.{◌≡◌, ◌∷◌, ap, ◌∙◌}
use Rattle.std.specs.Arc.{arc_value}
use Rattle.env_core.specs.Layers.{entry_name, found}
use Rattle.env_core.proofs.Pushed.{pushed_view, pushed_keyed, pushed_apart}
use Rattle.env_core.proofs.layer.Layer.push.Goals as goal

pub invariant_of-self-2 : goal.invariant_of-self-2
invariant_of-self-2 c =
    let named = c.in_ok-copy.ensures ∙ c.name.ensures ∙ ap entry_name c.deref.ensures in
    let free = ap (λ ds. found ds (entry_name (arc_value c.args.entry.now))) c.self.view_is ∙ c.requires in (
      pushed_keyed c.self.inside.by_name.entries c.insert.new.self.entries c.in_ok-copy.field-0 c.in_ok-shared.shared
          (arc_value c.args.entry.now)
          c.in_ok-insert.ensures.entries c.self.invariant.0 c.self.invariant.1 named c.in_ok-shared.ensures free,
      pushed_apart c.self.inside.by_name.entries c.insert.new.self.entries c.in_ok-copy.field-0 c.in_ok-shared.shared
          (arc_value c.args.entry.now)
          c.in_ok-insert.ensures.entries c.self.invariant.0 c.self.invariant.1 named c.in_ok-shared.ensures free,
    )

pub returns-clause-ok : goal.returns-clause-ok
returns-clause-ok c =
    let named = c.in_ok-copy.ensures ∙ c.name.ensures ∙ ap entry_name c.deref.ensures in
    let free = ap (λ ds. found ds (entry_name (arc_value c.args.entry.now))) c.self.view_is ∙ c.requires in
    pushed_view c.self.inside.by_name.entries c.insert.new.self.entries c.in_ok-copy.field-0 c.in_ok-shared.shared
    (arc_value c.args.entry.now)
    c.in_ok-insert.ensures.entries c.self.invariant.0 c.self.invariant.1 named c.in_ok-shared.ensures free
    ∙ ap (λ z. arc_value c.args.entry.now ∷ z) c.self.view_is
