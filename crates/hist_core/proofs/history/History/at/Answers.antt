use Rattle.std.proofs.Common.{◌≡◌, ◌<◌, ◌+◌, ◌∷◌, drop, length, subst, sym}
use Rattle.base_core.specs.Lists.{Spared}
use Rattle.doc_theory.specs.Histories.{Event}
use Rattle.hist_core.specs.Events.{event}
use Rattle.hist_core.proofs.Places.{placed}
use Rattle.hist_core.proofs.history.History.at.Goals as goal

pub returns : goal.returns
returns c =
    subst (λ (v : Spared Event). drop c.args.place v.items ≡ event c.index.result.now ∷ drop (c.args.place + 1) v.items) c.self.view_is
    (placed event c.self.inside.entries.items c.args.place c.index.result.now c.index.ensures
    (subst (λ (v : Spared Event). c.args.place < length v.items) (sym c.self.view_is) c.requires))
