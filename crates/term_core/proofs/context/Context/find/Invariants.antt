use Rattle.std.proofs.Common.{◌≡◌}
use Rattle.fol_theory.specs.Slots.{from_name}
use Rattle.term_core.specs.Context.{slots}
use Rattle.term_core.proofs.context.Context.find.Given as goal

abbrev pub invariant-loop-at : goal.invariant-loop-at
invariant-loop-at l = from_name l.name (slots l.at) ≡ from_name l.name (slots l.self)
