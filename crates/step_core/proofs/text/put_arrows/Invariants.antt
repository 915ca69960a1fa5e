use Rattle.std.proofs.Common.{◌≡◌, ◌++◌, drop}
use Rattle.step_theory.specs.Texts.{arrows}
use Rattle.step_core.proofs.text.put_arrows.Given as goal

abbrev pub invariant-loop-sort : goal.invariant-loop-sort
invariant-loop-sort l = l.text.items ++ arrows (drop l.sort-index l.sorts) ≡ l.initial.text.items ++ arrows l.sorts
