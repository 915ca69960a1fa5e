use Rattle.std.proofs.Common.{drop}
use Rattle.serapi_ans.specs.Fitting.{AreSmall}
use Rattle.serapi_ans.proofs.fitting.ids_fit.Given as goal

abbrev pub invariant-loop-id : goal.invariant-loop-id
invariant-loop-id l = AreSmall (drop l.id-index l.ids) → AreSmall l.ids
