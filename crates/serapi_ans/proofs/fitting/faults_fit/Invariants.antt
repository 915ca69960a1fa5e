use Rattle.std.proofs.Common.{drop}
use Rattle.serapi_ans.specs.Fitting.{FitsFaults}
use Rattle.serapi_ans.proofs.fitting.faults_fit.Given as goal

abbrev pub invariant-loop-id : goal.invariant-loop-id
invariant-loop-id l = FitsFaults (drop l.id-index l.faults) → FitsFaults l.faults
