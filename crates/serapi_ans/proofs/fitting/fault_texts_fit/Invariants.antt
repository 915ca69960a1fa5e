use Rattle.std.proofs.Common.{drop}
use Rattle.serapi_ans.specs.Fitting.{HaveTexts}
use Rattle.serapi_ans.proofs.fitting.fault_texts_fit.Given as goal

abbrev pub invariant-loop-text : goal.invariant-loop-text
invariant-loop-text l = HaveTexts (drop l.text-index l.faults) → HaveTexts l.faults
