use Rattle.std.proofs.Common.{drop}
use Rattle.serapi_ans.specs.Fitting.{AreTexts}
use Rattle.serapi_ans.proofs.fitting.all_fit.Given as goal

abbrev pub invariant-loop-text : goal.invariant-loop-text
invariant-loop-text l = AreTexts (drop l.text-index l.texts) → AreTexts l.texts
