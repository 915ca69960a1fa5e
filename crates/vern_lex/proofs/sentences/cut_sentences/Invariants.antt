use Rattle.std.proofs.Common.{◌-◌, length}
use Rattle.vern_lex.proofs.Cutting.{IsCut}
use Rattle.vern_lex.proofs.sentences.cut_sentences.Given as goal

abbrev pub invariant-sentences : goal.invariant-sentences
invariant-sentences l = IsCut l.text l.spans.items l.at

abbrev pub decreases-sentences : goal.decreases-sentences
decreases-sentences l = length l.text - l.at
