use Rattle.doc_core.proofs.Grown.{is_answered}
use Rattle.doc_core.proofs.laws.history_is_answered.Goals as goal

pub returns : goal.returns
returns c = is_answered
