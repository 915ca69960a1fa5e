use Rattle.batch_check.proofs.InPlace.{in_place}
use Rattle.batch_check.proofs.laws.no_sentence_is_out_of_place.Goals as goal

pub returns : goal.returns
returns c = in_place
