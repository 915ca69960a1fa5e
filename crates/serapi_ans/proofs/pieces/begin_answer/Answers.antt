use Rattle.serapi_ans.proofs.Putting.{both}
use Rattle.serapi_ans.proofs.pieces.begin_answer.Goals as goal

pub returns : goal.returns
returns g c = both c.put.ensures (both c.put_atom.ensures c.put-2.ensures)
