use Rattle.serapi_ans.proofs.Putting.{both}
use Rattle.serapi_ans.proofs.pieces.open.Goals as goal

pub returns : goal.returns
returns g c = both c.put.ensures (both c.put_atom.ensures c.put-2.ensures)
