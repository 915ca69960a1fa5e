use Rattle.serapi_ans.proofs.Putting.{both}
use Rattle.serapi_ans.proofs.write.put_ids.Goals as goal

pub returns : goal.returns
returns g c = both c.put.ensures (both c.put_numbers.ensures c.put-2.ensures)
