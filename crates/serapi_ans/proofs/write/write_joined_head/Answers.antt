use Rattle.serapi_ans.proofs.Putting.{both}
use Rattle.serapi_ans.proofs.write.write_joined_head.Goals as goal

pub returns : goal.returns
returns g c = both c.put.ensures (both c.put_atom.ensures (both c.put-2.ensures (both c.put_numbered.ensures c.put-3.ensures)))
