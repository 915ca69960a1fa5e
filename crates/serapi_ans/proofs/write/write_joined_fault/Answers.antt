use Rattle.std.specs.Fmt.{decimal}
use Rattle.serapi_ans.proofs.Putting.{put_fault}
use Rattle.serapi_ans.proofs.write.write_joined_fault.Goals as goal

pub returns : goal.returns
returns g c = put_fault (decimal c.args.id) c.args.verdict.now c.put.ensures c.put_number.ensures c.put-2.ensures
    c.put_atom.ensures c.put-3.ensures
