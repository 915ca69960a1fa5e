use Rattle.serapi_ans.proofs.Putting.{both, put_bad_input}
use Rattle.serapi_ans.proofs.write.write_bad.Goals as goal

pub returns : goal.returns
returns g c = put_bad_input c.args.item c.args.kind.now c.args.offset (both c.open.ensures (both c.put_number.ensures
    (both c.put.ensures (both c.put_bad.ensures (both c.put-2.ensures (both c.put_number-2.ensures c.put-3.ensures))))))
