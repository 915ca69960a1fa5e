use Rattle.serapi_ans.proofs.Putting.{both, put_added_value}
use Rattle.serapi_ans.proofs.write.put_added.Goals as goal

pub returns : goal.returns
returns g c = put_added_value c.args.id c.args.from c.args.to c.args.tip (both c.open.ensures (both c.put_number.ensures
    (both c.put.ensures (both c.put_range.ensures (both c.put_tip.ensures c.put-2.ensures)))))
