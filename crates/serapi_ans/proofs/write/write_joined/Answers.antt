use Rattle.serapi_ans.proofs.Putting.{put_joined}
use Rattle.serapi_ans.proofs.write.write_joined.Goals as goal

pub returns : goal.returns
returns g c = put_joined c.args.tag.now c.args.sentences c.args.faults.now c.write_joined_head.ensures c.put_faults.ensures
    c.write_joined_end.ensures
