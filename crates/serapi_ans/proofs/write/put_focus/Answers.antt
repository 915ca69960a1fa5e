use Rattle.serapi_ans.proofs.Putting.{put_focus_value}
use Rattle.serapi_ans.proofs.write.put_focus.Goals as goal

pub returns : goal.returns
returns g c = put_focus_value c.args.start c.args.stop c.args.tip c.put.ensures c.put_numbered.ensures
    c.put_numbered-2.ensures c.put_numbered-3.ensures c.put-2.ensures
