use Rattle.std.specs.Option.{option_copied}
use Rattle.serapi_ans.proofs.Putting.{put_feedback}
use Rattle.serapi_ans.proofs.write.write_feedback.Goals as goal

pub returns : goal.returns
returns g c = put_feedback c.args.id c.args.route (option_copied c.args.verdict) c.put.ensures c.put_numbered.ensures
    c.put_numbered-2.ensures c.put_contents.ensures c.put-2.ensures
