use Rattle.std.proofs.Common.{codes}
use Rattle.std.specs.Option.{option_copied}
use Rattle.serapi_ans.specs.Lines.{verdict_value}
use Rattle.serapi_ans.proofs.Putting.{put_pair}
use Rattle.serapi_ans.proofs.write.put_contents.Goals as goal

pub returns : goal.returns
returns g c = put_pair (codes "contents") (verdict_value (option_copied c.args.verdict)) c.open.ensures c.put_verdict.ensures
    c.put.ensures
