use Rattle.std.proofs.Common.{codes}
use Rattle.serapi_ans.specs.Lines.{exn_value}
use Rattle.serapi_ans.proofs.Putting.{put_pair}
use Rattle.serapi_ans.proofs.write.put_refusal.Goals as goal

pub returns : goal.returns
returns g c = put_pair (codes "CoqExn") (exn_value c.args.exn.now) c.open.ensures c.put_exn.ensures c.put.ensures
