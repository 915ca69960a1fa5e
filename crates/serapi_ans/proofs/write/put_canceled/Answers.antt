use Rattle.std.proofs.Common.{codes, map}
use Rattle.serapi_ans.specs.Lines.{number, list_of}
use Rattle.serapi_ans.proofs.Putting.{put_pair}
use Rattle.serapi_ans.proofs.write.put_canceled.Goals as goal

pub returns : goal.returns
returns g c = put_pair (codes "Canceled") (list_of (map number c.args.ids.now)) c.open.ensures c.put_ids.ensures c.put.ensures
