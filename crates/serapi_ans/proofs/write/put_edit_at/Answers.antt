use Rattle.std.proofs.Common.{codes}
use Rattle.serapi_ans.specs.Lines.{edit_value}
use Rattle.serapi_ans.proofs.Putting.{put_pair}
use Rattle.serapi_ans.proofs.write.put_edit_at.Goals as goal

pub returns : goal.returns
returns g c = put_pair (codes "EditAt") (edit_value c.args.edit) c.open.ensures c.put_edit.ensures c.put.ensures
