use Rattle.serapi_ans.specs.Lines.{number}
use Rattle.serapi_ans.proofs.Putting.{put_pair}
use Rattle.serapi_ans.proofs.pieces.put_numbered.Goals as goal

pub returns : goal.returns
returns g c = put_pair c.args.word.now (number c.args.value) c.open.ensures c.put_number.ensures c.put.ensures
