use Rattle.std.specs.Fmt.{decimal}
use Rattle.serapi_ans.specs.Lines.{number}
use Rattle.serapi_ans.proofs.Putting.{put_triple}
use Rattle.serapi_ans.proofs.pieces.put_numbered_twice.Goals as goal

pub returns : goal.returns
returns g c = put_triple c.args.word.now (decimal c.args.first) (number c.args.second) c.open.ensures c.put_number.ensures
    c.put.ensures c.put_number-2.ensures c.put-2.ensures
