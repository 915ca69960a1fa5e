use Rattle.std.specs.Fmt.{decimal}
use Rattle.sexp_theory.specs.Values.{atom}
use Rattle.serapi_ans.proofs.Putting.{put_triple}
use Rattle.serapi_ans.proofs.pieces.put_numbered_text.Goals as goal

pub returns : goal.returns
returns g c = put_triple c.args.word.now (decimal c.args.value) (atom c.args.bytes.now) c.open.ensures c.put_number.ensures
    c.put.ensures c.put_atom.ensures c.put-2.ensures
