use Rattle.sexp_theory.specs.Values.{atom}
use Rattle.serapi_ans.proofs.Putting.{put_pair}
use Rattle.serapi_ans.proofs.pieces.put_named.Goals as goal

pub returns : goal.returns
returns g c = put_pair c.args.word.now (atom c.args.bytes.now) c.open.ensures c.put_atom.ensures c.put.ensures
