use Rattle.sexp_theory.specs.Values.{atom}
use Rattle.serapi_ans.proofs.Putting.{put_answer}
use Rattle.serapi_ans.proofs.write.write_word.Goals as goal

pub returns : goal.returns
returns g c = put_answer c.args.tag.now (atom c.args.word.now) c.begin_answer.ensures c.put_atom.ensures c.end_answer.ensures
