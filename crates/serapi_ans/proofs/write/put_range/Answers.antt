use Rattle.std.proofs.Common.{codes, ◌∷◌, []}
use Rattle.sexp_theory.specs.Values.{atom, values}
use Rattle.serapi_ans.specs.Lines.{number}
use Rattle.serapi_ans.proofs.Putting.{put_two_lists}
use Rattle.serapi_ans.proofs.write.put_range.Goals as goal

pub returns : goal.returns
returns g c = put_two_lists (values (atom (codes "bp") ∷ number c.args.from ∷ []))
    (values (atom (codes "ep") ∷ number c.args.to ∷ [])) c.put.ensures c.put_numbered.ensures c.put_numbered-2.ensures c.put-2.ensures
