use Rattle.std.proofs.Common.{drop}
use Rattle.sexp_core.proofs.Putting.{IsPutBut}
use Rattle.serapi_ans.specs.Pieces.{numbers_behind}
use Rattle.serapi_ans.proofs.write.put_behind.Given as goal

abbrev pub invariant-loop-id : goal.invariant-loop-id
invariant-loop-id g l = IsPutBut l.fn.out (numbers_behind l.ids) (numbers_behind (drop l.id-index l.ids)) l.out
