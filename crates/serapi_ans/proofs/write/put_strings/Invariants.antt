use Rattle.std.proofs.Common.{drop}
use Rattle.sexp_core.proofs.Putting.{IsPutBut}
use Rattle.serapi_ans.specs.Pieces.{string_texts}
use Rattle.serapi_ans.proofs.write.put_strings.Given as goal

abbrev pub invariant-loop-text : goal.invariant-loop-text
invariant-loop-text g l = IsPutBut l.fn.out (string_texts l.texts) (string_texts (drop l.text-index l.texts)) l.out
