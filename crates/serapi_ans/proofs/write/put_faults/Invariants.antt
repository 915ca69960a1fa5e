use Rattle.std.proofs.Common.{drop}
use Rattle.sexp_core.proofs.Putting.{IsPutBut}
use Rattle.serapi_ans.specs.Joined.{fault_texts}
use Rattle.serapi_ans.proofs.write.put_faults.Given as goal

abbrev pub invariant-loop-fault : goal.invariant-loop-fault
invariant-loop-fault g l = IsPutBut l.fn.out (fault_texts l.faults) (fault_texts (drop l.fault-index l.faults)) l.out
