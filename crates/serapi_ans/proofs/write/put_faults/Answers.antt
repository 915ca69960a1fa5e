use Rattle.std.proofs.Common.{◌+◌, ◌++◌, drop, refl, sym, ap, ◌∙◌}
use Rattle.sexp_theory.specs.Writing.{text}
use Rattle.serapi_ans.specs.Lines.{fault_value}
use Rattle.sexp_core.proofs.Putting.{put_more}
use Rattle.serapi_ans.specs.Joined.{fault_texts}
use Rattle.serapi_ans.proofs.Putting.{element_at, all_put}
use Rattle.serapi_ans.proofs.write.put_faults.Goals as goal

pub loop-fault-preserved : goal.loop-fault-preserved
loop-fault-preserved g c =
    let rest = drop c.loop-fault.fault-index c.args.faults.now in
    let more = drop (c.loop-fault.fault-index + 1) c.args.faults.now in
    put_more (fault_texts rest) (fault_texts more) c.loop-fault.invariant c.write_joined_fault.ensures
    (ap fault_texts (element_at c.args.faults.now c.loop-fault.fault-index c.fault-item.result c.loop-fault-test.true c.fault-item.is)
    ∙ ap (λ b. text (fault_value (c.fault-item.result.0, b)) ++ fault_texts more) (sym c.as_slice.ensures))

pub returns : goal.returns
returns g c = all_put fault_texts _ c.args.faults.now c.loop-fault.fault-index refl c.loop-fault-test.false c.loop-fault.invariant
