use Rattle.std.proofs.Common.{◌++◌, List, ℕ, get_or, map, subst, sym, ◌∙◌}
use Rattle.std.specs.Prelude.{codes}
use Rattle.std.specs.Fmt.{decimal}
use Rattle.stm_base.specs.Output.{IsPut}
use Rattle.step_core.specs.declared.verdict.Verdict.TheVariants.{Good}
use Rattle.batch_check.specs.declared.checked.FaultLine.{FaultLine}
use Rattle.batch_check.specs.Report.{fault_text, line}
use Rattle.batch_check.specs.Run.{fault_in}
use Rattle.batch_check.proofs.Putting.{err_puts, idle_lines, short_lines, next_line, next_mapped}
use Rattle.batch_check.proofs.report.put_faults.Goals as goal

pub returns-then-failed : goal.returns-then-failed
returns-then-failed g c =
    idle_lines fault_text _ _ c.loop-fault.fault-index (map fault_in c.args.faults.now) c.loop-fault.invariant
    (sym c.failed.ensures.value ∙ c.if-failed.true)

pub returns-in_err-text : goal.returns-in_err-text
returns-in_err-text g c =
    err_puts _ c.from_residual.result _ _ _ c.from_residual.ensures.1
    (short_lines fault_text _ _ c.loop-fault.fault-index (map fault_in c.args.faults.now) c.loop-fault.invariant)

pub loop-fault-preserved : goal.loop-fault-preserved
loop-fault-preserved g c =
    let xs = c.args.faults.now in
    let i = c.loop-fault.fault-index in
    let f : FaultLine = get_or xs i (record { id = 0; verdict = Good }) in
    next_line fault_text c.args.out.now c.loop-fault.out c.put_fault.new.out i (map fault_in xs) (fault_in f)
    (next_mapped fault_in xs i (record { id = 0; verdict = Good }) c.loop-fault-test.true) c.loop-fault.invariant
    (subst (λ (t : List ℕ). IsPut c.loop-fault.out (line (codes "fault " ++ (decimal f.id ++ (codes ": " ++ t)))) c.put_fault.new.out)
    (c.as_slice.ensures ∙ c.in_ok-text.ensures) c.put_fault.ensures)
