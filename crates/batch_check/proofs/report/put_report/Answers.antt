use Rattle.std.proofs.Common.{◌++◌, map, List, subst}
use Rattle.env_theory.specs.Declarations.{Declaration}
use Rattle.stm_base.specs.Output.{IsPut}
use Rattle.stm_base.proofs.Puts.{IsPut-both}
use Rattle.batch_check.specs.Puts.{PutsFront}
use Rattle.batch_check.specs.Report.{environment_lines, fault_text, lines_of, stop_lines}
use Rattle.batch_check.specs.Run.{fault_in}
use Rattle.batch_check.specs.declared.checked.FaultLine.{FaultLine}
use Rattle.batch_check.proofs.Putting.{err_puts, short_first, short_behind}
use Rattle.batch_check.proofs.report.put_report.Goals as goal

pub returns-in_err-put_environment : goal.returns-in_err-put_environment
returns-in_err-put_environment g c =
    let s = c.args.checked.now in
    let rest = lines_of fault_text (map fault_in s.faults.items) ++ stop_lines s.stop in
    err_puts _ c.from_residual.result c.args.out.now c.put_environment.new.out _ c.from_residual.ensures.1
    (short_first c.args.out.now c.put_environment.new.out _ rest
    (subst (λ (E : List Declaration). PutsFront c.args.out.now (environment_lines E) c.put_environment.new.out) c.env.ensures c.in_err-put_environment.ensures))

pub returns-in_err-put_faults : goal.returns-in_err-put_faults
returns-in_err-put_faults g c =
    let s = c.args.checked.now in
    let old = c.args.out.now in
    let mid = c.put_environment.new.out in
    let new = c.put_faults.new.out in
    let faults = lines_of fault_text (map fault_in s.faults.items) in
    err_puts _ c.from_residual-in_err-put_faults.result old new _ c.from_residual-in_err-put_faults.ensures.1
    (short_behind old mid new _ (faults ++ stop_lines s.stop)
    (subst (λ (E : List Declaration). IsPut old (environment_lines E) mid) c.env.ensures c.in_ok-put_environment.ensures)
    (short_first mid new faults (stop_lines s.stop)
    (subst (λ (fs : List FaultLine). PutsFront mid (lines_of fault_text (map fault_in fs)) new) c.as_slice.ensures.value c.in_err-put_faults.ensures)))

pub returns : goal.returns
returns g c =
    let s = c.args.checked.now in
    let old = c.args.out.now in
    let mid = c.put_environment.new.out in
    let faults = lines_of fault_text (map fault_in s.faults.items) in
    IsPut-both old mid c.put_stop.new.out _ (faults ++ stop_lines s.stop)
    (subst (λ (E : List Declaration). IsPut old (environment_lines E) mid) c.env.ensures c.in_ok-put_environment.ensures)
    (IsPut-both mid c.put_faults.new.out c.put_stop.new.out faults (stop_lines s.stop)
    (subst (λ (fs : List FaultLine). IsPut mid (lines_of fault_text (map fault_in fs)) c.put_faults.new.out) c.as_slice.ensures.value
    c.in_ok-put_faults.ensures) c.put_stop.ensures)
