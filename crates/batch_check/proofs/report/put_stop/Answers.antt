use Rattle.std.proofs.Common.{◌++◌, List, ℕ, subst, sym}
use Rattle.std.specs.Prelude.{codes, Option}
use Rattle.std.specs.Fmt.{decimal}
use Rattle.stm_base.specs.Output.{IsPut}
use Rattle.batch_check.specs.Report.{line, stop_lines}
use Rattle.batch_check.specs.declared.stop.Stop.{Stop}
use Rattle.batch_check.proofs.Putting.{behind}
use Rattle.batch_check.proofs.report.put_stop.Goals as goal

pub returns-in-Some : goal.returns-in-Some
returns-in-Some g c =
    let old = c.args.out.now in
    let new = c.put_numbered.new.out in
    let number = decimal c.in-Some.field-0.at in
    subst (λ (s : Option Stop). IsPut old (stop_lines s) new) (sym c.in-Some.is)
    (subst (λ (name : List ℕ). IsPut old (line (codes "stopped at " ++ (number ++ (codes ": " ++ name)))) new) c.name_of.ensures
    (behind old c.put.new.self new (codes "stopped at ") (number ++ (codes ": " ++ c.name_of.result.now)) c.put.ensures c.put_numbered.ensures))
