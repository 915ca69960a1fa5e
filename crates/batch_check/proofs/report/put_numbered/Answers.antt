use Rattle.std.proofs.Common.{subst, ◌∙◌}
use Rattle.std.specs.Prelude.{codes}
use Rattle.std.specs.Fmt.{decimal}
use Rattle.stm_base.specs.Output.{IsPut}
use Rattle.batch_check.proofs.Putting.{behind}
use Rattle.batch_check.proofs.report.put_numbered.Goals as goal

pub returns : goal.returns
returns g c =
    behind _ _ _ (decimal c.args.number) _
    (subst (λ digits. IsPut c.args.out.now digits c.put.new.self) (c.as_bytes.ensures.value ∙ c.format.ensures.text) c.put.ensures)
    (behind _ _ _ (codes ": ") c.args.text.now c.put-2.ensures c.put_line.ensures)
