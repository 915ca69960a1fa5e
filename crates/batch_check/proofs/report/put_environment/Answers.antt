use Rattle.std.proofs.Common.{List, ℕ, reverse, subst, sym, ◌∙◌}
use Rattle.env_core.specs.Meaning.{declaration, declarations}
use Rattle.stm_base.specs.Output.{IsPut}
use Rattle.step_theory.specs.Texts.{declaration_text, declared_names}
use Rattle.batch_check.specs.Report.{line}
use Rattle.batch_check.proofs.Putting.{err_puts, idle_lines, short_lines, next_line, from_last_mapped}
use Rattle.batch_check.proofs.report.put_environment.Goals as goal

pub returns-then-failed : goal.returns-then-failed
returns-then-failed g c =
    let E = declarations c.args.env.now in
    idle_lines (declaration_text (declared_names E)) c.args.out.now c.loop-number.out c.loop-number.number (reverse E) c.loop-number.invariant
    (sym c.failed.ensures.value ∙ c.if-failed.true)

pub returns-in_err-text : goal.returns-in_err-text
returns-in_err-text g c =
    let E = declarations c.args.env.now in
    err_puts _ c.from_residual.result c.args.out.now c.loop-number.out _ c.from_residual.ensures.1
    (short_lines (declaration_text (declared_names E)) c.args.out.now c.loop-number.out c.loop-number.number (reverse E)
    c.loop-number.invariant)

pub loop-number-preserved : goal.loop-number-preserved
loop-number-preserved g c =
    let E = declarations c.args.env.now in
    let put : List ℕ → Type 0 = λ t. IsPut c.loop-number.out (line t) c.put_line.new.out in
    next_line (declaration_text (declared_names E)) c.args.out.now c.loop-number.out c.put_line.new.out c.loop-number.number (reverse E)
    (declaration c.at.result.now)
    (from_last_mapped declaration c.args.env.now c.loop-number.number c.at.result.now c.at.ensures) c.loop-number.invariant
    (subst put c.in_ok-text.ensures (subst put c.as_slice.ensures c.put_line.ensures))
