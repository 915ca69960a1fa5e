use Rattle.std.proofs.Common.{reverse, take}
use Rattle.env_core.specs.Meaning.{declarations}
use Rattle.stm_base.specs.Output.{IsPut}
use Rattle.step_theory.specs.Texts.{declaration_text, declared_names}
use Rattle.batch_check.specs.Report.{lines_of}
use Rattle.batch_check.proofs.report.put_environment.Given as goal

abbrev pub invariant-loop-number : goal.invariant-loop-number
invariant-loop-number g l = let E = declarations l.env in
    IsPut l.initial.out (lines_of (declaration_text (declared_names E)) (take l.number (reverse E))) l.out
