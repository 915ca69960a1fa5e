use Rattle.std.proofs.Common.{rules, ◌≡◌}
use Rattle.sexp_theory.specs.Writing.{text}
use Rattle.sexp_core.specs.Sexp.{meaning}
use Rattle.serapi_ans.specs.Lines.{line_value}
use Rattle.serapi_ans.proofs.Readings.{other_line, only_line, not_same}
use Rattle.serapi_ans.proofs.read.read_line.Goals as goal

pub returns-clause-read : goal.returns-clause-read
returns-clause-read c =
    other_line c.args.bytes.now (meaning c.in-Some.sexp) c.in_ok-line.line (search rules) (search rules)
    (not_same c.in_ok-is_text_of.field-0 (text (line_value c.in_ok-line.line) ≡ c.args.bytes.now) c.if-branch.false
    c.in_ok-is_text_of.ensures)

pub returns-clause-each : goal.returns-clause-each
returns-clause-each c = returns-clause-read c

pub returns-then-branch-clause-each : goal.returns-then-branch-clause-each
returns-then-branch-clause-each c line = only_line c.args.bytes.now c.in_ok-line.line line (search rules) c.lines_fit.ensures
