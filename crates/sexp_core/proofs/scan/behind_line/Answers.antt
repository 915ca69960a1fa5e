use Rattle.std.proofs.Common.{sym, ◌∙◌, ap, ◌==◌}
use Rattle.std.specs.List.{position}
use Rattle.sexp_core.proofs.Lines.{behind_line-found, behind_line-none}
use Rattle.sexp_core.proofs.scan.behind_line.Goals as goal

pub returns-in-Some-clause-rest : goal.returns-in-Some-clause-rest
returns-in-Some-clause-rest c =
    behind_line-found c.args.bytes.now c.args.start c.args.offset c.in-Some.end
    (sym (c.in-Some.ensures ∙ ap (position (λ b. b == 10)) c.bytes_from.ensures))

pub returns-in-None-clause-rest : goal.returns-in-None-clause-rest
returns-in-None-clause-rest c =
    behind_line-none c.args.bytes.now c.args.start c.args.offset
    (sym (c.in-None.ensures ∙ ap (position (λ b. b == 10)) c.bytes_from.ensures))
