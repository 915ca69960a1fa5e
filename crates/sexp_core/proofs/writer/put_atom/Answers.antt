use Rattle.std.proofs.Common.{sym, ◌∙◌}
use Rattle.sexp_core.proofs.Putting.{put_in_quotes}
use Rattle.sexp_core.proofs.writer.put_atom.Goals as goal

pub returns-else-is_bare_atom : goal.returns-else-is_bare_atom
returns-else-is_bare_atom g c = put_in_quotes c.args.bytes.now (sym c.if-is_bare_atom.false
    ∙ c.is_bare_atom.ensures) c.put-else-is_bare_atom.ensures c.put_quoted.ensures c.put-else-is_bare_atom-2.ensures
