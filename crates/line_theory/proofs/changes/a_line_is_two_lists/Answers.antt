use Rattle.line_theory.proofs.Flat as flat
use Rattle.line_theory.proofs.changes.a_line_is_two_lists.Goals as goal

pub returns : goal.returns
returns c = flat.line_read_back
