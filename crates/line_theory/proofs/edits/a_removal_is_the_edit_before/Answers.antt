use Rattle.line_theory.proofs.Before as earlier
use Rattle.line_theory.proofs.edits.a_removal_is_the_edit_before.Goals as goal

pub returns : goal.returns
returns c = earlier.removed_before
