use Rattle.doc_theory.proofs.Flat as flat
use Rattle.doc_theory.proofs.Ruled as ruled
use Rattle.doc_theory.proofs.marks.document_is_a_list.Goals as goal

pub returns-clause-read_back : goal.returns-clause-read_back
returns-clause-read_back g c = flat.read_back

pub returns-clause-added : goal.returns-clause-added
returns-clause-added g c = flat.attempt_ruled

pub returns-clause-removed : goal.returns-clause-removed
returns-clause-removed g c = flat.remove_ruled

pub returns-clause-everywhere : goal.returns-clause-everywhere
returns-clause-everywhere g c = ruled.standing_read_back

pub returns-clause-in_two : goal.returns-clause-in_two
returns-clause-in_two g c = flat.in_two
