use Rattle.doc_theory.proofs.Places as places
use Rattle.doc_theory.proofs.Ids as numbers
use Rattle.doc_theory.proofs.Turns as turns
use Rattle.doc_theory.proofs.Asked as asked
use Rattle.doc_theory.proofs.line.line_changes_at_one_place.Goals as goal

pub returns-clause-ids : goal.returns-clause-ids
returns-clause-ids g c = places.ids_line

pub returns-clause-removed : goal.returns-clause-removed
returns-clause-removed g c = places.remove_cut

pub returns-clause-added : goal.returns-clause-added
returns-clause-added g c = places.attempt_line

pub returns-clause-distinct : goal.returns-clause-distinct
returns-clause-distinct g c = numbers.standing_ids

pub returns-clause-tip : goal.returns-clause-tip
returns-clause-tip g c = numbers.before_tip

pub returns-clause-join : goal.returns-clause-join
returns-clause-join g c = numbers.join_is_exec

pub returns-clause-turn : goal.returns-clause-turn
returns-clause-turn g c = turns.turn_left

pub returns-clause-join_asks : goal.returns-clause-join_asks
returns-clause-join_asks g c = asked.join_asks_all
