use Rattle.fol_theory.proofs.Slots as slots
use Rattle.fol_theory.proofs.contexts.slots_are_entries.Goals as goal

pub returns-clause-entries : goal.returns-clause-entries
returns-clause-entries c = slots.entries_append

pub returns-clause-names : goal.returns-clause-names
returns-clause-names c = slots.names_append

pub returns-clause-without : goal.returns-clause-without
returns-clause-without c = slots.entries_without
