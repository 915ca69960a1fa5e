use Rattle.base_core.proofs.steps.tests.counts_on_a_ledger_of_its_own.Given as goal

-- the ledger that the blank is for
abbrev pub ghosts-tick_twice : goal.ghosts-tick_twice
ghosts-tick_twice a = record { name = a.blank.name; parts = a.blank.parts }
