use Rattle.batch_check.proofs.run.Run.check.Given as goal

-- the ledger that the blank is for
abbrev pub ghosts-check_one : goal.ghosts-check_one
ghosts-check_one a = record { name = a.blank.name; parts = a.blank.parts }
