use Rattle.kernel_trial.proofs.rows.declared.Given as goal

-- the ledger that the blank is for
abbrev pub ghosts-one_sentence : goal.ghosts-one_sentence
ghosts-one_sentence a = record { name = a.blank.name; parts = a.blank.parts }
