use Rattle.step_trial.proofs.rows.answer_sentence.Given as goal

-- the ledger that the blank is for
abbrev pub ghosts-check : goal.ghosts-check
ghosts-check g a = record { name = a.blank.name; parts = a.blank.parts }
