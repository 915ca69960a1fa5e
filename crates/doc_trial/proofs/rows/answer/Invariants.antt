use Rattle.doc_trial.proofs.rows.answer.Given as goal

-- the ledger that the blank is for
abbrev pub ghosts-answer_first : goal.ghosts-answer_first
ghosts-answer_first g a = record { name = a.blank.name; parts = a.blank.parts }
