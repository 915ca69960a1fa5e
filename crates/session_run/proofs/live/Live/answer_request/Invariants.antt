use Rattle.session_run.proofs.live.Live.answer_request.Given as goal

-- the ledger that the blank is for
abbrev pub ghosts-command : goal.ghosts-command
ghosts-command g a = record { name = a.blank.name; parts = a.blank.parts }
