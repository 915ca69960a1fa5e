-- The status of a run, by why it stopped and by whether a write had failed at its end.
use Rattle.std.specs.Prelude.{ℕ, Bool, if◌then◌else◌}
use Rattle.sexp_theory.specs.declared.input.InputEnd.TheVariants.{Clean, Truncated}
use Rattle.session_run.specs.declared.party.Loss.TheVariants.{WriteFault, WantOfMemory}
use Rattle.session_run.specs.declared.serve.Stop.{Stop}
use Rattle.session_run.specs.declared.serve.Stop.TheVariants.{Quit, End, Fault, Limit, Lost}
use Rattle.session_run.specs.Numbers.{DONE, READ_FAULT, WRITE_FAULT, NO_MEMORY, TRUNCATED, TOO_LONG}

-- the status of a run that stopped so, where a write has failed or not
abbrev pub status_of : Stop → Bool → ℕ
status_of Quit failed = if failed then WRITE_FAULT else DONE
status_of (End Clean) failed = if failed then WRITE_FAULT else DONE
status_of (End (Truncated p)) failed = TRUNCATED
status_of Fault failed = READ_FAULT
status_of Limit failed = TOO_LONG
status_of (Lost WriteFault) failed = if failed then WRITE_FAULT else NO_MEMORY
status_of (Lost WantOfMemory) failed = NO_MEMORY
