-- How the input was read, and how it was answered.
use Rattle.std.specs.Prelude.{◌≡◌, ℕ, ◌≤◌, ◌<◌, ◌⊎◌, List, take, Bool, true, false, Option, IfSome, Result, Ok, Err}
use Rattle.std.specs.Io.KnownBytes.{Appends, IsAtEnd}
use Rattle.stm_base.specs.Counts.{Rose}
use Rattle.stm_base.specs.Output.{AppendsPrefix}
use Rattle.batch_check.specs.Numbers.{CLEAN, FAULTY, WRITE_FAULT, NO_MEMORY, INPUT_LIMIT}
use Rattle.batch_check.specs.Batch.{batch, is_clean}
use Rattle.batch_check.specs.Report.{owed}
use Rattle.batch_check.specs.Headline.{IsAnswered, IsLost, IsTaken}
use Rattle.batch_check.specs.declared.input.Input.{Input}
use Rattle.batch_check.specs.declared.input.InputEnd.{InputEnd}
use Rattle.batch_check.specs.declared.input.InputEnd.TheVariants.{Met, Fault, Limit, NoMemory}

-- a source or a sink: its bytes where it tells them, and its count of faults, at a call and at its return
pub record Between : Type 0 where
  pub before : Option (List ℕ)
  pub after : Option (List ℕ)
  pub faults_before : ℕ
  pub faults_after : ℕ

-- the same from its parts
abbrev pub between : Option (List ℕ) → Option (List ℕ) → ℕ → ℕ → Between
between before after faults_before faults_after =
    record { before = before; after = after; faults_before = faults_before; faults_after = faults_after }

-- no call failed
abbrev pub HasNoFault : Between → Type 0
HasNoFault b = b.faults_after ≡ b.faults_before

-- the text is the bytes that were taken, and nothing is left
pub record IsWhole (source : Between) (text : List ℕ) (taken : ℕ) : Type 0 where
  pub taken_bytes : IfSome source.before (λ all. text ≡ take taken all)
  pub nothing_left : IsAtEnd source.after

-- the input ended so
abbrev pub EndsSo : InputEnd → Between → List ℕ → ℕ → Type 0
EndsSo Met source text taken = HasNoFault source × IsWhole source text taken
EndsSo Fault source text taken = Rose source.faults_before source.faults_after × (taken < INPUT_LIMIT)
EndsSo Limit source text taken = HasNoFault source × (taken ≡ INPUT_LIMIT)
EndsSo NoMemory source text taken = HasNoFault source

-- the input was read so
pub record IsRead (source : Between) (i : Input) : Type 0 where
  pub taken : IfSome source.before (λ all. IsTaken all source.after i.taken)
  pub limit : i.taken ≤ INPUT_LIMIT
  pub ends : EndsSo i.end source i.text.items i.taken

-- a text was answered so, with a status
pub record IsAnsweredSo (sink : Between) (text : List ℕ) (status : ℕ) : Type 0 where
  pub known : IsAnswered status ⊎ IsLost status
  pub clean : status ≡ CLEAN → is_clean (batch text) ≡ true
  pub faulty : status ≡ FAULTY → is_clean (batch text) ≡ false
  pub whole : IsAnswered status → Appends sink.before sink.after (owed text)
  pub prefix : AppendsPrefix sink.before sink.after (owed text)
  pub failed : status ≡ WRITE_FAULT → Rose sink.faults_before sink.faults_after
  pub passed : (status ≡ WRITE_FAULT) ⊎ HasNoFault sink

-- the status behind the lines, where memory lasted for them or not, a write has failed or not, and what was found is clean or not
abbrev pub status_of : {T E : Type 0} → Result T E → Bool → Bool → ℕ
status_of put true clean = WRITE_FAULT
status_of (Err e) false clean = NO_MEMORY
status_of (Ok x) false true = CLEAN
status_of (Ok x) false false = FAULTY
