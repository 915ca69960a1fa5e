-- THE THEOREM is `IsBatch`, the last word of this page, of one call c of `vcheck_main` and its words; each of its clauses has a word before
-- it.
--
--   B is the `taken` bytes that the call took from the source, and W what it wrote to the sink. Where the source tells its bytes, B are the
--   first `taken` of those that it had left; where the sink tells its bytes, W is what it has behind those that it had.
--
--   What is written is what checking the text B finds: the declarations behind its sentences, their faults, and where checking stopped.
use Rattle.std.specs.Prelude.{◌≡◌, ℕ, ◌≤◌, ◌⊎◌, List, [], ◌∷◌, length, take, drop, Bool, true, false, Option, Some, IfSome}
use Rattle.std.specs.Io.KnownBytes.{Appends, IsAtEnd}
use Rattle.stm_base.specs.Counts.{Rose, Stood}
use Rattle.stm_base.specs.Output.{AppendsPrefix}
use Rattle.batch_check.specs.Numbers.{CLEAN, FAULTY, BAD_WORDS, READ_FAULT, WRITE_FAULT, NO_MEMORY, TOO_LONG, INPUT_LIMIT}
use Rattle.batch_check.specs.Batch.{Batch, batch, is_clean}
use Rattle.batch_check.specs.Report.{owed}

-- ---- the call

-- a call: the bytes that the source has left and those that were written to the sink, where they tell them, and their counts of faults,
-- each at the call and at its return; the status; how many bytes were taken, and whether the end was met
pub record Call : Type 0 where
  pub left_before : Option (List ℕ)
  pub left_after : Option (List ℕ)
  pub read_faults_before : ℕ
  pub read_faults_after : ℕ
  pub written_before : Option (List ℕ)
  pub written_after : Option (List ℕ)
  pub write_faults_before : ℕ
  pub write_faults_after : ℕ
  pub status : ℕ
  pub taken : ℕ
  pub at_end : Bool

-- the input was checked to its end, and all that was found is written
abbrev pub IsAnswered : ℕ → Type 0
IsAnswered status = (status ≡ CLEAN) ⊎ (status ≡ FAULTY)

-- a write failed or memory was wanting
abbrev pub IsLost : ℕ → Type 0
IsLost status = (status ≡ WRITE_FAULT) ⊎ (status ≡ NO_MEMORY)

-- ---- words

-- the stated command has no words
abbrev pub IsOutside : {A : Type 0} → List A → Type 0
IsOutside [] = ⊥
IsOutside (word ∷ words) = Unit {0}

-- nothing was written: the sink's bytes and its count are as before
pub record IsUnwritten (c : Call) : Type 0 where
  pub written : c.written_after ≡ c.written_before
  pub write_faults : c.write_faults_after ≡ c.write_faults_before

-- nothing was read or written: all bytes and counts are as before
pub record IsUntouched (c : Call) : Type 0 where
  pub taken : c.taken ≡ 0
  pub left : c.left_after ≡ c.left_before
  pub read_faults : c.read_faults_after ≡ c.read_faults_before
  pub unwritten : IsUnwritten c

-- WORDS. The status is 2 exactly where there is a word. Then nothing was read or written
pub record HasWords {A : Type 0} (words : List A) (c : Call) : Type 0 where
  pub refused : IsOutside words → c.status ≡ BAD_WORDS
  pub only : c.status ≡ BAD_WORDS → IsOutside words
  pub untouched : c.status ≡ BAD_WORDS → IsUntouched c

-- ---- read

-- B are the first bytes that the source had left, and what it has left now are those behind
pub record IsTaken (all : List ℕ) (now : Option (List ℕ)) (taken : ℕ) : Type 0 where
  pub within : taken ≤ length all
  pub rest : now ≡ Some (drop taken all)

-- READ. Where `at_end` holds the source has nothing left. It holds with the statuses 0 and 1, and not with 2, 3 and 7. At most
-- 4,294,967,296 bytes were taken
pub record HasRead (c : Call) : Type 0 where
  pub taken_bytes : IfSome c.left_before (λ all. IsTaken all c.left_after c.taken)
  pub nothing_left : c.at_end ≡ true → IsAtEnd c.left_after
  pub ended : IsAnswered c.status → c.at_end ≡ true
  pub not_ended : c.at_end ≡ true → IsAnswered c.status ⊎ IsLost c.status
  pub limit : c.taken ≤ INPUT_LIMIT

-- ---- written

-- WRITTEN. With the statuses 0 and 1 W is what is owed for B, whole; where the end was met it is a prefix of that, and else nothing was
-- written
pub record HasWritten (c : Call) : Type 0 where
  pub whole : IsAnswered c.status → IfSome c.left_before (λ all. Appends c.written_before c.written_after (owed (take c.taken all)))
  pub prefix : IfSome c.left_before (λ all. AppendsPrefix c.written_before c.written_after (owed (take c.taken all)))
  pub nothing : c.at_end ≡ false → IsUnwritten c

-- ---- the causes of the statuses

-- the batch of B
abbrev pub batch_read : Call → List ℕ → Batch
batch_read c all = batch (take c.taken all)

-- the input ended with B, in which there is no fault and which checking didn't stop in
pub record IsClean (c : Call) (all : List ℕ) : Type 0 where
  pub at_end : c.at_end ≡ true
  pub clean : is_clean (batch_read c all) ≡ true

-- the input ended with B, in which there is a fault or which checking stopped in
pub record IsFaulty (c : Call) (all : List ℕ) : Type 0 where
  pub at_end : c.at_end ≡ true
  pub faulty : is_clean (batch_read c all) ≡ false

-- the limit was taken and the end wasn't met
pub record IsTooLong (c : Call) : Type 0 where
  pub full : c.taken ≡ INPUT_LIMIT
  pub going_on : c.at_end ≡ false

-- 0: exactly where the input ended with B, and B has neither a fault nor a stop, but for a write fault and want of memory
pub record HasCleanCause (c : Call) : Type 0 where
  pub only : c.status ≡ CLEAN → IfSome c.left_before (λ all. IsClean c all)
  pub always : IfSome c.left_before (λ all. IsClean c all → (c.status ≡ CLEAN) ⊎ IsLost c.status)

-- 1: exactly where the input ended with B, and B has a fault or a stop, but for a write fault and want of memory
pub record HasFaultyCause (c : Call) : Type 0 where
  pub only : c.status ≡ FAULTY → IfSome c.left_before (λ all. IsFaulty c all)
  pub always : IfSome c.left_before (λ all. IsFaulty c all → (c.status ≡ FAULTY) ⊎ IsLost c.status)

-- 3: only where the source's count rose in this call, and with every other status it stayed: no failed read is passed over
pub record HasReadFaultCause (c : Call) : Type 0 where
  pub only : c.status ≡ READ_FAULT → Rose c.read_faults_before c.read_faults_after
  pub passed : (c.status ≡ READ_FAULT) ⊎ (c.read_faults_after ≡ c.read_faults_before)

-- 4: only where the sink's count rose in this call, and with every other status it stayed: no failed write is passed over
pub record HasWriteFaultCause (c : Call) : Type 0 where
  pub only : c.status ≡ WRITE_FAULT → Rose c.write_faults_before c.write_faults_after
  pub passed : (c.status ≡ WRITE_FAULT) ⊎ (c.write_faults_after ≡ c.write_faults_before)

-- 7: exactly where the limit was taken without the end, but for want of memory
pub record HasTooLongCause (c : Call) : Type 0 where
  pub only : c.status ≡ TOO_LONG → IsTooLong c
  pub always : IsTooLong c → (c.status ≡ TOO_LONG) ⊎ (c.status ≡ NO_MEMORY)

-- there is no other status than 0, 1, 2, 3, 4, 5 and 7
abbrev pub IsStatus : ℕ → Type 0
IsStatus status = (status ≡ CLEAN) ⊎ ((status ≡ FAULTY) ⊎ ((status ≡ BAD_WORDS)
    ⊎ ((status ≡ READ_FAULT) ⊎ ((status ≡ WRITE_FAULT) ⊎ ((status ≡ NO_MEMORY) ⊎ (status ≡ TOO_LONG))))))

-- ---- completeness

-- the status is 0 or 1 as the batch of B says, or 7 where the input is too long
abbrev pub IsComplete : Call → Type 0
IsComplete c = ((c.status ≡ CLEAN) × IfSome c.left_before (λ all. IsClean c all))
    ⊎ (((c.status ≡ FAULTY) × IfSome c.left_before (λ all. IsFaulty c all)) ⊎ ((c.status ≡ TOO_LONG) × IsTooLong c))

-- COMPLETENESS. Where neither count rose, the status is 2 for the words, or 5, or the answer is complete
abbrev pub HasCompleteness : Call → Type 0
HasCompleteness c = Stood c.read_faults_before c.read_faults_after → Stood c.write_faults_before c.write_faults_after
    → (c.status ≡ BAD_WORDS) ⊎ ((c.status ≡ NO_MEMORY) ⊎ IsComplete c)

-- ---- the theorem

-- THE THEOREM
pub record IsBatch {A : Type 0} (ws : List A) (c : Call) : Type 0 where
  pub words : HasWords ws c
  pub read : HasRead c
  pub written : HasWritten c
  pub known : IsStatus c.status
  pub clean : HasCleanCause c
  pub faulty : HasFaultyCause c
  pub read_fault : HasReadFaultCause c
  pub write_fault : HasWriteFaultCause c
  pub too_long : HasTooLongCause c
  pub complete : HasCompleteness c
