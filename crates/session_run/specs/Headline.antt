-- THE THEOREM is `IsSession`, the last word of this page, of one call c of `serve_alone` or `sertop_main`; each of its clauses has a word
-- before it.
--
--   B is the `taken` bytes that the call took from the source, H its `history`, and W what it wrote to the sink. Where the
--   source tells its bytes, B are the first `taken` of those that it had left; where the sink tells its bytes, W is what it
--   has behind those that it had.
--
--   However memory and faults fall among the commands, what is written is what the one-thread document answers to the
--   commands read.
use Rattle.std.specs.Prelude.{◌≡◌, ℕ, ◌≤◌, ◌⊎◌, ◌||◌, List, [], ◌∷◌, length, take, drop, Bool, true, false, Option, Some, IfSome}
use Rattle.std.specs.Io.KnownBytes.{Appends, IsAtEnd}
use Rattle.stm_base.specs.Counts.{Rose, Stood}
use Rattle.stm_base.specs.Output.{AppendsPrefix}
use Rattle.sexp_theory.specs.declared.input.InputEnd.{InputEnd}
use Rattle.sexp_theory.specs.declared.input.InputEnd.TheVariants.{Clean, Truncated}
use Rattle.serapi_ans.specs.declared.line.Line.{Line}
use Rattle.serapi_ans.specs.declared.line.Line.TheVariants as line
use Rattle.serapi_cmd.specs.Requests.{input_end}
use Rattle.serapi_cmd.specs.declared.request.Request.{Request}
use Rattle.doc_theory.specs.Answers.{Outcomes, whole}
use Rattle.doc_theory.specs.Histories.{Event, requests, outcomes}
use Rattle.doc_core.specs.Answers.{answers}
use Rattle.doc_core.specs.Histories.{Legal, render}
use Rattle.session_run.specs.Numbers.{LIVE_LIMIT}
use Rattle.session_run.specs.Items.{requests_in, has_quit}
use Rattle.session_run.specs.Closing.{is_closed, rendered}
use Rattle.session_run.specs.Numbers.{DONE, BAD_WORDS, READ_FAULT, WRITE_FAULT, NO_MEMORY, TRUNCATED, TOO_LONG}
use Rattle.session_run.specs.Numbers.{INPUT_LIMIT}

-- ---- the call

-- a call: the bytes that the source has left and those that were written to the sink, where they tell them, and their counts of faults,
-- each at the call and at its return; the status; how many bytes were taken, and whether the end was met; and the history
pub record Call : Type 0 where
  pub left_before : Option (List ℕ)
  pub left_after : Option (List ℕ)
  pub read_faults_before : ℕ
  pub read_faults_after : ℕ
  pub written_before : Option (List ℕ)
  pub written_after : Option (List ℕ)
  pub write_faults_before : ℕ
  pub write_faults_after : ℕ
  pub status : ℕ
  pub taken : ℕ
  pub at_end : Bool
  pub history : List Event

-- the requests in B, the first bytes of those that were left
abbrev pub requests_read : Call → List ℕ → List Request
requests_read c all = requests_in (take c.taken all) c.at_end

-- Quit was read
abbrev pub IsQuit : Call → Type 0
IsQuit c = has_quit (requests c.history) ≡ true

-- ---- words

-- the stated command has no words
abbrev pub IsOutside : {A : Type 0} → List A → Type 0
IsOutside [] = ⊥
IsOutside (word ∷ words) = Unit {0}

-- WORDS. The status is 2 exactly where the words are outside the stated command. Then H is empty and nothing was taken
pub record HasWords {A : Type 0} (words : List A) (status taken : ℕ) (h : List Event) : Type 0 where
  pub refused : IsOutside words → status ≡ BAD_WORDS
  pub only : status ≡ BAD_WORDS → IsOutside words
  pub empty : status ≡ BAD_WORDS → (h ≡ []) × (taken ≡ 0)

-- ---- legal

-- nothing was read or written: all bytes and counts are as before
pub record IsUntouched (c : Call) : Type 0 where
  pub taken : c.taken ≡ 0
  pub left : c.left_after ≡ c.left_before
  pub read_faults : c.read_faults_after ≡ c.read_faults_before
  pub written : c.written_after ≡ c.written_before
  pub write_faults : c.write_faults_after ≡ c.write_faults_before

-- LEGAL. H is a legal history of a document in which at most 1,048,576 sentences live, and its last event is the end. The one exception is
-- an H with no event: then nothing was read or written, and the status is 2 for the words or 5 for want of memory before the document was
-- made
abbrev pub HasLegalHistory : Call → List Event → Type 0
HasLegalHistory c [] = IsUntouched c × ((c.status ≡ BAD_WORDS) ⊎ (c.status ≡ NO_MEMORY))
HasLegalHistory c (e ∷ es) = Legal LIVE_LIMIT (e ∷ es) × (is_closed (e ∷ es) ≡ true)

-- ---- read

-- all that was asked for was answered before this status
abbrev pub IsAnswered : ℕ → Type 0
IsAnswered status = (status ≡ DONE) ⊎ ((status ≡ READ_FAULT) ⊎ ((status ≡ TRUNCATED) ⊎ (status ≡ TOO_LONG)))

-- B are the first bytes that the source had left, and what it has left now are those behind
pub record IsTaken (all : List ℕ) (now : Option (List ℕ)) (taken : ℕ) : Type 0 where
  pub within : taken ≤ length all
  pub rest : now ≡ Some (drop taken all)

-- READ. The requests of H are the first of those in B, whose end is the end of the input where `at_end` holds, and all of them
-- with status 0, 3, 6 and 7. Where `at_end` holds the source has nothing left. It holds with a status 0 without Quit and with 6, and
-- not with 3 and 7. At most 4,294,967,296 bytes were taken
pub record HasRead (c : Call) : Type 0 where
  pub taken_bytes : IfSome c.left_before (λ all. IsTaken all c.left_after c.taken)
  pub first : IfSome c.left_before (λ all. take (length (requests c.history)) (requests_read c all) ≡ requests c.history)
  pub whole : IsAnswered c.status → IfSome c.left_before (λ all. requests c.history ≡ requests_read c all)
  pub nothing_left : c.at_end ≡ true → IsAtEnd c.left_after
  pub ended : c.status ≡ DONE → has_quit (requests c.history) ≡ false → c.at_end ≡ true
  pub truncated_end : c.status ≡ TRUNCATED → c.at_end ≡ true
  pub not_ended : (c.status ≡ READ_FAULT) ⊎ (c.status ≡ TOO_LONG) → c.at_end ≡ false
  pub limit : c.taken ≤ INPUT_LIMIT

-- ---- written

-- WRITTEN. W is what H renders where the sink's count didn't rise, else a prefix of it; with status 0 it is all of it
pub record HasWritten (c : Call) : Type 0 where
  pub whole : Stood c.write_faults_before c.write_faults_after ⊎ (c.status ≡ DONE)
      → Appends c.written_before c.written_after (rendered c.history)
  pub prefix : AppendsPrefix c.written_before c.written_after (rendered c.history)

-- ---- one thread

-- ONE THREAD. The lines of H are what the one-thread document, in which at most 1,048,576 sentences live, answers to the requests of H,
-- each going as far as its outcome says
abbrev pub IsOneThread : List Event → Type 0
IsOneThread h = render h ≡ answers LIVE_LIMIT (requests h) (outcomes h)

-- ---- the causes of the statuses

-- an input that ends so ends outside of an item
abbrev pub EndsClean : InputEnd → Type 0
EndsClean Clean = Unit {0}
EndsClean (Truncated p) = ⊥

-- the input ends inside of an item
abbrev pub EndsInside : InputEnd → Type 0
EndsInside Clean = ⊥
EndsInside (Truncated p) = Unit {0}

-- the input ended with B, and with neither a Quit nor an item that isn't whole
pub record IsClean (c : Call) (all : List ℕ) : Type 0 where
  pub ended : c.at_end ≡ true
  pub no_quit : has_quit (requests c.history) ≡ false
  pub clean : EndsClean (input_end (take c.taken all))

-- the input ended with B, inside of an item, and there was no Quit
pub record IsTruncated (c : Call) (all : List ℕ) : Type 0 where
  pub ended : c.at_end ≡ true
  pub no_quit : has_quit (requests c.history) ≡ false
  pub inside : EndsInside (input_end (take c.taken all))

-- the limit was taken with neither the end nor a Quit
pub record IsTooLong (c : Call) : Type 0 where
  pub full : c.taken ≡ INPUT_LIMIT
  pub going_on : c.at_end ≡ false
  pub no_quit : has_quit (requests c.history) ≡ false

-- the status is this one, or a write failed or memory was wanting before
abbrev pub IsOrLost : ℕ → ℕ → Type 0
IsOrLost status wanted = (status ≡ wanted) ⊎ ((status ≡ WRITE_FAULT) ⊎ (status ≡ NO_MEMORY))

-- 0: exactly where Quit was read, or the input ended outside of an item, but for a write fault and want of memory
pub record HasDoneCause (c : Call) : Type 0 where
  pub only : c.status ≡ DONE → IsQuit c ⊎ IfSome c.left_before (λ all. IsClean c all)
  pub at_quit : IsQuit c → IsOrLost c.status DONE
  pub at_clean : IfSome c.left_before (λ all. IsClean c all → IsOrLost c.status DONE)

-- 3: only where the source's count rose in this call, and with every other status it stayed: no failed read is passed over
pub record HasReadFaultCause (c : Call) : Type 0 where
  pub only : c.status ≡ READ_FAULT → Rose c.read_faults_before c.read_faults_after
  pub passed : (c.status ≡ READ_FAULT) ⊎ (c.read_faults_after ≡ c.read_faults_before)

-- 4: only where the sink's count rose in this call, and with 0 it stayed: 0 passes no failed write over
pub record HasWriteFaultCause (c : Call) : Type 0 where
  pub only : c.status ≡ WRITE_FAULT → Rose c.write_faults_before c.write_faults_after
  pub passed : c.status ≡ DONE → c.write_faults_after ≡ c.write_faults_before

-- 6: exactly where the input ended inside of an item and there was no Quit, but for a write fault and want of memory
pub record HasTruncatedCause (c : Call) : Type 0 where
  pub only : c.status ≡ TRUNCATED → IfSome c.left_before (λ all. IsTruncated c all)
  pub always : IfSome c.left_before (λ all. IsTruncated c all → IsOrLost c.status TRUNCATED)

-- 7: exactly where the limit was taken with neither the end nor a Quit, but for a write fault and want of memory
pub record HasTooLongCause (c : Call) : Type 0 where
  pub only : c.status ≡ TOO_LONG → IsTooLong c
  pub always : IsTooLong c → IsOrLost c.status TOO_LONG

-- there is no other status of a session than 0, 3, 4, 5, 6 and 7
abbrev pub IsStatus : ℕ → Type 0
IsStatus status = (status ≡ DONE) ⊎ ((status ≡ READ_FAULT)
    ⊎ ((status ≡ WRITE_FAULT) ⊎ ((status ≡ NO_MEMORY) ⊎ ((status ≡ TRUNCATED) ⊎ (status ≡ TOO_LONG)))))

-- ---- completeness

-- no request was cut
abbrev pub AllWhole : List Outcomes → Type 0
AllWhole [] = Unit {0}
AllWhole (o ∷ os) = (o.cut ≡ whole) × AllWhole os

-- whether a line says that memory was wanting
abbrev pub is_short : Line → Bool
is_short (line.OutOfMemory tag) = true
is_short other = false

-- one of the lines says that memory was wanting
abbrev pub has_short : List Line → Bool
has_short [] = false
has_short (l ∷ ls) = is_short l || has_short ls

-- each request in B up to Quit or the end is answered, whole where no line says OutOfMemory, and the status is 0, 6 or 7 as B says
pub record IsComplete (c : Call) : Type 0 where
  pub all : IfSome c.left_before (λ all. requests c.history ≡ requests_read c all)
  pub whole : has_short (render c.history) ≡ false → AllWhole (outcomes c.history)
  pub which : ((c.status ≡ DONE) × (IsQuit c ⊎ (c.at_end ≡ true)))
      ⊎ (((c.status ≡ TRUNCATED) × (c.at_end ≡ true)) ⊎ ((c.status ≡ TOO_LONG) × IsTooLong c))

-- COMPLETENESS. Where neither count rose and the status is neither 2 nor 5, the answers are complete
abbrev pub HasCompleteness : Call → Type 0
HasCompleteness c = Stood c.read_faults_before c.read_faults_after → Stood c.write_faults_before c.write_faults_after
    → (c.status ≡ BAD_WORDS) ⊎ ((c.status ≡ NO_MEMORY) ⊎ IsComplete c)

-- ---- the theorem

-- THE THEOREM
pub record IsSession (c : Call) : Type 0 where
  pub legal : HasLegalHistory c c.history
  pub read : HasRead c
  pub written : HasWritten c
  pub one_thread : IsOneThread c.history
  pub known : (c.status ≡ BAD_WORDS) ⊎ IsStatus c.status
  pub done : HasDoneCause c
  pub read_fault : HasReadFaultCause c
  pub write_fault : HasWriteFaultCause c
  pub truncated : HasTruncatedCause c
  pub too_long : HasTooLongCause c
  pub complete : HasCompleteness c
