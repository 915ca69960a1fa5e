-- Notes, and seats between two calls.
use Rattle.std.specs.Prelude.{◌≡◌, ℕ, ◌+◌, ◌<◌, false, List, [], length, map, slice_index_or, Result, MatchResult}
use Rattle.std.specs.List.{range_with_len}
use Rattle.doc_lock.specs.Lists.{only}
use Rattle.doc_lock.specs.Parties.{Lock, Sitting}
use Rattle.doc_lock.specs.Told.{IsOf}
use Rattle.doc_lock.specs.declared.view.View.{View}
use Rattle.base_core.specs.declared.no_memory.NoMemory.{NoMemory}
use Rattle.lock_trial.specs.declared.notes.Note.{Note}
use Rattle.lock_trial.specs.declared.threads.Writer.{Writer}

-- what a seat wrote
abbrev pub note : ℕ → ℕ → Note
note by what = record { by = by; what = what }

-- so many notes by one seat, which say 0, 1 and so on, in this order
abbrev pub notes_by : ℕ → ℕ → List Note
notes_by by n = map (note by) (range_with_len 0 n)

-- of a list of notes those by one seat, in their order
abbrev pub of_seat : ℕ → List Note → List Note
of_seat by notes = only (λ (e : Note). e.by) by notes

module _ {E O : Type 0} where
  -- what calls between two moments leave as it was
  abbrev pub Keeps : View E O → View E O → Type 0
  Keeps v w = (w.number ≡ v.number) × (w.holds ≡ v.holds) × (w.made ≡ v.made) × (w.joined ≡ v.joined) × (w.origin ≡ v.origin)

module _ {E O : Type 0} where
  -- the seat is one of this lock, has this number and holds nothing
  abbrev pub IsIdle : Lock → ℕ → Sitting E O → Type 0
  IsIdle l n s = IsOf l s × (s.view.number ≡ n) × (s.view.holds ≡ false)

module _ {O : Type 0} where
  -- the seat has made no entry, and none was joined into it
  abbrev pub IsFresh : View Note O → Type 0
  IsFresh v = (v.mine ≡ []) × (v.joined ≡ [])

  -- the entries of the seat are all of so many notes, or where memory was wanting the first of them
  abbrev pub HasWritten : ℕ → Result (Unit {0}) NoMemory → View Note O → Type 0
  HasWritten most wrote v = MatchResult wrote (λ _. v.mine ≡ notes_by v.number most) (λ _. (n : ℕ) × (n < most)
      × (v.mine ≡ notes_by v.number n))

-- the writer of this number hasn't begun
abbrev pub IsReady : Lock → ℕ → Writer → Type 0
IsReady l n w = IsIdle l n w.seat × IsFresh w.seat.view

-- the writer of this number has ended
abbrev pub IsDone : ℕ → Lock → ℕ → Writer → Type 0
IsDone most l n w = IsIdle l n w.seat × HasWritten most w.wrote w.seat.view × (w.seat.view.joined ≡ [])

-- P of each writer, by the number of its seat: they are 1, 2 and so on
abbrev pub EachWriter : (ℕ → Writer → Type 0) → List Writer → Type 0
EachWriter P ws = (i : ℕ) (d : Writer) → i < length ws → P (i + 1) (slice_index_or ws i d)
