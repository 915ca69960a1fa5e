-- How far a Reader has looked: words of its invariant and of its private calls.
use Rattle.std.specs.Prelude.{◌≡◌, ℕ, ◌+◌, ◌-◌, ◌<◌, ◌≤◌, ◌==◌, ◌^◌, List, [], ◌∷◌, ◌++◌, length, drop, Bool, false}
use Rattle.std.specs.List.{All}
use Rattle.sexp_theory.specs.Signs.{is_blank}
use Rattle.sexp_theory.specs.Places.{value, bad}
use Rattle.sexp_theory.specs.Machine.{State, start, found_from}
use Rattle.sexp_theory.specs.Items.{Unread, without_gap}
use Rattle.sexp_core.specs.Sexp.{meaning}
use Rattle.sexp_core.specs.State.{state_of}
use Rattle.sexp_core.specs.declared.machine.Machine.{Machine}
use Rattle.sexp_core.specs.declared.scan.Scanned.{Scanned}
use Rattle.sexp_core.specs.declared.scan.Scanned.TheVariants.{More, Whole, Bad}
use Rattle.sexp_core.specs.declared.scan.Gap.{Gap}
use Rattle.sexp_core.specs.declared.scan.Front.{Front}

-- these bytes are unread, from an offset on, inside a line that is passed over or not
abbrev pub unread_of : List ℕ → ℕ → Bool → Unread
unread_of bytes at skipping = record { bytes = bytes; at = at; skipping = skipping }

-- the bytes are none, or begin with an item
abbrev pub BeginsItem : Bool → List ℕ → Type 0
BeginsItem skipping [] = Unit {0}
BeginsItem skipping (b ∷ rest) = (skipping ≡ false) × (is_blank b ≡ false) × ((b == 59) ≡ false)

-- what stands in front of the first item
pub record IsFrontGap (bytes : List ℕ) (skipping : Bool) (gap : Gap) : Type 0 where
  pub within : gap.len ≤ length bytes
  pub gone : (at : ℕ) → without_gap (unread_of bytes at skipping) ≡ unread_of (drop gap.len bytes) (at + gap.len) gap.in_line
  pub stops : BeginsItem gap.in_line (drop gap.len bytes)

-- what stands in front of the first item of a buffer's unread bytes, and the bytes from that item on; all of them are bytes
pub record Finds (buffer : List ℕ) (front : Front) (gap : Gap) (item : List ℕ) : Type 0 where
  pub is_gap : IsFrontGap (drop front.start buffer) front.skipping gap
  pub is_item : drop gap.len (drop front.start buffer) ≡ item
  pub of_bytes : All (λ b. b < 256) (drop front.start buffer)

-- The first `n` bytes of an item that begins at `from` lead to the state, and the bytes are read on from there: the item goes on behind
-- them, it ends, or a bad place is shown.
abbrev pub Scans : ℕ → ℕ → ℕ → State → List ℕ → Scanned → Machine → Type 0
Scans limit from n s bytes More m = (rest : List ℕ)
    → found_from limit from n s (bytes ++ rest) ≡ found_from limit from (n + length bytes) (state_of m) rest
Scans limit from n s bytes (Whole v to) m = (found_from limit from n s bytes ≡ value (meaning v) from to) × (to ≤ from + n + length bytes)
    × (from ≤ to)
Scans limit from n s bytes (Bad kind offset) m = (found_from limit from n s bytes ≡ bad kind offset) × (offset ≤ from + n + length bytes)

-- what is unread of a buffer
abbrev pub unread_from : List ℕ → Front → Unread
unread_from bytes front = unread_of (drop front.start bytes) front.at front.skipping

-- Of the unread bytes the first ones were looked at; they are the first ones of an item, and reading goes on in the machine's state.
pub record IsFront (limit : ℕ) (bytes : List ℕ) (front : Front) (m : Machine) : Type 0 where
  pub within : front.start + front.seen ≤ length bytes
  pub room : front.at + (length bytes - front.start) ≤ 2 ^ 63
  pub clean : front.seen ≡ 0 → state_of m ≡ start
  pub begun : 0 < front.seen → BeginsItem front.skipping (drop front.start bytes)
  pub read : (rest : List ℕ)
      → found_from limit front.at 0 start (drop front.start bytes ++ rest)
      ≡ found_from limit front.at front.seen (state_of m) (drop front.seen (drop front.start bytes) ++ rest)
