-- How rows are kept: in slots in the order of their numbers, some of which are empty.
use Rattle.std.specs.Prelude.{◌≡◌, ℕ, suc, ◌+◌, ◌-◌, ◌^◌, ◌<◌, ◌≤◌, ◌==◌, List, [], ◌∷◌, ◌++◌, map, find, filter, filter_map, is_some, replicate, length, slice_get, slice_set, Bool, true, false, not, nat_eq, if◌then◌else◌, Option, Some, None, option_map}
use Rattle.std.specs.List.{AllByRecursion, IsDistinct}
use Rattle.std.specs.Option.{option_map_or}
use Rattle.std.specs.HashMap.{HashMap, get, spare}
use Rattle.task_board.specs.declared.standing.Standing.{Standing}
use Rattle.task_board.specs.declared.standing.Standing.TheVariants.{Waiting}
use Rattle.task_board.specs.declared.slot.Slot.{Slot}
use Rattle.task_board.specs.Places.{nothing}
use Rattle.task_board.specs.Rows.{Row, is_waiting, is_left}

module _ {T R : Type 0} where
  -- the row in a slot with this work
  abbrev pub row : Slot T R → T → Row T R
  row s w = record { number = s.number; block = s.block; work = w; standing = s.standing }

  -- the row in a slot, if it has one
  abbrev pub row_in : Slot T R → Option (Row T R)
  row_in s = option_map (row s) s.work

  -- the rows in the slots, in their order
  abbrev pub rows_of : List (Slot T R) → List (Row T R)
  rows_of slots = filter_map row_in slots

  -- a slot has a row
  abbrev pub is_full : Slot T R → Bool
  is_full s = is_some s.work

  -- the slots that have rows
  abbrev pub full : List (Slot T R) → List (Slot T R)
  full slots = filter is_full slots

  -- the slot with another standing
  abbrev pub restood : Standing R → Slot T R → Slot T R
  restood standing s = record { number = s.number; block = s.block; work = s.work; standing = standing }

  -- the slot without its row
  abbrev pub emptied : Slot T R → Slot T R
  emptied s = record { number = s.number; block = s.block; work = None; standing = Waiting }

  -- numbers rise, from one number on
  abbrev pub Rising : ℕ → List (Slot T R) → Type 0
  Rising lo [] = Unit {0}
  Rising lo (s ∷ ss) = (lo ≤ s.number) × Rising (suc s.number) ss

  -- all numbers are below another
  abbrev pub Below : ℕ → List (Slot T R) → Type 0
  Below hi slots = AllByRecursion (λ s. s.number < hi) slots

  -- a place parts the slots whose numbers are below another from the rest
  pub record Parts (slots : List (Slot T R)) (place number : ℕ) : Type 0 where
    pub before : (k : ℕ) (s : Slot T R) → k < place → slice_get slots k ≡ Some s → s.number < number
    pub behind : (k : ℕ) (s : Slot T R) → place ≤ k → slice_get slots k ≡ Some s → number ≤ s.number

  -- the row with a number stands at a place
  pub record IsAt (slots : List (Slot T R)) (place number : ℕ) : Type 0 where
    pub slot : Slot T R
    pub at : slice_get slots place ≡ Some slot
    pub numbered : slot.number ≡ number
    pub work : T
    pub works : slot.work ≡ Some work

  -- the number of a slot's row if it stands in a certain way, and else nothing
  abbrev pub key : (Standing R → Bool) → Slot T R → ℕ
  key p s = option_map_or (λ w. if p s.standing then s.number else nothing) s.work nothing

  -- the slot at a place changes, and its keys among those that wait and those that are left
  pub record Changes (place : ℕ) (f : Slot T R → Slot T R) (slots slots' : List (Slot T R)) (waiting waiting' left left' : List ℕ) : Type 0 where
    pub slot : Slot T R
    pub at : slice_get slots place ≡ Some slot
    pub slots_are : slots' ≡ slice_set slots place (f slot)
    pub waiting_are : waiting' ≡ slice_set waiting place (key is_waiting (f slot))
    pub left_are : left' ≡ slice_set left place (key is_left (f slot))

  -- each slot has its key among the numbers, and behind them there are none
  pub record Marks (p : Standing R → Bool) (slots : List (Slot T R)) (numbers : List ℕ) : Type 0 where
    pub within : length slots ≤ length numbers
    pub are : numbers ≡ map (key p) slots ++ replicate (length numbers - length slots) nothing

  -- a map has the number of the row of each block that has one
  abbrev pub Finds : {S : Type 0} → HashMap ℕ ℕ S → List (Row T R) → Type 0
  Finds blocks rows = (block : ℕ) → get nat_eq blocks block ≡ option_map (λ r. r.number) (find (λ r. block == r.block) rows)

  -- what holds of the parts of a board
  pub record IsKept {S : Type 0} (slots : List (Slot T R)) (capacity : ℕ) (waiting left : List ℕ) (blocks : HashMap ℕ ℕ S) (next room : ℕ) : Type 0 where
    pub rising : Rising 0 slots
    pub below : Below next slots
    pub few : next ≤ 2 ^ 63
    pub apart : IsDistinct nat_eq (map (λ r. r.block) (rows_of slots))
    pub waits : Marks is_waiting slots waiting
    pub leaves : Marks is_left slots left
    pub finds : Finds blocks (rows_of slots)
    pub slots_room : length slots + room ≤ capacity
    pub waiting_room : length slots + room ≤ length waiting
    pub left_room : length slots + room ≤ length left
    pub blocks_room : room ≤ spare blocks
