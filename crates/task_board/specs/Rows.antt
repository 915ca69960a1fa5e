-- Rows of tasks, and what each call makes of them.
use Rattle.std.specs.Prelude.{◌≡◌, ℕ, suc, ◌+◌, ◌-◌, ◌^◌, ◌<◌, ◌≤◌, ◌&&◌, ◌==◌, max, List, [], ◌∷◌, ◌++◌, map, filter, find, Bool, true, false, not, nat_eq, if◌then◌else◌, Option, Some, None, option_map, option_and_then}
use Rattle.std.specs.List.{list_any, list_all, IsDistinct}
use Rattle.std.specs.Option.{option_map_or}
use Rattle.task_board.specs.declared.standing.Standing.{Standing}
use Rattle.task_board.specs.declared.standing.Standing.TheVariants.{Waiting, Held, Done}

-- a row: its number, the block that it is of, the work that was posted, and how it stands
pub record Row (T R : Type 0) : Type 0 where
  pub number : ℕ
  pub block : ℕ
  pub work : T
  pub standing : Standing R

-- the rows in the order of their numbers, the next number, and for how many rows more there is room
pub record Table (T R : Type 0) : Type 0 where
  pub rows : List (Row T R)
  pub next : ℕ
  pub spare : ℕ

module _ {R : Type 0} where
  -- a row waits
  abbrev pub is_waiting : Standing R → Bool
  is_waiting Waiting = true
  is_waiting (Held seat) = false
  is_waiting (Done outcome) = false

  -- a row is done
  abbrev pub is_done : Standing R → Bool
  is_done Waiting = false
  is_done (Held seat) = false
  is_done (Done outcome) = true

  -- a row isn't done
  abbrev pub is_left : Standing R → Bool
  is_left standing = not (is_done standing)

  -- a seat of this number holds the row
  abbrev pub is_held_by : ℕ → Standing R → Bool
  is_held_by seat Waiting = false
  is_held_by seat (Held other) = seat == other
  is_held_by seat (Done outcome) = false

  -- the seat that holds a row, if one does
  abbrev pub holder : Standing R → Option ℕ
  holder Waiting = None
  holder (Held seat) = Some seat
  holder (Done outcome) = None

  -- the result of a row, if it is done
  abbrev pub outcome_of : Standing R → Option R
  outcome_of Waiting = None
  outcome_of (Held seat) = None
  outcome_of (Done outcome) = Some outcome

module _ {T R : Type 0} where
  -- the same table with other rows
  abbrev pub with_rows : List (Row T R) → Table T R → Table T R
  with_rows rows t = record { rows = rows; next = t.next; spare = t.spare }

  -- the same table with another spare
  abbrev pub with_spare : ℕ → Table T R → Table T R
  with_spare spare t = record { rows = t.rows; next = t.next; spare = spare }

  -- a row has this number, and a seat holds it
  abbrev pub is_held : ℕ → ℕ → List (Row T R) → Bool
  is_held seat number rows = list_any (λ r. number == r.number && is_held_by seat r.standing) rows

  -- a row is of this block
  abbrev pub has_row : ℕ → List (Row T R) → Bool
  has_row block rows = list_any (λ r. block == r.block) rows

  -- the number of the first row that waits, which is the least since numbers rise
  abbrev pub least_waiting : List (Row T R) → Option ℕ
  least_waiting rows = option_map (λ r. r.number) (find (λ r. is_waiting r.standing) rows)

  -- the number of the first row that isn't done, with the seat that holds it
  abbrev pub least_left : List (Row T R) → Option (ℕ × Option ℕ)
  least_left rows = option_map (λ r. (r.number, holder r.standing)) (find (λ r. is_left r.standing) rows)

  -- every row is done
  abbrev pub all_done : List (Row T R) → Bool
  all_done rows = list_all (λ r. is_done r.standing) rows

  -- the work of the row with a number, if there is one
  abbrev pub work_of : ℕ → List (Row T R) → Option T
  work_of number rows = option_map (λ r. r.work) (find (λ r. number == r.number) rows)

  -- the result of the row of a block, if there is one and it is done
  abbrev pub result_of : ℕ → List (Row T R) → Option R
  result_of block rows = option_and_then (λ r. outcome_of r.standing) (find (λ r. block == r.block) rows)

  -- a row, which stands in another way if it has this number
  abbrev pub stand_at : ℕ → Standing R → Row T R → Row T R
  stand_at number standing r = record { number = r.number; block = r.block; work = r.work; standing = if number == r.number then standing else r.standing }

  -- the row with a number stands in another way
  abbrev pub stand : ℕ → Standing R → List (Row T R) → List (Row T R)
  stand number standing rows = map (stand_at number standing) rows

  -- the least number that waits is held by a seat
  abbrev pub claimed : ℕ → Table T R → Table T R
  claimed seat t = option_map_or (λ number. with_rows (stand number (Held seat) t.rows) t) (least_waiting t.rows) t

  -- a row that the seat holds stands in another way
  abbrev pub moved : ℕ → ℕ → Standing R → Table T R → Table T R
  moved seat number standing t = if is_held seat number t.rows then with_rows (stand number standing t.rows) t else t

  -- a row more, which waits, with the next number
  abbrev pub posted : ℕ → T → Table T R → Table T R
  posted block work t = record { rows = t.rows ++ record { number = t.next; block = block; work = work; standing = Waiting } ∷ []; next = t.next + 1; spare = t.spare - 1 }

  -- no row of a block
  abbrev pub without_block : ℕ → List (Row T R) → List (Row T R)
  without_block block rows = filter (λ r. not (block == r.block)) rows

  -- numbers rise, from one number on, and are below another
  abbrev pub Numbered : ℕ → List (Row T R) → ℕ → Type 0
  Numbered lo [] hi = lo ≤ hi
  Numbered lo (r ∷ rs) hi = (lo ≤ r.number) × Numbered (suc r.number) rs hi

  -- numbers rise and are below the next one, which is at most 2^63, and no block has two rows
  pub record IsTable (t : Table T R) : Type 0 where
    pub numbered : Numbered 0 t.rows t.next
    pub few : t.next ≤ 2 ^ 63
    pub blocks : IsDistinct nat_eq (map (λ r. r.block) t.rows)
