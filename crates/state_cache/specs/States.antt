-- States that are kept by id, and what each call makes of them.
use Rattle.std.specs.Prelude.{ℕ, ◌<◌, ◌≤◌, ◌==◌, List, ◌∷◌, length, take, filter, map, not, nat_eq, Option, refl}
use Rattle.std.specs.List.{IsDistinct}
use Rattle.std.specs.Map.{lookup}
use Rattle.std.specs.Option.{option_map_or}
use Rattle.std.specs.Coded.{Coded, code_by, coded×, coded_list, coded_ℕ}

-- ids with their states, the id that was kept or found last at the front, and how many there may be
pub record States (T : Type 0) : Type 0 where
  pub entries : List (ℕ × T)
  pub capacity : ℕ

module _ {T : Type 0} where
  abbrev pub states : List (ℕ × T) → ℕ → States T
  states es n = record { entries = es; capacity = n }

  abbrev pub states_code : Coded T → Coded (States T)
  states_code t = code_by (List (ℕ × T) × ℕ) (coded× (coded_list (coded× coded_ℕ t)) coded_ℕ) (λ s. (s.entries, s.capacity)) (λ p. states p.0 p.1) (λ _. refl)

  -- the ids, in the order of the list
  abbrev pub ids : States T → List ℕ
  ids s = map (λ e. e.0) s.entries

  -- the state that is kept for an id, if there is one
  abbrev pub state_of : ℕ → States T → Option T
  state_of id s = lookup (nat_eq id) s.entries

  -- the entries of all other ids, in their order
  abbrev pub others : ℕ → List (ℕ × T) → List (ℕ × T)
  others id es = filter (λ e. not (id == e.0)) es

  -- without an id
  abbrev pub without : ℕ → States T → States T
  without id s = states (others id s.entries) s.capacity

  -- with an id and its state at the front, and then as many of the others as there is room for
  abbrev pub with_first : ℕ → T → States T → States T
  with_first id state s = states (take s.capacity ((id, state) ∷ others id s.entries)) s.capacity

  -- with an id at the front that is kept, and else as it is
  abbrev pub found_first : ℕ → States T → States T
  found_first id s = option_map_or (λ state. with_first id state s) (state_of id s) s

  -- no id comes twice, there are no more than there may be, and one may be
  pub record IsCache (s : States T) : Type 0 where
    pub once : IsDistinct nat_eq (ids s)
    pub within : length s.entries ≤ s.capacity
    pub some : 0 < s.capacity
