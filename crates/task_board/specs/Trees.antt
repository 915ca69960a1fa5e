-- A tournament in a list of nodes.
use Rattle.std.specs.Prelude.{◌≡◌, ℕ, ◌+◌, ◌*◌, ◌^◌, ◌<◌, ◌≤◌, min, List, length, slice_index}

-- an inner node has the lesser number of its two children
abbrev pub Wins : List ℕ → ℕ → Type 0
Wins nodes i = slice_index nodes i ≡ min (slice_index nodes (2 * i)) (slice_index nodes (2 * i + 1))

-- the second half of the nodes are the places, and each node before them but the first is an inner one
pub record IsTournament (places : ℕ) (nodes : List ℕ) : Type 0 where
  pub twice : length nodes ≡ 2 * places
  pub few : places < 2 ^ 62
  pub wins : (i : ℕ) → 1 ≤ i → i < places → Wins nodes i
