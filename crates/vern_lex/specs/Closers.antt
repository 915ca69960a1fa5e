-- What the code keeps of a text in which a comment doesn't end, so that it goes over no part of it twice. No public clause speaks of it.
use Rattle.std.specs.Prelude.{◌≡◌, ℕ, ◌+◌, ◌-◌, ◌<◌, ◌≤◌, ◌&&◌, ◌==◌, List, [], ◌∷◌, length, drop, slice_index, true, false}

-- how many comments that are open before a text it closes
abbrev pub closers : List ℕ → ℕ
closers [] = 0
closers (a ∷ []) = 0
closers (a ∷ b ∷ rest) =
    elim (a == 40 && b == 42) [
      | true ↦ closers rest - 1
      | false ↦ elim (a == 42 && b == 41) [ true ↦ closers rest + 1 | false ↦ closers (b ∷ rest) ]
    ]

-- the closers of each end of a text, the shortest end first
pub record IsTable (text table : List ℕ) : Type 0 where
  pub long : length text < length table
  pub each : (k : ℕ) → k ≤ length text → slice_index table k ≡ closers (drop (length text - k) text)
