-- Sums of runs of sizes.
use Rattle.std.specs.Prelude.{◌≡◌, ℕ, zero, suc, ◌+◌, ◌-◌, ◌<◌, ◌≤◌, ◌^◌, List, [], ◌∷◌, length, get_or}

-- the sum of the first so many
abbrev pub sum_to : ℕ → List ℕ → ℕ
sum_to zero xs = 0
sum_to (suc n) [] = 0
sum_to (suc n) (x ∷ xs) = x + sum_to n xs

-- a number, doubled so many times
abbrev pub doubled : ℕ → ℕ → ℕ
doubled zero n = n
doubled (suc j) n = doubled j n + doubled j n

-- at an odd number, doubled some times, stands the sum of the sizes up to it, of as many as 1 is, doubled as often
abbrev pub IsRun : List ℕ → List ℕ → ℕ → ℕ → Type 0
IsRun sums sizes j m = get_or sums (doubled j (m + m + 1) - 1) 0 + sum_to (doubled j (m + m)) sizes ≡ sum_to
    (doubled j (m + m + 1)) sizes

-- as many sums as sizes, which come to a number of 64 bits, and at each number the sum of the run that ends there
pub record IsSums (sums sizes : List ℕ) : Type 0 where
  pub same : length sums ≡ length sizes
  pub few : sum_to (length sizes) sizes < 2 ^ 64
  pub runs : (j m : ℕ) → doubled j (m + m + 1) ≤ length sizes → IsRun sums sizes j m

-- a number is an odd one, doubled some times, and the run is 1, doubled as often
pub record EndsRun (number run : ℕ) : Type 0 where
  pub level : ℕ
  pub half : ℕ
  pub is_number : number ≡ doubled level (half + half + 1)
  pub is_run : run ≡ doubled level 1
