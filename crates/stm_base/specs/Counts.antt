-- Counts of faults.
use Rattle.std.specs.Prelude.{◌≡◌, ℕ, ◌+◌, ◌-◌, ◌^◌, ◌<◌, ◌≤◌, min, OnOk, OnErr, Result}

-- the count rose: it is greater, or stands at its last value
abbrev pub Rose : ℕ → ℕ → Type 0
Rose before now = min (before + 1) (2 ^ 64 - 1) ≤ now

-- the count didn't rise
abbrev pub Stood : ℕ → ℕ → Type 0
Stood before now = now < min (before + 1) (2 ^ 64 - 1)

-- the count never falls, rose where the call failed, and else stays
pub record HasCause {T E : Type 0} (before now : ℕ) (result : Result T E) : Type 0 where
  pub later : before ≤ now
  pub passed : OnOk result (now ≡ before)
  pub failed : OnErr result (Rose before now)
