-- The scopes that the numbers of frames stand for.
use Rattle.std.specs.Prelude.{◌≡◌, ℕ, suc, ◌<◌, ◌≤◌, List, [], ◌∷◌, ◌++◌, length, if◌then◌else◌, ◌==◌, get_or}
use Rattle.term_core.specs.Term.{meaning, list_meaning}
use Rattle.env_theory.specs.Scopes.{Scope, whole, body, under}
use Rattle.env_theory.specs.Machine.{Spot, free, place}
use Rattle.conv_core.specs.declared.frame.Frame.{Frame}
use Rattle.conv_core.specs.declared.frame.Frame.TheVariants.{Body, Under}
use Rattle.conv_core.specs.declared.frame.Found.{Found}
use Rattle.conv_core.specs.declared.frame.Found.TheVariants.{Free, Argument}

-- the number of the scope in which a frame stands
abbrev pub outer : Frame → ℕ
outer (Body ts o) = o
outer (Under o) = o

-- a frame, over the scopes of the numbers before it
abbrev pub framed : (ℕ → Scope) → Frame → Scope
framed k (Body ts o) = body (list_meaning ts.now) (k o)
framed k (Under o) = under (k o)

-- one frame more, over n of them
abbrev pub more : (ℕ → Scope) → ℕ → Frame → ℕ → Scope
more k n f i = if i == suc n then framed k f else k i

-- the scopes of numbers, with frames more
abbrev pub scopes : (ℕ → Scope) → ℕ → List Frame → ℕ → Scope
scopes k n [] = k
scopes k n (f ∷ fs) = scopes (more k n f) (suc n) fs

-- with no frames each number is the whole
abbrev pub no_scopes : ℕ → Scope
no_scopes i = whole

-- the scope 0 is the whole, and the scope i + 1 that of the frame i
abbrev pub scope_of : List Frame → ℕ → Scope
scope_of fs i = scopes no_scopes 0 fs i

-- each frame's outer scope is older
abbrev pub Ordered : List Frame → Type 0
Ordered fs = (i : ℕ) (d : Frame) → i < length fs → outer (get_or fs i d) ≤ i

-- where a variable leads, by what the code finds
abbrev pub spot_of : List Frame → Found → Spot
spot_of fs (Free j) = free j
spot_of fs (Argument c by t) = place (scope_of fs c) by (meaning t.now)

-- where a variable leads has a number
abbrev pub Within : List Frame → Found → Type 0
Within fs (Free j) = Unit {0}
Within fs (Argument c by t) = c ≤ length fs

-- frames with more behind them
abbrev pub Extends : List Frame → List Frame → Type 0
Extends fs gs = (hs : List Frame) × (gs ≡ fs ++ hs)
