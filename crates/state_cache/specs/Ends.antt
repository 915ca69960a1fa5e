-- What a cache ends as, once the state that was lent from it is given back.
use Rattle.std.specs.Prelude.{◌≡◌, ⊤}
use Rattle.std.specs.Borrow.{Fml, RattleType, MutBor, follows_so}
use mathlib.Core.Option.{none}
use Rattle.state_cache.specs.States.{States}
use Rattle.state_cache.specs.contracts.cache.StateCache.{the_row}

-- it has these states, in this order
abbrev pub ends_as : (T : RattleType) → MutBor (States T.Denot) → States T.Denot → Fml
ends_as T c s = follows_so (the_row T) (the_row T) c.ghost_name none (λ _ _. ⊤) (λ n. n ≡ s)
