-- The look-up of a layer, its length and its places.
use Rattle.std.proofs.Common.{refl}
use Rattle.env_core.proofs.Layered.{looked_up, as_many, entry_placed}

pub ruleset looking = (looked_up)

pub ruleset places = (as_many, entry_placed)
