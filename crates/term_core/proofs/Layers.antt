-- What each variant of a context stands for.
use Rattle.std.proofs.Common.{◌≡◌, [], refl}
use Rattle.std.specs.Arc.{arc_value}
use Rattle.std.specs.declared.sync.Arc.{Arc}
use Rattle.std.specs.declared.alloc.Global.{Global}
use Rattle.term_core.specs.Context.{slots}
use Rattle.term_core.specs.declared.context.Layer.{Layer}
use Rattle.term_core.specs.declared.context.Context.TheVariants as made

pub slots_Empty : slots made.Empty ≡ []
slots_Empty = refl

pub slots_Pushed : (l : Arc Layer Global) → slots (made.Pushed l) ≡ arc_value l
slots_Pushed l = refl

pub ruleset layers = (slots_Empty, slots_Pushed)
