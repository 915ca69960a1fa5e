-- The sorts of arguments.
use Rattle.std.specs.Prelude.{ℕ, List, map}
use Rattle.env_theory.specs.Declarations.{sorts_of}
use Rattle.env_core.specs.Meaning.{parameter}
use Rattle.env_core.specs.declared.sorts.Sorts.{Sorts}
use Rattle.env_core.specs.declared.sorts.Sorts.TheVariants.{Names, Params}

-- the sorts that are told by names or by parameters
abbrev pub sorts_as : Sorts → List (List ℕ)
sorts_as (Names ns) = ns.now
sorts_as (Params ps) = sorts_of (map parameter ps.now)
