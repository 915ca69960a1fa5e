-- What the names of a scope are: binders, the innermost last, over a context.
use Rattle.std.specs.Prelude.{ℕ, ◌+◌, List, [], ◌∷◌}
use Rattle.term_core.specs.declared.context.Context.{Context}
use Rattle.term_core.specs.Context.{slots}
use Rattle.env_core.specs.declared.declaration.Parameter.{Parameter}
use Rattle.env_core.specs.Meaning.{declaration}
use Rattle.elab_theory.specs.Locals.{Local, variable, locals_in, Known as Meaning, bound, assumed, declared, unknown}
use Rattle.elab_core.specs.declared.scope.Known.{Known}
use Rattle.elab_core.specs.declared.scope.Known.TheVariants.{Bound, Assumed, Declared, Unknown}

-- a binder as typing sees it
abbrev pub binder_local : Parameter → Local
binder_local b = variable b.name b.sort

-- binders, the outermost first, over locals
abbrev pub binders_onto : List Local → List Parameter → List Local
binders_onto c [] = c
binders_onto c (b ∷ bs) = binders_onto (binder_local b ∷ c) bs

-- binders over the slots of a context
abbrev pub locals : Context → List Parameter → List Local
locals c bs = binders_onto (locals_in (slots c)) bs

-- what a name stands for
abbrev pub known_as : Known → Meaning
known_as (Bound i s) = bound i s.now
known_as Assumed = assumed
known_as (Declared d) = declared (declaration d.now)
known_as Unknown = unknown

-- the same under so many variables more
abbrev pub past : ℕ → Meaning → Meaning
past n (bound i s) = bound (i + n) s
past n assumed = assumed
past n (declared d) = declared d
past n unknown = unknown
