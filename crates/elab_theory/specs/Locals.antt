-- What a name stands for: the newest variable or hypothesis of that name, else what is declared.
use Rattle.std.specs.Prelude.{ℕ, suc, List, [], ◌∷◌, if◌then◌else◌, Option, Some, None}
use Rattle.fol_theory.specs.Syntax.{is_name}
use Rattle.fol_theory.specs.Contexts as context
use Rattle.fol_theory.specs.Slots.{Slot}
use Rattle.env_theory.specs.Declarations.{Declaration, find}

-- a variable with its sort, or a hypothesis; a list of these has the newest first
pub data Local : Type 0 where
  variable : List ℕ → List ℕ → Local
  hypothesis : List ℕ → Local

-- an entry of a context with its name
abbrev pub local_of : List ℕ → context.Entry → Local
local_of n (context.variable s) = variable n s
local_of n (context.hypothesis a) = hypothesis n

-- the slots of a context as typing sees them
abbrev pub locals_in : List Slot → List Local
locals_in [] = []
locals_in (x ∷ c) = local_of x.name x.entry ∷ locals_in c

-- the sorts of the variables, the newest first
abbrev pub sorts_in : List Local → List (List ℕ)
sorts_in [] = []
sorts_in (variable x s ∷ c) = s ∷ sorts_in c
sorts_in (hypothesis h ∷ c) = sorts_in c

-- the variable of an index, with its sort; a hypothesis; what is declared; nothing
pub data Known : Type 0 where
  bound : ℕ → List ℕ → Known
  assumed : Known
  declared : Declaration → Known
  unknown : Known

-- what is declared, if anything
abbrev pub declared_or_not : Option Declaration → Known
declared_or_not None = unknown
declared_or_not (Some d) = declared d

-- the same under one variable more
abbrev pub farther : Known → Known
farther (bound i s) = bound (suc i) s
farther assumed = assumed
farther (declared d) = declared d
farther unknown = unknown

-- what a name stands for: the newest variable or hypothesis with it, else what is declared
abbrev pub known : List Declaration → List Local → List ℕ → Known
known E [] n = declared_or_not (find E n)
known E (variable x s ∷ c) n = if is_name x n then bound 0 s else farther (known E c n)
known E (hypothesis h ∷ c) n = if is_name h n then assumed else known E c n
