-- What a call that measures what it makes answers against the wanted formula or first fault.
use Rattle.std.specs.Prelude.{◌≡◌, ℕ, ◌<◌, ◌^◌, ◌⊎◌, min, Result, Ok, Err}
use Rattle.fol_theory.specs.Syntax.{Formula, Term}
use Rattle.fol_theory.specs.Measures.{nodes, height, term_nodes, term_height}
use Rattle.env_theory.specs.Declarations.{Declaration, sort, function, predicate, stated, term, formula}
use Rattle.env_core.specs.declared.declaration.Decl.{Decl}
use Rattle.env_core.specs.Meaning.{declaration}
use Rattle.elab_theory.specs.Faults.{Fault}
use Rattle.term_core.specs.declared.formula.Formula.{Formula as Made}
use Rattle.term_core.specs.Formula.{meaning}
use Rattle.elab_core.specs.declared.fault.ElabFault.{ElabFault}
use Rattle.elab_core.specs.declared.fault.ElabFault.TheVariants.{
  UnknownName,
  WrongKind,
  WrongSort,
  WrongArity,
  AlreadyDeclared,
  NotOfForm,
  TooLarge,
  NoMemory,
}
use Rattle.elab_core.specs.Faults.{Faulty}

-- a number of nodes and a height of which one passes its limit
abbrev pub Passes : ℕ × ℕ → Type 0
Passes s = (65536 < s.0) ⊎ (1024 < s.1)

-- The wanted value where it is within the limits; the two numbers of it, cut off, where it passes one; else the first fault, or want
-- of memory. A value made stands for `meaning` of it, and `size` gives the nodes and the height.
abbrev pub IsWithin : {X Y : Type 0} → (X → Y) → (Y → ℕ × ℕ) → Result X ElabFault → Result Y Fault → Type 0
IsWithin meaning size (Ok x) wanted = (wanted ≡ Ok (meaning x)) × (Passes (size (meaning x)) → ⊥)
IsWithin meaning size (Err (TooLarge n h)) (Ok y) = Passes (size y) × (n ≡ min (size y).0 (2 ^ 32)) × (h ≡ min (size y).1 (2 ^ 32))
IsWithin meaning size (Err (TooLarge n h)) (Err fault) = ⊥
IsWithin meaning size (Err (UnknownName p)) wanted = Faulty (UnknownName p) wanted
IsWithin meaning size (Err (WrongKind p)) wanted = Faulty (WrongKind p) wanted
IsWithin meaning size (Err (WrongSort p)) wanted = Faulty (WrongSort p) wanted
IsWithin meaning size (Err (WrongArity p)) wanted = Faulty (WrongArity p) wanted
IsWithin meaning size (Err (AlreadyDeclared p)) wanted = Faulty (AlreadyDeclared p) wanted
IsWithin meaning size (Err NotOfForm) wanted = ⊥
IsWithin meaning size (Err NoMemory) wanted = Unit {0}

-- the nodes and the height of a formula, and of a term
abbrev pub formula_size : Formula → ℕ × ℕ
formula_size a = (nodes a, height a)

abbrev pub term_size : Term → ℕ × ℕ
term_size t = (term_nodes t, term_height t)

-- the same of what is declared: of a Stated formula, or of a definition's body
abbrev pub declared_size : Declaration → ℕ × ℕ
declared_size (sort n) = (0, 0)
declared_size (function n ss s) = (0, 0)
declared_size (predicate n ss) = (0, 0)
declared_size (stated n a) = formula_size a
declared_size (term n ps s b) = term_size b
declared_size (formula n ps b) = formula_size b

-- an answer for a wanted formula, and for a wanted declaration
abbrev pub Types : Result Made ElabFault → Result Formula Fault → Type 0
Types = IsWithin meaning formula_size

abbrev pub Declares : Result Decl ElabFault → Result Declaration Fault → Type 0
Declares = IsWithin declaration declared_size
