-- What a Machine stands for among the definitions of the format.
use Rattle.std.specs.Prelude.{◌≡◌, List, map, reverse}
use Rattle.sexp_theory.specs.Values.{Value}
use Rattle.sexp_theory.specs.Machine.{State, on, whole, shown, between, commented, run, hash, quoted, escaped, decimal1, decimal2}
use Rattle.sexp_theory.specs.Machine.{hexadecimal0, hexadecimal1}
use Rattle.sexp_theory.specs.Machine as theory
use Rattle.sexp_core.specs.Sexp.{meaning}
use Rattle.sexp_core.specs.declared.mode.Mode.{Mode}
use Rattle.sexp_core.specs.declared.mode.Mode.TheVariants.{Between, Commented, Run, Hash, Quoted, Escaped, Decimal1, Decimal2}
use Rattle.sexp_core.specs.declared.mode.Mode.TheVariants.{Hexadecimal0, Hexadecimal1}
use Rattle.sexp_core.specs.declared.machine.Machine.{Machine}
use Rattle.sexp_core.specs.declared.machine.Step.{Step}
use Rattle.sexp_core.specs.declared.machine.Step.TheVariants.{On, Whole, Shown}

-- the mode of the theory that a Mode is
abbrev pub mode_of : Mode → theory.Mode
mode_of Between = between
mode_of Commented = commented
mode_of Run = run
mode_of Hash = hash
mode_of Quoted = quoted
mode_of Escaped = escaped
mode_of (Decimal1 n) = decimal1 n
mode_of (Decimal2 n) = decimal2 n
mode_of Hexadecimal0 = hexadecimal0
mode_of (Hexadecimal1 n) = hexadecimal1 n.value

-- the values of the open lists, the innermost first
abbrev pub lists_of : Machine → List (List Value)
lists_of m = reverse (map (λ vs. map meaning vs.items) m.lists.items)

-- the state of the theory that a Machine is in
abbrev pub state_of : Machine → State
state_of m = record { mode = mode_of m.mode; atom = m.atom.items; lists = lists_of m }

-- a byte makes this of an item, and the machine stands there if the item goes on
abbrev pub Makes : theory.Step → Step → Machine → Type 0
Makes step On m = step ≡ on (state_of m)
Makes step (Whole v) m = step ≡ whole (meaning v)
Makes step (Shown kind back) m = step ≡ shown kind back
