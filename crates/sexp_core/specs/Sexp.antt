-- The value of the theory that a Sexp stands for.
use Rattle.sexp_core.specs.declared.sexp.Sexp.{Sexp}
use Rattle.sexp_core.specs.declared.sexp.Sexp.TheOpen.{Sexp-F, Atom, List}
use Rattle.sexp_core.specs.declared.sexp.Sexp.TheFolds.{fold-Sexp}
use Rattle.sexp_theory.specs.Values.{Value, atom, list, values}

-- the value of an atom or a list whose values are known
abbrev pub meaning_step : Sexp-F Value → Value
meaning_step (Atom bytes) = atom bytes
meaning_step (List vs) = list (values vs.items)

-- the value that a Sexp stands for
abbrev pub meaning : Sexp → Value
meaning = fold-Sexp Value meaning_step
