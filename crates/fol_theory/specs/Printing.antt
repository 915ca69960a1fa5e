-- Equality but for the names that are printed.
use Rattle.std.specs.Prelude.{◌≡◌, []}
use Rattle.fol_theory.specs.Syntax.{Formula, truth, falsity, pred, equal, both, either, implies, all, ex}

-- a formula with no name to print
abbrev pub unnamed : Formula → Formula
unnamed truth = truth
unnamed falsity = falsity
unnamed (pred p ts) = pred p ts
unnamed (equal s t u) = equal s t u
unnamed (both a b) = both (unnamed a) (unnamed b)
unnamed (either a b) = either (unnamed a) (unnamed b)
unnamed (implies a b) = implies (unnamed a) (unnamed b)
unnamed (all s x a) = all s [] (unnamed a)
unnamed (ex s x a) = ex s [] (unnamed a)

-- two formulas are equal but for printing names
abbrev pub Alike : Formula → Formula → Type 0
Alike a b = unnamed a ≡ unnamed b
