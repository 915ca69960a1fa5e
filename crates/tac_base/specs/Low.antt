-- How deep binders go in what a rule of a tree names.
use Rattle.std.specs.Prelude.{ℕ}
use Rattle.logic_theory.specs.Rules.{Rule, leaf, step}
use Rattle.proof_tree.specs.Bounds.{NamesBelow}

-- binders in the formulas that it names go less than d deep; an open leaf names none
abbrev pub IsLow : ℕ → Rule → Type 0
IsLow d (leaf ns) = Unit {0}
IsLow d (step r) = NamesBelow d r
