-- Bounds on variables and binders along the rules of a tree.
use Rattle.std.specs.Prelude.{ℕ, ◌<◌, ◌≤◌, List, [], ◌∷◌, length}
use Rattle.fol_theory.specs.Measures.{depth}
use Rattle.fol_theory.specs.Contexts.{variables, Sequent}
use Rattle.logic_theory.specs.Rules.{Step, hyp, known, true_i, false_e, and_i, and_e, or_i1, or_i2, or_e, imp_i, imp_e, cut, conv}
use Rattle.logic_theory.specs.Rules.{all_i, ex_e, all_e, ex_i, eq_i, eq_e, drop, Rule, leaf, step}

-- there are at most n variables, and binders in the goal go at most d deep
abbrev pub IsWithin : ℕ → ℕ → Sequent → Type 0
IsWithin n d g = (length (variables g.context) ≤ n) × (depth g.goal ≤ d)

-- binders in the formulas that a rule names go less than d deep
abbrev pub NamesBelow : ℕ → Step → Type 0
NamesBelow d (hyp i) = Unit {0}
NamesBelow d (known n) = Unit {0}
NamesBelow d true_i = Unit {0}
NamesBelow d false_e = Unit {0}
NamesBelow d (and_i a b) = (depth a < d) × (depth b < d)
NamesBelow d (and_e a b) = (depth a < d) × (depth b < d)
NamesBelow d (or_i1 a b) = (depth a < d) × (depth b < d)
NamesBelow d (or_i2 a b) = (depth a < d) × (depth b < d)
NamesBelow d (or_e a b) = (depth a < d) × (depth b < d)
NamesBelow d (imp_i a b) = (depth a < d) × (depth b < d)
NamesBelow d (imp_e a) = depth a < d
NamesBelow d (all_i s b) = depth b < d
NamesBelow d (all_e s b t) = depth b < d
NamesBelow d (ex_i s b t) = depth b < d
NamesBelow d (ex_e s b) = depth b < d
NamesBelow d (eq_i s t) = Unit {0}
NamesBelow d (eq_e s b t u) = depth b < d
NamesBelow d (cut a) = depth a < d
NamesBelow d (drop i) = Unit {0}
NamesBelow d (conv a) = depth a < d

-- the same of each rule of a tree
abbrev pub AreBelow : ℕ → List Rule → Type 0
AreBelow d [] = Unit {0}
AreBelow d (leaf ns ∷ rs) = AreBelow d rs
AreBelow d (step r ∷ rs) = NamesBelow d r × AreBelow d rs
