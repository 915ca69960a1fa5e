-- The formula of the theory that a formula stands for.
use Rattle.std.specs.Prelude.{Option}
use Rattle.std.specs.declared.alloc.Global.{Global}
use Rattle.std.specs.Option.{option_map_or}
use Rattle.std.specs.Arc.{arc_slice_items, arc_value}
use Rattle.std.specs.declared.sync.Arc.{Arc}
use Rattle.term_core.specs.declared.formula.Formula.{Formula}
use Rattle.term_core.specs.declared.formula.Formula.TheOpen.{Formula-F, True, False, Pred, Eq, And, Or, Imp, All, Ex}
use Rattle.term_core.specs.declared.formula.Formula.TheFolds.{fold-Formula}
use Rattle.term_core.specs.Term as term
use Rattle.fol_theory.specs.Syntax.{Formula as Meaning, truth, falsity, pred, equal, both, either, implies, all, ex}

-- what a formula stands for, from what its parts stand for
abbrev pub meaning_step : Formula-F Meaning → Meaning
meaning_step True = truth
meaning_step False = falsity
meaning_step (Pred p ts) = pred p (term.list_meaning (arc_slice_items ts))
meaning_step (Eq s a b) = equal s (term.meaning a) (term.meaning b)
meaning_step (And a b) = both (arc_value a) (arc_value b)
meaning_step (Or a b) = either (arc_value a) (arc_value b)
meaning_step (Imp a b) = implies (arc_value a) (arc_value b)
meaning_step (All s x a) = all s x (arc_value a)
meaning_step (Ex s x a) = ex s x (arc_value a)

-- what a formula stands for
abbrev pub meaning : Formula → Meaning
meaning = fold-Formula Meaning meaning_step

-- ---- what a walk leaves is told by None: the new value, or the old one where there is none

-- what a formula has become
abbrev pub outcome : Option Formula → Formula → Meaning
outcome new a = option_map_or meaning new (meaning a)

-- what a shared part has become
abbrev pub part_outcome : Option (Arc Formula Global) → Arc Formula Global → Meaning
part_outcome new a = option_map_or (λ b. meaning (arc_value b)) new (meaning (arc_value a))
