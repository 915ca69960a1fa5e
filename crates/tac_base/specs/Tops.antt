-- Formulas by their tops.
use Rattle.std.specs.Arc.{arc_slice_items}
use Rattle.fol_theory.specs.Syntax as syntax
use Rattle.term_core.specs.Formula.{meaning}
use Rattle.term_core.specs.Term as term
use Rattle.tac_base.specs.declared.top.Top.{Top}
use Rattle.tac_base.specs.declared.top.Top.TheVariants.{Truth, Falsity, Predicate, Equal, Both, Either, Implies, All, Ex}

-- the formula that has this top
abbrev pub formula_of : Top → syntax.Formula
formula_of Truth = syntax.truth
formula_of Falsity = syntax.falsity
formula_of (Predicate p ts) = syntax.pred p.now (term.list_meaning (arc_slice_items ts.now))
formula_of (Equal s t u) = syntax.equal s.now (term.meaning t.now) (term.meaning u.now)
formula_of (Both a b) = syntax.both (meaning a.now) (meaning b.now)
formula_of (Either a b) = syntax.either (meaning a.now) (meaning b.now)
formula_of (Implies a b) = syntax.implies (meaning a.now) (meaning b.now)
formula_of (All s x a) = syntax.all s.now x.now (meaning a.now)
formula_of (Ex s x a) = syntax.ex s.now x.now (meaning a.now)
