use Rattle.std.proofs.Common.{rules, true≢false, sym, ap, ◌∙◌}
use Rattle.term_core.specs.Context.{slot_meaning}
use Rattle.term_core.specs.Formula.{meaning}
use Rattle.tac_core.proofs.Passed.{none_passed, variable_passed, hypothesis_found, hypothesis_formed, hypothesis_passed}
use Rattle.tac_core.proofs.exact.same_hypothesis.Goals as goal

pub loop-slot-init : goal.loop-slot-init
loop-slot-init c = none_passed _ _ _

pub is_goal-requires-clause-formed : goal.is_goal-requires-clause-formed
is_goal-requires-clause-formed c = hypothesis_formed _ _ _ _ _ _ _ c.loop-slot.invariant c.in-Some.ensures (meaning c.in-Hyp.formula)
    (ap (λ s. (slot_meaning s).entry) c.in-Hyp.is) c.requires.formed.0

pub returns-then-branch : goal.returns-then-branch
returns-then-branch c = hypothesis_found _ _ _ _ _ _ _ c.loop-slot.invariant c.in-Some.ensures (meaning c.in-Hyp.formula)
    (ap (λ s. (slot_meaning s).entry) c.in-Hyp.is) c.count.result c.count.ensures (c.in_ok-is_goal-in-Hyp.ensures.0 c.if-branch.true)

pub loop-slot-preserved-in_ok-newer-in-Var : goal.loop-slot-preserved-in_ok-newer-in-Var
loop-slot-preserved-in_ok-newer-in-Var c = variable_passed _ _ _ _ _ _ _ c.loop-slot.invariant c.in-Some.ensures
    c.in_ok-newer-in-Var.newer (search rules) c.in-Var.sort (ap (λ s. (slot_meaning s).entry) c.in-Var.is)

pub loop-slot-preserved : goal.loop-slot-preserved
loop-slot-preserved c = hypothesis_passed _ _ _ _ _ _ _ c.loop-slot.invariant c.in-Some.ensures (meaning c.in-Hyp.formula)
    (ap (λ s. (slot_meaning s).entry) c.in-Hyp.is) (λ s. true≢false (sym (c.in_ok-is_goal-in-Hyp.ensures.1 s) ∙ c.if-branch.false))
