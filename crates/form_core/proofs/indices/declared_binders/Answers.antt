use Rattle.std.proofs.Common.{rules, ◌≡◌, ◌+◌}
use Rattle.fol_theory.specs.Measures.{depth}
use Rattle.term_core.specs.Formula.{meaning}
use Rattle.form_core.proofs.Declared.{one_more_put_in}
use Rattle.form_core.proofs.indices.declared_binders.Goals as goal

pub loop-i-preserved : goal.loop-i-preserved
loop-i-preserved c =
    let e : c.in_ok-binders-2.binders ≡ c.loop-i.binders + c.in_ok-put_in.field-0 = search rules in
    one_more_put_in c.args.env.now c.loop-i.i c.at.result.now (depth (meaning c.args.a.now)) c.loop-i.binders c.in_ok-put_in.field-0
    c.in_ok-binders-2.binders c.at.ensures c.loop-i.invariant c.in_ok-put_in.ensures e
