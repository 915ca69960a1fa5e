use Rattle.std.proofs.Common.{rules, ◌≡◌, take, arith}
use Rattle.std.proofs.lemmas.Grind.{common_steps}
use Rattle.fol_theory.specs.Substitution.{put, shift_term}
use Rattle.term_core.specs.Term.{meaning}
use Rattle.term_core.proofs.Applications.{list_replaced}
use Rattle.term_core.proofs.term.+put.Goals as goal

pub put_all-returns : goal.put_all-returns
put_all-returns t c =
    let ts = c.args.ts.now in
    let σ = put c.args.index (shift_term 0 c.args.binders (meaning c.args.value.now)) in
    let part = take c.loop-i.i ts in
    let all : part ≡ ts = grind (arith, common_steps) in
    let whole = list_replaced σ ts part c.loop-i.list all c.loop-i.invariant.0 in
    search rules
