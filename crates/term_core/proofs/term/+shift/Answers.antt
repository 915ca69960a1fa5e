use Rattle.std.proofs.Common.{rules, ◌≡◌, take, arith}
use Rattle.std.proofs.lemmas.Grind.{common_steps}
use Rattle.fol_theory.specs.Substitution.{raise}
use Rattle.term_core.proofs.Applications.{list_replaced}
use Rattle.term_core.proofs.term.+shift.Goals as goal

pub shifted_all-returns : goal.shifted_all-returns
shifted_all-returns t c =
    let ts = c.args.ts.now in
    let part = take c.loop-i.i ts in
    let all : part ≡ ts = grind (arith, common_steps) in
    let whole = list_replaced (raise c.args.from c.args.by) ts part c.loop-i.list all c.loop-i.invariant.0 in
    search rules
