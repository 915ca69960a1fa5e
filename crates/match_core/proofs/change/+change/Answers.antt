use Rattle.std.proofs.Common.{◌≡◌, take, sym, ap, ◌∙◌, arith}
use Rattle.std.proofs.lemmas.Grind.{common_steps}
use Rattle.term_core.specs.Term.{list_meaning}
use Rattle.match_core.proofs.TermChanges.{all_changed}
use Rattle.match_core.proofs.change.+change.Goals as goal

pub changed_all-returns : goal.changed_all-returns
changed_all-returns t c =
    let part = take c.loop-i.i c.args.ts.now in
    let all : part ≡ c.args.ts.now = grind (arith, common_steps) in
    ap list_meaning (sym all) ∙ all_changed c.args.change c.args.binders part c.args.ts.now part all c.loop-i.invariant

pub changed_behind-returns : goal.changed_behind-returns
changed_behind-returns t c =
    let part = take c.loop-i.i c.args.ts.now in
    let all : part ≡ c.args.ts.now = grind (arith, common_steps) in
    ap list_meaning c.in_ok-from_vec.ensures
    ∙ all_changed c.args.change c.args.binders c.loop-i.made.items c.args.ts.now part all c.loop-i.invariant
