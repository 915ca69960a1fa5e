use Rattle.std.proofs.Common.{rules, ◌≡◌, map, take, refl, sym, ap, ◌∙◌, arith}
use Rattle.std.proofs.lemmas.Grind.{common_steps}
use Rattle.term_core.specs.Term.{meaning, list_meaning}
use Rattle.match_core.specs.Moves.{all_moved}
use Rattle.match_core.proofs.Moved.{each, moved_at, moved_length, lists_moved}
use Rattle.match_core.proofs.terms.+moved.Goals as goal

pub are_moved-returns-then-not-is_moved : goal.are_moved-returns-then-not-is_moved
are_moved-returns-then-not-is_moved t c =
    let k = λ (e : all_moved c.args.lowered c.args.raised (list_meaning c.args.ts.now) ≡ list_meaning c.args.us.now).
    moved_at c.args.lowered c.args.raised c.args.ts.now c.args.us.now c.loop-i.i c.index-ts-i.result c.index-us-i.result
    (omega arith, c.index-ts-i.is) (omega arith, c.index-us-i.is) e in
    search rules

pub are_moved-returns-then-ts-us : goal.are_moved-returns-then-ts-us
are_moved-returns-then-ts-us t c =
    let k = moved_length c.args.lowered c.args.raised c.args.ts.now c.args.us.now in
    search rules

pub are_moved-returns : goal.are_moved-returns
are_moved-returns t c =
    let ts = c.args.ts.now in
    let us = c.args.us.now in
    let f = each c.args.lowered c.args.raised in
    let a : take c.loop-i.i ts ≡ ts = grind (arith, common_steps) in
    let b : take c.loop-i.i us ≡ us = grind (arith, common_steps) in
    let e = ap (map f) (sym a) ∙ c.loop-i.invariant.1 ∙ ap (map meaning) b in
    (λ h. lists_moved c.args.lowered c.args.raised ts us e, λ k. refl)
