use Rattle.std.proofs.Common.{rules, ◌≡◌, ◌==◌, get_or, false, arith, tests}
use Rattle.vern_lex.proofs.Cuts.{to_full_stop-end, to_full_stop-found, to_full_stop-comment}
use Rattle.vern_lex.proofs.sentences.length_to_full_stop.Goals as goal

pub returns-in-empty-clause-value : goal.returns-in-empty-clause-value
returns-in-empty-clause-value c = to_full_stop-end c.args.at c.args.text.now c.stop_place-place.result c.stop_place-place.ensures.value
    (omega arith)

pub returns-in-46-clause-value : goal.returns-in-46-clause-value
returns-in-46-clause-value c =
    let stop : get_or c.split_at.result.1.now 0 0 ≡ 46 = search rules in
    to_full_stop-found c.args.at c.args.text.now c.split_at.result.1.now c.stop_place-place.result c.stop_place-place.ensures.value
    (omega arith) c.split_at.ensures.back stop

pub returns-in_default-clause-value : goal.returns-in_default-clause-value
returns-in_default-clause-value c =
    let other : (get_or c.split_at.result.1.now 0 0 == 46) ≡ false = search (rules, tests) in
    to_full_stop-comment c.args.at c.args.text.now c.split_at.result.1.now c.stop_place-place.result c.stop_place-place.ensures.value
    (omega arith) c.split_at.ensures.back other
