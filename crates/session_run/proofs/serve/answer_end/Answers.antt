use Rattle.std.proofs.Common.{◌≡◌, Some, sym, ap, ◌∙◌, subst}
use Rattle.std.specs.Prelude.{option_map}
use Rattle.sexp_core.specs.Readers.{item_meaning}
use Rattle.session_run.specs.Serving.{Finishes, Midway, UnlessLost}
use Rattle.session_run.proofs.Progress.{IsFinished, finished-some, finishes-memory, unless-stopped}
use Rattle.session_run.proofs.serve.answer_end.Goals as goal

pub returns-in_default-clause-finishes : goal.returns-in_default-clause-finishes
returns-in_default-clause-finishes g c =
    let P = g.P.Party in
    finishes-memory (record { asked = P.asked c.args.party.now; unread = c.args.reader.unread })

pub returns-in-Some-clause-finishes : goal.returns-in-Some-clause-finishes
returns-in-Some-clause-finishes g c =
    let P = g.P.Party in
    let m : Midway = record { asked = P.asked c.args.party.now; unread = c.args.reader.unread } in
    let k = P.asked c.answer_item.new.party in
    let left = P.left c.answer_item.new.party in
    let last : c.in-Ok.field-0.last ≡ Some c.in-Some.item = cc in
    let d : IsFinished m c.args.reader.limit (item_meaning c.in-Some.item) c.in-Ok.field-0.ended = record {
      limited = c.requires.limit;
      none = c.requires.none;
      found = sym (ap (option_map item_meaning) last) ∙ c.in-Ok.ensures.given.0;
      going = c.requires.going;
      ends = c.in-Ok.ensures.given.1;
    } in
    subst (λ z. Finishes z m k left) (sym c.stop_after.ensures) (finished-some c.answer_item.result k left d c.answer_item.ensures.takes)

pub returns-in-Some-clause-clean : goal.returns-in-Some-clause-clean
returns-in-Some-clause-clean g c =
    let P = g.P.Party in
    let A = P.clean c.answer_item.new.party in
    subst (λ z. UnlessLost z A) (sym c.stop_after.ensures)
    (unless-stopped c.answer_item.result c.in-Ok.field-0.ended A c.answer_item.ensures.clean)
