use Rattle.std.proofs.Common.{◌≡◌, sym, ap, ◌∙◌, subst, false, None, Some}
use Rattle.sexp_theory.specs.Items.{Taken, next_item, end_offset, most_bytes}
use Rattle.sexp_theory.proofs.Streams.{end_offset-taken, end_offset-without_gap}
use Rattle.sexp_core.specs.Readers.{Reading, item_meaning}
use Rattle.session_run.specs.Serving.{Passes, midway}
use Rattle.session_run.specs.declared.party.Answered.TheVariants.{More}
use Rattle.session_run.proofs.Progress.{IsNext, passes-memory, passes-none, passes-quit, passes-lost, items-fewer, went-next}
use Rattle.session_run.proofs.Progress.{ends-next, going-next}
use Rattle.session_run.proofs.serve.answer_items.Goals as goal

pub returns-in-Err-clause-passes : goal.returns-in-Err-clause-passes
returns-in-Err-clause-passes g c =
    let P = g.P.Party in
    passes-memory (midway (P.asked c.args.party.now) c.args.reader.now.unread) (midway (P.asked c.items.party) c.items.reader.unread)
    c.items.invariant.went

pub returns-in-Ok-None-clause-passes : goal.returns-in-Ok-None-clause-passes
returns-in-Ok-None-clause-passes g c =
    let P = g.P.Party in
    let given = rw c.in-Ok-None.field-0-is at c.in-Ok-None.ensures.given in
    let m = midway (P.asked c.args.party.now) c.args.reader.now.unread in
    let left = P.left c.items.party in
    subst (λ (r : Reading). Passes More m (midway (P.asked c.items.party) r.unread) left) (sym given.2)
    (passes-none m (midway (P.asked c.items.party) c.items.reader.unread) left c.items.invariant.went c.items.invariant.ends
    c.items.invariant.going c.items.invariant.whole)

pub returns-in-Ok-None-clause-idle : goal.returns-in-Ok-None-clause-idle
returns-in-Ok-None-clause-idle g c =
    let given = rw c.in-Ok-None.field-0-is at c.in-Ok-None.ensures.given in
    let limit : c.next.new.self.limit ≡ most_bytes = ap (λ (r : Reading). r.limit) given.2 ∙ c.items.invariant.limit in
    λ _. record {
      none = subst (λ n. next_item n false c.next.new.self.unread ≡ None) limit given.1;
      limit = limit;
      offset = ap (λ (r : Reading). end_offset r.unread) given.2 ∙ end_offset-without_gap c.items.reader.unread ∙ c.items.invariant.offset;
    }

pub returns-in-Quit-clause-passes : goal.returns-in-Quit-clause-passes
returns-in-Quit-clause-passes g c =
    let P = g.P.Party in
    let given = rw c.in-Ok-Some.field-0-is at c.in-Ok-Some.ensures.given in
    let t : Taken = record { item = item_meaning c.in-Ok-Some.item; rest = c.next.new.self.unread } in
    let m = midway (P.asked c.args.party.now) c.args.reader.now.unread in
    let k = midway (P.asked c.items.party) c.items.reader.unread in
    let n : IsNext m k t = record {
      went = c.items.invariant.went;
      going = c.items.invariant.going;
      found = subst (λ n. next_item n false c.items.reader.unread ≡ Some t) c.items.invariant.limit given.0;
    } in
    passes-quit m k (P.asked c.answer_item.new.party) t (P.left c.answer_item.new.party) n c.in-Quit.ensures.takes

pub returns-in-Lost-clause-passes : goal.returns-in-Lost-clause-passes
returns-in-Lost-clause-passes g c =
    let P = g.P.Party in
    let given = rw c.in-Ok-Some.field-0-is at c.in-Ok-Some.ensures.given in
    let t : Taken = record { item = item_meaning c.in-Ok-Some.item; rest = c.next.new.self.unread } in
    let m = midway (P.asked c.args.party.now) c.args.reader.now.unread in
    let k = midway (P.asked c.items.party) c.items.reader.unread in
    let n : IsNext m k t = record {
      went = c.items.invariant.went;
      going = c.items.invariant.going;
      found = subst (λ n. next_item n false c.items.reader.unread ≡ Some t) c.items.invariant.limit given.0;
    } in
    passes-lost m k (P.asked c.answer_item.new.party) t n c.in-Lost.ensures.takes

pub items-smaller : goal.items-smaller
items-smaller g c =
    let given = rw c.in-Ok-Some.field-0-is at c.in-Ok-Some.ensures.given in
    let t : Taken = record { item = item_meaning c.in-Ok-Some.item; rest = c.next.new.self.unread } in
    items-fewer c.items.reader.unread t (subst (λ n. next_item n false c.items.reader.unread ≡ Some t) c.items.invariant.limit given.0)

pub items-preserved : goal.items-preserved
items-preserved g c =
    let P = g.P.Party in
    let inv = c.items.invariant in
    let given = rw c.in-Ok-Some.field-0-is at c.in-Ok-Some.ensures.given in
    let t : Taken = record { item = item_meaning c.in-Ok-Some.item; rest = c.next.new.self.unread } in
    let m = midway (P.asked c.args.party.now) c.args.reader.now.unread in
    let k = midway (P.asked c.items.party) c.items.reader.unread in
    let found : next_item most_bytes false c.items.reader.unread ≡ Some t =
    subst (λ n. next_item n false c.items.reader.unread ≡ Some t) inv.limit given.0 in
    let n : IsNext m k t = record { went = inv.went; going = inv.going; found = found } in
    let takes = c.in-More.ensures.takes in
    let l = P.asked c.answer_item.new.party in
    record {
      went = went-next m k l t n takes.0;
      ends = ends-next m k t n inv.ends;
      offset = end_offset-taken most_bytes c.items.reader.unread t found ∙ inv.offset;
      limit = given.1 ∙ inv.limit;
      going = going-next m k l t n takes.0 ∙ takes.1;
      whole = takes.2;
      ready = c.in-More.ensures.ready;
      clean = c.in-More.ensures.clean;
      goes_on = g.met.P.Party.joins _ _ _ inv.goes_on c.in-More.ensures.goes_on;
    }
