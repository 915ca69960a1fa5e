use Rattle.std.proofs.Common.{◌≡◌, ◌+◌, ◌≤◌, false, length, take, refl, sym, ap, ◌∙◌, subst, arith, rules}
use Rattle.stm_base.specs.Counts.{Rose}
use Rattle.sexp_theory.specs.Items.{fed}
use Rattle.session_run.specs.Serving.{IsIdle, IsReading, Served, UnlessLost, between, midway}
use Rattle.session_run.specs.declared.serve.Service.{Service}
use Rattle.session_run.specs.declared.serve.Stop.{Stop}
use Rattle.session_run.specs.Numbers.{INPUT_LIMIT}
use Rattle.session_run.proofs.Progress.{HasTaken, IsPaused, reading-fed, reading-kept, reading-none, reading-went, served-fault}
use Rattle.session_run.proofs.Progress.{served-limit, served-quit, served-lost, served-end}
use Rattle.session_run.proofs.serve.serve_source.Goals.{in-Quit, in-Lost}
use Rattle.session_run.proofs.serve.serve_source.Goals as goal

pub returns-in_default-read_front-clause-served : goal.returns-in_default-read_front-clause-served
returns-in_default-read_front-clause-served g c =
    let S = g.S.Source in
    let P = g.P.Party in
    let inv = c.pieces.invariant in
    let e = c.in_default-read_front.ensures in
    let first = S.left c.args.source.now in
    let now = S.left c.read_front.new.source in
    let s = between first now (S.faults c.args.source.now) (S.faults c.read_front.new.source) in
    let m = midway (P.asked c.pieces.party) c.pieces.reader.unread in
    let p : IsPaused s c.pieces.taken m (P.left c.pieces.party) = record {
      reading = reading-kept first (S.left c.pieces.source) now c.pieces.taken m inv.reading e.err;
      none = inv.idle.none;
      going = inv.going;
      whole = inv.whole;
    } in
    served-fault p (omega (arith, c.pieces-test.true)) (subst (λ z. Rose z (S.faults c.read_front.new.source)) inv.same e.cause.failed)

pub returns-then-n-eq0-clause-served : goal.returns-then-n-eq0-clause-served
returns-then-n-eq0-clause-served g c =
    let S = g.S.Source in
    let P = g.P.Party in
    let inv = c.pieces.invariant in
    let e = c.in-Ok-read_front.ensures in
    let first = S.left c.args.source.now in
    let now = S.left c.read_front.new.source in
    let s = between first now (S.faults c.args.source.now) (S.faults c.read_front.new.source) in
    let m = midway (P.asked c.pieces.party) c.pieces.reader.unread in
    let r : HasTaken s c.pieces.taken m = record {
      reading = reading-none first (S.left c.pieces.source) now c.pieces.taken m inv.reading (rw c.if-n-eq0.true at e.bytes);
      limit = inv.within;
      same = e.cause.passed ∙ inv.same;
    } in
    served-end (P.asked c.answer_end.new.party) (P.left c.answer_end.new.party) c.answer_end.result r (e.end c.if-n-eq0.true) inv.going
    c.answer_end.ensures.finishes

pub returns-in-pieces-clause-served : goal.returns-in-pieces-clause-served
returns-in-pieces-clause-served g c =
    let S = g.S.Source in
    let P = g.P.Party in
    let inv = c.pieces.invariant in
    let e = c.in-Ok-read_front.ensures in
    let first = S.left c.args.source.now in
    let now = S.left c.read_front.new.source in
    let n = c.in-Ok-read_front.n in
    let piece = take n c.read_front.new.buf in
    let s = between first now (S.faults c.args.source.now) (S.faults c.read_front.new.source) in
    let k = P.asked c.pieces.party in
    let m = midway k (fed c.pieces.reader.unread piece) in
    let long : length piece ≡ n = search rules in
    let reading : IsReading first now (c.pieces.taken + n) m =
    subst (λ z. IsReading first now (c.pieces.taken + z) m) long
    (reading-fed first (S.left c.pieces.source) now c.pieces.taken (midway k c.pieces.reader.unread) piece inv.reading e.bytes) in
    let limit : c.pieces.taken + n ≤ INPUT_LIMIT = omega (arith, e.bound, c.min-most.ensures, inv.within) in
    let r : HasTaken s (c.pieces.taken + n) m = record { reading = reading; limit = limit; same = e.cause.passed ∙ inv.same } in
    let asked = P.asked c.answer_piece.new.party in
    let left = P.left c.answer_piece.new.party in
    let is : Stop → Type 0 = λ z.
    let v : Service = record { stop = z; taken = c.pieces.taken + n; at_end = false } in
    Served s v asked left in
    elim c.match-answer_piece.branch [
      | in-Quit w ↦
          subst is (sym w.stop-is) (served-quit (midway asked c.answer_piece.new.reader.unread) left r w.in-Quit.ensures.passes)
      | in-Lost w ↦
          subst is (sym w.stop-is) (served-lost asked w.in-Lost.loss left r w.in-Lost.ensures.passes)
    ]

pub returns-in-pieces-clause-clean : goal.returns-in-pieces-clause-clean
returns-in-pieces-clause-clean g c =
    let P = g.P.Party in
    let is : Stop → Type 0 = λ z. UnlessLost z (P.clean c.answer_piece.new.party) in
    elim c.match-answer_piece.branch [
      | in-Quit w ↦ subst is (sym w.stop-is) w.in-Quit.ensures.clean
      | in-Lost w ↦ subst is (sym w.stop-is) tt
    ]

pub returns-clause-served : goal.returns-clause-served
returns-clause-served g c =
    let S = g.S.Source in
    let P = g.P.Party in
    let inv = c.pieces.invariant in
    let s = between (S.left c.args.source.now) (S.left c.pieces.source) (S.faults c.args.source.now) (S.faults c.pieces.source) in
    let p : IsPaused s c.pieces.taken (midway (P.asked c.pieces.party) c.pieces.reader.unread) (P.left c.pieces.party) = record {
      reading = inv.reading;
      none = inv.idle.none;
      going = inv.going;
      whole = inv.whole;
    } in
    served-limit p (omega (arith, c.pieces-test.false, inv.within)) inv.same

pub pieces-preserved : goal.pieces-preserved
pieces-preserved g c =
    let S = g.S.Source in
    let P = g.P.Party in
    let inv = c.pieces.invariant in
    let e = c.in-Ok-read_front.ensures in
    let first = S.left c.args.source.now in
    let now = S.left c.read_front.new.source in
    let n = c.in-Ok-read_front.n in
    let piece = take n c.read_front.new.buf in
    let k = P.asked c.pieces.party in
    let m = midway k (fed c.pieces.reader.unread piece) in
    let long : length piece ≡ n = search rules in
    let reading : IsReading first now (c.pieces.taken + n) m =
    subst (λ z. IsReading first now (c.pieces.taken + z) m) long
    (reading-fed first (S.left c.pieces.source) now c.pieces.taken (midway k c.pieces.reader.unread) piece inv.reading e.bytes) in
    let passes = c.in-More.ensures.passes in
    record {
      reading = reading-went first now (c.pieces.taken + n) m (midway (P.asked c.answer_piece.new.party) c.answer_piece.new.reader.unread)
          reading passes.0 passes.1;
      idle = subst (IsIdle c.answer_piece.new.reader) (ap (λ z. z + length piece) inv.idle.offset
          ∙ ap (λ z. c.pieces.taken + z) long) (c.in-More.ensures.idle refl);
      going = passes.2;
      whole = passes.3;
      ready = c.in-More.ensures.ready;
      clean = c.in-More.ensures.clean;
      within = omega (arith, e.bound, c.min-most.ensures, inv.within);
      same = e.cause.passed ∙ inv.same;
      goes_on = g.met.P.Party.joins _ _ _ inv.goes_on c.in-More.ensures.goes_on;
    }
