use Rattle.std.proofs.Common.{◌≡◌, ◌+◌, ◌++◌, length, take, sym, ◌∙◌, subst, arith, rules}
use Rattle.batch_check.specs.Ends.{IsRead, between}
use Rattle.batch_check.specs.declared.input.Input.{Input}
use Rattle.batch_check.proofs.Reading.{IsSoFar, so_far_more, taken_so_far}
use Rattle.batch_check.proofs.input.read_input.Goals as goal

pub returns-then-is_err : goal.returns-then-is_err
returns-then-is_err g c =
    let S = g.S.Source in
    let inv = c.pieces.invariant in
    let e = c.in-Ok.ensures in
    let first = S.left c.args.source.now in
    let now = S.left c.read_front.new.source in
    let piece = take c.in-Ok.n c.read_front.new.buf in
    let long : length piece ≡ c.in-Ok.n = search rules in
    let is : Input → Type 0 = IsRead (between first now (S.faults c.args.source.now) (S.faults c.read_front.new.source)) in
    let so_far = subst (IsSoFar first now (c.pieces.text.items ++ piece)) (λ i. c.pieces.taken + long i)
    (so_far_more first (S.left c.pieces.source) now c.pieces.text.items piece c.pieces.taken inv.so_far e.bytes) in
    subst is (sym c.ended-then-is_err.ensures) (record {
      taken = taken_so_far first now (c.pieces.text.items ++ piece) (c.pieces.taken + c.in-Ok.n) so_far;
      limit = omega (arith, e.bound, c.min-most.ensures, inv.within);
      ends = e.cause.passed ∙ inv.same;
    })

pub pieces-preserved : goal.pieces-preserved
pieces-preserved g c =
    let S = g.S.Source in
    let inv = c.pieces.invariant in
    let e = c.in-Ok.ensures in
    let first = S.left c.args.source.now in
    let now = S.left c.read_front.new.source in
    let piece = take c.in-Ok.n c.read_front.new.buf in
    let long : length piece ≡ c.in-Ok.n = search rules in
    let grown : c.extend_from_slice.new.self.items ≡ c.pieces.text.items ++ piece = search rules in
    record {
      so_far = subst (λ l. IsSoFar first now l (c.pieces.taken + c.in-Ok.n)) (sym grown)
          (subst (IsSoFar first now (c.pieces.text.items ++ piece)) (λ i. c.pieces.taken + long i)
          (so_far_more first (S.left c.pieces.source) now c.pieces.text.items piece c.pieces.taken inv.so_far e.bytes));
      within = omega (arith, e.bound, c.min-most.ensures, inv.within);
      same = e.cause.passed ∙ inv.same;
    }
