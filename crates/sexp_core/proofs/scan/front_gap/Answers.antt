use Rattle.std.proofs.Common.{◌≡◌, ◌==◌, false, arith, sym, get_or}
use Rattle.std.proofs.lemmas.Bool.Decides.{nat_tests}
use Rattle.sexp_core.proofs.Gaps.{passed-none, passed-line, passed-comment, passed-blank, front_gap-item, front_gap-all}
use Rattle.sexp_core.proofs.scan.front_gap.Goals as goal
use Rattle.sexp_core.proofs.scan.front_gap.Goals.{then-in_line, else-in_line+then-byte-eq59, else-in_line+else-byte-eq59+else-not-is_blank}

pub loop-len-init : goal.loop-len-init
loop-len-init c = passed-none c.args.bytes.now c.args.skipping

pub returns-then-not-is_blank : goal.returns-then-not-is_blank
returns-then-not-is_blank c =
    let no : (get_or c.args.bytes.now c.loop-len.len 0 == 59) ≡ false = grind (arith, nat_tests, c.if-byte-eq59.false) in
    front_gap-item c.loop-len.invariant c.loop-len-test.true c.if-in_line.false (sym c.if-not-is_blank.ensures) no

pub loop-len-preserved : goal.loop-len-preserved
loop-len-preserved c =
    let lt = c.loop-len-test.true in
    elim c.if-in_line.branch [
      | then-in_line w ↦ passed-line c.loop-len.invariant lt w.if-in_line.true w.in_line-is
      | else-in_line+then-byte-eq59 w ↦ passed-comment c.loop-len.invariant lt w.if-in_line.false w.if-byte-eq59.true w.in_line-is
      | else-in_line+else-byte-eq59+else-not-is_blank w
          ↦ passed-blank c.loop-len.invariant lt w.if-in_line.false w.if-not-is_blank.ensures w.in_line-is
    ]

pub returns : goal.returns
returns c = front_gap-all c.loop-len.invariant (let h = c.loop-len.auto in omega arith)
