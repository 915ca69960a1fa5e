use Rattle.std.proofs.Common.{◌+◌, ◌-◌, arith, ap, ◌∙◌}
use Rattle.sexp_core.specs.State.{state_of}
use Rattle.sexp_core.proofs.Scanning.{reached-none, reached-more, scans-too_long, scans-whole, scans-shown, scans-more}
use Rattle.sexp_core.proofs.scan.scan.Goals as goal

pub loop-n-init : goal.loop-n-init
loop-n-init c = reached-none c.args.limit c.args.from c.args.seen (state_of c.args.machine.now) c.args.item.now

pub returns-then-is_too_long : goal.returns-then-is_too_long
returns-then-is_too_long c = scans-too_long c.loop-n.invariant c.loop-n-test.true c.loop-n.machine c.if-is_too_long.ensures
    c.ends_before-is_behind.ensures

pub returns-in-Whole : goal.returns-in-Whole
returns-in-Whole c =
    scans-whole c.loop-n.invariant c.loop-n-test.true c.if-is_too_long.ensures c.ends_before-is_behind.ensures _ c.step.new.self
    c.in_ok-step.ensures c.in-Whole.is c.behind.ensures

pub returns-in-Shown : goal.returns-in-Shown
returns-in-Shown c =
    scans-shown c.loop-n.invariant c.loop-n-test.true c.if-is_too_long.ensures c.ends_before-is_behind.ensures _ c.step.new.self
    c.in_ok-step.ensures c.in-Shown.is
    (c.saturating_sub.ensures ∙ ap (λ k. c.args.from + c.loop-n.n - k) c.from.ensures)

pub loop-n-preserved : goal.loop-n-preserved
loop-n-preserved c =
    reached-more c.loop-n.invariant c.loop-n-test.true c.if-is_too_long.ensures c.ends_before-is_behind.ensures _ c.step.new.self
    c.in_ok-step.ensures c.in-On.is

pub returns : goal.returns
returns c = scans-more c.loop-n.machine c.loop-n.invariant (let h = c.loop-n.auto in omega arith)
