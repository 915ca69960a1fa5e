use Rattle.std.proofs.Common.{refl}
use Rattle.conv_core.proofs.Compares.{side_pushed}
use Rattle.conv_core.proofs.terms.push_sides.Goals as goal

pub loop-i-preserved : goal.loop-i-preserved
loop-i-preserved c =
    side_pushed c.args.first_scope c.args.first_by c.args.ts.now c.args.us.now c.args.second_scope c.args.second_by c.loop-i.i
    c.args.stack.now.items c.loop-i.stack.items c.push.new.self.items c.index-ts-i.result c.index-us-i.result _
    c.loop-i-test.true c.index-ts-i.is c.index-us-i.is c.in_ok-push.ensures.items (refl, refl, refl, refl, refl, refl) c.loop-i.invariant
