use Rattle.std.proofs.Common.{◌≡◌, suc, ◌+◌, ◌-◌, map, reverse, take, sym, ap, ◌∙◌, arith}
use Rattle.env_core.specs.Meaning.{declarations}
use Rattle.term_core.specs.Term as term
use Rattle.strip_core.specs.Descents.{descent_of}
use Rattle.strip_core.specs.Trees.{descend}
use Rattle.strip_core.proofs.tree.descend_by.Goals as goal

pub returns-in-None : goal.returns-in-None
returns-in-None c =
    let k = c.args.strips - (c.loop.counter + 1) in
    let more : c.args.strips - c.loop.counter ≡ suc k = omega (arith, c.loop-test.true) in
    let ts = reverse (map term.meaning (take c.loop.left c.args.terms.now)) in
    sym (c.loop.invariant.same
    ∙ ap (λ j. descend j (declarations c.args.env.now) ts (descent_of c.loop.descent)) more
    ∙ (rw c.in-None.is at (c.in_ok-one_less.ensures.less k)))

pub loop-preserved : goal.loop-preserved
loop-preserved c =
    let k = c.args.strips - (c.loop.counter + 1) in
    let more : c.args.strips - c.loop.counter ≡ suc k = omega (arith, c.loop-test.true) in
    let ts = reverse (map term.meaning (take c.loop.left c.args.terms.now)) in
    record {
      left = rw c.in-Some.is at c.in_ok-one_less.ensures.left;
      same = c.loop.invariant.same
          ∙ ap (λ j. descend j (declarations c.args.env.now) ts (descent_of c.loop.descent)) more
          ∙ (rw c.in-Some.is at (c.in_ok-one_less.ensures.less k));
    }
