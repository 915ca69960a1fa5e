use Rattle.env_core.specs.Meaning.{declarations}
use Rattle.script_theory.specs.Sizes.{large}
use Rattle.term_core.specs.Formula.{meaning}
use Rattle.tac_base.proofs.Measured.{first_formed, first_found, none_found}
use Rattle.tac_base.proofs.sizes.first_large.Goals as goal

pub large-requires : goal.large-requires
large-requires c =
    (first_formed meaning c.args.formulas.now c.loop-a.a-index c.a-item.result c.loop-a-test.true c.a-item.is (declarations c.args.env.now)
    c.loop-a.invariant.formed).0

pub returns-in-Some : goal.returns-in-Some
returns-in-Some c = first_found meaning c.args.formulas.now c.loop-a.a-index c.a-item.result c.loop-a-test.true c.a-item.is
    (large (declarations c.args.env.now)) _ c.in-Some.ensures c.loop-a.invariant.same

pub loop-a-preserved : goal.loop-a-preserved
loop-a-preserved c = record {
  same = none_found meaning c.args.formulas.now c.loop-a.a-index c.a-item.result c.loop-a-test.true c.a-item.is
      (large (declarations c.args.env.now)) c.in-None.ensures c.loop-a.invariant.same;
  formed = (first_formed meaning c.args.formulas.now c.loop-a.a-index c.a-item.result c.loop-a-test.true c.a-item.is
      (declarations c.args.env.now) c.loop-a.invariant.formed).1;
}
