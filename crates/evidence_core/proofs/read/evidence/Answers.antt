use Rattle.std.proofs.Common.{arith}
use Rattle.term_core.specs.Context.{slots}
use Rattle.env_core.specs.Meaning.{declarations}
use Rattle.vern_parse.specs.Meaning.{expression}
use Rattle.tactic_theory.specs.Typing.{evidence_of}
use Rattle.evidence_core.proofs.Whole.{met_told, proved_told, formed_told, pairs_told}
use Rattle.evidence_core.proofs.read.evidence.Goals as goal

pub read-requires : goal.read-requires
read-requires c = record {
  environment = c.environment.ensures;
  formed = c.requires;
  counted = omega (arith, c.in_ok-variables.ensures);
}

pub returns : goal.returns
returns c =
    let E = declarations c.args.env.now in
    let l = slots c.args.context.now in
    let w = evidence_of E l (expression c.args.raw.now) in
    let x = c.environment.ensures in
    record {
      answer = c.read.ensures;
      met = met_told E l w c.read.result c.read.ensures;
      proved = proved_told E l w x c.requires c.read.result c.read.ensures;
      formed = formed_told E l w x c.requires c.read.result c.read.ensures;
      pairs_formed = pairs_told E l w x c.requires c.read.result c.read.ensures;
    }
