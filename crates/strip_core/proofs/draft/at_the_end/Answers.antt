use Rattle.env_theory.specs.Typing.{WellFormed}
use Rattle.strip_core.proofs.Premises.{premise_at}
use Rattle.strip_core.proofs.draft.at_the_end.Goals as goal

pub shifted-requires : goal.shifted-requires
shifted-requires c =
    let r = c.requires.formed in (
      r.0,
      r.1,
      premise_at (WellFormed r.0 r.1) c.args.opened c.args.premises.now c.loop-premise.premise-index c.premise-item.result
          c.loop-premise-test.true c.premise-item.is r.3,
      r.2,
    )
