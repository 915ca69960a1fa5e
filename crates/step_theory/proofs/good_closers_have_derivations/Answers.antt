use Rattle.step_theory.proofs.Derived.{block_shown, closer_shown}
use Rattle.step_theory.proofs.good_closers_have_derivations.Goals as goal

pub returns-clause-block : goal.returns-clause-block
returns-clause-block c = block_shown

pub returns-clause-closer : goal.returns-clause-closer
returns-clause-closer c = closer_shown
