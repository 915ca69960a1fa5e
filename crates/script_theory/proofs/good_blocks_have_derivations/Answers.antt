use Rattle.script_theory.proofs.Kept as kept
use Rattle.script_theory.proofs.good_blocks_have_derivations.Goals as goal

pub returns-clause-block : goal.returns-clause-block
returns-clause-block c = λ before n id x nx a w ws i closer k h e j v. kept.block_is_proved before n id x nx a w ws i closer k h e j v

pub returns-clause-closer : goal.returns-clause-closer
returns-clause-closer c = λ ws n id k h v. kept.good_is_proved ws n id k h v
