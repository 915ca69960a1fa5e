use Rattle.tactic_theory.specs.Typing.{typed}
use Rattle.tactic_theory.proofs.Proved as proved
use Rattle.tactic_theory.proofs.Typed as typing
use Rattle.tactic_theory.proofs.blocks_have_derivations.Goals as goal

pub returns : goal.returns
returns c = λ large E o a w xs t e. proved.block_proved large (typed E) E o (λ g x r f k. typing.refinement_typed E o g f x r k) a w xs t e
