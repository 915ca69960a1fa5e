use Rattle.script_theory.specs.Sentences.{empty}
use Rattle.script_theory.proofs.Kept as kept
use Rattle.script_theory.proofs.sentences_keep_the_state.Goals as goal

pub returns-clause-one : goal.returns-clause-one
returns-clause-one c = kept.one_kept

pub returns-clause-all : goal.returns-clause-all
returns-clause-all c = λ ws n. kept.all_kept ws empty n ((tt, tt), tt)
