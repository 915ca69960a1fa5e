use Rattle.logic_theory.proofs.Derived as derived
use Rattle.logic_theory.proofs.what_follows_is_well_formed.Goals as goal

pub returns : goal.returns
returns c = λ E V G A d. derived.formed d
