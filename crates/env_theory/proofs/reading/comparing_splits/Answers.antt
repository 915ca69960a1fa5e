use Rattle.env_theory.proofs.Agrees as agrees
use Rattle.env_theory.proofs.reading.comparing_splits.Goals as goal

pub returns-clause-both : goal.returns-clause-both
returns-clause-both c = λ E c d a b p q. agrees.both_agree E c a b d p q

pub returns-clause-all : goal.returns-clause-all
returns-clause-all c = λ E c d s x r y a b. agrees.all_agree E c s x a d r y b
