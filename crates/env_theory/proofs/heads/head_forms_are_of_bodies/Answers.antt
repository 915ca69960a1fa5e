use Rattle.env_theory.proofs.HeadLaws as heads
use Rattle.env_theory.proofs.Lawfuls as lawfuls
use Rattle.env_theory.proofs.heads.head_forms_are_of_bodies.Goals as goal

pub returns-clause-defined : goal.returns-clause-defined
returns-clause-defined c = heads.head_defined

pub returns-clause-rigid : goal.returns-clause-rigid
returns-clause-rigid c = heads.head_rigid

pub returns-clause-other : goal.returns-clause-other
returns-clause-other c = heads.head_stays

pub returns-clause-undefined : goal.returns-clause-undefined
returns-clause-undefined c = heads.head_undefined

pub returns-clause-replace : goal.returns-clause-replace
returns-clause-replace c = heads.head_replace

pub returns-clause-formed : goal.returns-clause-formed
returns-clause-formed c = lawfuls.head_formed
