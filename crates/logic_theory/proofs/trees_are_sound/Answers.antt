use Rattle.logic_theory.proofs.Trees as trees
use Rattle.logic_theory.proofs.Grafting as grafting
use Rattle.logic_theory.proofs.trees_are_sound.Goals as goal

pub returns-clause-sound : goal.returns-clause-sound
returns-clause-sound c = λ E rs gs p f h. trees.sound E rs gs p f h

pub returns-clause-named : goal.returns-clause-named
returns-clause-named c = grafting.goals_leaves

pub returns-clause-opened : goal.returns-clause-opened
returns-clause-opened c = grafting.opens_sound

pub returns-clause-formed : goal.returns-clause-formed
returns-clause-formed c = grafting.opens_formed

pub returns-clause-grafted : goal.returns-clause-grafted
returns-clause-grafted c = grafting.opens_first
