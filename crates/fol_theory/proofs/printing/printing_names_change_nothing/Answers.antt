use Rattle.fol_theory.proofs.Names as names
use Rattle.fol_theory.proofs.printing.printing_names_change_nothing.Goals as goal

pub returns-clause-twice : goal.returns-clause-twice
returns-clause-twice c = names.unnamed_twice

pub returns-clause-unnamed : goal.returns-clause-unnamed
returns-clause-unnamed c = names.unnamed_replace

pub returns-clause-replace : goal.returns-clause-replace
returns-clause-replace c = names.alike_replace

pub returns-clause-nodes : goal.returns-clause-nodes
returns-clause-nodes c = names.alike_nodes

pub returns-clause-height : goal.returns-clause-height
returns-clause-height c = names.alike_height

pub returns-clause-reach : goal.returns-clause-reach
returns-clause-reach c = names.alike_reach

pub returns-clause-depth : goal.returns-clause-depth
returns-clause-depth c = names.alike_depth
