use Rattle.fol_theory.proofs.Sizes as sizes
use Rattle.fol_theory.proofs.measures.replacing_is_measured.Goals as goal

pub returns-clause-shift_nodes : goal.returns-clause-shift_nodes
returns-clause-shift_nodes c = sizes.shift_nodes

pub returns-clause-shift_height : goal.returns-clause-shift_height
returns-clause-shift_height c = sizes.shift_height

pub returns-clause-shift_term_nodes : goal.returns-clause-shift_term_nodes
returns-clause-shift_term_nodes c = sizes.shift_term_nodes

pub returns-clause-shift_term_height : goal.returns-clause-shift_term_height
returns-clause-shift_term_height c = sizes.shift_term_height

pub returns-clause-substitute_nodes_least : goal.returns-clause-substitute_nodes_least
returns-clause-substitute_nodes_least c = sizes.substitute_nodes_least

pub returns-clause-substitute_nodes_most : goal.returns-clause-substitute_nodes_most
returns-clause-substitute_nodes_most c = sizes.substitute_nodes_most

pub returns-clause-substitute_height_least : goal.returns-clause-substitute_height_least
returns-clause-substitute_height_least c = sizes.substitute_height_least

pub returns-clause-substitute_height_most : goal.returns-clause-substitute_height_most
returns-clause-substitute_height_most c = sizes.substitute_height_most

pub returns-clause-depth : goal.returns-clause-depth
returns-clause-depth c = sizes.depth_kept

pub returns-clause-substitute_term_nodes_least : goal.returns-clause-substitute_term_nodes_least
returns-clause-substitute_term_nodes_least c = sizes.substitute_term_nodes_least

pub returns-clause-substitute_term_nodes_most : goal.returns-clause-substitute_term_nodes_most
returns-clause-substitute_term_nodes_most c = sizes.substitute_term_nodes_most

pub returns-clause-substitute_term_height_least : goal.returns-clause-substitute_term_height_least
returns-clause-substitute_term_height_least c = sizes.substitute_term_height_least

pub returns-clause-substitute_term_height_most : goal.returns-clause-substitute_term_height_most
returns-clause-substitute_term_height_most c = sizes.substitute_term_height_most

pub returns-clause-depth_below : goal.returns-clause-depth_below
returns-clause-depth_below c = sizes.depth_below
