use Rattle.fol_theory.proofs.Reaches as reaches
use Rattle.fol_theory.proofs.Untouched as untouched
use Rattle.fol_theory.proofs.indices.no_index_passes.Goals as goal

pub returns-clause-shift_reach : goal.returns-clause-shift_reach
returns-clause-shift_reach c = reaches.shift_reach

pub returns-clause-shift_term_reach : goal.returns-clause-shift_term_reach
returns-clause-shift_term_reach c = reaches.shift_term_reach

pub returns-clause-substitute_reach : goal.returns-clause-substitute_reach
returns-clause-substitute_reach c = reaches.substitute_reach

pub returns-clause-substitute_term_reach : goal.returns-clause-substitute_term_reach
returns-clause-substitute_term_reach c = reaches.substitute_term_reach

pub returns-clause-index : goal.returns-clause-index
returns-clause-index c = reaches.index_fits

pub returns-clause-shift : goal.returns-clause-shift
returns-clause-shift c = reaches.shift_fits

pub returns-clause-shift_term : goal.returns-clause-shift_term
returns-clause-shift_term c = reaches.shift_term_fits

pub returns-clause-substitute : goal.returns-clause-substitute
returns-clause-substitute c = reaches.substitute_fits

pub returns-clause-substitute_term : goal.returns-clause-substitute_term
returns-clause-substitute_term c = reaches.substitute_term_fits

pub returns-clause-range : goal.returns-clause-range
returns-clause-range c = untouched.range_reach
