use Rattle.fol_theory.proofs.AtIndex as at
use Rattle.fol_theory.proofs.Gaps as gaps
use Rattle.fol_theory.proofs.Pairs as pairs
use Rattle.fol_theory.proofs.Untouched as untouched
use Rattle.fol_theory.proofs.indices.shifts_and_substitutions_pass.Goals as goal

pub returns-clause-shift_none : goal.returns-clause-shift_none
returns-clause-shift_none c = at.shift_none

pub returns-clause-shift_none_term : goal.returns-clause-shift_none_term
returns-clause-shift_none_term c = at.shift_none_term

pub returns-clause-shift_injective : goal.returns-clause-shift_injective
returns-clause-shift_injective c = pairs.shift_injective

pub returns-clause-shift_injective_term : goal.returns-clause-shift_injective_term
returns-clause-shift_injective_term c = pairs.shift_injective_term

pub returns-clause-shift_shift : goal.returns-clause-shift_shift
returns-clause-shift_shift c = pairs.shift_shift

pub returns-clause-shift_shift_term : goal.returns-clause-shift_shift_term
returns-clause-shift_shift_term c = pairs.shift_shift_term

pub returns-clause-under_shift : goal.returns-clause-under_shift
returns-clause-under_shift c = at.under_shift

pub returns-clause-shift_over : goal.returns-clause-shift_over
returns-clause-shift_over c = pairs.shift_over

pub returns-clause-shift_over_term : goal.returns-clause-shift_over_term
returns-clause-shift_over_term c = pairs.shift_over_term

pub returns-clause-shift_inside : goal.returns-clause-shift_inside
returns-clause-shift_inside c = gaps.shift_inside

pub returns-clause-shift_inside_term : goal.returns-clause-shift_inside_term
returns-clause-shift_inside_term c = gaps.shift_inside_term

pub returns-clause-substitute_inside : goal.returns-clause-substitute_inside
returns-clause-substitute_inside c = gaps.substitute_inside

pub returns-clause-substitute_inside_term : goal.returns-clause-substitute_inside_term
returns-clause-substitute_inside_term c = gaps.substitute_inside_term

pub returns-clause-substitute_shift : goal.returns-clause-substitute_shift
returns-clause-substitute_shift c = pairs.substitute_shift

pub returns-clause-substitute_shift_term : goal.returns-clause-substitute_shift_term
returns-clause-substitute_shift_term c = pairs.substitute_shift_term

pub returns-clause-shift_substitute : goal.returns-clause-shift_substitute
returns-clause-shift_substitute c = pairs.shift_substitute

pub returns-clause-shift_substitute_term : goal.returns-clause-shift_substitute_term
returns-clause-shift_substitute_term c = pairs.shift_substitute_term

pub returns-clause-shift_substitute_above : goal.returns-clause-shift_substitute_above
returns-clause-shift_substitute_above c = pairs.shift_substitute_above

pub returns-clause-shift_substitute_above_term : goal.returns-clause-shift_substitute_above_term
returns-clause-shift_substitute_above_term c = pairs.shift_substitute_above_term

pub returns-clause-substitute_substitute : goal.returns-clause-substitute_substitute
returns-clause-substitute_substitute c = pairs.substitute_substitute

pub returns-clause-substitute_substitute_term : goal.returns-clause-substitute_substitute_term
returns-clause-substitute_substitute_term c = pairs.substitute_substitute_term

pub returns-clause-substitute_substitute_below : goal.returns-clause-substitute_substitute_below
returns-clause-substitute_substitute_below c = pairs.substitute_substitute_below

pub returns-clause-substitute_substitute_below_term : goal.returns-clause-substitute_substitute_below_term
returns-clause-substitute_substitute_below_term c = pairs.substitute_substitute_below_term

pub returns-clause-shift_within : goal.returns-clause-shift_within
returns-clause-shift_within c = untouched.shift_within

pub returns-clause-shift_within_term : goal.returns-clause-shift_within_term
returns-clause-shift_within_term c = untouched.shift_within_term

pub returns-clause-substitute_within : goal.returns-clause-substitute_within
returns-clause-substitute_within c = untouched.substitute_within

pub returns-clause-substitute_within_term : goal.returns-clause-substitute_within_term
returns-clause-substitute_within_term c = untouched.substitute_within_term
