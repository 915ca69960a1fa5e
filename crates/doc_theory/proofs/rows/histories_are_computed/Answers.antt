use Rattle.std.proofs.Common.{refl}
use Rattle.doc_theory.proofs.rows.histories_are_computed.Goals as goal

pub returns-clause-plain : goal.returns-clause-plain
returns-clause-plain c = refl

pub returns-clause-faulty : goal.returns-clause-faulty
returns-clause-faulty c = refl

pub returns-clause-kept : goal.returns-clause-kept
returns-clause-kept c = refl

pub returns-clause-defined : goal.returns-clause-defined
returns-clause-defined c = refl

pub returns-clause-late_is_dropped : goal.returns-clause-late_is_dropped
returns-clause-late_is_dropped c = refl

pub returns-clause-late_is_stripped : goal.returns-clause-late_is_stripped
returns-clause-late_is_stripped c = refl

pub returns-clause-edited : goal.returns-clause-edited
returns-clause-edited c = refl
