use Rattle.std.proofs.Common.{refl}
use Rattle.doc_theory.proofs.Late as late
use Rattle.doc_theory.proofs.theorem.late_results.Goals as goal

pub returns-clause-live : goal.returns-clause-live
returns-clause-live g c = λ L laws limit h l. (late.history_kept L laws limit h).rows

pub returns-clause-claimed : goal.returns-clause-claimed
returns-clause-claimed g c = late.claimed_task

pub returns-clause-kept : goal.returns-clause-kept
returns-clause-kept g c = late.kept_result

pub returns-clause-dropped : goal.returns-clause-dropped
returns-clause-dropped g c = λ L p s n. refl

pub returns-clause-dropped_document : goal.returns-clause-dropped_document
returns-clause-dropped_document g c = λ L p s n. refl

pub returns-clause-dropped_rows : goal.returns-clause-dropped_rows
returns-clause-dropped_rows g c = λ L p s n. refl

pub returns-clause-gone : goal.returns-clause-gone
returns-clause-gone g c = late.gone_result
