use Rattle.doc_core.proofs.Theory.{is_theory}
use Rattle.doc_core.proofs.laws.what_is_built_is_the_theory.Goals as goal

pub returns : goal.returns
returns g c = is_theory
