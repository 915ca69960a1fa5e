use Rattle.doc_theory.proofs.Agreed.{one_thread}
use Rattle.check_theory.specs.Language.{language}
use Rattle.check_theory.proofs.theorem.scripts_have_one_thread.Goals as goal

pub returns : goal.returns
returns c = one_thread language
