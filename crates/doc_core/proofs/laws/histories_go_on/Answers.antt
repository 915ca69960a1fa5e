use Rattle.doc_core.specs.Histories.{start}
use Rattle.doc_core.proofs.Grown.{legal-grown, standing-grown}
use Rattle.doc_core.proofs.laws.histories_go_on.Goals as goal

pub returns-clause-standing : goal.returns-clause-standing
returns-clause-standing c = λ limit h e. standing-grown (start limit) h e

pub returns-clause-legal : goal.returns-clause-legal
returns-clause-legal c = λ limit h e legal asks. legal-grown (start limit) h e legal asks
