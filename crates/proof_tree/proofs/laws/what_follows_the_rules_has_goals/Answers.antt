use Rattle.proof_tree.proofs.Indices.{follows_named, indices_fit}
use Rattle.proof_tree.proofs.laws.what_follows_the_rules_has_goals.Goals as goal

pub returns-clause-names : goal.returns-clause-names
returns-clause-names c = follows_named

pub returns-clause-indices : goal.returns-clause-indices
returns-clause-indices c = λ E d n rs gs p f w b k. indices_fit E d n rs gs p f w b k
