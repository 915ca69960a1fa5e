use Rattle.env_theory.proofs.Lawfuls as orders
use Rattle.tactic_theory.specs.Typing.{typed}
use Rattle.tactic_theory.proofs.Proved as proved
use Rattle.tactic_theory.proofs.Typed as typing
use Rattle.tactic_theory.proofs.sentences_keep_a_state_fitting.Goals as goal

pub returns-clause-bullet : goal.returns-clause-bullet
returns-clause-bullet c = proved.bullet_keeps

pub returns-clause-brace_in : goal.returns-clause-brace_in
returns-clause-brace_in c = proved.brace_in_keeps

pub returns-clause-brace_out : goal.returns-clause-brace_out
returns-clause-brace_out c = proved.brace_out_keeps

pub returns-clause-fits : goal.returns-clause-fits
returns-clause-fits c = λ large E o root f x s t k e. proved.one_fits large (typed E) E (orders.lawful E o)
    (λ g z r h j. typing.refinement_typed E o g h z r j) root f x s t k e
