use Rattle.env_theory.proofs.Again as again
use Rattle.env_theory.proofs.Lawfuls as lawfuls
use Rattle.env_theory.proofs.orders.environments_in_order_are_lawful.Goals as goal

pub returns-clause-lawful : goal.returns-clause-lawful
returns-clause-lawful c = lawfuls.lawful

pub returns-clause-unfolded : goal.returns-clause-unfolded
returns-clause-unfolded c = again.normal_expand

pub returns-clause-at_head : goal.returns-clause-at_head
returns-clause-at_head c = again.normal_head

pub returns-clause-twice : goal.returns-clause-twice
returns-clause-twice c = λ E o a. again.within_normal E o E (λ d m. m) a

pub returns-clause-head : goal.returns-clause-head
returns-clause-head c = λ E o a. again.within_head E o E (λ d m. m) a
