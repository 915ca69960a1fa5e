use Rattle.env_theory.proofs.Lawfuls as orders
use Rattle.tactic_theory.proofs.Proved as proved
use Rattle.tactic_theory.proofs.refinements_follow_the_rules.Goals as goal

pub returns : goal.returns
returns c = λ large E o g f r y hs e. proved.refine_opens large E (orders.lawful E o) g f r y hs e
