use Rattle.std.proofs.Common.{rules}
use Rattle.std.proofs.lemmas.List.Elements.{filter_from_retain}
use Rattle.task_board.specs.Slots.{is_full}
use Rattle.task_board.proofs.slot.close_up.Goals as goal

pub returns-clause-items : goal.returns-clause-items
returns-clause-items g c = filter_from_retain _ is_full (λ p x b q k. search rules) _ _ _ c.retain.ensures.filtered
