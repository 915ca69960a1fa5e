use Rattle.std.proofs.Common.{ltb, ltb-true, ltb-false, lt-ltb, rules}
use Rattle.std.proofs.lemmas.List.Sorted.{IsPartitionPoint-from_clause}
use Rattle.task_board.proofs.Seen.{partitioned, parts}
use Rattle.task_board.proofs.slot.first_from.Goals as goal

pub returns : goal.returns
returns g c =
    let n = c.args.number in
    let point = IsPartitionPoint-from_clause (λ s. ltb s.number n) _ _ c.partition_point.ensures.partitioned
    (λ i j d le lt h. lt-ltb _ _ (partitioned n d 0 c.args.slots.now c.requires i j le lt (ltb-true _ _ h))) (λ a r q k. search rules) in
    parts n c.partition_point.result c.args.slots.now (λ k d le lt. ltb-true _ _ (point.0 k d le lt)) (λ k d le lt. ltb-false _ _ (point.1 k d le lt))
