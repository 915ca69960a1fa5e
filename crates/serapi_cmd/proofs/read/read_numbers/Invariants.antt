use Rattle.std.proofs.Common.{◌≡◌, drop, []}
use Rattle.serapi_cmd.specs.Fields.{read_each}
use Rattle.serapi_cmd.specs.Meanings.{meanings}
use Rattle.serapi_cmd.specs.Commands.{add_id}
use Rattle.serapi_cmd.proofs.read.read_numbers.Given as goal

abbrev pub invariant-loop-value : goal.invariant-loop-value
invariant-loop-value l = read_each add_id l.ids (meanings (drop l.value-index l.values)) ≡ read_each add_id [] (meanings l.values)
