use Rattle.std.proofs.Common.{◌≡◌, drop}
use Rattle.serapi_cmd.specs.Fields.{read_each}
use Rattle.serapi_cmd.specs.Meanings.{meanings}
use Rattle.serapi_cmd.specs.Options.{query_option, no_query_option}
use Rattle.serapi_cmd.proofs.options.read_query_list.Given as goal

abbrev pub invariant-loop-option : goal.invariant-loop-option
invariant-loop-option l = read_each query_option l.given (meanings (drop l.option-index l.options))
    ≡ read_each query_option no_query_option (meanings l.options)
