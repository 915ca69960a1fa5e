-- What the code's heads stand for.
use Rattle.elab_core.specs.declared.scope.Head.{Head}
use Rattle.elab_core.specs.declared.scope.Head.TheVariants.{Variable, Function}
use Rattle.env_core.specs.Sorts.{sorts_as}
use Rattle.elab_core.specs.Checked.{Head as Meaning, variable_head, function_head}

-- the head that one stands for
abbrev pub head_as : Head → Meaning
head_as (Variable i s) = variable_head i s.now
head_as (Function ss s) = function_head (sorts_as ss) s.now
