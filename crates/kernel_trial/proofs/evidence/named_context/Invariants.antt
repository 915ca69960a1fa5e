use Rattle.fol_theory.specs.Slots.{entries}
use Rattle.term_core.specs.Context.{slots}
use Rattle.env_core.specs.Meaning.{declarations}
use Rattle.logic_theory.specs.Rules.{FormedContext}
use Rattle.kernel_trial.proofs.evidence.named_context.Given as goal

abbrev pub invariant-loop-part : goal.invariant-loop-part
invariant-loop-part l = FormedContext (declarations l.env) (entries (slots l.context))
