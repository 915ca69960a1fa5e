use Rattle.std.proofs.Common.{◌↔◌, drop}
use Rattle.fol_theory.specs.Contexts.{variables}
use Rattle.fol_theory.specs.Slots.{entries}
use Rattle.evidence_core.specs.Meaning.{pairs}
use Rattle.evidence_core.specs.Pairs.{AreFormed, AreSame}
use Rattle.tac_base.specs.Sites.{env_of, goal_at}
use Rattle.tac_base.proofs.argument.are_same.Given as goal

abbrev pub invariant-loop-pair : goal.invariant-loop-pair
invariant-loop-pair l =
    let rest = pairs (drop l.pair-index l.must) in
    record {
      same : AreSame (env_of l.site) (pairs l.must) ↔ AreSame (env_of l.site) rest;
      formed : AreFormed (env_of l.site) (variables (entries (goal_at l.site).slots)) rest;
    }
