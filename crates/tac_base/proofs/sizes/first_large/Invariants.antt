use Rattle.std.proofs.Common.{◌≡◌, map, drop}
use Rattle.env_core.specs.Meaning.{declarations}
use Rattle.logic_theory.specs.Rules.{Every}
use Rattle.script_theory.specs.Sizes.{large}
use Rattle.tactic_theory.specs.Refinements.{first_large}
use Rattle.term_core.specs.Formula.{meaning}
use Rattle.tac_base.specs.Openings.{IsFormula}
use Rattle.tac_base.proofs.sizes.first_large.Given as goal

abbrev pub invariant-loop-a : goal.invariant-loop-a
invariant-loop-a l =
    let rest = map meaning (drop l.a-index l.formulas) in
    record {
      same : first_large (large (declarations l.env)) (map meaning l.formulas) ≡ first_large (large (declarations l.env)) rest;
      formed : Every (IsFormula (declarations l.env)) rest;
    }
