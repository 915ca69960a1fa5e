use Rattle.std.proofs.Common.{◌≡◌, map, take}
use Rattle.term_core.specs.Term.{meaning}
use Rattle.env_theory.specs.Normal.{expand_term}
use Rattle.env_core.specs.Meaning.{declaration}
use Rattle.tac_eq.proofs.expand.+expand_term.Given as goal

abbrev pub invariant-expand_terms-loop-t : goal.invariant-expand_terms-loop-t
invariant-expand_terms-loop-t l =
    map meaning l.made.items ≡ map (expand_term (declaration l.decl)) (map meaning (take l.t-index l.ts))
