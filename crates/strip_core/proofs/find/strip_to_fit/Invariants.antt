use Rattle.std.proofs.Common.{◌≡◌}
use Rattle.fol_theory.specs.Syntax.{Formula}
use Rattle.fol_theory.specs.Measures.{nodes}
use Rattle.env_theory.specs.Normal.{normal}
use Rattle.env_core.specs.Meaning.{declarations}
use Rattle.tactic_theory.specs.Strips.{fitting}
use Rattle.term_core.specs.Formula.{meaning}
use Rattle.strip_core.specs.Drafts.{drafted, AreOlder, Comes, Stands}
use Rattle.strip_core.proofs.find.strip_to_fit.Given as goal

abbrev pub invariant-loop-terms : goal.invariant-loop-terms
invariant-loop-terms l =
    let E = declarations l.env in
    record {
      older : AreOlder l.draft;
      stands : Stands E l.variables (drafted l.draft);
      comes : (g a : Formula) → meaning l.target.formula ≡ normal E g → Comes (fitting E g) E a (drafted l.fn.draft)
          → Comes (fitting E g) E a (drafted l.draft);
    }

abbrev pub decreases-loop-terms : goal.decreases-loop-terms
decreases-loop-terms l = nodes (normal (declarations l.env) (meaning l.draft.rest))
