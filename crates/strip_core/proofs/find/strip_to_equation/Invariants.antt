use Rattle.std.proofs.Common.{ℕ}
use Rattle.fol_theory.specs.Syntax.{Formula}
use Rattle.fol_theory.specs.Measures.{nodes}
use Rattle.env_theory.specs.Normal.{normal}
use Rattle.env_core.specs.Meaning.{declarations}
use Rattle.tactic_theory.specs.Strips.{equation}
use Rattle.term_core.specs.Formula.{meaning}
use Rattle.strip_core.specs.Drafts.{drafted, AreOlder, Comes, Stands}
use Rattle.strip_core.proofs.find.strip_to_equation.Given as goal

abbrev pub invariant-loop : goal.invariant-loop
invariant-loop l =
    let E = declarations l.env in
    record {
      older : AreOlder l.draft;
      stands : (n : ℕ) → Stands E n (drafted l.fn.draft) → Stands E n (drafted l.draft);
      comes : (a : Formula) → Comes (equation E) E a (drafted l.fn.draft) → Comes (equation E) E a (drafted l.draft);
    }

abbrev pub decreases-loop : goal.decreases-loop
decreases-loop l = nodes (normal (declarations l.env) (meaning l.draft.rest))
