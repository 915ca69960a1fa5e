-- What is made of evidence stands for this.
use Rattle.std.specs.Prelude.{List, ◌++◌, map, reverse}
use Rattle.fol_theory.specs.Syntax.{Formula}
use Rattle.term_core.specs.Formula.{meaning}
use Rattle.proof_tree.specs.Meaning.{meanings}
use Rattle.evidence_core.specs.Showings.{Showing}
use Rattle.evidence_core.specs.declared.shown.Pair.{Pair}
use Rattle.evidence_core.specs.declared.shown.Evidence.{Evidence}
use Rattle.evidence_core.specs.declared.draft.Draft.{Draft}

-- the two formulas of a pair
abbrev pub pair : Pair → Formula × Formula
pair p = (meaning p.premise, meaning p.given)

-- those of pairs, in order
abbrev pub pairs : List Pair → List (Formula × Formula)
pairs ps = map pair ps

-- what evidence comes to
abbrev pub showing : Evidence → Showing
showing e = record {
  formula = meaning e.formula;
  tree = meanings e.tree;
  pairs = pairs e.must.items;
  hypothesis = e.hypothesis;
}

-- the same of evidence whose arguments aren't all read yet
abbrev pub so_far : Draft → Showing
so_far d = record {
  formula = meaning d.formula;
  tree = meanings (reverse d.heads.items ++ d.behind.items);
  pairs = pairs d.must.items;
  hypothesis = d.hypothesis;
}
