use Rattle.std.proofs.Common.{◌≡◌, ◌≤◌, ◌-◌, length, map, reverse, take}
use Rattle.env_core.specs.Meaning.{declarations}
use Rattle.term_core.specs.Formula.{meaning}
use Rattle.term_core.specs.Term as term
use Rattle.strip_core.specs.Descents.{descent_of}
use Rattle.strip_core.specs.Trees.{descend, unstripped}
use Rattle.strip_core.proofs.tree.descend_by.Given as goal

abbrev pub invariant-loop : goal.invariant-loop
invariant-loop l = record {
  left : l.left ≤ length l.terms;
  same : descend l.strips (declarations l.env) (reverse (map term.meaning l.terms)) (unstripped (meaning l.a))
      ≡ descend (l.strips - l.counter) (declarations l.env) (reverse (map term.meaning (take l.left l.terms))) (descent_of l.descent);
}
