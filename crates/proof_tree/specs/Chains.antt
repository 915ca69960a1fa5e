-- The rules of a chain, and of two chains that are a tree.
use Rattle.std.specs.Prelude.{List, [], ◌∷◌}
use Rattle.std.specs.Arc.{arc_value}
use Rattle.proof_tree.specs.Meaning.{meaning, IsLeaf, IsStep}
use Rattle.proof_tree.specs.declared.rule.Rule.{Rule}
use Rattle.proof_tree.specs.declared.chain.Chain.{Chain}
use Rattle.proof_tree.specs.declared.chain.Chain.TheOpen.{Chain-F, End, Then}
use Rattle.proof_tree.specs.declared.chain.Chain.TheFolds.{fold-Chain}

-- the rules of a chain, from those that follow
abbrev pub linked_step : Chain-F (List Rule) → List Rule
linked_step End = []
linked_step (Then l) = arc_value (arc_value l).rule ∷ (arc_value l).next

-- the rules of a chain, in order
abbrev pub linked : Chain → List Rule
linked = fold-Chain (List Rule) linked_step

-- rules, the last of them first, and then others
abbrev pub onto : List Rule → List Rule → List Rule
onto [] rs = rs
onto (c ∷ cs) rs = onto cs (c ∷ rs)

-- none of the rules is an open leaf
abbrev pub AreSteps : List Rule → Type 0
AreSteps [] = Unit {0}
AreSteps (r ∷ rs) = IsStep (meaning r) × AreSteps rs

-- the first rule is an open leaf, if there is a rule
abbrev pub BeginsOpen : List Rule → Type 0
BeginsOpen [] = Unit {0}
BeginsOpen (r ∷ rs) = IsLeaf (meaning r)
