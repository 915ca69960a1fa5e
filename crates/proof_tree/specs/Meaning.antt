-- The rules of the theory that rules stand for.
use Rattle.std.specs.Prelude.{List, [], ◌∷◌, map, reverse}
use Rattle.logic_theory.specs.Rules as theory
use Rattle.term_core.specs.Term as term
use Rattle.term_core.specs.Formula as formula
use Rattle.proof_tree.specs.declared.rule.Rule.{Rule}
use Rattle.proof_tree.specs.declared.rule.Rule.TheVariants.{Leaf, Hyp, Stated, TrueI, FalseE, AndI, AndE, OrI1, OrI2, OrE, ImpI, ImpE}
use Rattle.proof_tree.specs.declared.rule.Rule.TheVariants.{AllI, AllE, ExI, ExE, EqI, EqE, Cut, Drop, Conv}

-- the rule that one stands for; the theory has the names of a leaf the newest first
abbrev pub meaning : Rule → theory.Rule
meaning (Leaf ns) = theory.leaf (reverse ns.items)
meaning (Hyp i) = theory.step (theory.hyp i)
meaning (Stated n) = theory.step (theory.known n)
meaning TrueI = theory.step theory.true_i
meaning FalseE = theory.step theory.false_e
meaning (AndI a b) = theory.step (theory.and_i (formula.meaning a) (formula.meaning b))
meaning (AndE a b) = theory.step (theory.and_e (formula.meaning a) (formula.meaning b))
meaning (OrI1 a b) = theory.step (theory.or_i1 (formula.meaning a) (formula.meaning b))
meaning (OrI2 a b) = theory.step (theory.or_i2 (formula.meaning a) (formula.meaning b))
meaning (OrE a b) = theory.step (theory.or_e (formula.meaning a) (formula.meaning b))
meaning (ImpI a b) = theory.step (theory.imp_i (formula.meaning a) (formula.meaning b))
meaning (ImpE a) = theory.step (theory.imp_e (formula.meaning a))
meaning (AllI s b) = theory.step (theory.all_i s (formula.meaning b))
meaning (AllE s b t) = theory.step (theory.all_e s (formula.meaning b) (term.meaning t))
meaning (ExI s b t) = theory.step (theory.ex_i s (formula.meaning b) (term.meaning t))
meaning (ExE s b) = theory.step (theory.ex_e s (formula.meaning b))
meaning (EqI s t) = theory.step (theory.eq_i s (term.meaning t))
meaning (EqE s b t u) = theory.step (theory.eq_e s (formula.meaning b) (term.meaning t) (term.meaning u))
meaning (Cut a) = theory.step (theory.cut (formula.meaning a))
meaning (Drop i) = theory.step (theory.drop i)
meaning (Conv a) = theory.step (theory.conv (formula.meaning a))

-- the rules of a list, in the same order
abbrev pub meanings : List Rule → List theory.Rule
meanings rs = map meaning rs

-- a rule is an open leaf
abbrev pub IsLeaf : theory.Rule → Type 0
IsLeaf (theory.leaf ns) = Unit {0}
IsLeaf (theory.step r) = ⊥

-- a rule is no open leaf
abbrev pub IsStep : theory.Rule → Type 0
IsStep (theory.leaf ns) = ⊥
IsStep (theory.step r) = Unit {0}

-- an open leaf is among the rules
abbrev pub HasLeaf : List theory.Rule → Type 0
HasLeaf [] = ⊥
HasLeaf (theory.leaf ns ∷ rs) = Unit {0}
HasLeaf (theory.step r ∷ rs) = HasLeaf rs
