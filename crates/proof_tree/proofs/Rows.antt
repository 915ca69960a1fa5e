-- Goals of small trees, computed; and the tree that is tested.
use Rattle.std.proofs.Common.{◌≡◌, ℕ, ◌+◌, List, [], ◌∷◌, length, reverse, refl, subst, sym, codes, arith, Vec}
use Rattle.std.proofs.lemmas.List.{length-reverse}
use Rattle.std.specs.declared.alloc.Global.{Global}
use Rattle.fol_theory.specs.Syntax.{Formula, var, truth, equal, either, ex}
use Rattle.fol_theory.specs.Contexts.{variable, hypothesis}
use Rattle.fol_theory.specs.Slots.{Slot, slot, entries}
use Rattle.logic_theory.specs.Rules.{plain, leaf, step, seq, or_e, all_i, ex_e, drop}
use Rattle.logic_theory.specs.Goals.{goal, goals}
use Rattle.term_core.specs.declared.name.Name.{Name}
use Rattle.term_core.specs.declared.formula.Formula.{Formula as Told}
use Rattle.proof_tree.specs.declared.rule.Rule.{Rule}
use Rattle.proof_tree.specs.declared.rule.Rule.TheVariants.{Leaf, ExE}
use Rattle.proof_tree.specs.Meaning.{meanings}
use Rattle.proof_tree.specs.Places.{AtPlaces, NamesEntries}
use Rattle.proof_tree.proofs.Labelled.{length_entries}

abbrev sort : List ℕ
sort = codes "T"

abbrev x : List ℕ
x = codes "x"

abbrev y : List ℕ
y = codes "y"

abbrev h : List ℕ
h = codes "h"

abbrev k : List ℕ
k = codes "k"

-- the variable i is equal to itself
abbrev about : ℕ → Formula
about i = equal sort (var i) (var i)

-- the names of a leaf stand from the oldest on
row_leaf : goals (leaf (reverse (x ∷ h ∷ [])) ∷ []) (seq (hypothesis (about 0) ∷ variable sort ∷ []) truth ∷ [])
    ≡ goal (slot h (hypothesis (about 0)) ∷ slot x (variable sort) ∷ []) truth ∷ []
row_leaf = refl

-- a body under a further variable
row_all : goals (step (all_i sort (about 0)) ∷ leaf (reverse (x ∷ y ∷ [])) ∷ []) (seq (variable sort ∷ []) truth ∷ [])
    ≡ goal (slot y (variable sort) ∷ slot x (variable sort) ∷ []) (about 0) ∷ []
row_all = refl

-- a goal under a witness speaks of the variable that it spoke of
row_witness : goals (step (ex_e sort (about 0)) ∷ leaf (reverse (x ∷ [])) ∷ leaf (reverse (x ∷ y ∷ k ∷ [])) ∷ []) (seq (variable sort ∷ []) (about 0) ∷ [])
    ≡ goal (slot x (variable sort) ∷ []) (ex sort plain (about 0))
    ∷ goal (slot k (hypothesis (about 0)) ∷ slot y (variable sort) ∷ slot x (variable sort) ∷ []) (about 1) ∷ []
row_witness = refl

-- the oldest hypothesis goes, and newer entries stay
row_drop : goals (step (drop 0) ∷ leaf (reverse (x ∷ k ∷ [])) ∷ []) (seq (hypothesis (about 0) ∷ variable sort ∷ hypothesis truth ∷ []) truth ∷ [])
    ≡ goal (slot k (hypothesis (about 0)) ∷ slot x (variable sort) ∷ []) truth ∷ []
row_drop = refl

-- the goal under each case, in order
row_cases : goals (step (or_e truth (about 0)) ∷ leaf [] ∷ leaf (h ∷ []) ∷ leaf (k ∷ []) ∷ []) (seq [] truth ∷ [])
    ≡ goal [] (either truth (about 0)) ∷ goal (slot h (hypothesis truth) ∷ []) truth ∷ goal (slot k (hypothesis (about 0)) ∷ []) truth ∷ []
row_cases = refl

-- a witness is taken, and both children are left open
pub witness_named : (rs : List Rule) (s : Name) (b : Told) (ns ms : Vec Name Global) → rs ≡ ExE s b ∷ Leaf ns ∷ Leaf ms ∷ []
    → length ns.items ≡ 1 → length ms.items ≡ 3 → (c : List Slot) (g : Formula) → length c ≡ 1
    → AtPlaces NamesEntries (meanings rs) (seq (entries c) g ∷ [])
witness_named rs s b ns ms e h m c g l =
    let first : length (reverse ns.items) ≡ length (entries c) = omega (arith, length-reverse ns.items, length_entries c, h, l) in
    let second : length (reverse ms.items) ≡ length (entries c) + 2 = omega (arith, length-reverse ms.items, length_entries c, m, l) in
    subst (λ z. AtPlaces NamesEntries (meanings z) (seq (entries c) g ∷ [])) (sym e) (tt, (first, (omega (arith, second), tt)))
