-- Sequents on a stack.
use Rattle.std.proofs.Common.{◌≡◌, List, [], ◌∷◌, ◌++◌, map, ap}
use Rattle.std.proofs.lemmas.List.{reverse-append}
use Rattle.fol_theory.proofs.Slots.{entries_without}
use Rattle.term_core.specs.declared.context.Sequent.{Sequent}
use Rattle.term_core.specs.Context.{meaning}
use Rattle.proof_tree.specs.Stacks.{waiting}

-- what is pushed is on top
pub top : (ps : List Sequent) (p : Sequent) → waiting (ps ++ p ∷ []) ≡ meaning p ∷ waiting ps
top ps p = ap (map meaning) (reverse-append ps (p ∷ []))

pub ruleset stacked = (top)

pub ruleset contexts = (entries_without)
