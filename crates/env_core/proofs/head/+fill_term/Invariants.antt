use Rattle.std.proofs.Common.{◌≡◌, ◌+◌, ◌*◌, ◌≤◌, length, take, map}
use Rattle.std.specs.Arc.{arc_slice_items}
use Rattle.fol_theory.specs.Syntax.{var}
use Rattle.fol_theory.specs.Measures.{term_nodes, terms_nodes}
use Rattle.term_core.specs.Term.{meaning, list_meaning}
use Rattle.env_core.specs.Filled.{scope_of, filled, all_filled}
use Rattle.env_core.proofs.head.+fill_term.Given as goal

-- the nodes of the result
abbrev pub decreases-fill_term : goal.decreases-fill_term
decreases-fill_term l = 4 * term_nodes (filled (scope_of l.frames.now) l.binders l.by (meaning l.t.now)) + 1

abbrev pub decreases-fill_application : goal.decreases-fill_application
decreases-fill_application l =
    4 * terms_nodes (all_filled (scope_of l.frames.now) l.binders l.by (list_meaning (arc_slice_items l.ts.now))) + 3

abbrev pub decreases-fill_terms : goal.decreases-fill_terms
decreases-fill_terms l = 4 * terms_nodes (all_filled (scope_of l.frames.now) l.binders l.by (list_meaning l.ts.now)) + 2

abbrev pub decreases-fill_variable : goal.decreases-fill_variable
decreases-fill_variable l = 4 * term_nodes (filled (scope_of l.frames.now) 0 l.by (var l.index))

abbrev pub invariant-fill_terms-loop-t : goal.invariant-fill_terms-loop-t
invariant-fill_terms-loop-t l =
    map meaning l.made.items ≡ map (filled (scope_of l.frames) l.binders l.by) (map meaning (take l.t-index l.ts))

abbrev pub invariant-fill_variable-loop-left : goal.invariant-fill_variable-loop-left
invariant-fill_variable-loop-left l =
    (l.left ≤ length l.frames) ×
    (filled (scope_of (take l.left l.frames)) 0 l.by (var l.i) ≡ filled (scope_of l.frames) 0 l.by (var l.index))

abbrev pub decreases-fill_variable-loop-left : goal.decreases-fill_variable-loop-left
decreases-fill_variable-loop-left l = l.left
