use Rattle.std.proofs.Common.{ap, ◌∙◌}
use Rattle.env_theory.specs.Count.{by_nodes, by_height}
use Rattle.env_theory.proofs.Caps.{nodes_cuts, height_cuts}
use Rattle.env_core.specs.Weights.{weights_of}
use Rattle.env_core.specs.Rows.{nodes_table, height_table}
use Rattle.env_core.proofs.Applications.{applied_predicate}
use Rattle.env_core.proofs.Formulas.{eq_counts, and_counts, or_counts, imp_counts, all_counts, ex_counts}
use Rattle.env_core.proofs.Formulas.{nodes_two, height_two, nodes_one, height_one}
use Rattle.env_core.proofs.sizes.+formula_tally.Goals as goal

pub returns-in-Pred-clause-nodes : goal.returns-in-Pred-clause-nodes
returns-in-Pred-clause-nodes t c = c.head_tally.ensures.nodes
    ∙ applied_predicate by_nodes nodes_cuts 1 (weights_of c.args.weights) (nodes_table c.args.env.now) c.in-Pred.p c.in-Pred.ts _
    c.as_slice.result.now c.args.a.now c.as_slice.ensures.value c.in-Pred.is c.predicate.ensures.nodes

pub returns-in-Eq-clause-nodes : goal.returns-in-Eq-clause-nodes
returns-in-Eq-clause-nodes t c = nodes_two _ _ _ _ _ _ _ c.term_tally.ensures.nodes c.term_tally-in-Eq.ensures.nodes
    c.beside.ensures.nodes c.below.ensures.nodes
    (eq_counts by_nodes (nodes_table c.args.env.now) 1
    (weights_of c.args.weights) c.args.a.now c.in-Eq.field-0 c.in-Eq.t c.in-Eq.u c.in-Eq.is)

pub returns-in_ok-formula_tally-in-And-2-clause-nodes : goal.returns-in_ok-formula_tally-in-And-2-clause-nodes
returns-in_ok-formula_tally-in-And-2-clause-nodes t c = nodes_two _ _ _ _ _ _ _ c.in_ok-formula_tally-in-And.ensures.nodes
    c.in_ok-formula_tally-in-And-2.ensures.nodes
    c.beside-in-And.ensures.nodes c.below-in-And.ensures.nodes
    (and_counts by_nodes (nodes_table c.args.env.now) 1
    (weights_of c.args.weights) c.args.a.now c.in-And.a c.in-And.b c.deref.result.now c.deref-in-And.result.now c.in-And.is
    c.deref.ensures c.deref-in-And.ensures)

pub returns-in_ok-formula_tally-in-Or-2-clause-nodes : goal.returns-in_ok-formula_tally-in-Or-2-clause-nodes
returns-in_ok-formula_tally-in-Or-2-clause-nodes t c = nodes_two _ _ _ _ _ _ _ c.in_ok-formula_tally-in-Or.ensures.nodes
    c.in_ok-formula_tally-in-Or-2.ensures.nodes
    c.beside-in-Or.ensures.nodes c.below-in-Or.ensures.nodes
    (or_counts by_nodes (nodes_table c.args.env.now) 1
    (weights_of c.args.weights) c.args.a.now c.in-Or.a c.in-Or.b c.deref-in-Or.result.now c.deref-in-Or-2.result.now c.in-Or.is
    c.deref-in-Or.ensures c.deref-in-Or-2.ensures)

pub returns-in_ok-formula_tally-in-Imp-2-clause-nodes : goal.returns-in_ok-formula_tally-in-Imp-2-clause-nodes
returns-in_ok-formula_tally-in-Imp-2-clause-nodes t c = nodes_two _ _ _ _ _ _ _ c.in_ok-formula_tally-in-Imp.ensures.nodes
    c.in_ok-formula_tally-in-Imp-2.ensures.nodes
    c.beside-in-Imp.ensures.nodes c.below-in-Imp.ensures.nodes
    (imp_counts by_nodes (nodes_table c.args.env.now) 1
    (weights_of c.args.weights) c.args.a.now c.in-Imp.a c.in-Imp.b c.deref-in-Imp.result.now c.deref-in-Imp-2.result.now
    c.in-Imp.is c.deref-in-Imp.ensures c.deref-in-Imp-2.ensures)

pub returns-in_ok-formula_tally-in-All-clause-nodes : goal.returns-in_ok-formula_tally-in-All-clause-nodes
returns-in_ok-formula_tally-in-All-clause-nodes t c = nodes_one _ _ _ _ c.in_ok-formula_tally-in-All.ensures.nodes
    c.below-in-All.ensures.nodes
    (all_counts by_nodes (nodes_table c.args.env.now) 1
    (weights_of c.args.weights) c.args.a.now c.in-All.field-0 c.in-All.field-1 c.in-All.a c.deref-in-All.result.now
    (weights_of c.in_ok-bound-in-All.field-0) c.in-All.is c.deref-in-All.ensures c.in_ok-bound-in-All.ensures.weights)

pub returns-in_ok-formula_tally-in-Ex-clause-nodes : goal.returns-in_ok-formula_tally-in-Ex-clause-nodes
returns-in_ok-formula_tally-in-Ex-clause-nodes t c = nodes_one _ _ _ _ c.in_ok-formula_tally-in-Ex.ensures.nodes
    c.below-in-Ex.ensures.nodes
    (ex_counts by_nodes (nodes_table c.args.env.now) 1
    (weights_of c.args.weights) c.args.a.now c.in-Ex.field-0 c.in-Ex.field-1 c.in-Ex.a c.deref-in-Ex.result.now
    (weights_of c.in_ok-bound-in-Ex.field-0) c.in-Ex.is c.deref-in-Ex.ensures c.in_ok-bound-in-Ex.ensures.weights)

pub returns-in-Pred-clause-height : goal.returns-in-Pred-clause-height
returns-in-Pred-clause-height t c = c.head_tally.ensures.height
    ∙ applied_predicate by_height height_cuts 1 (weights_of c.args.weights) (height_table c.args.env.now) c.in-Pred.p c.in-Pred.ts _
    c.as_slice.result.now c.args.a.now c.as_slice.ensures.value c.in-Pred.is c.predicate.ensures.height

pub returns-in-Eq-clause-height : goal.returns-in-Eq-clause-height
returns-in-Eq-clause-height t c = height_two _ _ _ _ _ _ _ c.term_tally.ensures.height c.term_tally-in-Eq.ensures.height
    c.beside.ensures.height c.below.ensures.height
    (eq_counts by_height (height_table c.args.env.now) 1
    (weights_of c.args.weights) c.args.a.now c.in-Eq.field-0 c.in-Eq.t c.in-Eq.u c.in-Eq.is)

pub returns-in_ok-formula_tally-in-And-2-clause-height : goal.returns-in_ok-formula_tally-in-And-2-clause-height
returns-in_ok-formula_tally-in-And-2-clause-height t c = height_two _ _ _ _ _ _ _ c.in_ok-formula_tally-in-And.ensures.height
    c.in_ok-formula_tally-in-And-2.ensures.height
    c.beside-in-And.ensures.height c.below-in-And.ensures.height
    (and_counts by_height (height_table c.args.env.now) 1
    (weights_of c.args.weights) c.args.a.now c.in-And.a c.in-And.b c.deref.result.now c.deref-in-And.result.now c.in-And.is
    c.deref.ensures c.deref-in-And.ensures)

pub returns-in_ok-formula_tally-in-Or-2-clause-height : goal.returns-in_ok-formula_tally-in-Or-2-clause-height
returns-in_ok-formula_tally-in-Or-2-clause-height t c = height_two _ _ _ _ _ _ _ c.in_ok-formula_tally-in-Or.ensures.height
    c.in_ok-formula_tally-in-Or-2.ensures.height
    c.beside-in-Or.ensures.height c.below-in-Or.ensures.height
    (or_counts by_height (height_table c.args.env.now) 1
    (weights_of c.args.weights) c.args.a.now c.in-Or.a c.in-Or.b c.deref-in-Or.result.now c.deref-in-Or-2.result.now c.in-Or.is
    c.deref-in-Or.ensures c.deref-in-Or-2.ensures)

pub returns-in_ok-formula_tally-in-Imp-2-clause-height : goal.returns-in_ok-formula_tally-in-Imp-2-clause-height
returns-in_ok-formula_tally-in-Imp-2-clause-height t c = height_two _ _ _ _ _ _ _ c.in_ok-formula_tally-in-Imp.ensures.height
    c.in_ok-formula_tally-in-Imp-2.ensures.height
    c.beside-in-Imp.ensures.height c.below-in-Imp.ensures.height
    (imp_counts by_height (height_table c.args.env.now) 1
    (weights_of c.args.weights) c.args.a.now c.in-Imp.a c.in-Imp.b c.deref-in-Imp.result.now c.deref-in-Imp-2.result.now
    c.in-Imp.is c.deref-in-Imp.ensures c.deref-in-Imp-2.ensures)

pub returns-in_ok-formula_tally-in-All-clause-height : goal.returns-in_ok-formula_tally-in-All-clause-height
returns-in_ok-formula_tally-in-All-clause-height t c = height_one _ _ _ _ c.in_ok-formula_tally-in-All.ensures.height
    c.below-in-All.ensures.height
    (all_counts by_height (height_table c.args.env.now) 1
    (weights_of c.args.weights) c.args.a.now c.in-All.field-0 c.in-All.field-1 c.in-All.a c.deref-in-All.result.now
    (weights_of c.in_ok-bound-in-All.field-0) c.in-All.is c.deref-in-All.ensures c.in_ok-bound-in-All.ensures.weights)

pub returns-in_ok-formula_tally-in-Ex-clause-height : goal.returns-in_ok-formula_tally-in-Ex-clause-height
returns-in_ok-formula_tally-in-Ex-clause-height t c = height_one _ _ _ _ c.in_ok-formula_tally-in-Ex.ensures.height
    c.below-in-Ex.ensures.height
    (ex_counts by_height (height_table c.args.env.now) 1
    (weights_of c.args.weights) c.args.a.now c.in-Ex.field-0 c.in-Ex.field-1 c.in-Ex.a c.deref-in-Ex.result.now
    (weights_of c.in_ok-bound-in-Ex.field-0) c.in-Ex.is c.deref-in-Ex.ensures c.in_ok-bound-in-Ex.ensures.weights)
