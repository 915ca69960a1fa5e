-- What each variant stands for, and what a substitution and the measures make of it.
use Rattle.std.proofs.Common.{◌≡◌, ℕ, ◌+◌, max, List, [], ap, sym, ◌∙◌}
use Rattle.std.specs.declared.sync.Arc.{Arc}
use Rattle.std.specs.declared.sync.ArcSlice.{ArcSlice}
use Rattle.std.specs.Arc.{arc_slice_items, arc_value}
use Rattle.std.specs.declared.alloc.Global.{Global}
use Rattle.fol_theory.specs.Syntax.{Term as TermMeaning, Formula as Meaning, truth, falsity, pred, equal, both, either, implies, all, ex}
use Rattle.fol_theory.specs.Substitution.{replace_term, replace_terms, replace, lift, raise, put}
use Rattle.fol_theory.specs.Measures.{term_nodes, terms_nodes, nodes, term_height, terms_height, height, term_reach, terms_reach, reach}
use Rattle.fol_theory.specs.Measures.{depth}
use Rattle.fol_theory.specs.Printing.{unnamed}
use Rattle.fol_theory.proofs.AtIndex.{lift_put, shift_once_more}
use Rattle.term_core.specs.Term as term
use Rattle.term_core.specs.Formula.{meaning, meaning_step}
use Rattle.term_core.specs.declared.term.Term.{Term}
use Rattle.term_core.specs.declared.formula.Formula.{Formula}
use Rattle.term_core.specs.declared.formula.Formula.TheOpen as layer
use Rattle.term_core.specs.declared.formula.Formula.TheVariants as made
use Rattle.term_core.specs.declared.formula.Formula.TheFolds.{fold-roll-Formula}

pub meaning_True : meaning made.True ≡ truth
meaning_True = ap meaning (sym made.rolls-True) ∙ fold-roll-Formula Meaning meaning_step layer.True

pub meaning_False : meaning made.False ≡ falsity
meaning_False = ap meaning (sym made.rolls-False) ∙ fold-roll-Formula Meaning meaning_step layer.False

pub meaning_Pred : (p : List ℕ) (ts : ArcSlice Term Global) → meaning (made.Pred p ts) ≡ pred p (term.list_meaning (arc_slice_items ts))
meaning_Pred p ts = ap meaning (sym (made.rolls-Pred p ts)) ∙ fold-roll-Formula Meaning meaning_step (layer.Pred p ts)

pub meaning_Eq : (s : List ℕ) (a b : Term) → meaning (made.Eq s a b) ≡ equal s (term.meaning a) (term.meaning b)
meaning_Eq s a b = ap meaning (sym (made.rolls-Eq s a b)) ∙ fold-roll-Formula Meaning meaning_step (layer.Eq s a b)

pub meaning_And : (a b : Arc Formula Global) → meaning (made.And a b) ≡ both (meaning (arc_value a)) (meaning (arc_value b))
meaning_And a b = ap meaning (sym (made.rolls-And a b)) ∙ fold-roll-Formula Meaning meaning_step (layer.And a b)

pub meaning_Or : (a b : Arc Formula Global) → meaning (made.Or a b) ≡ either (meaning (arc_value a)) (meaning (arc_value b))
meaning_Or a b = ap meaning (sym (made.rolls-Or a b)) ∙ fold-roll-Formula Meaning meaning_step (layer.Or a b)

pub meaning_Imp : (a b : Arc Formula Global) → meaning (made.Imp a b) ≡ implies (meaning (arc_value a)) (meaning (arc_value b))
meaning_Imp a b = ap meaning (sym (made.rolls-Imp a b)) ∙ fold-roll-Formula Meaning meaning_step (layer.Imp a b)

pub meaning_All : (s x : List ℕ) (a : Arc Formula Global) → meaning (made.All s x a) ≡ all s x (meaning (arc_value a))
meaning_All s x a = ap meaning (sym (made.rolls-All s x a)) ∙ fold-roll-Formula Meaning meaning_step (layer.All s x a)

pub meaning_Ex : (s x : List ℕ) (a : Arc Formula Global) → meaning (made.Ex s x a) ≡ ex s x (meaning (arc_value a))
meaning_Ex s x a = ap meaning (sym (made.rolls-Ex s x a)) ∙ fold-roll-Formula Meaning meaning_step (layer.Ex s x a)

-- ---- a substitution

pub replace_Pred : (σ : ℕ → TermMeaning) (p : List ℕ) (ts : ArcSlice Term Global)
    → replace σ (meaning (made.Pred p ts)) ≡ pred p (replace_terms σ (term.list_meaning (arc_slice_items ts)))
replace_Pred σ p ts = ap (replace σ) (meaning_Pred p ts)

pub replace_Eq : (σ : ℕ → TermMeaning) (s : List ℕ) (a b : Term)
    → replace σ (meaning (made.Eq s a b)) ≡ equal s (replace_term σ (term.meaning a)) (replace_term σ (term.meaning b))
replace_Eq σ s a b = ap (replace σ) (meaning_Eq s a b)

pub replace_And : (σ : ℕ → TermMeaning) (a b : Arc Formula Global)
    → replace σ (meaning (made.And a b)) ≡ both (replace σ (meaning (arc_value a))) (replace σ (meaning (arc_value b)))
replace_And σ a b = ap (replace σ) (meaning_And a b)

pub replace_Or : (σ : ℕ → TermMeaning) (a b : Arc Formula Global)
    → replace σ (meaning (made.Or a b)) ≡ either (replace σ (meaning (arc_value a))) (replace σ (meaning (arc_value b)))
replace_Or σ a b = ap (replace σ) (meaning_Or a b)

pub replace_Imp : (σ : ℕ → TermMeaning) (a b : Arc Formula Global)
    → replace σ (meaning (made.Imp a b)) ≡ implies (replace σ (meaning (arc_value a))) (replace σ (meaning (arc_value b)))
replace_Imp σ a b = ap (replace σ) (meaning_Imp a b)

pub reach_Pred : (σ : ℕ → TermMeaning) (p : List ℕ) (ts : ArcSlice Term Global)
    → reach (replace σ (meaning (made.Pred p ts))) ≡ terms_reach (replace_terms σ (term.list_meaning (arc_slice_items ts)))
reach_Pred σ p ts = ap reach (replace_Pred σ p ts)

pub reach_Eq : (σ : ℕ → TermMeaning) (s : List ℕ) (a b : Term)
    → reach (replace σ (meaning (made.Eq s a b)))
    ≡ max (term_reach (replace_term σ (term.meaning a))) (term_reach (replace_term σ (term.meaning b)))
reach_Eq σ s a b = ap reach (replace_Eq σ s a b)

pub reach_And : (σ : ℕ → TermMeaning) (a b : Arc Formula Global)
    → reach (replace σ (meaning (made.And a b)))
    ≡ max (reach (replace σ (meaning (arc_value a)))) (reach (replace σ (meaning (arc_value b))))
reach_And σ a b = ap reach (replace_And σ a b)

pub reach_Or : (σ : ℕ → TermMeaning) (a b : Arc Formula Global)
    → reach (replace σ (meaning (made.Or a b)))
    ≡ max (reach (replace σ (meaning (arc_value a)))) (reach (replace σ (meaning (arc_value b))))
reach_Or σ a b = ap reach (replace_Or σ a b)

pub reach_Imp : (σ : ℕ → TermMeaning) (a b : Arc Formula Global)
    → reach (replace σ (meaning (made.Imp a b)))
    ≡ max (reach (replace σ (meaning (arc_value a)))) (reach (replace σ (meaning (arc_value b))))
reach_Imp σ a b = ap reach (replace_Imp σ a b)

pub replace_All : (σ : ℕ → TermMeaning) (s x : List ℕ) (a : Arc Formula Global)
    → replace σ (meaning (made.All s x a)) ≡ all s x (replace (lift σ) (meaning (arc_value a)))
replace_All σ s x a = ap (replace σ) (meaning_All s x a)

pub replace_Ex : (σ : ℕ → TermMeaning) (s x : List ℕ) (a : Arc Formula Global)
    → replace σ (meaning (made.Ex s x a)) ≡ ex s x (replace (lift σ) (meaning (arc_value a)))
replace_Ex σ s x a = ap (replace σ) (meaning_Ex s x a)

-- ---- under a binder

pub lift_put_more : (i : ℕ) (v : TermMeaning) (n : ℕ)
    → lift (put i (replace_term (raise 0 n) v)) ≡ put (i + 1) (replace_term (raise 0 (n + 1)) v)
lift_put_more i v n = lift_put i (replace_term (raise 0 n) v) ∙ ap (put (i + 1)) (shift_once_more n v)

-- ---- depth

pub depth_Pred : (p : List ℕ) (ts : ArcSlice Term Global) → depth (meaning (made.Pred p ts)) ≡ 0
depth_Pred p ts = ap depth (meaning_Pred p ts)

pub depth_Eq : (s : List ℕ) (a b : Term) → depth (meaning (made.Eq s a b)) ≡ 0
depth_Eq s a b = ap depth (meaning_Eq s a b)

pub depth_And : (a b : Arc Formula Global)
    → depth (meaning (made.And a b)) ≡ max (depth (meaning (arc_value a))) (depth (meaning (arc_value b)))
depth_And a b = ap depth (meaning_And a b)

pub depth_Or : (a b : Arc Formula Global)
    → depth (meaning (made.Or a b)) ≡ max (depth (meaning (arc_value a))) (depth (meaning (arc_value b)))
depth_Or a b = ap depth (meaning_Or a b)

pub depth_Imp : (a b : Arc Formula Global)
    → depth (meaning (made.Imp a b)) ≡ max (depth (meaning (arc_value a))) (depth (meaning (arc_value b)))
depth_Imp a b = ap depth (meaning_Imp a b)

pub depth_All : (s x : List ℕ) (a : Arc Formula Global) → depth (meaning (made.All s x a)) ≡ depth (meaning (arc_value a)) + 1
depth_All s x a = ap depth (meaning_All s x a)

pub depth_Ex : (s x : List ℕ) (a : Arc Formula Global) → depth (meaning (made.Ex s x a)) ≡ depth (meaning (arc_value a)) + 1
depth_Ex s x a = ap depth (meaning_Ex s x a)

-- ---- nodes

pub nodes_Pred : (p : List ℕ) (ts : ArcSlice Term Global)
    → nodes (meaning (made.Pred p ts)) ≡ terms_nodes (term.list_meaning (arc_slice_items ts)) + 1
nodes_Pred p ts = ap nodes (meaning_Pred p ts)

pub nodes_Eq : (s : List ℕ) (a b : Term) → nodes (meaning (made.Eq s a b)) ≡ term_nodes (term.meaning a) + term_nodes (term.meaning b) + 1
nodes_Eq s a b = ap nodes (meaning_Eq s a b)

pub nodes_And : (a b : Arc Formula Global)
    → nodes (meaning (made.And a b)) ≡ nodes (meaning (arc_value a)) + nodes (meaning (arc_value b)) + 1
nodes_And a b = ap nodes (meaning_And a b)

pub nodes_Or : (a b : Arc Formula Global)
    → nodes (meaning (made.Or a b)) ≡ nodes (meaning (arc_value a)) + nodes (meaning (arc_value b)) + 1
nodes_Or a b = ap nodes (meaning_Or a b)

pub nodes_Imp : (a b : Arc Formula Global)
    → nodes (meaning (made.Imp a b)) ≡ nodes (meaning (arc_value a)) + nodes (meaning (arc_value b)) + 1
nodes_Imp a b = ap nodes (meaning_Imp a b)

pub nodes_All : (s x : List ℕ) (a : Arc Formula Global) → nodes (meaning (made.All s x a)) ≡ nodes (meaning (arc_value a)) + 1
nodes_All s x a = ap nodes (meaning_All s x a)

pub nodes_Ex : (s x : List ℕ) (a : Arc Formula Global) → nodes (meaning (made.Ex s x a)) ≡ nodes (meaning (arc_value a)) + 1
nodes_Ex s x a = ap nodes (meaning_Ex s x a)

-- ---- height

pub height_Pred : (p : List ℕ) (ts : ArcSlice Term Global)
    → height (meaning (made.Pred p ts)) ≡ terms_height (term.list_meaning (arc_slice_items ts)) + 1
height_Pred p ts = ap height (meaning_Pred p ts)

pub height_Eq : (s : List ℕ) (a b : Term)
    → height (meaning (made.Eq s a b)) ≡ max (term_height (term.meaning a)) (term_height (term.meaning b)) + 1
height_Eq s a b = ap height (meaning_Eq s a b)

pub height_And : (a b : Arc Formula Global)
    → height (meaning (made.And a b)) ≡ max (height (meaning (arc_value a))) (height (meaning (arc_value b))) + 1
height_And a b = ap height (meaning_And a b)

pub height_Or : (a b : Arc Formula Global)
    → height (meaning (made.Or a b)) ≡ max (height (meaning (arc_value a))) (height (meaning (arc_value b))) + 1
height_Or a b = ap height (meaning_Or a b)

pub height_Imp : (a b : Arc Formula Global)
    → height (meaning (made.Imp a b)) ≡ max (height (meaning (arc_value a))) (height (meaning (arc_value b))) + 1
height_Imp a b = ap height (meaning_Imp a b)

pub height_All : (s x : List ℕ) (a : Arc Formula Global) → height (meaning (made.All s x a)) ≡ height (meaning (arc_value a)) + 1
height_All s x a = ap height (meaning_All s x a)

pub height_Ex : (s x : List ℕ) (a : Arc Formula Global) → height (meaning (made.Ex s x a)) ≡ height (meaning (arc_value a)) + 1
height_Ex s x a = ap height (meaning_Ex s x a)

-- ---- unnamed

pub unnamed_Pred : (p : List ℕ) (ts : ArcSlice Term Global)
    → unnamed (meaning (made.Pred p ts)) ≡ pred p (term.list_meaning (arc_slice_items ts))
unnamed_Pred p ts = ap unnamed (meaning_Pred p ts)

pub unnamed_Eq : (s : List ℕ) (a b : Term) → unnamed (meaning (made.Eq s a b)) ≡ equal s (term.meaning a) (term.meaning b)
unnamed_Eq s a b = ap unnamed (meaning_Eq s a b)

pub unnamed_And : (a b : Arc Formula Global)
    → unnamed (meaning (made.And a b)) ≡ both (unnamed (meaning (arc_value a))) (unnamed (meaning (arc_value b)))
unnamed_And a b = ap unnamed (meaning_And a b)

pub unnamed_Or : (a b : Arc Formula Global)
    → unnamed (meaning (made.Or a b)) ≡ either (unnamed (meaning (arc_value a))) (unnamed (meaning (arc_value b)))
unnamed_Or a b = ap unnamed (meaning_Or a b)

pub unnamed_Imp : (a b : Arc Formula Global)
    → unnamed (meaning (made.Imp a b)) ≡ implies (unnamed (meaning (arc_value a))) (unnamed (meaning (arc_value b)))
unnamed_Imp a b = ap unnamed (meaning_Imp a b)

pub unnamed_All : (s x : List ℕ) (a : Arc Formula Global) → unnamed (meaning (made.All s x a)) ≡ all s [] (unnamed (meaning (arc_value a)))
unnamed_All s x a = ap unnamed (meaning_All s x a)

pub unnamed_Ex : (s x : List ℕ) (a : Arc Formula Global) → unnamed (meaning (made.Ex s x a)) ≡ ex s [] (unnamed (meaning (arc_value a)))
unnamed_Ex s x a = ap unnamed (meaning_Ex s x a)

-- ---- the sets that the functions name

pub ruleset meanings = (meaning_Pred, meaning_Eq, meaning_And, meaning_Or, meaning_Imp, meaning_All, meaning_Ex)

pub ruleset replacements = (
  meanings,
  replace_Pred,
  replace_Eq,
  replace_And,
  replace_Or,
  replace_Imp,
  replace_All,
  replace_Ex,
  reach_Pred,
  reach_Eq,
  reach_And,
  reach_Or,
  reach_Imp,
  depth_Pred,
  depth_Eq,
  depth_And,
  depth_Or,
  depth_Imp,
  depth_All,
  depth_Ex,
)

pub ruleset sizes = (nodes_Pred, nodes_Eq, nodes_And, nodes_Or, nodes_Imp, nodes_All, nodes_Ex)

pub ruleset heights = (height_Pred, height_Eq, height_And, height_Or, height_Imp, height_All, height_Ex)
