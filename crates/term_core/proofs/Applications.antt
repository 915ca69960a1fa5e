-- What an application stands for, and what a substitution and the measures make of it.
use Rattle.std.proofs.Common.{◌≡◌, ℕ, ◌+◌, List, map, ap, sym, ◌∙◌}
use Rattle.std.specs.declared.sync.ArcSlice.{ArcSlice}
use Rattle.std.specs.Arc.{arc_slice_items}
use Rattle.std.specs.declared.alloc.Global.{Global}
use Rattle.std.specs.Prelude.{Option, Vec}
use Rattle.fol_theory.specs.Syntax.{Term as Meaning, app, terms}
use Rattle.fol_theory.specs.Substitution.{replace_term, replace_terms}
use Rattle.fol_theory.specs.Measures.{term_nodes, terms_nodes, term_height, terms_height}
use Rattle.fol_theory.proofs.Laws.{replace_each}
use Rattle.fol_theory.proofs.AtIndex.{shift_none_term}
use Rattle.term_core.specs.Term.{meaning, list_meaning, meaning_step, each_outcome}
use Rattle.term_core.specs.declared.term.Term.{Term}
use Rattle.term_core.specs.declared.term.Term.TheOpen as layer
use Rattle.term_core.specs.declared.term.Term.TheVariants as made
use Rattle.term_core.specs.declared.term.Term.TheFolds.{fold-roll-Term}

pub meaning_App : (f : List ℕ) (ts : ArcSlice Term Global) → meaning (made.App f ts) ≡ app f (list_meaning (arc_slice_items ts))
meaning_App f ts = ap meaning (sym (made.rolls-App f ts)) ∙ fold-roll-Term Meaning meaning_step (layer.App f ts)

pub replace_App : (σ : ℕ → Meaning) (f : List ℕ) (ts : ArcSlice Term Global)
    → replace_term σ (meaning (made.App f ts)) ≡ app f (replace_terms σ (list_meaning (arc_slice_items ts)))
replace_App σ f ts = ap (replace_term σ) (meaning_App f ts)

pub nodes_App : (f : List ℕ) (ts : ArcSlice Term Global)
    → term_nodes (meaning (made.App f ts)) ≡ terms_nodes (list_meaning (arc_slice_items ts)) + 1
nodes_App f ts = ap term_nodes (meaning_App f ts)

pub height_App : (f : List ℕ) (ts : ArcSlice Term Global)
    → term_height (meaning (made.App f ts)) ≡ terms_height (list_meaning (arc_slice_items ts)) + 1
height_App f ts = ap term_height (meaning_App f ts)

pub ruleset applications = (meaning_App, replace_App)

-- a list whose terms have each become what a substitution makes of them
pub list_replaced : (σ : ℕ → Meaning) (ts part : List Term) (list : Option (Vec Term Global)) → part ≡ ts
    → each_outcome list part ≡ map (replace_term σ) (map meaning part)
    → terms (each_outcome list ts) ≡ replace_terms σ (list_meaning ts)
list_replaced σ ts part list e h =
    ap (λ p. terms (each_outcome list p)) (sym e) ∙ ap terms h ∙ sym (replace_each σ (map meaning part))
    ∙ ap (λ l. replace_terms σ (list_meaning l)) e

pub ruleset term_measures = (nodes_App, height_App)

pub ruleset no_shift = (shift_none_term)
