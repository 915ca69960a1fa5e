-- Whether a term has one of its newest variables, part by part.
use Rattle.std.proofs.Common.{◌≡◌, ℕ, ◌+◌, ◌-◌, ◌<◌, ◌≤◌, Bool, true, false, ◌&&◌, if◌then◌else◌, nat_lt, List, ◌∷◌, length, get_or, drop, Option, Some, None, refl, sym, ap, ◌∙◌, arith}
use Rattle.std.specs.Prelude.{is_some}
use Rattle.std.specs.declared.alloc.Global.{Global}
use Rattle.std.specs.declared.sync.ArcSlice.{ArcSlice}
use Rattle.std.specs.Arc.{arc_slice_items}
use Rattle.std.proofs.lemmas.Bool.Decides.{nat_tests}
use Rattle.std.proofs.lemmas.List.{at_drop_more}
use Rattle.fol_theory.specs.Syntax.{Term as Meaning, Terms, var, app, cons}
use Rattle.fol_theory.proofs.AtIndex.{shift_none_term}
use Rattle.match_theory.proofs.Equal.{lower_shifted}
use Rattle.match_theory.specs.Matching.{and_then, lower, lower_terms}
use Rattle.term_core.specs.Term.{meaning, list_meaning, meaning_step}
use Rattle.term_core.specs.declared.term.Term.{Term}
use Rattle.term_core.specs.declared.term.Term.TheOpen as layer
use Rattle.term_core.specs.declared.term.Term.TheVariants as made
use Rattle.term_core.specs.declared.term.Term.TheFolds.{fold-roll-Term}
use Rattle.term_core.proofs.Applications.{meaning_App}

pub meaning_Var : (i : ℕ) → meaning (made.Var i) ≡ var i
meaning_Var i = ap meaning (sym (made.rolls-Var i)) ∙ fold-roll-Term Meaning meaning_step (layer.Var i)

is_some_then : {A B : Type 0} (o : Option A) (f : A → B) → is_some (and_then o (λ x. Some (f x))) ≡ is_some o
is_some_then None f = refl
is_some_then (Some x) f = refl

is_some_both : (o : Option Meaning) (p : Option Terms)
    → is_some (and_then o (λ u. and_then p (λ us. Some (cons u us)))) ≡ (is_some o && is_some p)
is_some_both None p = refl
is_some_both (Some u) p = is_some_then p (cons u)

pub outside_Var : (b i : ℕ) → b ≤ i → is_some (lower b (meaning (made.Var i))) ≡ true
outside_Var b i h = ap (λ t. is_some (lower b t)) (meaning_Var i) ∙ at (nat_lt i b) refl
  where
    at : (r : Bool) → nat_lt i b ≡ r → is_some (if r then None else Some (var (i - b))) ≡ true
    at true p = absurd (grind (arith, nat_tests))
    at false p = refl

pub inside_Var : (b i : ℕ) → i < b → is_some (lower b (meaning (made.Var i))) ≡ false
inside_Var b i h = ap (λ t. is_some (lower b t)) (meaning_Var i) ∙ at (nat_lt i b) refl
  where
    at : (r : Bool) → nat_lt i b ≡ r → is_some (if r then None else Some (var (i - b))) ≡ false
    at true p = refl
    at false p = absurd (grind (arith, nat_tests))

pub outside_App : (b : ℕ) (f : List ℕ) (ts : ArcSlice Term Global)
    → is_some (lower b (meaning (made.App f ts))) ≡ is_some (lower_terms b (list_meaning (arc_slice_items ts)))
outside_App b f ts = ap (λ t. is_some (lower b t)) (meaning_App f ts) ∙ is_some_then (lower_terms b (list_meaning (arc_slice_items ts))) (app f)

-- the next of a list, and those behind it
pub outside_more : (b : ℕ) (ts : List Term) (i : ℕ) (t : Term) → i < length ts → t ≡ get_or ts i t
    → is_some (lower_terms b (list_meaning (drop i ts)))
    ≡ (is_some (lower b (meaning t)) && is_some (lower_terms b (list_meaning (drop (i + 1) ts))))
outside_more b ts i t h e =
    at_drop_more (λ us. is_some (lower_terms b (list_meaning us))) ts i t h
    ∙ ap (λ u. is_some (lower_terms b (list_meaning (u ∷ drop (i + 1) ts)))) (sym e)
    ∙ is_some_both (lower b (meaning t)) (lower_terms b (list_meaning (drop (i + 1) ts)))

pub ruleset frees = (outside_Var, inside_Var, outside_App, outside_more)

-- ---- under no binder

pub lower_none : (t : Meaning) → lower 0 t ≡ Some t
lower_none t = ap (lower 0) (sym (shift_none_term 0 t)) ∙ lower_shifted 0 t

pub outside_none : (b : ℕ) (t : Meaning) → b ≡ 0 → is_some (lower b t) ≡ true
outside_none b t e = ap (λ n. is_some (lower n t)) e ∙ ap is_some (lower_none t)
