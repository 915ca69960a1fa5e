-- Whether a name stands in what values stand for, part by part.
use Rattle.std.proofs.Common.{◌≡◌, ℕ, ◌+◌, ◌<◌, false, ◌||◌, List, ◌∷◌, length, get_or, drop, sym, ap, ◌∙◌}
use Rattle.std.specs.declared.alloc.Global.{Global}
use Rattle.std.specs.declared.sync.Arc.{Arc}
use Rattle.std.specs.declared.sync.ArcSlice.{ArcSlice}
use Rattle.std.specs.Arc.{arc_slice_items, arc_value}
use Rattle.std.proofs.lemmas.List.{at_drop_more}
use Rattle.fol_theory.specs.Syntax.{is_name}
use Rattle.tactic_theory.specs.Refinements.{mentions, term_mentions, terms_mention}
use Rattle.term_core.specs.Term as term
use Rattle.term_core.specs.Formula.{meaning}
use Rattle.term_core.specs.declared.term.Term.{Term}
use Rattle.term_core.specs.declared.term.Term.TheVariants as made_term
use Rattle.term_core.specs.declared.formula.Formula.{Formula}
use Rattle.term_core.specs.declared.formula.Formula.TheVariants as made
use Rattle.term_core.proofs.Applications.{meaning_App}
use Rattle.term_core.proofs.Variants.{meaning_True, meaning_False, meaning_Pred, meaning_Eq, meaning_And, meaning_Or, meaning_Imp, meaning_All, meaning_Ex}
use Rattle.env_core.proofs.Filling.{meaning_Var}

module _ (n : List ℕ) where
  pub mentions_Var : (i : ℕ) → term_mentions n (term.meaning (made_term.Var i)) ≡ false
  mentions_Var i = ap (term_mentions n) (meaning_Var i)

  pub mentions_App : (f : List ℕ) (ts : ArcSlice Term Global)
      → term_mentions n (term.meaning (made_term.App f ts)) ≡ (is_name f n || terms_mention n (term.list_meaning (arc_slice_items ts)))
  mentions_App f ts = ap (term_mentions n) (meaning_App f ts)

  -- the next of a list, and those behind it
  pub mentions_more : (ts : List Term) (i : ℕ) (t : Term) → i < length ts → t ≡ get_or ts i t
      → terms_mention n (term.list_meaning (drop i ts))
      ≡ (term_mentions n (term.meaning t) || terms_mention n (term.list_meaning (drop (i + 1) ts)))
  mentions_more ts i t h e =
      at_drop_more (λ us. terms_mention n (term.list_meaning us)) ts i t h
      ∙ ap (λ u. terms_mention n (term.list_meaning (u ∷ drop (i + 1) ts))) (sym e)

  pub mentions_True : mentions n (meaning made.True) ≡ false
  mentions_True = ap (mentions n) meaning_True

  pub mentions_False : mentions n (meaning made.False) ≡ false
  mentions_False = ap (mentions n) meaning_False

  pub mentions_Pred : (p : List ℕ) (ts : ArcSlice Term Global)
      → mentions n (meaning (made.Pred p ts)) ≡ (is_name p n || terms_mention n (term.list_meaning (arc_slice_items ts)))
  mentions_Pred p ts = ap (mentions n) (meaning_Pred p ts)

  pub mentions_Eq : (s : List ℕ) (t u : Term)
      → mentions n (meaning (made.Eq s t u)) ≡ (term_mentions n (term.meaning t) || term_mentions n (term.meaning u))
  mentions_Eq s t u = ap (mentions n) (meaning_Eq s t u)

  pub mentions_And : (x y : Arc Formula Global)
      → mentions n (meaning (made.And x y)) ≡ (mentions n (meaning (arc_value x)) || mentions n (meaning (arc_value y)))
  mentions_And x y = ap (mentions n) (meaning_And x y)

  pub mentions_Or : (x y : Arc Formula Global)
      → mentions n (meaning (made.Or x y)) ≡ (mentions n (meaning (arc_value x)) || mentions n (meaning (arc_value y)))
  mentions_Or x y = ap (mentions n) (meaning_Or x y)

  pub mentions_Imp : (x y : Arc Formula Global)
      → mentions n (meaning (made.Imp x y)) ≡ (mentions n (meaning (arc_value x)) || mentions n (meaning (arc_value y)))
  mentions_Imp x y = ap (mentions n) (meaning_Imp x y)

  pub mentions_All : (s v : List ℕ) (x : Arc Formula Global) → mentions n (meaning (made.All s v x)) ≡ mentions n (meaning (arc_value x))
  mentions_All s v x = ap (mentions n) (meaning_All s v x)

  pub mentions_Ex : (s v : List ℕ) (x : Arc Formula Global) → mentions n (meaning (made.Ex s v x)) ≡ mentions n (meaning (arc_value x))
  mentions_Ex s v x = ap (mentions n) (meaning_Ex s v x)

pub ruleset terms = (mentions_Var, mentions_App, mentions_more)

pub ruleset formulas = (
  mentions_True,
  mentions_False,
  mentions_Pred,
  mentions_Eq,
  mentions_And,
  mentions_Or,
  mentions_Imp,
  mentions_All,
  mentions_Ex,
)
