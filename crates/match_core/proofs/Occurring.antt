-- Whether a variable stands in what values stand for, part by part.
use Rattle.std.proofs.Common.{◌≡◌, ℕ, suc, ◌+◌, ◌<◌, false, ◌||◌, ◌==◌, List, ◌∷◌, length, get_or, drop, sym, ap, ◌∙◌}
use Rattle.std.specs.declared.alloc.Global.{Global}
use Rattle.std.specs.declared.sync.Arc.{Arc}
use Rattle.std.specs.declared.sync.ArcSlice.{ArcSlice}
use Rattle.std.specs.Arc.{arc_slice_items, arc_value}
use Rattle.std.proofs.lemmas.List.{at_drop_more}
use Rattle.match_theory.specs.Places.{occurs, occurs_in_term, occurs_in_terms}
use Rattle.term_core.specs.Term as term
use Rattle.term_core.specs.Formula.{meaning}
use Rattle.term_core.specs.declared.term.Term.{Term}
use Rattle.term_core.specs.declared.term.Term.TheVariants as terms_made
use Rattle.term_core.specs.declared.formula.Formula.{Formula}
use Rattle.term_core.specs.declared.formula.Formula.TheVariants as made
use Rattle.term_core.proofs.Applications.{meaning_App}
use Rattle.term_core.proofs.Variants.{meaning_True, meaning_False, meaning_Pred, meaning_Eq, meaning_And, meaning_Or, meaning_Imp, meaning_All, meaning_Ex}
use Rattle.match_core.proofs.Lowered.{meaning_Var}

module _ (k : ℕ) where
  pub occurs_Var : (j : ℕ) → occurs_in_term k (term.meaning (terms_made.Var j)) ≡ (k == j)
  occurs_Var j = ap (occurs_in_term k) (meaning_Var j)

  pub occurs_App : (f : List ℕ) (ts : ArcSlice Term Global)
      → occurs_in_term k (term.meaning (terms_made.App f ts)) ≡ occurs_in_terms k (term.list_meaning (arc_slice_items ts))
  occurs_App f ts = ap (occurs_in_term k) (meaning_App f ts)

  -- the next of a list, and those behind it
  pub occurs_more : (ts : List Term) (i : ℕ) (t : Term) → i < length ts → t ≡ get_or ts i t
      → occurs_in_terms k (term.list_meaning (drop i ts))
      ≡ (occurs_in_term k (term.meaning t) || occurs_in_terms k (term.list_meaning (drop (i + 1) ts)))
  occurs_more ts i t h e =
      at_drop_more (λ us. occurs_in_terms k (term.list_meaning us)) ts i t h
      ∙ ap (λ u. occurs_in_terms k (term.list_meaning (u ∷ drop (i + 1) ts))) (sym e)

  pub occurs_True : occurs k (meaning made.True) ≡ false
  occurs_True = ap (occurs k) meaning_True

  pub occurs_False : occurs k (meaning made.False) ≡ false
  occurs_False = ap (occurs k) meaning_False

  pub occurs_Pred : (p : List ℕ) (ts : ArcSlice Term Global)
      → occurs k (meaning (made.Pred p ts)) ≡ occurs_in_terms k (term.list_meaning (arc_slice_items ts))
  occurs_Pred p ts = ap (occurs k) (meaning_Pred p ts)

  pub occurs_Eq : (s : List ℕ) (t u : Term)
      → occurs k (meaning (made.Eq s t u)) ≡ (occurs_in_term k (term.meaning t) || occurs_in_term k (term.meaning u))
  occurs_Eq s t u = ap (occurs k) (meaning_Eq s t u)

  pub occurs_And : (x y : Arc Formula Global)
      → occurs k (meaning (made.And x y)) ≡ (occurs k (meaning (arc_value x)) || occurs k (meaning (arc_value y)))
  occurs_And x y = ap (occurs k) (meaning_And x y)

  pub occurs_Or : (x y : Arc Formula Global)
      → occurs k (meaning (made.Or x y)) ≡ (occurs k (meaning (arc_value x)) || occurs k (meaning (arc_value y)))
  occurs_Or x y = ap (occurs k) (meaning_Or x y)

  pub occurs_Imp : (x y : Arc Formula Global)
      → occurs k (meaning (made.Imp x y)) ≡ (occurs k (meaning (arc_value x)) || occurs k (meaning (arc_value y)))
  occurs_Imp x y = ap (occurs k) (meaning_Imp x y)

  pub occurs_All : (s n : List ℕ) (x : Arc Formula Global) → occurs k (meaning (made.All s n x)) ≡ occurs (suc k) (meaning (arc_value x))
  occurs_All s n x = ap (occurs k) (meaning_All s n x)

  pub occurs_Ex : (s n : List ℕ) (x : Arc Formula Global) → occurs k (meaning (made.Ex s n x)) ≡ occurs (suc k) (meaning (arc_value x))
  occurs_Ex s n x = ap (occurs k) (meaning_Ex s n x)

pub ruleset terms = (occurs_Var, occurs_App, occurs_more)

pub ruleset formulas = (
  occurs_True,
  occurs_False,
  occurs_Pred,
  occurs_Eq,
  occurs_And,
  occurs_Or,
  occurs_Imp,
  occurs_All,
  occurs_Ex,
)
