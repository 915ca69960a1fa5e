-- What becomes of each variant where a definition is put in.
use Rattle.std.proofs.Common.{◌≡◌, ℕ, List, [], ◌∷◌, map, sym, ap, ◌∙◌}
use Rattle.std.specs.declared.alloc.Global.{Global}
use Rattle.std.specs.declared.sync.Arc.{Arc}
use Rattle.std.specs.declared.sync.ArcSlice.{ArcSlice}
use Rattle.std.specs.Arc.{arc_slice_items, arc_value}
use Rattle.fol_theory.specs.Syntax.{Term as TermMeaning, terms, app, cons, truth, falsity, pred, equal, both, either, implies, all, ex}
use Rattle.term_core.specs.Term as term
use Rattle.term_core.specs.Formula.{meaning}
use Rattle.term_core.specs.declared.term.Term.{Term}
use Rattle.term_core.specs.declared.term.Term.TheVariants as made_term
use Rattle.term_core.specs.declared.formula.Formula.{Formula}
use Rattle.term_core.specs.declared.formula.Formula.TheVariants as made
use Rattle.term_core.proofs.Applications.{meaning_App}
use Rattle.term_core.proofs.Variants.{meaning_True, meaning_False, meaning_Pred, meaning_Eq, meaning_And, meaning_Or, meaning_Imp, meaning_All, meaning_Ex, meanings}
use Rattle.env_theory.specs.Declarations.{Declaration}
use Rattle.env_theory.specs.Normal.{expand, expand_term, expand_terms}
use Rattle.env_theory.proofs.Normals.{normal_var}
use Rattle.env_theory.proofs.Sameness.{normal_nil, normal_cons, normal_truth, normal_falsity, normal_equal, normal_both, normal_either, normal_implies, normal_all, normal_ex}
use Rattle.env_core.proofs.Filling.{meaning_Var}

-- a declaration put in is the normal form over it alone
module _ (d : Declaration) where
  pub expanded_True : expand d (meaning made.True) ≡ truth
  expanded_True = ap (expand d) meaning_True ∙ normal_truth (d ∷ [])

  pub expanded_False : expand d (meaning made.False) ≡ falsity
  expanded_False = ap (expand d) meaning_False ∙ normal_falsity (d ∷ [])

  pub expanded_Pred : (p : List ℕ) (ts : ArcSlice Term Global)
      → expand d (meaning (made.Pred p ts)) ≡ expand d (pred p (term.list_meaning (arc_slice_items ts)))
  expanded_Pred p ts = ap (expand d) (meaning_Pred p ts)

  pub expanded_Eq : (s : List ℕ) (t u : Term)
      → expand d (meaning (made.Eq s t u)) ≡ equal s (expand_term d (term.meaning t)) (expand_term d (term.meaning u))
  expanded_Eq s t u = ap (expand d) (meaning_Eq s t u) ∙ normal_equal (d ∷ []) s (term.meaning t) (term.meaning u)

  pub expanded_And : (x y : Arc Formula Global)
      → expand d (meaning (made.And x y)) ≡ both (expand d (meaning (arc_value x))) (expand d (meaning (arc_value y)))
  expanded_And x y = ap (expand d) (meaning_And x y) ∙ normal_both (d ∷ []) (meaning (arc_value x)) (meaning (arc_value y))

  pub expanded_Or : (x y : Arc Formula Global)
      → expand d (meaning (made.Or x y)) ≡ either (expand d (meaning (arc_value x))) (expand d (meaning (arc_value y)))
  expanded_Or x y = ap (expand d) (meaning_Or x y) ∙ normal_either (d ∷ []) (meaning (arc_value x)) (meaning (arc_value y))

  pub expanded_Imp : (x y : Arc Formula Global)
      → expand d (meaning (made.Imp x y)) ≡ implies (expand d (meaning (arc_value x))) (expand d (meaning (arc_value y)))
  expanded_Imp x y = ap (expand d) (meaning_Imp x y) ∙ normal_implies (d ∷ []) (meaning (arc_value x)) (meaning (arc_value y))

  pub expanded_All : (s v : List ℕ) (x : Arc Formula Global)
      → expand d (meaning (made.All s v x)) ≡ all s v (expand d (meaning (arc_value x)))
  expanded_All s v x = ap (expand d) (meaning_All s v x) ∙ normal_all (d ∷ []) s v (meaning (arc_value x))

  pub expanded_Ex : (s v : List ℕ) (x : Arc Formula Global)
      → expand d (meaning (made.Ex s v x)) ≡ ex s v (expand d (meaning (arc_value x)))
  expanded_Ex s v x = ap (expand d) (meaning_Ex s v x) ∙ normal_ex (d ∷ []) s v (meaning (arc_value x))

  -- ---- terms

  pub expanded_Var : (i : ℕ) → expand_term d (term.meaning (made_term.Var i)) ≡ term.meaning (made_term.Var i)
  expanded_Var i = ap (expand_term d) (meaning_Var i) ∙ normal_var (d ∷ []) i ∙ sym (meaning_Var i)

  pub expanded_App : (f : List ℕ) (ts : ArcSlice Term Global)
      → expand_term d (term.meaning (made_term.App f ts)) ≡ expand_term d (app f (term.list_meaning (arc_slice_items ts)))
  expanded_App f ts = ap (expand_term d) (meaning_App f ts)

  each_expanded : (ts : List TermMeaning) → terms (map (expand_term d) ts) ≡ expand_terms d (terms ts)
  each_expanded [] = sym (normal_nil (d ∷ []))
  each_expanded (t ∷ ts) = ap (cons (expand_term d t)) (each_expanded ts) ∙ sym (normal_cons (d ∷ []) t (terms ts))

  -- the terms that were made are those of the whole list
  pub all_expanded : (made ts part : List Term) → part ≡ ts → map term.meaning made ≡ map (expand_term d) (map term.meaning part)
      → term.list_meaning made ≡ expand_terms d (term.list_meaning ts)
  all_expanded made ts part e h =
      ap terms (h ∙ ap (λ us. map (expand_term d) (map term.meaning us)) e) ∙ each_expanded (map term.meaning ts)

pub ruleset formulas = (
  meaning_True,
  meaning_False,
  meanings,
  expanded_True,
  expanded_False,
  expanded_Pred,
  expanded_Eq,
  expanded_And,
  expanded_Or,
  expanded_Imp,
  expanded_All,
  expanded_Ex,
)

pub ruleset applications = (meaning_Var, meaning_App, expanded_Var, expanded_App)
