-- Which variant a formula is, by what it stands for.
use Rattle.std.proofs.Common.{◌≡◌, ℕ, List, refl, ap, sym, subst, ◌∙◌}
use Rattle.std.specs.declared.sync.Arc.{Arc}
use Rattle.std.specs.declared.sync.ArcSlice.{ArcSlice}
use Rattle.std.specs.declared.alloc.Global.{Global}
use Rattle.fol_theory.specs.Syntax.{Formula as Meaning, truth, falsity, pred, equal, both, either, implies, all, ex}
use Rattle.fol_theory.specs.Printing.{unnamed}
use Rattle.term_core.specs.Formula.{meaning}
use Rattle.term_core.specs.declared.term.Term.{Term}
use Rattle.term_core.specs.declared.formula.Formula.{Formula}
use Rattle.term_core.specs.declared.formula.Formula.TheOpen as layer
use Rattle.term_core.specs.declared.formula.Formula.TheOpen.{Formula-F}
use Rattle.term_core.specs.declared.formula.Formula.TheVariants as made
use Rattle.term_core.specs.declared.formula.Formula.TheViews.{roll-Formula}
use Rattle.term_core.specs.declared.formula.Formula.TheFolds.{ind-Formula, map-Formula}
use Rattle.term_core.proofs.Variants.{meaning_True, meaning_False, unnamed_Pred, unnamed_Eq, unnamed_And, unnamed_Or, unnamed_Imp}
use Rattle.term_core.proofs.Variants.{unnamed_All, unnamed_Ex}

pub data Kind : Type 0 where
  is_true is_false is_pred is_eq is_and is_or is_imp is_all is_ex : Kind

abbrev pub kind : Meaning → Kind
kind truth = is_true
kind falsity = is_false
kind (pred p ts) = is_pred
kind (equal s t u) = is_eq
kind (both a b) = is_and
kind (either a b) = is_or
kind (implies a b) = is_imp
kind (all s x a) = is_all
kind (ex s x a) = is_ex

-- the formula is made by the variant of that kind
abbrev pub IsMade : Formula → Kind → Type 0
IsMade b is_true = b ≡ made.True
IsMade b is_false = b ≡ made.False
IsMade b is_pred = (p : List ℕ) × (ts : ArcSlice Term Global) × (b ≡ made.Pred p ts)
IsMade b is_eq = (s : List ℕ) × (x : Term) × (y : Term) × (b ≡ made.Eq s x y)
IsMade b is_and = (x : Arc Formula Global) × (y : Arc Formula Global) × (b ≡ made.And x y)
IsMade b is_or = (x : Arc Formula Global) × (y : Arc Formula Global) × (b ≡ made.Or x y)
IsMade b is_imp = (x : Arc Formula Global) × (y : Arc Formula Global) × (b ≡ made.Imp x y)
IsMade b is_all = (s : List ℕ) × (n : List ℕ) × (x : Arc Formula Global) × (b ≡ made.All s n x)
IsMade b is_ex = (s : List ℕ) × (n : List ℕ) × (x : Arc Formula Global) × (b ≡ made.Ex s n x)

abbrev Known : Formula → Type 0
Known b = IsMade b (kind (unnamed (meaning b)))

known_as : (k : Kind) (z b : Formula) → z ≡ b → kind (unnamed (meaning b)) ≡ k → IsMade b k → Known z
known_as k z b is e s = subst Known (sym is) (subst (IsMade b) (sym e) s)

step : (y : Formula-F ((b : Formula) × Known b)) → Known (roll-Formula (map-Formula ((b : Formula) × Known b) Formula (λ e. e.0) y))
step layer.True = known_as is_true _ made.True made.rolls-True (ap (λ z. kind (unnamed z)) meaning_True) refl
step layer.False = known_as is_false _ made.False made.rolls-False (ap (λ z. kind (unnamed z)) meaning_False) refl
step (layer.Pred p ts) = known_as is_pred _ _ (made.rolls-Pred p ts) (ap kind (unnamed_Pred p ts)) (p, ts, refl)
step (layer.Eq s x y) = known_as is_eq _ _ (made.rolls-Eq s x y) (ap kind (unnamed_Eq s x y)) (s, x, y, refl)
step (layer.And x y) = known_as is_and _ _ (made.rolls-And _ _) (ap kind (unnamed_And _ _)) (_, _, refl)
step (layer.Or x y) = known_as is_or _ _ (made.rolls-Or _ _) (ap kind (unnamed_Or _ _)) (_, _, refl)
step (layer.Imp x y) = known_as is_imp _ _ (made.rolls-Imp _ _) (ap kind (unnamed_Imp _ _)) (_, _, refl)
step (layer.All s n x) = known_as is_all _ _ (made.rolls-All s n _) (ap kind (unnamed_All s n _)) (s, n, _, refl)
step (layer.Ex s n x) = known_as is_ex _ _ (made.rolls-Ex s n _) (ap kind (unnamed_Ex s n _)) (s, n, _, refl)

known : (b : Formula) → Known b
known = ind-Formula Known (λ x y is. subst (λ z. Known (roll-Formula z)) is (step y))

-- what is equal to a formula but for printing names is made by the same variant
pub made_alike : (k : Kind) (a b : Formula) → kind (unnamed (meaning a)) ≡ k → unnamed (meaning a) ≡ unnamed (meaning b) → IsMade b k
made_alike k a b e is = subst (IsMade b) (sym (ap kind is) ∙ e) (known b)

pub ruleset alike = (unnamed_Pred, unnamed_Eq, unnamed_And, unnamed_Or, unnamed_Imp, unnamed_All, unnamed_Ex)
