-- What becomes of a formula, part by part.
use Rattle.std.proofs.Common.{◌≡◌, ℕ, ◌+◌, List, map, refl, sym, ap, ◌∙◌, add-one}
use Rattle.std.specs.declared.alloc.Global.{Global}
use Rattle.std.specs.declared.sync.Arc.{Arc}
use Rattle.std.specs.declared.sync.ArcSlice.{ArcSlice}
use Rattle.std.specs.Arc.{arc_slice_items, arc_value}
use Rattle.std.specs.Borrow.{Bor}
use Rattle.fol_theory.specs.Syntax.{Term as TermMeaning, Terms, Formula as Meaning, truth, falsity, pred, equal, both, either, implies, all, ex}
use Rattle.fol_theory.specs.Substitution.{replace, replace_term, instantiate, first}
use Rattle.match_theory.specs.Instances.{fill}
use Rattle.match_theory.specs.Places.{abstracted}
use Rattle.term_core.specs.Term as term
use Rattle.term_core.specs.Formula.{meaning}
use Rattle.term_core.specs.declared.term.Term.{Term}
use Rattle.term_core.specs.declared.formula.Formula.{Formula}
use Rattle.term_core.specs.declared.formula.Formula.TheVariants as made
use Rattle.term_core.proofs.Variants.{meaning_True, meaning_False, meaning_Pred, meaning_Eq, meaning_And, meaning_Or, meaning_Imp, meaning_All, meaning_Ex, meanings}
use Rattle.match_core.specs.Moves.{lowering}
use Rattle.match_core.specs.Changes.{term_changed, terms_changed, formula_changed}
use Rattle.match_core.specs.declared.change.Change.{Change}
use Rattle.match_core.specs.declared.change.Change.TheVariants.{Lower, Fill, Exchange}
use Rattle.match_core.proofs.Lifted.{lifted_none, lift_lifted}

-- ---- on meanings

truth_stays : (c : Change) (b : ℕ) → formula_changed c b truth ≡ truth
truth_stays (Lower by) b = refl
truth_stays (Fill ts) b = refl
truth_stays (Exchange l r) b = refl

falsity_stays : (c : Change) (b : ℕ) → formula_changed c b falsity ≡ falsity
falsity_stays (Lower by) b = refl
falsity_stays (Fill ts) b = refl
falsity_stays (Exchange l r) b = refl

pred_changed : (c : Change) (b : ℕ) (p : List ℕ) (ts : Terms) → formula_changed c b (pred p ts) ≡ pred p (terms_changed c b ts)
pred_changed (Lower by) b p ts = refl
pred_changed (Fill us) b p ts = refl
pred_changed (Exchange l r) b p ts = refl

equal_changed : (c : Change) (b : ℕ) (s : List ℕ) (t u : TermMeaning)
    → formula_changed c b (equal s t u) ≡ equal s (term_changed c b t) (term_changed c b u)
equal_changed (Lower by) b s t u = refl
equal_changed (Fill ts) b s t u = refl
equal_changed (Exchange l r) b s t u = refl

both_changed : (c : Change) (b : ℕ) (x y : Meaning) → formula_changed c b (both x y) ≡ both (formula_changed c b x) (formula_changed c b y)
both_changed (Lower by) b x y = refl
both_changed (Fill ts) b x y = refl
both_changed (Exchange l r) b x y = refl

either_changed : (c : Change) (b : ℕ) (x y : Meaning)
    → formula_changed c b (either x y) ≡ either (formula_changed c b x) (formula_changed c b y)
either_changed (Lower by) b x y = refl
either_changed (Fill ts) b x y = refl
either_changed (Exchange l r) b x y = refl

implies_changed : (c : Change) (b : ℕ) (x y : Meaning)
    → formula_changed c b (implies x y) ≡ implies (formula_changed c b x) (formula_changed c b y)
implies_changed (Lower by) b x y = refl
implies_changed (Fill ts) b x y = refl
implies_changed (Exchange l r) b x y = refl

all_changed : (c : Change) (b : ℕ) (s n : List ℕ) (x : Meaning) → formula_changed c b (all s n x) ≡ all s n (formula_changed c (b + 1) x)
all_changed (Lower by) b s n x = ap (λ ρ. all s n (replace ρ x)) (lift_lifted b (lowering by))
all_changed (Fill ts) b s n x = ap (λ ρ. all s n (replace ρ x)) (lift_lifted b (fill (map term.meaning ts.now)))
all_changed (Exchange l r) b s n x =
    λ i. all s n (replace (lift_lifted b (first (term.meaning r.now)) i) (abstracted (sym (add-one b) i) (term.meaning l.now) x))

ex_changed : (c : Change) (b : ℕ) (s n : List ℕ) (x : Meaning) → formula_changed c b (ex s n x) ≡ ex s n (formula_changed c (b + 1) x)
ex_changed (Lower by) b s n x = ap (λ ρ. ex s n (replace ρ x)) (lift_lifted b (lowering by))
ex_changed (Fill ts) b s n x = ap (λ ρ. ex s n (replace ρ x)) (lift_lifted b (fill (map term.meaning ts.now)))
ex_changed (Exchange l r) b s n x =
    λ i. ex s n (replace (lift_lifted b (first (term.meaning r.now)) i) (abstracted (sym (add-one b) i) (term.meaning l.now) x))

-- ---- of each variant

module _ (c : Change) (b : ℕ) where
  pub changed_True : formula_changed c b (meaning made.True) ≡ meaning made.True
  changed_True = ap (formula_changed c b) meaning_True ∙ truth_stays c b ∙ sym meaning_True

  pub changed_False : formula_changed c b (meaning made.False) ≡ meaning made.False
  changed_False = ap (formula_changed c b) meaning_False ∙ falsity_stays c b ∙ sym meaning_False

  pub changed_Pred : (p : List ℕ) (ts : ArcSlice Term Global)
      → formula_changed c b (meaning (made.Pred p ts)) ≡ pred p (terms_changed c b (term.list_meaning (arc_slice_items ts)))
  changed_Pred p ts = ap (formula_changed c b) (meaning_Pred p ts) ∙ pred_changed c b p (term.list_meaning (arc_slice_items ts))

  pub changed_Eq : (s : List ℕ) (t u : Term)
      → formula_changed c b (meaning (made.Eq s t u)) ≡ equal s (term_changed c b (term.meaning t)) (term_changed c b (term.meaning u))
  changed_Eq s t u = ap (formula_changed c b) (meaning_Eq s t u) ∙ equal_changed c b s (term.meaning t) (term.meaning u)

  pub changed_And : (x y : Arc Formula Global) → formula_changed c b (meaning (made.And x y))
      ≡ both (formula_changed c b (meaning (arc_value x))) (formula_changed c b (meaning (arc_value y)))
  changed_And x y = ap (formula_changed c b) (meaning_And x y) ∙ both_changed c b (meaning (arc_value x)) (meaning (arc_value y))

  pub changed_Or : (x y : Arc Formula Global) → formula_changed c b (meaning (made.Or x y))
      ≡ either (formula_changed c b (meaning (arc_value x))) (formula_changed c b (meaning (arc_value y)))
  changed_Or x y = ap (formula_changed c b) (meaning_Or x y) ∙ either_changed c b (meaning (arc_value x)) (meaning (arc_value y))

  pub changed_Imp : (x y : Arc Formula Global) → formula_changed c b (meaning (made.Imp x y))
      ≡ implies (formula_changed c b (meaning (arc_value x))) (formula_changed c b (meaning (arc_value y)))
  changed_Imp x y = ap (formula_changed c b) (meaning_Imp x y) ∙ implies_changed c b (meaning (arc_value x)) (meaning (arc_value y))

  pub changed_All : (s n : List ℕ) (x : Arc Formula Global) → formula_changed c b (meaning (made.All s n x))
      ≡ all s n (formula_changed c (b + 1) (meaning (arc_value x)))
  changed_All s n x = ap (formula_changed c b) (meaning_All s n x) ∙ all_changed c b s n (meaning (arc_value x))

  pub changed_Ex : (s n : List ℕ) (x : Arc Formula Global) → formula_changed c b (meaning (made.Ex s n x))
      ≡ ex s n (formula_changed c (b + 1) (meaning (arc_value x)))
  changed_Ex s n x = ap (formula_changed c b) (meaning_Ex s n x) ∙ ex_changed c b s n (meaning (arc_value x))

pub ruleset changes = (
  meanings,
  changed_True,
  changed_False,
  changed_Pred,
  changed_Eq,
  changed_And,
  changed_Or,
  changed_Imp,
  changed_All,
  changed_Ex,
)

-- ---- the public calls

pub filled_whole : (ts : Bor (List Term)) (a : Meaning) → formula_changed (Fill ts) 0 a ≡ replace (fill (map term.meaning ts.now)) a
filled_whole ts a = ap (λ ρ. replace ρ a) (lifted_none (fill (map term.meaning ts.now)))

pub term_filled_whole : (ts : Bor (List Term)) (t : TermMeaning)
    → term_changed (Fill ts) 0 t ≡ replace_term (fill (map term.meaning ts.now)) t
term_filled_whole ts t = ap (λ ρ. replace_term ρ t) (lifted_none (fill (map term.meaning ts.now)))

pub exchanged_whole : (l r : Bor Term) (a : Meaning)
    → formula_changed (Exchange l r) 0 a ≡ instantiate (abstracted 0 (term.meaning l.now) a) (term.meaning r.now)
exchanged_whole l r a =
    ap (λ ρ. replace ρ (abstracted 0 (term.meaning l.now) a)) (lifted_none (first (term.meaning r.now)))

pub ruleset publics = (filled_whole, term_filled_whole, exchanged_whole)
