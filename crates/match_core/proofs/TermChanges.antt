-- What becomes of a term, part by part.
use Rattle.std.proofs.Common.{◌≡◌, ℕ, zero, suc, ◌+◌, ◌-◌, ◌<◌, ◌≤◌, Bool, true, false, if◌then◌else◌, List, [], ◌∷◌, length, map, get_or, refl, sym, ap, subst, ◌∙◌, arith, Decides}
use Rattle.std.specs.declared.alloc.Global.{Global}
use Rattle.std.specs.declared.sync.ArcSlice.{ArcSlice}
use Rattle.std.specs.Arc.{arc_slice_items}
use Rattle.std.specs.Borrow.{Bor}
use Rattle.std.proofs.lemmas.List.{length-map}
use Rattle.fol_theory.specs.Syntax.{Term as Meaning, Terms, terms, var, app, nil, cons}
use Rattle.fol_theory.specs.Substitution.{replace_term, first, shift_term}
use Rattle.match_theory.specs.Instances.{fill}
use Rattle.match_theory.specs.Matching.{same_term}
use Rattle.match_theory.specs.Places.{beyond, abstract_term, abstract_terms}
use Rattle.match_theory.proofs.Equal.{term_decides}
use Rattle.match_theory.proofs.Matched.{lowers_fill}
use Rattle.term_core.specs.Term.{meaning, list_meaning}
use Rattle.term_core.specs.declared.term.Term.{Term}
use Rattle.term_core.specs.declared.term.Term.TheVariants as made
use Rattle.term_core.proofs.Applications.{meaning_App}
use Rattle.match_core.specs.Moves.{lowering, moved}
use Rattle.match_core.specs.Changes.{lifted, term_changed, terms_changed, IsKept}
use Rattle.match_core.specs.declared.change.Change.{Change}
use Rattle.match_core.specs.declared.change.Change.TheVariants.{Lower, Fill, Exchange}
use Rattle.match_core.proofs.Lowered.{meaning_Var}
use Rattle.match_core.proofs.Lifted.{lifted_small, lifted_large, lifted_var, put_back, put_here, moved_none}

-- ---- what is exchanged

-- the term is what is exchanged, or it isn't
choice : (l r t u : Meaning) (b : ℕ) (q : Bool) → Decides q (t ≡ shift_term 0 b l) → (shift_term 0 b l ≡ t → ⊥)
    → replace_term (lifted b (first r)) (if q then var b else u) ≡ replace_term (lifted b (first r)) u
choice l r t u b true d h = absurd (h (sym (d.0 refl)))
choice l r t u b false d h = refl

chosen : (l r t u : Meaning) (b : ℕ) (q : Bool) → Decides q (t ≡ shift_term 0 b l) → shift_term 0 b l ≡ t
    → replace_term (lifted b (first r)) (if q then var b else u) ≡ shift_term 0 b r
chosen l r t u b true d e = put_here b r
chosen l r t u b false d e = absurd (differ (d.1 (sym e)))
  where
    differ : false ≡ true → ⊥
    differ p = cc

exchanged_term : (b : ℕ) (l r t : Meaning) → shift_term 0 b l ≡ t
    → replace_term (lifted b (first r)) (abstract_term b l t) ≡ shift_term 0 b r
exchanged_term b l r (var i) e =
    chosen l r (var i) (var (beyond b i)) b (same_term (var i) (shift_term 0 b l)) (term_decides (var i) (shift_term 0 b l)) e
exchanged_term b l r (app f ts) e =
    chosen l r (app f ts) (app f (abstract_terms b l ts)) b (same_term (app f ts) (shift_term 0 b l))
    (term_decides (app f ts) (shift_term 0 b l)) e

pub exchanged_is : (b : ℕ) (l r : Bor Term) (t : Meaning) → moved 0 b (meaning l.now) ≡ t
    → term_changed (Exchange l r) b t ≡ shift_term 0 b (meaning r.now)
exchanged_is b l r t e = exchanged_term b (meaning l.now) (meaning r.now) t (sym (moved_none b (meaning l.now)) ∙ e)

pub not_exchanged : (b : ℕ) (l r : Bor Term) (t : Meaning) → (moved 0 b (meaning l.now) ≡ t → ⊥) → IsKept (Exchange l r) b t
not_exchanged b l r t h = λ e. h (moved_none b (meaning l.now) ∙ e)

-- ---- variables

pub lower_small : (by b i : ℕ) → i < b → term_changed (Lower by) b (var i) ≡ var i
lower_small by b i h = lifted_small b (lowering by) i h

pub lower_large : (by b i : ℕ) → b ≤ i → term_changed (Lower by) b (var i) ≡ var (b + (i - b - by))
lower_large by b i h = lifted_var b (lowering by) i (i - b - by) (b + (i - b - by)) h refl (omega arith)

pub lower_none : (b i : ℕ) → b ≤ i → term_changed (Lower 0) b (var i) ≡ var i
lower_none b i h = lower_large 0 b i h ∙ ap var (omega (arith, h))

pub exchange_variable : (l r : Bor Term) (b i : ℕ) → IsKept (Exchange l r) b (var i) → term_changed (Exchange l r) b (var i) ≡ var i
exchange_variable l r b i h =
    choice (meaning l.now) (meaning r.now) (var i) (var (beyond b i)) b (same_term (var i) (shift_term 0 b (meaning l.now)))
    (term_decides (var i) (shift_term 0 b (meaning l.now))) h ∙ put_back b (meaning r.now) i

-- ---- variables filled

fill_at : (ts : List Term) (i : ℕ) (t : Term) → i < length ts → t ≡ get_or ts i t → fill (map meaning ts) i ≡ meaning t
fill_at [] i t h e = absurd (none i h)
  where
    none : (i : ℕ) → i < 0 → ⊥
    none i h = omega (arith, h)
fill_at (u ∷ us) zero t h e = ap meaning (sym e)
fill_at (u ∷ us) (suc i) t h e = fill_at us i t (omega (arith, h)) e

pub filled_small : (ts : List Meaning) (b i : ℕ) → i < b → lifted b (fill ts) i ≡ var i
filled_small ts b i h = lifted_small b (fill ts) i h

pub filled_open : (ts : List Term) (b i : ℕ) (t : Term) → b ≤ i → i - b < length ts → t ≡ get_or ts (i - b) t
    → lifted b (fill (map meaning ts)) i ≡ shift_term 0 b (meaning t)
filled_open ts b i t h k e = lifted_large b (fill (map meaning ts)) i h ∙ ap (shift_term 0 b) (fill_at ts (i - b) t k e)

pub filled_large : (ts : List Term) (b i : ℕ) → b ≤ i → length ts ≤ i - b → lifted b (fill (map meaning ts)) i ≡ var (i - length ts)
filled_large ts b i h k =
    let n = length-map ts meaning in
    lifted_var b (fill (map meaning ts)) i (i - b - length (map meaning ts)) (i - length ts) h
    (lowers_fill (map meaning ts) (i - b) (omega (arith, n, k))) (omega (arith, n, k, h))

pub filled_empty : (ts : List Term) (b i : ℕ) → length ts ≡ 0 → b ≤ i → lifted b (fill (map meaning ts)) i ≡ var i
filled_empty ts b i e h = filled_large ts b i h (omega (arith, e)) ∙ ap var (omega (arith, e))

-- ---- applications

parts_changed : (c : Change) (b : ℕ) (f : List ℕ) (ts : Terms) → IsKept c b (app f ts)
    → term_changed c b (app f ts) ≡ app f (terms_changed c b ts)
parts_changed (Lower by) b f ts h = refl
parts_changed (Fill us) b f ts h = refl
parts_changed (Exchange l r) b f ts h =
    choice (meaning l.now) (meaning r.now) (app f ts) (app f (abstract_terms b (meaning l.now) ts)) b
    (same_term (app f ts) (shift_term 0 b (meaning l.now))) (term_decides (app f ts) (shift_term 0 b (meaning l.now))) h

pub changed_App : (c : Change) (b : ℕ) (f : List ℕ) (ts : ArcSlice Term Global) → IsKept c b (meaning (made.App f ts))
    → term_changed c b (meaning (made.App f ts)) ≡ app f (terms_changed c b (list_meaning (arc_slice_items ts)))
changed_App c b f ts h =
    ap (term_changed c b) (meaning_App f ts)
    ∙ parts_changed c b f (list_meaning (arc_slice_items ts)) (kept h)
  where
    kept : IsKept c b (meaning (made.App f ts)) → IsKept c b (app f (list_meaning (arc_slice_items ts)))
    kept h = subst (IsKept c b) (meaning_App f ts) h

pub kept_Var : (c : Change) (b i : ℕ) → IsKept c b (meaning (made.Var i)) → IsKept c b (var i)
kept_Var c b i h = subst (IsKept c b) (meaning_Var i) h

-- ---- terms in order

changed_nil : (c : Change) (b : ℕ) → terms_changed c b nil ≡ nil
changed_nil (Lower by) b = refl
changed_nil (Fill us) b = refl
changed_nil (Exchange l r) b = refl

changed_cons : (c : Change) (b : ℕ) (t : Meaning) (ts : Terms)
    → terms_changed c b (cons t ts) ≡ cons (term_changed c b t) (terms_changed c b ts)
changed_cons (Lower by) b t ts = refl
changed_cons (Fill us) b t ts = refl
changed_cons (Exchange l r) b t ts = refl

pub each_changed : (c : Change) (b : ℕ) (ts : List Meaning) → terms (map (term_changed c b) ts) ≡ terms_changed c b (terms ts)
each_changed c b [] = sym (changed_nil c b)
each_changed c b (t ∷ ts) = ap (cons (term_changed c b t)) (each_changed c b ts) ∙ sym (changed_cons c b t (terms ts))

-- the terms that were made are those of the whole list
pub all_changed : (c : Change) (b : ℕ) (made ts part : List Term) → part ≡ ts
    → map meaning made ≡ map (term_changed c b) (map meaning part) → list_meaning made ≡ terms_changed c b (list_meaning ts)
all_changed c b made ts part e h =
    ap terms (h ∙ ap (λ us. map (term_changed c b) (map meaning us)) e) ∙ each_changed c b (map meaning ts)

pub ruleset exchanges = (exchanged_is, not_exchanged)

pub ruleset variables = (lower_small, lower_large, lower_none, exchange_variable)

pub ruleset fills = (filled_small, filled_open, filled_large, filled_empty)

pub ruleset changes = (meaning_App, meaning_Var, changed_App, kept_Var)
