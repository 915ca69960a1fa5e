-- A substitution under binders, at each variable and under one binder more.
use Rattle.std.proofs.Common.{◌≡◌, ℕ, zero, suc, ◌+◌, ◌-◌, ◌<◌, ◌≤◌, Bool, true, false, if◌then◌else◌, nat_lt, refl, sym, ap, ◌∙◌, arith, ◌⊎◌, inl, inr}
use Rattle.std.proofs.lemmas.Bool.Decides.{nat_tests}
use Rattle.std.proofs.Math.Path.{fun_ext}
use Rattle.fol_theory.specs.Syntax.{Term, var}
use Rattle.fol_theory.specs.Substitution.{replace_term, next, lift, first, shift_term}
use Rattle.fol_theory.proofs.Laws.{term_identity}
use Rattle.fol_theory.proofs.AtIndex.{side, next_raise, raise_large, shift_none_term, shift_once_more}
use Rattle.match_theory.specs.Places.{beyond}
use Rattle.match_core.specs.Moves.{lowering, moved}
use Rattle.match_core.specs.Changes.{lifted}

pub lifted_small : (b : ℕ) (σ : ℕ → Term) (i : ℕ) → i < b → lifted b σ i ≡ var i
lifted_small b σ i h = at (nat_lt i b) refl
  where
    at : (r : Bool) → nat_lt i b ≡ r → (if r then var i else shift_term 0 b (σ (i - b))) ≡ var i
    at true p = refl
    at false p = absurd (grind (arith, nat_tests))

pub lifted_large : (b : ℕ) (σ : ℕ → Term) (i : ℕ) → b ≤ i → lifted b σ i ≡ shift_term 0 b (σ (i - b))
lifted_large b σ i h = at (nat_lt i b) refl
  where
    at : (r : Bool) → nat_lt i b ≡ r → (if r then var i else shift_term 0 b (σ (i - b))) ≡ shift_term 0 b (σ (i - b))
    at true p = absurd (grind (arith, nat_tests))
    at false p = refl

-- a variable of which the substitution makes a variable
pub lifted_var : (b : ℕ) (σ : ℕ → Term) (i j k : ℕ) → b ≤ i → σ (i - b) ≡ var j → k ≡ j + b → lifted b σ i ≡ var k
lifted_var b σ i j k h e f =
    lifted_large b σ i h ∙ ap (shift_term 0 b) e ∙ raise_large 0 b j (omega arith) ∙ ap var (sym f)

-- ---- under no binder, and under one more

lifted_none_at : (σ : ℕ → Term) (i : ℕ) → lifted 0 σ i ≡ σ i
lifted_none_at σ i = lifted_large 0 σ i (omega arith) ∙ shift_none_term 0 (σ (i - 0)) ∙ ap σ (omega arith)

pub lifted_none : (σ : ℕ → Term) → lifted 0 σ ≡ σ
lifted_none σ = fun_ext (lifted_none_at σ)

lift_lifted_at : (b : ℕ) (σ : ℕ → Term) (i : ℕ) → lift (lifted b σ) i ≡ lifted (b + 1) σ i
lift_lifted_at b σ zero = sym (lifted_small (b + 1) σ zero (omega arith))
lift_lifted_at b σ (suc i) = go (side i b)
  where
    less : (i b : ℕ) → i - b ≡ suc i - (b + 1)
    less i b = omega arith

    go : (i < b) ⊎ (b ≤ i) → replace_term next (lifted b σ i) ≡ lifted (b + 1) σ (suc i)
    go (inl h) = ap (replace_term next) (lifted_small b σ i h) ∙ sym (lifted_small (b + 1) σ (suc i) (omega (arith, h)))
    go (inr h) =
        ap (replace_term next) (lifted_large b σ i h)
        ∙ ap (λ ρ. replace_term ρ (shift_term 0 b (σ (i - b)))) next_raise
        ∙ shift_once_more b (σ (i - b))
        ∙ ap (λ j. shift_term 0 (b + 1) (σ j)) (less i b)
        ∙ sym (lifted_large (b + 1) σ (suc i) (omega (arith, h)))

pub lift_lifted : (b : ℕ) (σ : ℕ → Term) → lift (lifted b σ) ≡ lifted (b + 1) σ
lift_lifted b σ = fun_ext (lift_lifted_at b σ)

-- ---- the newest variable put in

pub put_back : (b : ℕ) (u : Term) (i : ℕ) → lifted b (first u) (beyond b i) ≡ var i
put_back b u i = at (nat_lt i b) refl
  where
    one_more : (i b : ℕ) → b ≤ i → suc i - b ≡ suc (i - b)
    one_more i b h = omega (arith, h)

    at : (r : Bool) → nat_lt i b ≡ r → lifted b (first u) (if r then i else suc i) ≡ var i
    at true p = lifted_small b (first u) i (grind (arith, nat_tests))
    at false p = larger (grind (arith, nat_tests))
      where
        larger : b ≤ i → lifted b (first u) (suc i) ≡ var i
        larger h = lifted_var b (first u) (suc i) (i - b) i (omega (arith, h)) (ap (first u) (one_more i b h)) (omega (arith, h))

pub put_here : (b : ℕ) (u : Term) → lifted b (first u) b ≡ shift_term 0 b u
put_here b u = lifted_large b (first u) b (omega arith) ∙ ap (λ j. shift_term 0 b (first u j)) (less b)
  where
    less : (b : ℕ) → b - b ≡ zero
    less b = omega arith

-- ---- lowering by nothing

lowering_none_at : (i : ℕ) → lowering 0 i ≡ var i
lowering_none_at i = ap var (omega arith)

pub lowering_none : lowering 0 ≡ var
lowering_none = fun_ext lowering_none_at

pub moved_none : (b : ℕ) (t : Term) → moved 0 b t ≡ shift_term 0 b t
moved_none b t = ap (λ ρ. shift_term 0 b (replace_term ρ t)) lowering_none ∙ ap (shift_term 0 b) (term_identity t)
