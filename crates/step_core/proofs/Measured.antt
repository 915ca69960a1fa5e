-- Numbers that are cut off pass their limits where they do.
use Rattle.std.proofs.Common.{◌≡◌, ℕ, ◌<◌, ◌≤◌, ◌^◌, ◌⊎◌, inl, inr, min, Bool, true, false, ◌||◌, nat_lt, if◌then◌else◌, Option, Some, None}
use Rattle.std.proofs.Common.{refl, sym, ap, ◌∙◌, arith}
use Rattle.std.proofs.lemmas.Bool.{le-ltb, lt-ltb}
use Rattle.script_theory.specs.Sizes.{passes, told, measured}

or_right : (p : Bool) → (p || true) ≡ true
or_right true = refl
or_right false = refl

-- what passes is told
pub passes_is : (n h : ℕ) → (65536 < n) ⊎ (1024 < h) → passes n h ≡ true
passes_is n h (inl l) = ap (λ p. p || nat_lt 1024 h) (lt-ltb 65536 n l)
passes_is n h (inr l) = ap (λ p. nat_lt 65536 n || p) (lt-ltb 1024 h l) ∙ or_right (nat_lt 65536 n)

pub within_is : (n h : ℕ) → n ≤ 65536 → h ≤ 1024 → passes n h ≡ false
within_is n h l m = ap (λ p. p || nat_lt 1024 h) (le-ltb 65536 n l) ∙ le-ltb 1024 h m

pub measured_past : (n h : ℕ) (o : Option (ℕ × ℕ)) → (65536 < n) ⊎ (1024 < h) → measured n h o ≡ Some (told n, told h)
measured_past n h o w = ap (λ p. if p then Some (told n, told h) else o) (passes_is n h w)

pub measured_within : (n h : ℕ) (o : Option (ℕ × ℕ)) → ((65536 < n) ⊎ (1024 < h) → ⊥) → measured n h o ≡ o
measured_within n h o w =
    let l : 65536 < n → ⊥ = λ k. w (inl k) in
    let m : 1024 < h → ⊥ = λ k. w (inr k) in
    ap (λ p. if p then Some (told n, told h) else o) (within_is n h (omega (arith, l)) (omega (arith, m)))

-- ---- cut off

pub nodes_pass : (n h a b : ℕ) → a ≡ min n (2 ^ 32) → b ≡ min h (2 ^ 32) → 65536 < a → Some (a, b) ≡ measured n h None
nodes_pass n h a b e f l = sym (measured_past n h None (inl (omega (arith, e, l))) ∙ ap (λ k. Some (k, told h)) (sym e)
    ∙ ap (λ k. Some (a, k)) (sym f))

pub height_passes : (n h a b : ℕ) → a ≡ min n (2 ^ 32) → b ≡ min h (2 ^ 32) → 1024 < b → Some (a, b) ≡ measured n h None
height_passes n h a b e f l = sym (measured_past n h None (inr (omega (arith, f, l))) ∙ ap (λ k. Some (k, told h)) (sym e)
    ∙ ap (λ k. Some (a, k)) (sym f))

pub none_passes : (n h a b : ℕ) → a ≡ min n (2 ^ 32) → b ≡ min h (2 ^ 32) → a ≤ 65536 → b ≤ 1024
    → Path (Option (ℕ × ℕ)) None (measured n h None)
none_passes n h a b e f l m =
    sym (ap (λ p. if p then Some (told n, told h) else None) (within_is n h (omega (arith, e, l)) (omega (arith, f, m))))

pub ruleset cut = (nodes_pass, height_passes, none_passes)
