-- What is checked, then measured and then built is answered within the limits.
use Rattle.std.proofs.Common.{◌≡◌, ℕ, ◌<◌, ◌^◌, ◌⊎◌, inl, inr, min, Result, Ok, Err, refl, sym, ap, subst, ◌∙◌, arith}
use Rattle.base_core.specs.Answers.{and_then}
use Rattle.elab_theory.specs.Faults.{Fault}
use Rattle.elab_theory.proofs.Results.{never}
use Rattle.elab_core.specs.declared.fault.ElabFault.{ElabFault}
use Rattle.elab_core.specs.declared.fault.ElabFault.TheVariants.{
  UnknownName,
  WrongKind,
  WrongSort,
  WrongArity,
  AlreadyDeclared,
  NotOfForm,
  TooLarge,
  NoMemory,
}
use Rattle.elab_core.specs.Faults.{Faulty}
use Rattle.elab_core.specs.Answers.{Passes, IsWithin}
use Rattle.elab_core.proofs.Forgotten.{nothing}

-- a fault isn't left out
faulted : {Y : Type 0} (r : Result Y Fault) (e : Fault) → nothing r ≡ Err e → r ≡ Err e
faulted (Ok y) e h = absurd (never (Unit {0}) e tt (sym h))
faulted (Err d) e h = cc

-- what has no fault has a value
pub made : {Y : Type 0} (r : Result Y Fault) → nothing r ≡ Ok tt → (y : Y) × (r ≡ Ok y)
made (Ok y) h = (y, refl)
made (Err e) h = absurd (never (Unit {0}) e tt h)

-- a number that is cut off passes where it does
cut_nodes : (n m : ℕ) → n ≡ min m (2 ^ 32) → (65536 < n → 65536 < m) × (65536 < m → 65536 < n)
cut_nodes n m e = (λ h. omega (arith, e, h), λ h. omega (arith, e, h))

cut_height : (n m : ℕ) → n ≡ min m (2 ^ 32) → (1024 < n → 1024 < m) × (1024 < m → 1024 < n)
cut_height n m e = (λ h. omega (arith, e, h), λ h. omega (arith, e, h))

both_ways : {A B C D : Type 0} → (A → C) → (B → D) → A ⊎ B → C ⊎ D
both_ways f g (inl a) = inl (f a)
both_ways f g (inr b) = inr (g b)

-- what is wanted has a value, of which these are the numbers, cut off
abbrev pub IsSized : {Y : Type 0} → (Y → ℕ × ℕ) → Result Y Fault → ℕ × ℕ → Type 0
IsSized {Y = Y} size r s = (nothing r ≡ Ok tt)
    × ((y : Y) → r ≡ Ok y → (s.0 ≡ min (size y).0 (2 ^ 32)) × (s.1 ≡ min (size y).1 (2 ^ 32)))

-- the first pass found a fault
pub within_fault : {X Y : Type 0} (meaning : X → Y) (size : Y → ℕ × ℕ) (e : ElabFault) (r : Result Y Fault) → Faulty e (nothing r)
    → IsWithin meaning size (Err e) r
within_fault meaning size (UnknownName p) r h = faulted r _ h
within_fault meaning size (WrongKind p) r h = faulted r _ h
within_fault meaning size (WrongSort p) r h = faulted r _ h
within_fault meaning size (WrongArity p) r h = faulted r _ h
within_fault meaning size (AlreadyDeclared p) r h = faulted r _ h
within_fault meaning size NotOfForm r h = h
within_fault meaning size (TooLarge n m) r h = absurd h
within_fault meaning size NoMemory r h = tt

-- the second pass found it too large
pub within_large : {X Y : Type 0} (meaning : X → Y) (size : Y → ℕ × ℕ) (r : Result Y Fault) (n h : ℕ) → IsSized size r (n, h)
    → Passes (n, h) → IsWithin meaning size (Err (TooLarge n h)) r
within_large meaning size r n h f w =
    let z = made r f.0 in
    let e = f.1 z.0 z.1 in
    subst (λ r. IsWithin meaning size (Err (TooLarge n h)) r) (sym z.1) (
      both_ways (cut_nodes n (size z.0).0 e.0).0 (cut_height h (size z.0).1 e.1).0 w,
      e.0,
      e.1,
    )

-- the third pass built it
pub within_built : {X Y : Type 0} (meaning : X → Y) (size : Y → ℕ × ℕ) (r : Result Y Fault) (n h : ℕ) (x : X)
    → IsSized size r (n, h) → (Passes (n, h) → ⊥) → ((y : Y) → r ≡ Ok y → meaning x ≡ y) → IsWithin meaning size (Ok x) r
within_built meaning size r n h x f w b =
    let z = made r f.0 in
    let e = f.1 z.0 z.1 in
    let q = b z.0 z.1 in (
      z.1 ∙ ap Ok (sym q),
      λ u. w (both_ways (cut_nodes n (size (meaning x)).0 (e.0 ∙ ap (λ y. min (size y).0 (2 ^ 32)) (sym q))).1
          (cut_height h (size (meaning x)).1 (e.1 ∙ ap (λ y. min (size y).1 (2 ^ 32)) (sym q))).1 u),
    )

-- a fault before what is measured
pub within_first : {A X Y : Type 0} (meaning : X → Y) (size : Y → ℕ × ℕ) (e : ElabFault) (r : Result A Fault) (f : A → Result Y Fault)
    → Faulty e r → IsWithin meaning size (Err e) (and_then r f)
within_first meaning size (UnknownName p) r f h = ap (λ z. and_then z f) h
within_first meaning size (WrongKind p) r f h = ap (λ z. and_then z f) h
within_first meaning size (WrongSort p) r f h = ap (λ z. and_then z f) h
within_first meaning size (WrongArity p) r f h = ap (λ z. and_then z f) h
within_first meaning size (AlreadyDeclared p) r f h = ap (λ z. and_then z f) h
within_first meaning size NotOfForm r f h = h
within_first meaning size (TooLarge n m) r f h = absurd h
within_first meaning size NoMemory r f h = tt

-- what is made of what was measured, and is as large
pub within_part : {X Y V W : Type 0} (meaning : X → Y) (size : Y → ℕ × ℕ) (meaning' : V → W) (size' : W → ℕ × ℕ) (g : Y → W)
    → ((y : Y) → size' (g y) ≡ size y) → (e : ElabFault) (r : Result Y Fault) → IsWithin meaning size (Err e) r
    → IsWithin meaning' size' (Err e) (and_then r (λ y. Ok (g y)))
within_part meaning size meaning' size' g k (UnknownName p) r h = ap (λ z. and_then z (λ y. Ok (g y))) h
within_part meaning size meaning' size' g k (WrongKind p) r h = ap (λ z. and_then z (λ y. Ok (g y))) h
within_part meaning size meaning' size' g k (WrongSort p) r h = ap (λ z. and_then z (λ y. Ok (g y))) h
within_part meaning size meaning' size' g k (WrongArity p) r h = ap (λ z. and_then z (λ y. Ok (g y))) h
within_part meaning size meaning' size' g k (AlreadyDeclared p) r h = ap (λ z. and_then z (λ y. Ok (g y))) h
within_part meaning size meaning' size' g k NotOfForm r h = h
within_part meaning size meaning' size' g k (TooLarge n m) (Ok y) h =
    subst (λ s. Passes s × (n ≡ min s.0 (2 ^ 32)) × (m ≡ min s.1 (2 ^ 32))) (sym (k y)) h
within_part meaning size meaning' size' g k (TooLarge n m) (Err e) h = h
within_part meaning size meaning' size' g k NoMemory r h = tt

pub within_made : {X Y V W : Type 0} (meaning : X → Y) (size : Y → ℕ × ℕ) (meaning' : V → W) (size' : W → ℕ × ℕ) (g : Y → W)
    → ((y : Y) → size' (g y) ≡ size y) → (r : Result Y Fault) (x : X) (v : V) → meaning' v ≡ g (meaning x)
    → IsWithin meaning size (Ok x) r → IsWithin meaning' size' (Ok v) (and_then r (λ y. Ok (g y)))
within_made meaning size meaning' size' g k r x v e h = (
  ap (λ z. and_then z (λ y. Ok (g y))) h.0 ∙ ap (λ w. Ok w) (sym e),
  λ p. h.1 (subst Passes (ap size' e ∙ k (meaning x)) p),
)

-- a fault of the first step is one of both
pub faulty_first : {A B : Type 0} (e : ElabFault) (r : Result A Fault) (f : A → Result B Fault) → Faulty e r → Faulty e (and_then r f)
faulty_first (UnknownName p) r f h = ap (λ z. and_then z f) h
faulty_first (WrongKind p) r f h = ap (λ z. and_then z f) h
faulty_first (WrongSort p) r f h = ap (λ z. and_then z f) h
faulty_first (WrongArity p) r f h = ap (λ z. and_then z f) h
faulty_first (AlreadyDeclared p) r f h = ap (λ z. and_then z f) h
faulty_first NotOfForm r f h = h
faulty_first (TooLarge n m) r f h = h
faulty_first NoMemory r f h = tt
