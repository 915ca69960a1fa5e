-- What is kept of each id, where it changes with some ids.
use Rattle.std.proofs.Common.{◌≡◌, ℕ, zero, suc, ◌+◌, ◌<◌, nat_eq, ◌||◌, if◌then◌else◌, List, [], ◌∷◌, ◌++◌, take, length, Bool, true, false, Option, Some, None, option_map, get_or, refl, sym, ap, ◌∙◌, arith}
use Rattle.line_theory.specs.Lists.{has}
use Rattle.line_theory.proofs.Lists.{has_join}
use Rattle.doc_store.specs.declared.slots.Slot.{Slot}
use Rattle.doc_store.specs.Slots.{at_one, at_all, lowered, slot_at}

-- the first of some ids have changed
abbrev pub Changed : List ℕ → (Option Slot → Option Slot) → List (Option Slot) → List (Option Slot) → Type 0
Changed ids change old new = ((i : ℕ) → slot_at new i ≡ at_all ids change old i) × (length new ≡ length old)

either : (a b : Bool) (change : Option Slot → Option Slot) (s : Option Slot) → change (change s) ≡ change s
    → (if b then change (if a then change s else s) else (if a then change s else s)) ≡ (if (a || (b || false)) then change s else s)
either true true change s twice = twice
either true false change s twice = refl
either false true change s twice = refl
either false false change s twice = refl

taken_more : (k : ℕ) (ids : List ℕ) → k < length ids → take (suc k) ids ≡ take k ids ++ (get_or ids k 0 ∷ [])
taken_more k [] h = absurd (omega (arith, h))
taken_more zero (x ∷ xs) h = refl
taken_more (suc k) (x ∷ xs) h = ap (λ z. x ∷ z) (taken_more k xs (omega (arith, h)))

more : (k : ℕ) → k + 1 ≡ suc k
more k = omega arith

pub one_more : (change : Option Slot → Option Slot) → ((s : Option Slot) → change (change s) ≡ change s) → (ids : List ℕ) (k : ℕ)
    → k < length ids → (old mid new : List (Option Slot)) → Changed (take k ids) change old mid
    → ((i : ℕ) → slot_at new i ≡ at_one (get_or ids k 0) change mid i) → length new ≡ length mid → Changed (take (k + 1) ids) change old new
one_more change twice ids k h old mid new done step len = (
  λ i. step i ∙ ap (λ z. if nat_eq i (get_or ids k 0) then change z else z) (done.0 i)
      ∙ either (has i (take k ids)) (nat_eq i (get_or ids k 0)) change (slot_at old i) (twice (slot_at old i))
      ∙ sym (ap (λ z. if z then change (slot_at old i) else slot_at old i)
      (ap (λ z. has i (take z ids)) (more k) ∙ ap (has i) (taken_more k ids h) ∙ has_join i (take k ids) (get_or ids k 0 ∷ []))),
  len ∙ done.1,
)

pub lowered_twice : (s : Option Slot) → option_map lowered (option_map lowered s) ≡ option_map lowered s
lowered_twice None = refl
lowered_twice (Some s) = refl
