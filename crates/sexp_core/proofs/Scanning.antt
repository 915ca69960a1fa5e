-- Reading an item on.
use Rattle.std.proofs.Common.{◌≡◌, ℕ, ◌+◌, ◌-◌, ◌<◌, ◌≤◌, suc, List, [], ◌∷◌, ◌++◌, length, drop, get_or, Bool, true, false, not, ◌&&◌}
use Rattle.std.proofs.Common.{nat_le, refl, sym, ap, ◌∙◌, subst, arith, length-drop}
use Rattle.std.specs.Prelude.{if◌then◌else◌}
use Rattle.std.proofs.Math.Seq.{drop-cons}
use Rattle.std.proofs.lemmas.List.{append-nil, drop_all}
use Rattle.sexp_theory.specs.Places.{Found, value, bad}
use Rattle.sexp_theory.specs.Machine.{State, Step, on, whole, shown, step, is_behind, found_from}
use Rattle.sexp_theory.specs.declared.input.BadKind.{BadKind}
use Rattle.sexp_theory.specs.declared.input.BadKind.TheVariants.{TooLong}
use Rattle.sexp_core.specs.Sexp.{meaning}
use Rattle.sexp_core.specs.State.{state_of, Makes}
use Rattle.sexp_core.specs.Progress.{Scans}
use Rattle.sexp_core.specs.declared.sexp.Sexp.{Sexp}
use Rattle.sexp_core.specs.declared.machine.Machine.{Machine}
use Rattle.sexp_core.specs.declared.machine.Step.{Step as Made}
use Rattle.sexp_core.specs.declared.machine.Step.TheVariants as step_made
use Rattle.sexp_core.specs.declared.machine.Step.TheVariants.{On}
use Rattle.sexp_core.specs.declared.scan.Scanned.TheVariants.{More, Whole, Bad}

-- ---- one byte

-- what the definition makes of a byte
abbrev behind_step : ℕ → ℕ → ℕ → State → ℕ → List ℕ → Step → Found
behind_step limit from n s b rest made = elim made [
  | on t ↦ found_from limit from (n + 1) t rest
  | whole v ↦ value v from (if is_behind s b then from + n else from + n + 1)
  | shown kind back ↦ bad kind (from + n - back)
]

module _ (limit from n : ℕ) (s : State) (b : ℕ) (rest : List ℕ) (made : Step) where
  found_from-byte : (not (is_behind s b) && nat_le limit n) ≡ false
      → step s b ≡ made → found_from limit from n s (b ∷ rest) ≡ behind_step limit from n s b rest made
  found_from-byte e f =
      ap (λ t. if t then bad TooLong (from + n) else behind_step limit from n s b rest (step s b)) e
      ∙ ap (behind_step limit from n s b rest) f

found_from-too_long : (limit from n : ℕ) (s : State) (b : ℕ) (rest : List ℕ) → (not (is_behind s b) && nat_le limit n) ≡ true
    → found_from limit from n s (b ∷ rest) ≡ bad TooLong (from + n)
found_from-too_long limit from n s b rest e = ap (λ t. if t then bad TooLong (from + n) else behind_step limit from n s b rest (step s b)) e

-- ---- all bytes

-- reading the item's bytes on behind the first `seen` is reading them on behind the first n in another state, whatever follows
pub record Reached (limit from seen : ℕ) (s : State) (item : List ℕ) (n : ℕ) (t : State) : Type 0 where
  pub same : (rest : List ℕ) → found_from limit from seen s (drop seen item ++ rest) ≡ found_from limit from n t (drop n item ++ rest)
  pub not_back : seen ≤ n

pub reached-none : (limit from seen : ℕ) (s : State) (item : List ℕ) → Reached limit from seen s item seen s
reached-none limit from seen s item = record { same = λ rest. refl; not_back = omega arith }

-- no byte is left
pub scans-more : {limit from seen : ℕ} {s : State} {item : List ℕ} {n : ℕ} (m : Machine) → Reached limit from seen s item n (state_of m)
    → n ≡ length item
    → Scans limit from seen s (drop seen item) More m
scans-more {limit = limit} {from = from} {seen = seen} {item = item} {n = n} m r e rest =
    let f : n ≡ seen + length (drop seen item) = omega (arith, length-drop seen item, r.not_back) in
    let le : length item ≤ n = omega arith in
    r.same rest ∙ ap (λ xs. found_from limit from n (state_of m) (xs ++ rest)) (drop_all n item le)
    ∙ ap (λ k. found_from limit from k (state_of m) rest) f

-- a byte more is looked at, behind the first n
module _ {limit from seen : ℕ} {s : State} {item : List ℕ} {n : ℕ} {t : State} (r : Reached limit from seen s item n t)
    (lt : n < length item) where
  here : found_from limit from seen s (drop seen item) ≡ found_from limit from n t (get_or item n 0 ∷ drop (suc n) item)
  here = ap (found_from limit from seen s) (sym (append-nil (drop seen item))) ∙ r.same []
      ∙ ap (found_from limit from n t) (append-nil (drop n item) ∙ drop-cons item n 0 lt)

  pub scans-too_long : {behind : Bool} (m : Machine) → true ≡ (not behind && nat_le limit n) → behind ≡ is_behind t (get_or item n 0)
      → Scans limit from seen s (drop seen item) (Bad TooLong (from + n)) m
  scans-too_long {behind = behind} m e is =
      let le : from + n ≤ from + seen + length (drop seen item) = omega (arith, length-drop seen item, r.not_back) in
      let late : (not (is_behind t (get_or item n 0)) && nat_le limit n) ≡ true = ap (λ b. not b && nat_le limit n) (sym is) ∙ sym e in
      (here ∙ found_from-too_long limit from n t (get_or item n 0) (drop (suc n) item) late, le)

  -- the byte is one of the item, or ends it
  module _ {behind : Bool} (e : false ≡ (not behind && nat_le limit n)) (is : behind ≡ is_behind t (get_or item n 0)) (made : Made)
      (m : Machine) (makes : Makes (step t (get_or item n 0)) made m) where
    in_time : (not (is_behind t (get_or item n 0)) && nat_le limit n) ≡ false
    in_time = ap (λ b. not b && nat_le limit n) (sym is) ∙ sym e

    made_as : (other : Made) → made ≡ other → Makes (step t (get_or item n 0)) other m
    made_as other f = subst (λ made. Makes (step t (get_or item n 0)) made m) f makes

    pub reached-more : made ≡ On → Reached limit from seen s item (n + 1) (state_of m)
    reached-more f =
        let g : suc n ≡ n + 1 = omega arith in
        let le : seen ≤ n + 1 = omega (arith, r.not_back) in
        record {
          same = λ rest. r.same rest ∙ ap (λ xs. found_from limit from n t (xs ++ rest)) (drop-cons item n 0 lt)
              ∙ found_from-byte limit from n t (get_or item n 0) (drop (suc n) item ++ rest) (on (state_of m)) in_time (made_as On f)
              ∙ ap (λ k. found_from limit from (n + 1) (state_of m) (drop k item ++ rest)) g;
          not_back = le;
        }

    pub scans-whole : {v : Sexp} {to : ℕ} → made ≡ step_made.Whole v → to ≡ (if behind then from + n else from + n + 1)
        → Scans limit from seen s (drop seen item) (Whole v to) m
    scans-whole {v = v} {to = to} f g =
        let near : (b : Bool) → to ≡ (if b then from + n else from + n + 1) → (to ≤ from + n + 1) × (from ≤ to) =
        λ b. elim b as (λ b. to ≡ (if b then from + n else from + n + 1) → (to ≤ from + n + 1) × (from ≤ to)) [
          | true ↦ λ g. (omega arith, omega arith)
          | false ↦ λ g. (omega arith, omega arith)
        ] in
        let le : to ≤ from + seen + length (drop seen item) = omega (arith, length-drop seen item, r.not_back, (near behind g).0) in
        let to' : to ≡ (if is_behind t (get_or item n 0) then from + n else from + n + 1) = g
        ∙ ap (λ b. if b then from + n else from + n + 1) is in (
          here ∙ found_from-byte limit from n t (get_or item n 0) (drop (suc n) item) (whole (meaning v)) in_time
              (made_as (step_made.Whole v) f) ∙ ap (λ k. value (meaning v) from k) (sym to'),
          le,
          (near behind g).1,
        )

    pub scans-shown : {kind : BadKind} {back offset : ℕ} → made ≡ step_made.Shown kind back → offset ≡ from + n - back
        → Scans limit from seen s (drop seen item) (Bad kind offset) m
    scans-shown {kind = kind} {back = back} {offset = offset} f g =
        let le : offset ≤ from + seen + length (drop seen item) = omega (arith, length-drop seen item, r.not_back) in (
          here ∙ found_from-byte limit from n t (get_or item n 0) (drop (suc n) item) (shown kind back) in_time
              (made_as (step_made.Shown kind back) f) ∙ ap (bad kind) (sym g),
          le,
        )
