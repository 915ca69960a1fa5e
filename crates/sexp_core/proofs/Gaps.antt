-- What stands in front of an item.
use Rattle.std.proofs.Common.{◌≡◌, ℕ, ◌+◌, ◌<◌, ◌≤◌, ◌==◌, suc, List, [], ◌∷◌, length, drop, get_or, Bool, true, false, not, refl, sym}
use Rattle.std.proofs.Common.{ap, ◌∙◌, subst, arith, add-zero}
use Rattle.std.specs.Prelude.{if◌then◌else◌}
use Rattle.std.proofs.Math.Seq.{drop-cons}
use Rattle.std.proofs.lemmas.List.{drop_all}
use Rattle.sexp_theory.specs.Signs.{is_blank}
use Rattle.sexp_theory.specs.Places.{Found}
use Rattle.sexp_theory.specs.Machine.{found, found_behind_line, found_from, start}
use Rattle.sexp_theory.specs.Items.{Unread, without_gap, behind_gap, behind_line, first_of}
use Rattle.sexp_core.specs.Progress.{unread_of, BeginsItem, IsFrontGap}

-- the first n bytes stand in front of the first item, and end in a line that is passed over or not
pub record Passed (bytes : List ℕ) (skipping : Bool) (n : ℕ) (in_line : Bool) : Type 0 where
  pub same : (at : ℕ) → without_gap (unread_of bytes at skipping) ≡ without_gap (unread_of (drop n bytes) (at + n) in_line)

pub passed-none : (bytes : List ℕ) (skipping : Bool) → Passed bytes skipping 0 skipping
passed-none bytes skipping = record { same = λ at. ap (λ k. without_gap (unread_of bytes k skipping)) (sym (add-zero at)) }

-- one byte more is passed over
abbrev pub PassesByte : ℕ → Bool → Bool → Type 0
PassesByte b before behind = (at : ℕ) (rest : List ℕ)
    → without_gap (unread_of (b ∷ rest) at before) ≡ without_gap (unread_of rest (at + 1) behind)

pub passes-blank : (b : ℕ) → is_blank b ≡ true → PassesByte b false false
passes-blank b e at rest = ap (λ t. if t then behind_gap (at + 1) rest else
    (if b == 59 then behind_line (at + 1) rest else unread_of (b ∷ rest) at false)) e

pub passes-comment : PassesByte 59 false true
passes-comment at rest = refl

pub passes-line : (b : ℕ) (t : Bool) → (b == 10) ≡ t → PassesByte b true (not t)
passes-line b true e at rest = ap (λ t. if t then behind_gap (at + 1) rest else behind_line (at + 1) rest) e
passes-line b false e at rest = ap (λ t. if t then behind_gap (at + 1) rest else behind_line (at + 1) rest) e

-- the three ways to pass over a byte more
module _ {bytes : List ℕ} {skipping : Bool} {n : ℕ} {before behind : Bool} (p : Passed bytes skipping n before) (lt : n < length bytes)
  where
    passes : PassesByte (get_or bytes n 0) before behind → Passed bytes skipping (n + 1) behind
    passes step = record {
      same = λ at.
          let e : suc n ≡ n + 1 = omega arith in
          let f : at + n + 1 ≡ at + (n + 1) = omega arith in
          p.same at ∙ ap (λ xs. without_gap (unread_of xs (at + n) before)) (drop-cons bytes n 0 lt) ∙ step (at + n) (drop (suc n) bytes)
          ∙ ap (λ k. without_gap (unread_of (drop (suc n) bytes) k behind)) f
          ∙ ap (λ k. without_gap (unread_of (drop k bytes) (at + (n + 1)) behind)) e;
    }

    pub passed-line : before ≡ true → behind ≡ not (get_or bytes n 0 == 10) → Passed bytes skipping (n + 1) behind
    passed-line e f =
        let b : ℕ = get_or bytes n 0 in
        passes (subst (λ t. PassesByte b t behind) (sym e) (subst (λ t. PassesByte b true t) (sym f) (passes-line b (b == 10) refl)))

    pub passed-comment : before ≡ false → get_or bytes n 0 ≡ 59 → behind ≡ true → Passed bytes skipping (n + 1) behind
    passed-comment e f g =
        passes (subst (λ t. PassesByte (get_or bytes n 0) t behind) (sym e)
        (subst (λ t. PassesByte (get_or bytes n 0) false t) (sym g) (subst (λ b. PassesByte b false true) (sym f) passes-comment)))

    pub passed-blank : before ≡ false → true ≡ is_blank (get_or bytes n 0) → behind ≡ before → Passed bytes skipping (n + 1) behind
    passed-blank e f g =
        passes (subst (λ t. PassesByte (get_or bytes n 0) t behind) (sym e)
        (subst (λ t. PassesByte (get_or bytes n 0) false t) (sym (g ∙ e)) (passes-blank (get_or bytes n 0) (sym f))))

-- an item begins
pub at_item : (at b : ℕ) (rest : List ℕ) → is_blank b ≡ false → (b == 59) ≡ false
    → without_gap (unread_of (b ∷ rest) at false) ≡ unread_of (b ∷ rest) at false
at_item at b rest e f =
    ap (λ t. if t then behind_gap (at + 1) rest else (if b == 59 then behind_line (at + 1) rest else unread_of (b ∷ rest) at false)) e
    ∙ ap (λ t. if t then behind_line (at + 1) rest else unread_of (b ∷ rest) at false) f

pub at_item-same : (at : ℕ) (in_line : Bool) (bytes : List ℕ) → BeginsItem in_line bytes
    → without_gap (unread_of bytes at in_line) ≡ unread_of bytes at in_line
at_item-same at true [] i = refl
at_item-same at false [] i = refl
at_item-same at true (b ∷ rest) i = cc
at_item-same at false (b ∷ rest) i = at_item at b rest i.1 i.2

begins_item : (bytes : List ℕ) (n : ℕ) → n < length bytes → is_blank (get_or bytes n 0) ≡ false → (get_or bytes n 0 == 59) ≡ false
    → BeginsItem false (drop n bytes)
begins_item bytes n lt e f = subst (λ xs. BeginsItem false xs) (sym (drop-cons bytes n 0 lt)) (refl, e, f)

begins_none : (bytes : List ℕ) (n : ℕ) (in_line : Bool) → length bytes ≤ n → BeginsItem in_line (drop n bytes)
begins_none bytes n in_line le = subst (λ xs. BeginsItem in_line xs) (sym (drop_all n bytes le)) tt

module _ {bytes : List ℕ} {skipping : Bool} {n : ℕ} {in_line : Bool} (p : Passed bytes skipping n in_line) where
  gap-is : n ≤ length bytes → BeginsItem in_line (drop n bytes) → IsFrontGap bytes skipping (record { len = n; in_line = in_line })
  gap-is w i = record { within = w; gone = λ at. p.same at ∙ at_item-same (at + n) in_line (drop n bytes) i; stops = i }

  -- an item stands behind the gap
  pub front_gap-item : n < length bytes → in_line ≡ false → is_blank (get_or bytes n 0) ≡ false → (get_or bytes n 0 == 59) ≡ false
      → IsFrontGap bytes skipping (record { len = n; in_line = in_line })
  front_gap-item lt l e f = gap-is (omega arith) (subst (λ t. BeginsItem t (drop n bytes)) (sym l) (begins_item bytes n lt e f))

  -- nothing stands behind it
  pub front_gap-all : n ≡ length bytes → IsFrontGap bytes skipping (record { len = length bytes; in_line = in_line })
  front_gap-all e =
      subst (λ k. IsFrontGap bytes skipping (record { len = k; in_line = in_line })) e
      (gap-is (omega arith) (begins_none bytes n in_line (omega arith)))

-- ---- what stands first doesn't change with the gap

-- both for bytes of a text and for bytes of a line
abbrev FirstSame : ℕ → List ℕ → Type 0
FirstSame limit bytes =
    (at : ℕ) → (first_of limit (behind_gap at bytes) ≡ found limit at bytes)
    × (first_of limit (behind_line at bytes) ≡ found_behind_line limit at bytes)

module _ (limit at b : ℕ) (rest : List ℕ) where
  first_same-gap : (t s : Bool) → is_blank b ≡ t → (b == 59) ≡ s → FirstSame limit rest
      → first_of limit (behind_gap at (b ∷ rest)) ≡ found limit at (b ∷ rest)
  first_same-gap t s e f ih =
      let g : Bool → Bool → Unread = λ t s. if t then behind_gap (at + 1) rest else
      (if s then behind_line (at + 1) rest else unread_of (b ∷ rest) at false) in
      let h : Bool → Bool → Found = λ t s. if t then found limit (at + 1) rest else
      (if s then found_behind_line limit (at + 1) rest else found_from limit at 0 start (b ∷ rest)) in
      let left : first_of limit (behind_gap at (b ∷ rest)) ≡ first_of limit (g t s) = ap (λ t. first_of limit (g t (b == 59))) e
      ∙ ap (λ s. first_of limit (g t s)) f in
      let right : found limit at (b ∷ rest) ≡ h t s = ap (λ t. h t (b == 59)) e ∙ ap (λ s. h t s) f in
      let middle : first_of limit (g t s) ≡ h t s =
      elim t as (λ t. (found limit at (b ∷ rest) ≡ h t s) → first_of limit (g t s) ≡ h t s) [
        | true ↦ λ right. (ih (at + 1)).0
        | false ↦ elim s as (λ s. (found limit at (b ∷ rest) ≡ h false s) → first_of limit (g false s) ≡ h false s) [
          | true ↦ λ right. (ih (at + 1)).1
          | false ↦ λ right. right
        ]
      ] right in
      left ∙ middle ∙ sym right

first_same-line : (limit at b : ℕ) (rest : List ℕ) (t : Bool) → (b == 10) ≡ t → FirstSame limit rest
    → first_of limit (behind_line at (b ∷ rest)) ≡ found_behind_line limit at (b ∷ rest)
first_same-line limit at b rest true e ih =
    ap (λ t. first_of limit (if t then behind_gap (at + 1) rest else behind_line (at + 1) rest)) e ∙ (ih (at + 1)).0
    ∙ sym (ap (λ t. if t then found limit (at + 1) rest else found_behind_line limit (at + 1) rest) e)
first_same-line limit at b rest false e ih =
    ap (λ t. first_of limit (if t then behind_gap (at + 1) rest else behind_line (at + 1) rest)) e ∙ (ih (at + 1)).1
    ∙ sym (ap (λ t. if t then found limit (at + 1) rest else found_behind_line limit (at + 1) rest) e)

first_same : (limit : ℕ) (bytes : List ℕ) → FirstSame limit bytes
first_same limit [] at = (refl, refl)
first_same limit (b ∷ rest) at =
    (first_same-gap limit at b rest _ _ refl refl (first_same limit rest), first_same-line limit at b rest _ refl (first_same limit rest))

pub first_of-without_gap : (limit at : ℕ) (bytes : List ℕ) (skipping : Bool)
    → first_of limit (without_gap (unread_of bytes at skipping)) ≡ first_of limit (unread_of bytes at skipping)
first_of-without_gap limit at bytes true = (first_same limit bytes at).1
first_of-without_gap limit at bytes false = (first_same limit bytes at).0

-- where an item begins, its bytes are read
pub first_of-item : (limit at : ℕ) (bytes : List ℕ) (in_line : Bool) → 0 < length bytes → BeginsItem in_line bytes
    → first_of limit (unread_of bytes at in_line) ≡ found_from limit at 0 start bytes
first_of-item limit at [] in_line some i = absurd (omega arith)
first_of-item limit at (b ∷ rest) true some i = cc
first_of-item limit at (b ∷ rest) false some i =
    ap (λ t. if t then found limit (at + 1) rest else
    (if b == 59 then found_behind_line limit (at + 1) rest else found_from limit at 0 start (b ∷ rest))) i.1
    ∙ ap (λ t. if t then found_behind_line limit (at + 1) rest else found_from limit at 0 start (b ∷ rest)) i.2
