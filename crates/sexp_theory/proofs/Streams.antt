-- The items of bytes that come in pieces.
use Rattle.std.proofs.Common.{◌≡◌, ℕ, zero, suc, ◌+◌, ◌-◌, ◌<◌, ◌≤◌, ◌==◌, List, [], ◌∷◌, ◌++◌, length, drop, Bool, true, false, Option}
use Rattle.std.proofs.Common.{Some, None, if◌then◌else◌, length-drop, refl, sym, ap, ◌∙◌, subst, append-nil, arith}
use Rattle.std.proofs.lemmas.List.{drop-drop, drop-append-le, length-append, append_assoc}
use Rattle.sexp_theory.specs.Values.{atom}
use Rattle.sexp_theory.specs.Signs.{is_blank}
use Rattle.sexp_theory.specs.Places.{Found, nothing, unfinished, last_run, value, bad}
use Rattle.sexp_theory.specs.Machine.{start, found_from, found, found_behind_line}
use Rattle.sexp_theory.specs.Items.{Item, value_item, bad_item, Unread, first_of, from_offset, behind_gap, behind_line, without_gap}
use Rattle.sexp_theory.specs.Items.{behind_rest_of_line, Taken, taken_of, next_item, items_up_to, items_of, fed, end_of_found, end_up_to}
use Rattle.sexp_theory.specs.Items.{end_of, end_offset, last_items}
use Rattle.sexp_theory.specs.declared.input.InputEnd.{InputEnd}
use Rattle.sexp_theory.proofs.Behind.{is_whole, found-more, found_behind_line-more}
use Rattle.sexp_theory.proofs.Within.{IsWithin, found-within, found_behind_line-within}

-- ---- what a gap, or a line that is passed over, leaves

-- these are the last bytes of a text that begins at an offset
pub record IsSuffix (at : ℕ) (text : List ℕ) (w : Unread) : Type 0 where
  pub later : at ≤ w.at
  pub end : w.at + length w.bytes ≡ at + length text
  pub bytes : w.bytes ≡ drop (w.at - at) text

suffix-itself : (at : ℕ) (text : List ℕ) (skipping : Bool) → IsSuffix at text (record { bytes = text; at = at; skipping = skipping })
suffix-itself at text skipping = record { later = omega arith; end = refl; bytes = by (at - at) (omega arith) }
  where
    by : (k : ℕ) → 0 ≡ k → text ≡ drop k text
    by k e = ap (λ n. drop n text) e

suffix-behind : (at b : ℕ) (rest : List ℕ) (w : Unread) → IsSuffix (at + 1) rest w → IsSuffix at (b ∷ rest) w
suffix-behind at b rest w h =
    record {
      later = omega (arith, h.later);
      end = omega (arith, h.end);
      bytes = h.bytes ∙ ap (λ k. drop k (b ∷ rest)) (by (w.at - (at + 1)) (w.at - at) (omega (arith, h.later)));
    }
  where
    by : (k m : ℕ) → m ≡ k + 1 → suc k ≡ m
    by k m e = omega (arith, e)

mutual
  gap-suffix : (at : ℕ) (text : List ℕ) → IsSuffix at text (behind_gap at text)
  gap-suffix at [] = suffix-itself at [] false
  gap-suffix at (b ∷ rest) = by (is_blank b) (b == 59) (suffix-behind at b rest _ (gap-suffix (at + 1) rest))
      (suffix-behind at b rest _ (line-suffix (at + 1) rest))
    where
      by : (c d : Bool) → IsSuffix at (b ∷ rest) (behind_gap (at + 1) rest) → IsSuffix at (b ∷ rest) (behind_line (at + 1) rest)
          → IsSuffix at (b ∷ rest) (if c then behind_gap (at + 1) rest else
          (if d then behind_line (at + 1) rest else record { bytes = b ∷ rest; at = at; skipping = false }))
      by true d f g = f
      by false true f g = g
      by false false f g = suffix-itself at (b ∷ rest) false

  line-suffix : (at : ℕ) (text : List ℕ) → IsSuffix at text (behind_line at text)
  line-suffix at [] = suffix-itself at [] true
  line-suffix at (b ∷ rest) = by (b == 10) (suffix-behind at b rest _ (gap-suffix (at + 1) rest))
      (suffix-behind at b rest _ (line-suffix (at + 1) rest))
    where
      by : (c : Bool) → IsSuffix at (b ∷ rest) (behind_gap (at + 1) rest) → IsSuffix at (b ∷ rest) (behind_line (at + 1) rest)
          → IsSuffix at (b ∷ rest) (if c then behind_gap (at + 1) rest else behind_line (at + 1) rest)
      by true f g = f
      by false f g = g

rest_of_line-suffix : (at : ℕ) (text : List ℕ) → IsSuffix at text (behind_rest_of_line at text)
rest_of_line-suffix at [] = suffix-itself at [] true
rest_of_line-suffix at (b ∷ rest) = by (b == 10) (suffix-behind at b rest _ (rest_of_line-suffix (at + 1) rest))
    (suffix-behind at b rest _ (suffix-itself (at + 1) rest false))
  where
    by : (c : Bool) → IsSuffix at (b ∷ rest) (behind_rest_of_line (at + 1) rest)
        → IsSuffix at (b ∷ rest) (record { bytes = rest; at = at + 1; skipping = false })
        → IsSuffix at (b ∷ rest) (if c then record { bytes = rest; at = at + 1; skipping = false } else behind_rest_of_line (at + 1) rest)
    by true f g = g
    by false f g = f

begun : (limit at b : ℕ) (rest : List ℕ) → is_blank b ≡ false → (b == 59) ≡ false
    → found limit at (b ∷ rest) ≡ found_from limit at 0 start (b ∷ rest)
begun limit at b rest e f =
    ap (λ c. if c then found limit (at + 1) rest else
    (if b == 59 then found_behind_line limit (at + 1) rest else found_from limit at 0 start (b ∷ rest))) e
    ∙ ap (λ c. if c then found_behind_line limit (at + 1) rest else found_from limit at 0 start (b ∷ rest)) f

mutual
  gap-found : (limit at : ℕ) (text more : List ℕ) → first_of limit (fed (behind_gap at text) more) ≡ found limit at (text ++ more)
  gap-found limit at [] more = refl
  gap-found limit at (b ∷ rest) more =
      by (is_blank b) (b == 59) refl refl (gap-found limit (at + 1) rest more) (line-found limit (at + 1) rest more)
    where
      by : (c d : Bool) → is_blank b ≡ c → (b == 59) ≡ d
          → first_of limit (fed (behind_gap (at + 1) rest) more) ≡ found limit (at + 1) (rest ++ more)
          → first_of limit (fed (behind_line (at + 1) rest) more) ≡ found_behind_line limit (at + 1) (rest ++ more)
          → first_of limit (fed (if c then behind_gap (at + 1) rest else
          (if d then behind_line (at + 1) rest else record { bytes = b ∷ rest; at = at; skipping = false })) more)
          ≡ (if c then found limit (at + 1) (rest ++ more) else
          (if d then found_behind_line limit (at + 1) (rest ++ more) else found_from limit at 0 start (b ∷ rest ++ more)))
      by true d i j f g = f
      by false true i j f g = g
      by false false i j f g = begun limit at b (rest ++ more) i j

  line-found : (limit at : ℕ) (text more : List ℕ)
      → first_of limit (fed (behind_line at text) more) ≡ found_behind_line limit at (text ++ more)
  line-found limit at [] more = refl
  line-found limit at (b ∷ rest) more = by (b == 10) (gap-found limit (at + 1) rest more) (line-found limit (at + 1) rest more)
    where
      by : (c : Bool) → first_of limit (fed (behind_gap (at + 1) rest) more) ≡ found limit (at + 1) (rest ++ more)
          → first_of limit (fed (behind_line (at + 1) rest) more) ≡ found_behind_line limit (at + 1) (rest ++ more)
          → first_of limit (fed (if c then behind_gap (at + 1) rest else behind_line (at + 1) rest) more)
          ≡ (if c then found limit (at + 1) (rest ++ more) else found_behind_line limit (at + 1) (rest ++ more))
      by true f g = f
      by false f g = g

rest_of_line-found : (limit at : ℕ) (text more : List ℕ)
    → first_of limit (fed (behind_rest_of_line at text) more) ≡ found_behind_line limit at (text ++ more)
rest_of_line-found limit at [] more = refl
rest_of_line-found limit at (b ∷ rest) more = by (b == 10) (rest_of_line-found limit (at + 1) rest more)
  where
    by : (c : Bool) → first_of limit (fed (behind_rest_of_line (at + 1) rest) more) ≡ found_behind_line limit (at + 1) (rest ++ more)
        → first_of limit (fed (if c then record { bytes = rest; at = at + 1; skipping = false } else behind_rest_of_line (at + 1) rest)
        more)
        ≡ (if c then found limit (at + 1) (rest ++ more) else found_behind_line limit (at + 1) (rest ++ more))
    by true f = refl
    by false f = f

-- ---- bytes with the same items

-- they have the same first item, whether the input is ended or not, and so the same items
pub record IsAlike (limit : ℕ) (u w : Unread) : Type 0 where
  pub first : first_of limit u ≡ first_of limit w
  pub next_item : (ended : Bool) → next_item limit ended u ≡ next_item limit ended w

first-within : (limit : ℕ) (u : Unread) → IsWithin u.at (u.at + length u.bytes) (first_of limit u)
first-within limit u = by u.skipping
  where
    by : (c : Bool) → IsWithin u.at (u.at + length u.bytes) (if c then found_behind_line limit u.at u.bytes else found limit u.at u.bytes)
    by true = found_behind_line-within limit u.at u.bytes
    by false = found-within limit u.at u.bytes

from_suffix : (u w : Unread) (to : ℕ) → IsSuffix u.at u.bytes w → w.at ≤ to → drop (to - w.at) w.bytes ≡ drop (to - u.at) u.bytes
from_suffix u w to h le =
    ap (drop (to - w.at)) h.bytes ∙ drop-drop (to - w.at) (w.at - u.at) u.bytes ∙ ap (λ k. drop k u.bytes) (omega (arith, h.later, le))

taken_of-suffix : (ended : Bool) (u w : Unread) (f : Found) → IsSuffix u.at u.bytes w → IsWithin w.at (w.at + length w.bytes) f
    → taken_of ended w f ≡ taken_of ended u f
taken_of-suffix ended u w nothing h i = refl
taken_of-suffix ended u w (unfinished from) h i = refl
taken_of-suffix ended u w (last_run bytes from) h i =
    ap (λ t. if ended then Some t else None) (by (w.at + length w.bytes) (u.at + length u.bytes) h.end
    (from_suffix u w (w.at + length w.bytes) h (omega arith)))
  where
    by : (to tu : ℕ) → to ≡ tu → drop (to - w.at) w.bytes ≡ drop (to - u.at) u.bytes
        → ◌≡◌ {A = Taken} (record { item = value_item (atom bytes) from to; rest = from_offset to w })
        (record { item = value_item (atom bytes) from tu; rest = from_offset tu u })
    by to tu e d = ap (λ x. record { item = value_item (atom bytes) from to; rest = record { bytes = x; at = to; skipping = false } }) d
        ∙ ap (λ x. record { item = value_item (atom bytes) from x; rest = from_offset x u }) e
taken_of-suffix ended u w (value v from to) h i =
    ap (λ x. Some (record { item = value_item v from to; rest = record { bytes = x; at = to; skipping = false } }))
    (from_suffix u w to h (omega (arith, i.0, i.1)))
taken_of-suffix ended u w (bad kind offset) h i =
    ap (λ x. Some (record { item = bad_item offset kind; rest = behind_rest_of_line offset x })) (from_suffix u w offset h i.0)

alike-suffix : (limit : ℕ) (u w : Unread) → IsSuffix u.at u.bytes w → first_of limit w ≡ first_of limit u → IsAlike limit w u
alike-suffix limit u w h e =
    record {
      first = e;
      next_item = λ ended. taken_of-suffix ended u w (first_of limit w) h (first-within limit w)
          ∙ ap (taken_of ended u) e;
    }

suffix-fed : (at : ℕ) (text more : List ℕ) (w : Unread) → IsSuffix at text w → IsSuffix at (text ++ more) (fed w more)
suffix-fed at text more w h =
    record {
      later = h.later;
      end = omega (arith, h.end, length-append w.bytes more, length-append text more);
      bytes = ap (λ x. x ++ more) h.bytes ∙ sym (drop-append-le (w.at - at) text more (omega (arith, h.later, h.end)));
    }

-- blanks, comments and passed over lines at the front don't matter
pub alike-without_gap : (limit : ℕ) (u : Unread) (more : List ℕ) → IsAlike limit (fed (without_gap u) more) (fed u more)
alike-without_gap limit u more = by u.skipping
  where
    by : (c : Bool) → IsAlike limit (fed (if c then behind_line u.at u.bytes else behind_gap u.at u.bytes) more)
        (record { bytes = u.bytes ++ more; at = u.at; skipping = c })
    by true = alike-suffix limit _ _ (suffix-fed u.at u.bytes more _ (line-suffix u.at u.bytes)) (line-found limit u.at u.bytes more)
    by false = alike-suffix limit _ _ (suffix-fed u.at u.bytes more _ (gap-suffix u.at u.bytes)) (gap-found limit u.at u.bytes more)

-- ---- the items one by one

none_at_nothing : (limit : ℕ) (ended : Bool) (u : Unread) → length u.bytes ≤ 0 → next_item limit ended u ≡ None
none_at_nothing limit ended u h = by u.skipping u.bytes h
  where
    by : (c : Bool) (text : List ℕ) → length text ≤ 0
        → taken_of ended u (if c then found_behind_line limit u.at text else found limit u.at text) ≡ None
    by true [] h = refl
    by false [] h = refl
    by c (b ∷ rest) h = absurd (omega (arith, h))

abbrev size : Unread → ℕ
size u = length u.bytes

rest_of_line-shorter : (at : ℕ) (text : List ℕ) → 0 < length text → size (behind_rest_of_line at text) < length text
rest_of_line-shorter at [] h = absurd (omega (arith, h))
rest_of_line-shorter at (b ∷ []) h = by (b == 10)
  where
    by : (c : Bool) → size (if c then record { bytes = []; at = at + 1; skipping = false } else record {
      bytes = [];
      at = at + 1;
      skipping = true;
    }) < 1
    by true = omega arith
    by false = omega arith
rest_of_line-shorter at (b ∷ c ∷ rest) h = by (b == 10) (rest_of_line-shorter (at + 1) (c ∷ rest) (omega arith))
  where
    by : (d : Bool) → size (behind_rest_of_line (at + 1) (c ∷ rest)) < length (c ∷ rest)
        → size (if d then record { bytes = c ∷ rest; at = at + 1; skipping = false } else behind_rest_of_line (at + 1) (c ∷ rest)) <
        length (b ∷ c ∷ rest)
    by true f = omega arith
    by false f = omega (arith, f)

abbrev IsShorter : ℕ → Option Taken → Type 0
IsShorter n None = Unit {0}
IsShorter n (Some t) = length t.rest.bytes < n

taken-shorter : (limit : ℕ) (ended : Bool) (u : Unread) → IsShorter (length u.bytes) (next_item limit ended u)
taken-shorter limit ended u = by (first_of limit u) (first-within limit u)
  where
    by : (f : Found) → IsWithin u.at (u.at + length u.bytes) f → IsShorter (length u.bytes) (taken_of ended u f)
    by nothing i = tt
    by (unfinished from) i = tt
    by (last_run bytes from) i = last ended
      where
        last : (c : Bool) → IsShorter (length u.bytes)
            (if c then Some (record {
              item = value_item (atom bytes) from (u.at + length u.bytes);
              rest = from_offset (u.at + length u.bytes) u;
            }) else None)
        last true = omega (arith, i.0, i.1, length-drop (u.at + length u.bytes - u.at) u.bytes)
        last false = tt
    by (value v from to) i = omega (arith, i.0, i.1, i.2, length-drop (to - u.at) u.bytes)
    by (bad kind offset) i =
        omega (
          arith,
          rest_of_line-shorter offset (drop (offset - u.at) u.bytes)
              (omega (arith, i.0, i.1, length-drop (offset - u.at) u.bytes)),
          length-drop (offset - u.at) u.bytes,
        )

enough : (limit : ℕ) (ended : Bool) (m k : ℕ) (u : Unread) → length u.bytes ≤ m → length u.bytes ≤ k
    → items_up_to limit m ended u ≡ items_up_to limit k ended u
enough limit ended zero zero u h i = refl
enough limit ended zero (suc k) u h i = sym (ap (λ t. elim t [ None ↦ [] | Some t ↦ t.item ∷ items_up_to limit k ended t.rest ])
    (none_at_nothing limit ended u (omega (arith, h))))
enough limit ended (suc m) zero u h i = ap (λ t. elim t [ None ↦ [] | Some t ↦ t.item ∷ items_up_to limit m ended t.rest ])
    (none_at_nothing limit ended u (omega (arith, i)))
enough limit ended (suc m) (suc k) u h i = by (next_item limit ended u) (taken-shorter limit ended u) (λ w. enough limit ended m k w)
  where
    by : (t : Option Taken) → IsShorter (length u.bytes) t
        → ((w : Unread) → length w.bytes ≤ m → length w.bytes ≤ k → items_up_to limit m ended w ≡ items_up_to limit k ended w)
        → ◌≡◌ {A = List Item} (elim t [ None ↦ [] | Some t ↦ t.item ∷ items_up_to limit m ended t.rest ])
        (elim t [ None ↦ [] | Some t ↦ t.item ∷ items_up_to limit k ended t.rest ])
    by None s f = refl
    by (Some t) s f = ap (λ is. t.item ∷ is) (f t.rest (omega (arith, s, h)) (omega (arith, s, i)))

-- the items after the first that was taken
abbrev pub items_with : ℕ → Bool → Option Taken → List Item
items_with limit ended None = []
items_with limit ended (Some t) = t.item ∷ items_of limit ended t.rest

pub items_step : (limit : ℕ) (ended : Bool) (u : Unread) → items_of limit ended u ≡ items_with limit ended (next_item limit ended u)
items_step limit ended u =
    enough limit ended (length u.bytes) (suc (length u.bytes)) u (omega arith) (omega arith)
    ∙ by (next_item limit ended u) (taken-shorter limit ended u)
  where
    by : (t : Option Taken) → IsShorter (length u.bytes) t
        → elim t [ None ↦ [] | Some t ↦ t.item ∷ items_up_to limit (length u.bytes) ended t.rest ] ≡ items_with limit ended t
    by None s = refl
    by (Some t) s = ap (λ is. t.item ∷ is) (enough limit ended (length u.bytes) (length t.rest.bytes) t.rest (omega (arith, s))
        (omega arith))

pub items-alike : (limit : ℕ) (ended : Bool) (u w : Unread) → IsAlike limit u w → items_of limit ended u ≡ items_of limit ended w
items-alike limit ended u w h = items_step limit ended u ∙ ap (items_with limit ended) (h.next_item ended) ∙ sym (items_step limit ended w)

-- ---- how the input ends

end_enough : (limit m k : ℕ) (u : Unread) → length u.bytes ≤ m → length u.bytes ≤ k → end_up_to limit m u ≡ end_up_to limit k u
end_enough limit zero zero u h i = refl
end_enough limit zero (suc k) u h i = sym (ap (λ t. elim t [ None ↦ end_of_found (first_of limit u) | Some t ↦ end_up_to limit k t.rest ])
    (none_at_nothing limit true u (omega (arith, h))))
end_enough limit (suc m) zero u h i = ap (λ t. elim t [ None ↦ end_of_found (first_of limit u) | Some t ↦ end_up_to limit m t.rest ])
    (none_at_nothing limit true u (omega (arith, i)))
end_enough limit (suc m) (suc k) u h i = by (next_item limit true u) (taken-shorter limit true u) (λ w. end_enough limit m k w)
  where
    by : (t : Option Taken) → IsShorter (length u.bytes) t
        → ((w : Unread) → length w.bytes ≤ m → length w.bytes ≤ k → end_up_to limit m w ≡ end_up_to limit k w)
        → ◌≡◌ {A = InputEnd} (elim t [ None ↦ end_of_found (first_of limit u) | Some t ↦ end_up_to limit m t.rest ])
        (elim t [ None ↦ end_of_found (first_of limit u) | Some t ↦ end_up_to limit k t.rest ])
    by None s f = refl
    by (Some t) s f = f t.rest (omega (arith, s, h)) (omega (arith, s, i))

-- the end behind the first item that was taken
abbrev pub end_with : ℕ → Found → Option Taken → InputEnd
end_with limit f None = end_of_found f
end_with limit f (Some t) = end_of limit t.rest

pub end_step : (limit : ℕ) (u : Unread) → end_of limit u ≡ end_with limit (first_of limit u) (next_item limit true u)
end_step limit u =
    end_enough limit (length u.bytes) (suc (length u.bytes)) u (omega arith) (omega arith)
    ∙ by (next_item limit true u) (taken-shorter limit true u)
  where
    by : (t : Option Taken) → IsShorter (length u.bytes) t
        → elim t [ None ↦ end_of_found (first_of limit u) | Some t ↦ end_up_to limit (length u.bytes) t.rest ]
        ≡ end_with limit (first_of limit u) t
    by None s = refl
    by (Some t) s = end_enough limit (length u.bytes) (length t.rest.bytes) t.rest (omega (arith, s)) (omega arith)

pub end-alike : (limit : ℕ) (u w : Unread) → IsAlike limit u w → end_of limit u ≡ end_of limit w
end-alike limit u w h =
    end_step limit u ∙ ap (λ f. end_with limit f (next_item limit true u)) h.first
    ∙ ap (end_with limit (first_of limit w)) (h.next_item true)
    ∙ sym (end_step limit w)

-- ---- more is fed

first-more : (limit : ℕ) (u : Unread) (more : List ℕ) → is_whole (first_of limit u) ≡ true → first_of limit (fed u more) ≡ first_of limit u
first-more limit u more h = by u.skipping h
  where
    by : (c : Bool) → is_whole (if c then found_behind_line limit u.at u.bytes else found limit u.at u.bytes) ≡ true
        → ◌≡◌ {A = Found} (if c then found_behind_line limit u.at (u.bytes ++ more) else found limit u.at (u.bytes ++ more))
        (if c then found_behind_line limit u.at u.bytes else found limit u.at u.bytes)
    by true h = found_behind_line-more limit u.at u.bytes more h
    by false h = found-more limit u.at u.bytes more h

-- t is taken from what is unread, and what is fed later stands behind it
pub record StaysTaken (limit : ℕ) (u : Unread) (t : Taken) (more : List ℕ) : Type 0 where
  pub rest : Unread
  pub next_item : (ended : Bool) → next_item limit ended (fed u more) ≡ Some (record { item = t.item; rest = rest })
  pub alike : IsAlike limit rest (fed t.rest more)

alike-itself : (limit : ℕ) (u : Unread) → IsAlike limit u u
alike-itself limit u = record { first = refl; next_item = λ ended. refl }

alike-rest_of_line : (limit at : ℕ) (text more : List ℕ)
    → IsAlike limit (fed (behind_rest_of_line at text) more) (behind_rest_of_line at (text ++ more))
alike-rest_of_line limit at text more =
    by (alike-suffix limit (record { bytes = text ++ more; at = at; skipping = true }) _
    (suffix-fed at text more _ (rest_of_line-suffix at text)) (rest_of_line-found limit at text more))
    (alike-suffix limit (record { bytes = text ++ more; at = at; skipping = true }) _ (rest_of_line-suffix at (text ++ more))
    (ap (first_of limit) (sym (fed-none (behind_rest_of_line at (text ++ more)))) ∙ rest_of_line-found limit at (text ++ more) []
    ∙ ap (found_behind_line limit at) (append-nil (text ++ more))))
  where
    by : {x y z : Unread} → IsAlike limit x z → IsAlike limit y z → IsAlike limit x y
    by h k = record { first = h.first ∙ sym k.first; next_item = λ ended. h.next_item ended ∙ sym (k.next_item ended) }

    fed-none : (w : Unread) → fed w [] ≡ w
    fed-none w = ap (λ x. record { bytes = x; at = w.at; skipping = w.skipping }) (append-nil w.bytes)

flipped : {limit : ℕ} {u w : Unread} → IsAlike limit u w → IsAlike limit w u
flipped h = record { first = sym h.first; next_item = λ ended. sym (h.next_item ended) }

abbrev the : (t : Taken) → Option Taken → Taken
the t None = t
the t (Some s) = s

pub stays_taken : (limit : ℕ) (u : Unread) (t : Taken) (more : List ℕ) → next_item limit false u ≡ Some t → StaysTaken limit u t more
stays_taken limit u t more e = by (first_of limit u) (first-within limit u) (first-more limit u more) e
  where
    by : (f : Found) → IsWithin u.at (u.at + length u.bytes) f → (is_whole f ≡ true → first_of limit (fed u more) ≡ f)
        → taken_of false u f ≡ Some t → StaysTaken limit u t more
    by nothing i m e = absurd (cc)
    by (unfinished from) i m e = absurd (cc)
    by (last_run bytes from) i m e = absurd (cc)
    by (value v from to) i m e =
        subst (λ t. StaysTaken limit u t more) (ap (the t) e)
        (record {
          rest = from_offset to (fed u more);
          next_item = λ ended. ap (taken_of ended (fed u more)) (m refl);
          alike =
              subst (IsAlike limit (from_offset to (fed u more)))
              (ap (λ x. record { bytes = x; at = to; skipping = false })
              (drop-append-le (to - u.at) u.bytes more (omega (arith, i.0, i.1, i.2))))
              (alike-itself limit (from_offset to (fed u more)));
        })
    by (bad kind offset) i m e =
        subst (λ t. StaysTaken limit u t more) (ap (the t) e)
        (record {
          rest = behind_rest_of_line offset (drop (offset - u.at) (u.bytes ++ more));
          next_item = λ ended. ap (taken_of ended (fed u more)) (m refl);
          alike =
              subst (λ x. IsAlike limit (behind_rest_of_line offset x)
              (fed (behind_rest_of_line offset (drop (offset - u.at) u.bytes)) more))
              (sym (drop-append-le (offset - u.at) u.bytes more (omega (arith, i.0, i.1))))
              (flipped (alike-rest_of_line limit offset (drop (offset - u.at) u.bytes) more));
        })

-- ---- what a reader in pieces needs

-- an item that was taken is the first item whatever is fed later, and the others are those of what it left
pub items-taken : (limit : ℕ) (ended : Bool) (u : Unread) (t : Taken) (more : List ℕ) → next_item limit false u ≡ Some t
    → items_of limit ended (fed u more) ≡ t.item ∷ items_of limit ended (fed t.rest more)
items-taken limit ended u t more e =
    let stays = stays_taken limit u t more e in
    items_step limit ended (fed u more) ∙ ap (items_with limit ended) (stays.next_item ended)
    ∙ ap (λ is. t.item ∷ is) (items-alike limit ended stays.rest (fed t.rest more) stays.alike)

pub end-taken : (limit : ℕ) (u : Unread) (t : Taken) (more : List ℕ) → next_item limit false u ≡ Some t
    → end_of limit (fed u more) ≡ end_of limit (fed t.rest more)
end-taken limit u t more e =
    let stays = stays_taken limit u t more e in
    end_step limit (fed u more) ∙ ap (end_with limit (first_of limit (fed u more))) (stays.next_item true)
    ∙ end-alike limit stays.rest (fed t.rest more) stays.alike

pub items-without_gap : (limit : ℕ) (ended : Bool) (u : Unread) (more : List ℕ)
    → items_of limit ended (fed (without_gap u) more) ≡ items_of limit ended (fed u more)
items-without_gap limit ended u more = items-alike limit ended (fed (without_gap u) more) (fed u more) (alike-without_gap limit u more)

pub end-without_gap : (limit : ℕ) (u : Unread) (more : List ℕ) → end_of limit (fed (without_gap u) more) ≡ end_of limit (fed u more)
end-without_gap limit u more = end-alike limit (fed (without_gap u) more) (fed u more) (alike-without_gap limit u more)

pub fed-both : (u : Unread) (xs ys : List ℕ) → fed (fed u xs) ys ≡ fed u (xs ++ ys)
fed-both u xs ys = ap (λ x. record { bytes = x; at = u.at; skipping = u.skipping }) (append_assoc u.bytes xs ys)

pub fed-nothing : (u : Unread) → fed u [] ≡ u
fed-nothing u = ap (λ x. record { bytes = x; at = u.at; skipping = u.skipping }) (append-nil u.bytes)

-- where no item is to be taken, the input has none, but for a run up to its end
pub items-none : (limit : ℕ) (u : Unread) → next_item limit false u ≡ None → items_of limit false u ≡ []
items-none limit u e = items_step limit false u ∙ ap (items_with limit false) e

-- no more items than bytes
pub items-few : (limit : ℕ) (ended : Bool) (most : ℕ) (u : Unread) → length (items_up_to limit most ended u) ≤ most
items-few limit ended zero u = omega arith
items-few limit ended (suc most) u = by (next_item limit ended u) (λ w. items-few limit ended most w)
  where
    by : (t : Option Taken) → ((w : Unread) → length (items_up_to limit most ended w) ≤ most)
        → length {A = Item} (elim t [ None ↦ [] | Some t ↦ t.item ∷ items_up_to limit most ended t.rest ]) ≤ suc most
    by None f = omega arith
    by (Some t) f = omega (arith, f t.rest)

-- ---- the end of what was fed, and the end of the input

pub end_offset-without_gap : (u : Unread) → end_offset (without_gap u) ≡ end_offset u
end_offset-without_gap u = by u.skipping
  where
    by : (c : Bool) → end_offset (if c then behind_line u.at u.bytes else behind_gap u.at u.bytes) ≡ u.at + length u.bytes
    by true = (line-suffix u.at u.bytes).end
    by false = (gap-suffix u.at u.bytes).end

abbrev EndsThere : ℕ → Option Taken → Type 0
EndsThere n None = Unit {0}
EndsThere n (Some t) = end_offset t.rest ≡ n

ends_there : (limit : ℕ) (u : Unread) → EndsThere (end_offset u) (next_item limit false u)
ends_there limit u = by (first_of limit u) (first-within limit u)
  where
    by : (f : Found) → IsWithin u.at (u.at + length u.bytes) f → EndsThere (end_offset u) (taken_of false u f)
    by nothing i = tt
    by (unfinished from) i = tt
    by (last_run bytes from) i = tt
    by (value v from to) i = omega (arith, i.0, i.1, i.2, length-drop (to - u.at) u.bytes)
    by (bad kind offset) i = omega (
      arith,
      (rest_of_line-suffix offset (drop (offset - u.at) u.bytes)).end,
      i.0,
      i.1,
      length-drop (offset - u.at) u.bytes,
    )

pub end_offset-taken : (limit : ℕ) (u : Unread) (t : Taken) → next_item limit false u ≡ Some t → end_offset t.rest ≡ end_offset u
end_offset-taken limit u t e = subst (EndsThere (end_offset u)) e (ends_there limit u)

none_behind : (limit : ℕ) (ended : Bool) (u : Unread) → length u.bytes ≤ 0 → items_of limit ended u ≡ []
none_behind limit ended u h = items_step limit ended u ∙ ap (items_with limit ended) (none_at_nothing limit ended u h)

-- where no item is to be taken while the input goes on, its end gives one at most
pub items-last : (limit : ℕ) (u : Unread) → next_item limit false u ≡ None → items_of limit true u ≡ last_items (next_item limit true u)
items-last limit u e = items_step limit true u ∙ by (first_of limit u) e
  where
    by : (f : Found) → taken_of false u f ≡ None → items_with limit true (taken_of true u f) ≡ last_items (taken_of true u f)
    by nothing e = refl
    by (unfinished from) e = refl
    by (last_run bytes from) e =
        ap (λ is. value_item (atom bytes) from (u.at + length u.bytes) ∷ is)
        (none_behind limit true (from_offset (u.at + length u.bytes) u) (omega (arith, length-drop (u.at + length u.bytes - u.at) u.bytes)))
    by (value v from to) e = absurd (cc)
    by (bad kind offset) e = absurd (cc)
