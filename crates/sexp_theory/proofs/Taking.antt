-- The items of a text are what is computed.
use Rattle.std.proofs.Common.{◌≡◌, inl, inr, ℕ, zero, suc, ◌+◌, ◌-◌, ◌<◌, ◌≤◌, ◌==◌, List, [], ◌∷◌, ◌++◌, length, drop, Bool, true, false}
use Rattle.std.proofs.Common.{Option, Some, None, if◌then◌else◌, refl, sym, ap, ◌∙◌, subst, append-nil, length-append, length-drop, arith}
use Rattle.std.proofs.Common.{true≢false}
use Rattle.std.proofs.lemmas.Bool.{eqb-true, not-true, not_from_false}
use Rattle.std.proofs.lemmas.List.Elements.{All-nil, All-cons, All-head, All-tail}
use Rattle.std.specs.List.{AllPass}
use Rattle.sexp_theory.specs.Values.{atom}
use Rattle.sexp_theory.specs.Spelling.{is_of_line}
use Rattle.sexp_theory.specs.Places.{Found, nothing, unfinished, last_run, value, bad, Shows, stray_close, too_deep, hash_bar}
use Rattle.sexp_theory.specs.Places.{hash_comment, outer_hash_comment, bad_escape, too_long, IsFound}
use Rattle.sexp_theory.specs.Machine.{found, found_behind_line}
use Rattle.sexp_theory.specs.Items.{Item, value_item, bad_item, Unread, Taken, first_of, from_offset, behind_rest_of_line, taken_of}
use Rattle.sexp_theory.specs.Items.{next_item, items_up_to, items_of, end_of_found, end_up_to, end_of}
use Rattle.sexp_theory.specs.ItemWords.{IsFirstOf, IsFirst, IsBehindLine, IsFirstValue, IsItem, HasNoItem, AreItems, IsEnd, EndsAs}
use Rattle.sexp_theory.specs.declared.input.BadKind.{BadKind}
use Rattle.sexp_theory.specs.declared.input.InputEnd.{InputEnd}
use Rattle.sexp_theory.specs.declared.input.InputEnd.TheVariants.{Clean, Truncated}
use Rattle.sexp_theory.proofs.Spelled.{spells_some}
use Rattle.sexp_theory.proofs.Found.{is_found, is_found_behind_line}
use Rattle.sexp_theory.proofs.Computed.{found_text, behind_text}

-- ---- what stands first

first_is_of : (skipping : Bool) (limit at : ℕ) (text : List ℕ) (f : Found) → IsFirstOf skipping limit at text f
    → (if skipping then found_behind_line limit at text else found limit at text) ≡ f
first_is_of true limit at text f h = is_found_behind_line limit at text f h
first_is_of false limit at text f h = is_found limit at text f h

pub first_is : (limit : ℕ) (u : Unread) (f : Found) → IsFirst limit u f → first_of limit u ≡ f
first_is limit u f h = first_is_of u.skipping limit u.at u.bytes f h

first_computed_of : (skipping : Bool) (limit at : ℕ) (text : List ℕ) → 0 < limit
    → IsFirstOf skipping limit at text (if skipping then found_behind_line limit at text else found limit at text)
first_computed_of true limit at text z = behind_text text limit at z
first_computed_of false limit at text z = found_text text limit at z

pub first_computed : (limit : ℕ) (u : Unread) → 0 < limit → IsFirst limit u (first_of limit u)
first_computed limit u z = first_computed_of u.skipping limit u.at u.bytes z

-- ---- behind a bad place

over_byte : (offset b : ℕ) (rest : List ℕ) → is_of_line b ≡ true
    → behind_rest_of_line offset (b ∷ rest) ≡ behind_rest_of_line (offset + 1) rest
over_byte offset b rest p = rw (not-true (b == 10) p)

line_there : (offset to : ℕ) (bytes : List ℕ) → offset ≡ to → behind_rest_of_line offset bytes ≡ behind_rest_of_line to bytes
line_there offset to bytes e = ap (λ k. behind_rest_of_line k bytes) e

pub over_line : (line : List ℕ) (offset : ℕ) (more : List ℕ) → AllPass is_of_line line
    → behind_rest_of_line offset (line ++ more) ≡ behind_rest_of_line (offset + length line) more
over_line [] offset more p = line_there offset (offset + 0) more (omega arith)
over_line (b ∷ line) offset more p =
    over_byte offset b (line ++ more) (All-head (λ c. is_of_line c ≡ true) b line p)
    ∙ over_line line (offset + 1) more (All-tail (λ c. is_of_line c ≡ true) b line p)
    ∙ line_there (offset + 1 + length line) (offset + suc (length line)) more (omega arith)

pub behind_line_is : (offset : ℕ) (bytes : List ℕ) (rest : Unread) → IsBehindLine offset bytes rest
    → behind_rest_of_line offset bytes ≡ rest
behind_line_is offset bytes rest (inl h) = ap (behind_rest_of_line offset) (sym (append-nil bytes)) ∙ over_line bytes offset [] h.0
    ∙ sym h.1
behind_line_is offset bytes rest (inr h) = ap (behind_rest_of_line offset) h.2 ∙ over_line h.0 offset (10 ∷ h.1) h.3 ∙ sym h.4

line_ends : (offset b : ℕ) (bytes : List ℕ) → b ≡ 10
    → IsBehindLine offset (b ∷ bytes) (record { bytes = bytes; at = offset + 1; skipping = false })
line_ends offset b bytes e =
    let n : offset + 1 ≡ offset + 0 + 1 = omega arith in
    inr (
      [],
      bytes,
      ap (λ c. c ∷ bytes) e,
      All-nil (λ c. is_of_line c ≡ true),
      ap (λ k. record { bytes = bytes; at = k; skipping = false }) n,
    )

line_goes_on : (offset b : ℕ) (bytes : List ℕ) (rest : Unread) → is_of_line b ≡ true → IsBehindLine (offset + 1) bytes rest
    → IsBehindLine offset (b ∷ bytes) rest
line_goes_on offset b bytes rest p (inl h) =
    let n : offset + 1 + length bytes ≡ offset + suc (length bytes) = omega arith in
    inl (All-cons (λ c. is_of_line c ≡ true) b bytes p h.0, h.1 ∙ ap (λ k. record { bytes = []; at = k; skipping = true }) n)
line_goes_on offset b bytes rest p (inr h) =
    let n : offset + 1 + length h.0 + 1 ≡ offset + suc (length h.0) + 1 = omega arith in
    inr (
      b ∷ h.0,
      h.1,
      ap (λ xs. b ∷ xs) h.2,
      All-cons (λ c. is_of_line c ≡ true) b h.0 p h.3,
      h.4
          ∙ ap (λ k. record { bytes = h.1; at = k; skipping = false }) n,
    )

pub by_test : (P : Unread → Type 0) (c : Bool) (x y : Unread) → (c ≡ true → P x) → (c ≡ false → P y) → P (if c then x else y)
by_test P true x y h k = h refl
by_test P false x y h k = k refl

pub behind_line_computed : (bytes : List ℕ) (offset : ℕ) → IsBehindLine offset bytes (behind_rest_of_line offset bytes)
behind_line_computed [] offset =
    let n : offset ≡ offset + 0 = omega arith in
    inl (All-nil (λ c. is_of_line c ≡ true), ap (λ k. record { bytes = []; at = k; skipping = true }) n)
behind_line_computed (b ∷ bytes) offset =
    by_test (IsBehindLine offset (b ∷ bytes)) (b == 10) (record { bytes = bytes; at = offset + 1; skipping = false })
    (behind_rest_of_line (offset + 1) bytes)
    (λ e. line_ends offset b bytes (eqb-true b 10 e))
    (λ n. line_goes_on offset b bytes (behind_rest_of_line (offset + 1) bytes) (not_from_false (b == 10) n)
    (behind_line_computed bytes (offset + 1)))

-- ---- the first item

abbrev pub took : Item → Unread → Option Taken
took item rest = Some (record { item = item; rest = rest })

pub item_is : (limit : ℕ) (ended : Bool) (u : Unread) (item : Item) (rest : Unread) → IsItem limit ended u item rest
    → next_item limit ended u ≡ Some (record { item = item; rest = rest })
item_is limit ended u (value_item v from to) rest h = go h.0
  where
    go : IsFirstValue limit ended u v from to → next_item limit ended u ≡ took (value_item v from to) rest
    go (inl k) = ap (taken_of ended u) (first_is limit u (value v from to) k) ∙ ap (took (value_item v from to)) (sym h.1)
    go (inr k) =
        ap (taken_of ended u) (first_is limit u (last_run k.0 from) k.1)
        ∙ ap (λ c. if c then took (value_item (atom k.0) from (u.at + length u.bytes)) (from_offset (u.at + length u.bytes) u) else None)
        k.4
        ∙ ap (λ n. took (value_item (atom k.0) from n) (from_offset n u)) (sym k.3)
        ∙ ap (λ w. took (value_item w from to) (from_offset to u)) (sym k.2)
        ∙ ap (took (value_item v from to)) (sym h.1)
item_is limit ended u (bad_item offset kind) rest h =
    ap (taken_of ended u) (first_is limit u (bad kind offset) h.0)
    ∙ ap (took (bad_item offset kind)) (behind_line_is offset (drop (offset - u.at) u.bytes) rest h.1)

pub no_item_is : (limit : ℕ) (ended : Bool) (u : Unread) → HasNoItem limit ended u → next_item limit ended u ≡ None
no_item_is limit ended u (inl h) = ap (taken_of ended u) (first_is limit u nothing h)
no_item_is limit ended u (inr (inl h)) = ap (taken_of ended u) (first_is limit u (unfinished h.0) h.1)
no_item_is limit ended u (inr (inr h)) =
    ap (taken_of ended u) (first_is limit u (last_run h.0 h.1) h.2)
    ∙ ap (λ c. if c then took (value_item (atom h.0) h.1 (u.at + length u.bytes)) (from_offset (u.at + length u.bytes) u) else None) h.3

-- what was taken is the first item; where nothing was, there is none
abbrev pub Took : ℕ → Bool → Unread → Option Taken → Type 0
Took limit ended u None = HasNoItem limit ended u
Took limit ended u (Some t) = IsItem limit ended u t.item t.rest

last_run_took : (limit : ℕ) (ended : Bool) (u : Unread) (run : List ℕ) (from : ℕ) → IsFirst limit u (last_run run from)
    → Took limit ended u (taken_of ended u (last_run run from))
last_run_took limit true u run from h = (inr (run, h, refl, refl, refl), refl)
last_run_took limit false u run from h = inr (inr (run, from, h, refl))

took_at : (limit : ℕ) (ended : Bool) (u : Unread) (f : Found) → IsFirst limit u f → Took limit ended u (taken_of ended u f)
took_at limit ended u nothing h = inl h
took_at limit ended u (unfinished from) h = inr (inl (from, h))
took_at limit ended u (last_run run from) h = last_run_took limit ended u run from h
took_at limit ended u (value v from to) h = (inl h, refl)
took_at limit ended u (bad kind offset) h = (h, behind_line_computed (drop (offset - u.at) u.bytes) offset)

pub taken_computed : (limit : ℕ) (ended : Bool) (u : Unread) → 0 < limit → Took limit ended u (next_item limit ended u)
taken_computed limit ended u z = took_at limit ended u (first_of limit u) (first_computed limit u z)

-- ---- each item has a byte

-- what was found lies in so many bytes
abbrev pub Lies : ℕ → ℕ → Found → Type 0
Lies at n nothing = Unit {0}
Lies at n (unfinished from) = Unit {0}
Lies at n (last_run run from) = 0 < n
Lies at n (value v from to) = (at < to) × (to ≤ at + n)
Lies at n (bad kind offset) = (at ≤ offset) × (offset < at + n)

shows_within : (limit : ℕ) (bytes : List ℕ) (b : ℕ) (kind : BadKind) (behind : ℕ) → Shows limit bytes b kind behind → behind ≤ length bytes
shows_within limit bytes b kind behind (stray_close e is l) = omega arith
shows_within limit bytes b kind behind (too_deep h is l) = omega arith
shows_within limit bytes b kind behind (hash_bar n before own front h k is l) = omega (arith, ap length k, length-append front (35 ∷ []))
shows_within limit bytes b kind behind (hash_comment n before own front h k is l) =
    omega (arith, ap length k, length-append front (35 ∷ []))
shows_within limit bytes b kind behind (outer_hash_comment front r k is l) = omega (arith, ap length k, length-append front (35 ∷ []))
shows_within limit bytes b kind behind (bad_escape n front escape h i j l) = omega (arith, ap length h.spelled, length-append front escape)
shows_within limit bytes b kind behind (too_long u p e) = omega (arith, e)

found_lies : (limit at : ℕ) (text : List ℕ) (f : Found) → IsFound limit at text f → Lies at (length text) f
found_lies limit at text nothing h = tt
found_lies limit at text (unfinished from) h = tt
found_lies limit at text (last_run run from) h = omega (arith, ap length h.1, length-append h.0 run, h.3.some)
found_lies limit at text (value v from to) h =
    let n : length text ≡ length h.0 + (length h.1 + length h.2) = ap length h.3 ∙ length-append h.0 (h.1 ++ h.2)
    ∙ ap (λ k. length h.0 + k) (length-append h.1 h.2) in
    (omega (arith, h.10, h.11, spells_some h.1 v h.5), omega (arith, h.10, h.11, n))
found_lies limit at text (bad kind offset) h =
    let n : length text ≡ length h.0 + (length h.1 + suc (length h.2)) = ap length h.5 ∙ length-append h.0 (h.1 ++ h.3 ∷ h.2)
    ∙ ap (λ k. length h.0 + k) (length-append h.1 (h.3 ∷ h.2)) in
    (omega (arith, h.8), omega (arith, h.8, n, shows_within limit h.1 h.3 kind h.4 h.7))

lies_behind : (at at' n n' : ℕ) (f : Found) → at ≤ at' → at' + n' ≤ at + n → Lies at' n' f → Lies at n f
lies_behind at at' n n' nothing h k i = tt
lies_behind at at' n n' (unfinished from) h k i = tt
lies_behind at at' n n' (last_run run from) h k i = omega (arith, h, k, i)
lies_behind at at' n n' (value v from to) h k i = (omega (arith, h, i.0), omega (arith, k, i.1))
lies_behind at at' n n' (bad kind offset) h k i = (omega (arith, h, i.0), omega (arith, k, i.1))

first_lies_of : (skipping : Bool) (limit at : ℕ) (text : List ℕ) (f : Found) → IsFirstOf skipping limit at text f → Lies at (length text) f
first_lies_of true limit at text f (inl h) = subst (Lies at (length text)) (sym h.1) tt
first_lies_of true limit at text f (inr h) =
    let n : length text ≡ length h.0 + suc (length h.1) = ap length h.2 ∙ length-append h.0 (10 ∷ h.1) in
    lies_behind at (at + length h.0 + 1) (length text) (length h.1) f (omega arith) (omega (arith, n))
    (found_lies limit (at + length h.0 + 1) h.1 f h.4)
first_lies_of false limit at text f h = found_lies limit at text f h

pub first_lies : (limit : ℕ) (u : Unread) (f : Found) → IsFirst limit u f → Lies u.at (length u.bytes) f
first_lies limit u f h = first_lies_of u.skipping limit u.at u.bytes f h

from_offset_shorter : (to : ℕ) (u : Unread) → u.at < to → to ≤ u.at + length u.bytes → length (drop (to - u.at) u.bytes) < length u.bytes
from_offset_shorter to u h k = omega (arith, h, k, length-drop (to - u.at) u.bytes)

behind_line_shorter : (offset : ℕ) (u rest : Unread) → u.at ≤ offset → offset < u.at + length u.bytes
    → IsBehindLine offset (drop (offset - u.at) u.bytes) rest → length rest.bytes < length u.bytes
behind_line_shorter offset u rest h k (inl s) = omega (arith, h, k, ap (λ r. length r.bytes) s.1)
behind_line_shorter offset u rest h k (inr s) =
    omega (arith, ap (λ r. length r.bytes) s.4, ap length s.2, length-append s.0 (10 ∷ s.1), length-drop (offset - u.at) u.bytes)

pub item_shorter : (limit : ℕ) (ended : Bool) (u : Unread) (item : Item) (rest : Unread) → IsItem limit ended u item rest
    → length rest.bytes < length u.bytes
item_shorter limit ended u (value_item v from to) rest h = go h.0
  where
    go : IsFirstValue limit ended u v from to → length rest.bytes < length u.bytes
    go (inl k) = let l = first_lies limit u (value v from to) k in
        omega (arith, ap (λ r. length r.bytes) h.1, from_offset_shorter to u l.0 l.1)
    go (inr k) = let l = first_lies limit u (last_run k.0 from) k.1 in
        omega (arith, ap (λ r. length r.bytes) h.1, from_offset_shorter to u (omega (arith, k.3, l)) (omega (arith, k.3)))
item_shorter limit ended u (bad_item offset kind) rest h = let l = first_lies limit u (bad kind offset) h.0 in
    behind_line_shorter offset u rest l.0 l.1 h.1

-- ---- all items

abbrev items_by : ℕ → ℕ → Bool → Option Taken → List Item
items_by limit most ended r = elim r [ None ↦ [] | Some t ↦ t.item ∷ items_up_to limit most ended t.rest ]

items_up_to_are : (items : List Item) (most limit : ℕ) (ended : Bool) (u : Unread) → length u.bytes ≤ most → AreItems limit ended u items
    → items_up_to limit most ended u ≡ items
items_up_to_are [] zero limit ended u l h = refl
items_up_to_are [] (suc most) limit ended u l h = ap (items_by limit most ended) (no_item_is limit ended u h)
items_up_to_are (item ∷ items) zero limit ended u l h = absurd (omega (arith, l, item_shorter limit ended u item h.0 h.1))
items_up_to_are (item ∷ items) (suc most) limit ended u l h =
    ap (items_by limit most ended) (item_is limit ended u item h.0 h.1)
    ∙ ap (λ is. item ∷ is) (items_up_to_are items most limit ended h.0 (omega (arith, l, item_shorter limit ended u item h.0 h.1)) h.2)

pub items_are : (limit : ℕ) (ended : Bool) (u : Unread) (items : List Item) → AreItems limit ended u items → items_of limit ended u ≡ items
items_are limit ended u items h = items_up_to_are items (length u.bytes) limit ended u (omega arith) h

none_left : (limit : ℕ) (ended : Bool) (u : Unread) (r : Option Taken) → length u.bytes ≤ 0 → Took limit ended u r → HasNoItem limit ended u
none_left limit ended u None l h = h
none_left limit ended u (Some t) l h = absurd (omega (arith, l, item_shorter limit ended u t.item t.rest h))

one_more : (limit most : ℕ) (ended : Bool) (u : Unread) (r : Option Taken) → length u.bytes ≤ suc most → Took limit ended u r
    → ((rest : Unread) → length rest.bytes ≤ most → AreItems limit ended rest (items_up_to limit most ended rest))
    → AreItems limit ended u (items_by limit most ended r)
one_more limit most ended u None l h ih = h
one_more limit most ended u (Some t) l h ih = (t.rest, h, ih t.rest (omega (arith, l, item_shorter limit ended u t.item t.rest h)))

items_up_to_computed : (most limit : ℕ) (ended : Bool) (u : Unread) → 0 < limit → length u.bytes ≤ most
    → AreItems limit ended u (items_up_to limit most ended u)
items_up_to_computed zero limit ended u z l = none_left limit ended u (next_item limit ended u) l (taken_computed limit ended u z)
items_up_to_computed (suc most) limit ended u z l =
    one_more limit most ended u (next_item limit ended u) l (taken_computed limit ended u z)
    (λ rest k. items_up_to_computed most limit ended rest z k)

pub items_computed : (limit : ℕ) (ended : Bool) (u : Unread) → 0 < limit → AreItems limit ended u (items_of limit ended u)
items_computed limit ended u z = items_up_to_computed (length u.bytes) limit ended u z (omega arith)

-- ---- the end of the input

end_is_of : (limit : ℕ) (u : Unread) (end : InputEnd) → IsEnd limit u end → (HasNoItem limit true u)
    × (end_of_found (first_of limit u) ≡ end)
end_is_of limit u Clean h = (inl h, ap end_of_found (first_is limit u nothing h))
end_is_of limit u (Truncated from) h = (inr (inl (from, h)), ap end_of_found (first_is limit u (unfinished from) h))

abbrev end_by : ℕ → ℕ → Unread → Option Taken → InputEnd
end_by limit most u r = elim r [ None ↦ end_of_found (first_of limit u) | Some t ↦ end_up_to limit most t.rest ]

end_up_to_is : (items : List Item) (most limit : ℕ) (u : Unread) (end : InputEnd) → length u.bytes ≤ most → EndsAs limit u items end
    → end_up_to limit most u ≡ end
end_up_to_is [] zero limit u end l h = (end_is_of limit u end h).1
end_up_to_is [] (suc most) limit u end l h = let e = end_is_of limit u end h in ap (end_by limit most u) (no_item_is limit true u e.0) ∙ e.1
end_up_to_is (item ∷ items) zero limit u end l h = absurd (omega (arith, l, item_shorter limit true u item h.0 h.1))
end_up_to_is (item ∷ items) (suc most) limit u end l h =
    ap (end_by limit most u) (item_is limit true u item h.0 h.1)
    ∙ end_up_to_is items most limit h.0 end (omega (arith, l, item_shorter limit true u item h.0 h.1)) h.2

pub end_is : (limit : ℕ) (u : Unread) (items : List Item) (end : InputEnd) → EndsAs limit u items end → end_of limit u ≡ end
end_is limit u items end h = end_up_to_is items (length u.bytes) limit u end (omega arith) h

pub no_item_end : (limit : ℕ) (u : Unread) → HasNoItem limit true u → IsEnd limit u (end_of_found (first_of limit u))
no_item_end limit u (inl h) = subst (λ f. IsEnd limit u (end_of_found f)) (sym (first_is limit u nothing h)) h
no_item_end limit u (inr (inl h)) = subst (λ f. IsEnd limit u (end_of_found f)) (sym (first_is limit u (unfinished h.0) h.1)) h.1
no_item_end limit u (inr (inr h)) = absurd (true≢false h.3)

items_end : (items : List Item) (limit : ℕ) (u : Unread) → AreItems limit true u items → (end : InputEnd) × EndsAs limit u items end
items_end [] limit u h = (end_of_found (first_of limit u), no_item_end limit u h)
items_end (item ∷ items) limit u h = let r = items_end items limit h.0 h.2 in (r.0, (h.0, h.1, r.1))

pub end_computed : (limit : ℕ) (u : Unread) → 0 < limit → EndsAs limit u (items_of limit true u) (end_of limit u)
end_computed limit u z =
    let r = items_end (items_of limit true u) limit u (items_computed limit true u z) in
    subst (EndsAs limit u (items_of limit true u)) (sym (end_is limit u (items_of limit true u) r.0 r.1)) r.1
