-- What an edit and a removal make of the flat list, and when each is answered.
use Rattle.std.proofs.Common.{
  ◌≡◌,
  ℕ,
  nat_eq,
  ◌||◌,
  List,
  [],
  ◌∷◌,
  ◌++◌,
  Bool,
  true,
  false,
  if◌then◌else◌,
  refl,
  sym,
  ap,
  subst,
  ◌∙◌,
  append-nil,
}
use Rattle.line_theory.specs.Lists.{has, Distinct, IsCut}
use Rattle.line_theory.specs.Shapes.{Item, lone, block, End, closed, proof, Focus, last, zone}
use Rattle.line_theory.specs.Lines.{
  Closing,
  Line,
  empty,
  items_ids,
  item_ids,
  end_ids,
  front_of,
  back_of,
  front,
  back,
  ids,
  Spot,
  at_lone,
  at_lemma,
  at_inner,
  at_closer,
  missing,
  locate,
  dropped,
  zoned,
  OpensAt,
  OpensIn,
  DropsIn,
  Drops,
}
use Rattle.line_theory.specs.Edits.{
  Seat,
  among,
  open_lemma,
  open_inner,
  behind,
  nowhere,
  in_focus,
  seat_or,
  seat,
  Edited,
  changed,
  zone_open,
  unknown,
  IfChanged,
  takes_zone,
  edited_among,
  edited_open,
  edited_at,
  edited,
  line_of,
  reentered,
  shortened,
  removed_at,
  removed,
  cancel_step,
  cancelled,
  Cancelled,
}
use Rattle.line_theory.specs.Placed.{IsSpot, IsCutBehind, IsCutFrom, IsKept, ByPlace}
use Rattle.line_theory.proofs.Lists.{no, test_same, has_left, has_right, left_true, right_true, absent_join, cut_distinct}
use Rattle.line_theory.proofs.Folded.{items_join}
use Rattle.line_theory.proofs.Placed.{IsOpen, IsSeat, IsSeated, seated_is}
use Rattle.line_theory.proofs.Words.{
  around,
  dropped_behind,
  zoned_behind,
  behind_lone,
  behind_lemma,
  behind_inner,
  behind_closer,
  zone_inner,
  open_inner_part,
  open_lemma_part,
}

-- ---- an id that is found is there

abbrev pub IsFound : Spot → Type 0
IsFound (at_lone a t) = Unit {0}
IsFound (at_lemma a b c t) = Unit {0}
IsFound (at_inner a l f k c t) = Unit {0}
IsFound (at_closer a l b c t) = Unit {0}
IsFound missing = ⊥

has_item : (i : ℕ) (xs a t : List (Item ℕ Closing)) (x : Item ℕ Closing) → xs ≡ a ++ (x ∷ t) → has i (item_ids x) ≡ true
    → has i (items_ids xs) ≡ true
has_item i xs a t x e h = ap (λ z. has i (items_ids z)) e ∙ ap (has i) (items_join a (x ∷ t))
    ∙ has_right i (items_ids a) (item_ids x ++ items_ids t) (has_left i (item_ids x) (items_ids t) h)

has_here : (i : ℕ) (f k : List ℕ) → has i (f ++ (i ∷ k)) ≡ true
has_here i f k = has_right i f (i ∷ k) (left_true (nat_eq i i) (has i k) (test_same i))

has_within : (i l : ℕ) (f k : List ℕ) → has i (l ∷ (f ++ (i ∷ k))) ≡ true
has_within i l f k = right_true (nat_eq i l) (has i (f ++ (i ∷ k))) (has_here i f k)

spot_has : (i : ℕ) (xs : List (Item ℕ Closing)) (s : Spot) → IsSpot i xs s → IsFound s → has i (items_ids xs) ≡ true
spot_has i xs (at_lone a t) h k = has_item i xs a t (lone i) h (left_true (nat_eq i i) false (test_same i))
spot_has i xs (at_lemma a b c t) h k = has_item i xs a t (block i b c) h (left_true (nat_eq i i) (has i (b ++ (c.id ∷ []))) (test_same i))
spot_has i xs (at_inner a l f x c t) h k = has_item i xs a t (block l (f ++ (i ∷ x)) c) h
    (right_true (nat_eq i l) (has i ((f ++ (i ∷ x)) ++ (c.id ∷ []))) (has_left i (f ++ (i ∷ x)) (c.id ∷ []) (has_here i f x)))
spot_has i xs (at_closer a l b c t) h k = has_item i xs a t (block l b c) h.0 (ap (λ z. nat_eq z l || has z (b ++ (c.id ∷ [])))
    h.1 ∙ right_true (nat_eq c.id l) (has c.id (b ++ (c.id ∷ []))) (has_here c.id b []))
spot_has i xs missing h k = absurd k

-- the ids of an open block that has an id have it
open_has : (i l : ℕ) (b : List ℕ) (f : Focus ℕ Closing) → IsOpen f l b → has i (l ∷ b) ≡ true → has i (front_of f) ≡ true
open_has i l b (last closed) o h = absurd o
open_has i l b (last (proof m g)) o h = (λ j. has i (o.0 j ∷ o.1 j)) ∙ h
open_has i l b (zone m g c t x) o h = (λ j. has i (o.0 j ∷ o.1 j)) ∙ h

in_front : (i : ℕ) (d : Line) → has i (front d) ≡ true → has i (ids d) ≡ true
in_front i d h = has_left i (front d) (back d) h

-- ---- edit

opens_at : (s : Spot) → takes_zone s ≡ true → OpensAt s
opens_at (at_lone a t) h = no h
opens_at (at_lemma a b c t) h = h
opens_at (at_inner a l f k c t) h = h
opens_at (at_closer a l b c t) h = no h
opens_at missing h = no h

drops_items : (i : ℕ) (d : Line) → has i (items_ids d.items) ≡ true → Drops i d
drops_items i d h n = (in_front i d (has_left i (items_ids d.items) (front_of d.focus) h), go d.focus)
  where
    go : (f : Focus ℕ Closing) → DropsIn i d.items f
    go (last o) = tt
    go (zone l b c t o) = h

module _ (i : ℕ) (d : Line) (n : nat_eq i 1 ≡ false) where
  among_behind : (s : Spot) (f : Focus ℕ Closing) → d.focus ≡ f → locate i d.items ≡ s
      → IsSpot i d.items s → IsFound s → IsCutBehind i d (edited_among i s d f)
  among_behind s (last o) e q h k = go (takes_zone s) refl
    where
      go : (t : Bool) → takes_zone s ≡ t → IsCutBehind i d (if t then zoned i d else dropped i d)
      go true r = zoned_behind i d (subst (λ f. OpensIn i d.items f) (sym e) (subst OpensAt (sym q) (opens_at s r)))
      go false r = (dropped_behind i d n (drops_items i d (spot_has i d.items s h k))).0
  among_behind s (zone l b c t o) e q h k = (dropped_behind i d n (drops_items i d (spot_has i d.items s h k))).0

  open_behind : (f : Focus ℕ Closing) (l : ℕ) (b : List ℕ) → d.focus ≡ f → IsOpen f l b → has i (l ∷ b) ≡ true
      → IsCutBehind i d (edited_open i d f)
  open_behind (last closed) l b e o h = absurd o
  open_behind (last (proof m g)) l b e o h = (dropped_behind i d n (λ k. (
    in_front i d (has_right i (items_ids d.items) (front_of d.focus) (ap (λ z. has i (front_of z)) e ∙
        open_has i l b (last (proof m g)) o h)),
    subst (λ z. DropsIn i d.items z) (sym e) tt,
  ))).0
  open_behind (zone m g c t x) l b e o h =
      zoned_behind i d (subst (λ f. OpensIn i d.items f) (sym e) (open_has i l b (zone m g c t x) o h))

  seat_behind : (x : Seat) → IsSeat i d.items d.focus x → IfChanged (IsCutBehind i d) (edited_at i x d)
  seat_behind (among s) h = absurd h
  seat_behind (open_lemma l b) h = open_behind d.focus l b refl h.0 (left_true (nat_eq i l) (has i b)
      (ap (λ z. nat_eq i z) (sym h.1) ∙ test_same i))
  seat_behind (open_inner l g k) h = open_behind d.focus l (g ++ (i ∷ k)) refl h (has_within i l g k)
  seat_behind (behind c) h = tt
  seat_behind nowhere h = tt

  pub edited_behind : IfChanged (IsCutBehind i d) (edited i d)
  edited_behind = go (nat_eq i 1) n
    where
      at : (s : Spot) → locate i d.items ≡ s → IsSeated i d s (in_focus i d.focus)
          → IfChanged (IsCutBehind i d) (edited_at i (seat_or s (in_focus i d.focus)) d)
      at (at_lone a t) e h = among_behind (at_lone a t) d.focus refl e h tt
      at (at_lemma a b c t) e h = among_behind (at_lemma a b c t) d.focus refl e h tt
      at (at_inner a l f k c t) e h = among_behind (at_inner a l f k c t) d.focus refl e h tt
      at (at_closer a l b c t) e h = among_behind (at_closer a l b c t) d.focus refl e h tt
      at missing e h = seat_behind (in_focus i d.focus) h.1

      go : (t : Bool) → t ≡ false → IfChanged (IsCutBehind i d) (if t then changed empty else edited_at i (seat i d) d)
      go true e = no (sym e)
      go false e = at (locate i d.items) refl (seated_is i d)

-- ---- removal

module _ (i : ℕ) (d : Line) where
  -- the front of a block stays
  reentered_from : (a t : List (Item ℕ Closing)) (l : ℕ) (f k : List ℕ) (c : Closing) → d.items ≡ a ++ (block l (f ++ (i ∷ k)) c ∷ t)
      → IsCutFrom i d (reentered d.focus a l f c t)
  reentered_from a t l f k c h = at d.focus refl
    where
      left : IsCutFrom i d (line_of a (last (proof l f)))
      left = record {
        before = items_ids a ++ (l ∷ f);
        gone = k ++ (c.id ∷ (items_ids t ++ (front_of d.focus ++ back_of d.focus)));
        was = around d a t (block l (f ++ (i ∷ k)) c) h
            ∙ behind_inner (items_ids a) f k (items_ids t) (front_of d.focus ++ back_of d.focus) l i c.id;
        front = refl;
      }

      go : (o : End ℕ) → d.focus ≡ last o → (r : Bool)
          → IsCutFrom i d (if r then line_of a (zone l f c t o) else line_of a (last (proof l f)))
      go o e true = record {
        before = items_ids a ++ (l ∷ f);
        gone = k;
        was = around d a t (block l (f ++ (i ∷ k)) c) h
            ∙ ap (λ z. (items_ids a ++ ((l ∷ ((f ++ (i ∷ k)) ++ (c.id ∷ []))) ++ items_ids t)) ++ (front_of z ++ back_of z)) e
            ∙ ap (λ z. (items_ids a ++ ((l ∷ ((f ++ (i ∷ k)) ++ (c.id ∷ []))) ++ items_ids t)) ++ z) (append-nil (end_ids o))
            ∙ zone_inner (items_ids a) f k (items_ids t) (end_ids o) l i c.id;
        front = refl;
      }
      go o e false = left

      at : (g : Focus ℕ Closing) → d.focus ≡ g → IsCutFrom i d (reentered g a l f c t)
      at (last o) e = go o e c.opaque
      at (zone m b x u o) e = left

  open_from : (g : Focus ℕ Closing) → d.focus ≡ g → (l : ℕ) (b : List ℕ) → IsOpen g l b → i ≡ l
      → IsCutFrom i d (line_of d.items (last closed))
  open_from (last closed) e l b o q = absurd o
  open_from (last (proof m f)) e l b o q = record {
    before = items_ids d.items;
    gone = f;
    was = ap (λ z. (items_ids d.items ++ front_of z) ++ back_of z) e ∙ open_lemma_part (items_ids d.items) f [] m
        ∙ ap (λ z. items_ids d.items ++ (z ∷ (f ++ []))) (o.0 ∙ sym q);
    front = append-nil (items_ids d.items);
  }
  open_from (zone m f c t x) e l b o q = record {
    before = items_ids d.items;
    gone = f ++ (c.id ∷ (items_ids t ++ end_ids x));
    was = ap (λ z. (items_ids d.items ++ front_of z) ++ back_of z) e
        ∙ open_lemma_part (items_ids d.items) f (c.id ∷ (items_ids t ++ end_ids x)) m
        ∙ ap (λ z. items_ids d.items ++ (z ∷ (f ++ (c.id ∷ (items_ids t ++ end_ids x))))) (o.0 ∙ sym q)
        ∙ ap (λ z. items_ids d.items ++ (i ∷ z)) (sym (append-nil (f ++ (c.id ∷ (items_ids t ++ end_ids x)))));
    front = append-nil (items_ids d.items);
  }

  shortened_from : (g : Focus ℕ Closing) → d.focus ≡ g → (l : ℕ) (f k : List ℕ) → IsOpen g l (f ++ (i ∷ k))
      → IsCutFrom i d (line_of d.items (shortened g f))
  shortened_from (last closed) e l f k o = absurd o
  shortened_from (last (proof m b)) e l f k o = record {
    before = items_ids d.items ++ (m ∷ f);
    gone = k;
    was = ap (λ z. (items_ids d.items ++ front_of z) ++ back_of z) e ∙ ap (λ z. (items_ids d.items ++ (m ∷ z)) ++ []) o.1
        ∙ open_inner_part (items_ids d.items) f k [] m i;
    front = refl;
  }
  shortened_from (zone m b c t x) e l f k o = record {
    before = items_ids d.items ++ (m ∷ f);
    gone = k;
    was = ap (λ z. (items_ids d.items ++ front_of z) ++ back_of z) e
        ∙ ap (λ z. (items_ids d.items ++ (m ∷ z)) ++ (c.id ∷ (items_ids t ++ end_ids x))) o.1
        ∙ open_inner_part (items_ids d.items) f k (c.id ∷ (items_ids t ++ end_ids x)) m i;
    front = refl;
  }

  seat_from : (x : Seat) → IsSeat i d.items d.focus x → IfChanged (IsCutFrom i d) (removed_at x d)
  seat_from (among s) h = absurd h
  seat_from (open_lemma l b) h = open_from d.focus refl l b h.0 h.1
  seat_from (open_inner l f k) h = shortened_from d.focus refl l f k h
  seat_from (behind c) h = tt
  seat_from nowhere h = tt

  pub removed_from : IfChanged (IsCutFrom i d) (removed i d)
  removed_from = at (locate i d.items) (seated_is i d)
    where
      lone_from : (a t : List (Item ℕ Closing)) → d.items ≡ a ++ (lone i ∷ t) → IsCutFrom i d (line_of a (last closed))
      lone_from a t h = record {
        before = items_ids a;
        gone = items_ids t ++ (front_of d.focus ++ back_of d.focus);
        was = around d a t (lone i) h ∙ behind_lone (items_ids a) (items_ids t) (front_of d.focus ++ back_of d.focus) i;
        front = append-nil (items_ids a);
      }

      lemma_from : (a t : List (Item ℕ Closing)) (b : List ℕ) (c : Closing) → d.items ≡ a ++ (block i b c ∷ t)
          → IsCutFrom i d (line_of a (last closed))
      lemma_from a t b c h = record {
        before = items_ids a;
        gone = b ++ (c.id ∷ (items_ids t ++ (front_of d.focus ++ back_of d.focus)));
        was = around d a t (block i b c) h ∙ behind_lemma (items_ids a) b (items_ids t) (front_of d.focus ++ back_of d.focus) i c.id;
        front = append-nil (items_ids a);
      }

      closer_from : (a t : List (Item ℕ Closing)) (l : ℕ) (b : List ℕ) (c : Closing) → d.items ≡ a ++ (block l b c ∷ t) → i ≡ c.id
          → IsCutFrom i d (line_of a (last (proof l b)))
      closer_from a t l b c h e = record {
        before = items_ids a ++ (l ∷ b);
        gone = items_ids t ++ (front_of d.focus ++ back_of d.focus);
        was = around d a t (block l b c) h ∙ behind_closer (items_ids a) b (items_ids t) (front_of d.focus ++ back_of d.focus) l c.id
            ∙ ap (λ z. (items_ids a ++ (l ∷ b)) ++ (z ∷ ((items_ids t ++ (front_of d.focus ++ back_of d.focus)) ++ []))) (sym e);
        front = refl;
      }

      at : (s : Spot) → IsSeated i d s (in_focus i d.focus) → IfChanged (IsCutFrom i d) (removed_at (seat_or s (in_focus i d.focus)) d)
      at (at_lone a t) h = lone_from a t h
      at (at_lemma a b c t) h = lemma_from a t b c h
      at (at_inner a l f k c t) h = reentered_from a t l f k c h
      at (at_closer a l b c t) h = closer_from a t l b c h.0 h.1
      at missing h = seat_from (in_focus i d.focus) h.1

-- ---- a cut from an id is one piece that goes

pub from_cut : (i : ℕ) (d e : Line) → IsCutFrom i d e → IsCut (ids d) (ids e)
from_cut i d e c = record {
  front = c.before;
  gone = i ∷ c.gone;
  back = back e;
  was = c.was;
  is = ap (λ z. z ++ back e) c.front;
}

-- ---- when each is answered

spot_place : (i : ℕ) (d : Line) (s : Spot) → IsSpot i d.items s → IsFound s → has i (front d) ≡ true
spot_place i d s h k = has_left i (items_ids d.items) (front_of d.focus) (spot_has i d.items s h k)

open_place : (i : ℕ) (d : Line) (l : ℕ) (b : List ℕ) → IsOpen d.focus l b → has i (l ∷ b) ≡ true → has i (front d) ≡ true
open_place i d l b o h = has_right i (items_ids d.items) (front_of d.focus) (open_has i l b d.focus o h)

kept_place : (i : ℕ) (d : Line) (c : ℕ) → has i (items_ids d.items) ≡ false
    → IsKept d.focus c × ((has i (front_of d.focus) ≡ false) × (has i (back_of d.focus) ≡ true))
    → IsKept d.focus c × ((has i (front d) ≡ false) × (has i (back d) ≡ true))
kept_place i d c n h = (h.0, (absent_join i (items_ids d.items) (front_of d.focus) n h.1.0, h.1.1))

none_place : (i : ℕ) (d : Line) → has i (items_ids d.items) ≡ false
    → (has i (front_of d.focus) ≡ false) × (has i (back_of d.focus) ≡ false) → has i (ids d) ≡ false
none_place i d n h = absent_join i (front d) (back d) (absent_join i (items_ids d.items) (front_of d.focus) n h.0) h.1

edited_seat : (i : ℕ) (d : Line) (x : Seat) → has i (items_ids d.items) ≡ false → IsSeat i d.items d.focus x
    → ByPlace i d (edited_at i x d)
edited_seat i d (among s) n h = absurd h
edited_seat i d (open_lemma l b) n h = open_place i d l b h.0 (left_true (nat_eq i l) (has i b) (ap (λ z. nat_eq i z) (sym h.1)
    ∙ test_same i))
edited_seat i d (open_inner l f k) n h = open_place i d l (f ++ (i ∷ k)) h (has_within i l f k)
edited_seat i d (behind c) n h = kept_place i d c n h
edited_seat i d nowhere n h = none_place i d n h

removed_seat : (i : ℕ) (d : Line) (x : Seat) → has i (items_ids d.items) ≡ false → IsSeat i d.items d.focus x
    → ByPlace i d (removed_at x d)
removed_seat i d (among s) n h = absurd h
removed_seat i d (open_lemma l b) n h = open_place i d l b h.0 (left_true (nat_eq i l) (has i b) (ap (λ z. nat_eq i z) (sym h.1)
    ∙ test_same i))
removed_seat i d (open_inner l f k) n h = open_place i d l (f ++ (i ∷ k)) h (has_within i l f k)
removed_seat i d (behind c) n h = kept_place i d c n h
removed_seat i d nowhere n h = none_place i d n h

pub edited_place : (i : ℕ) (d : Line) → nat_eq i 1 ≡ false → ByPlace i d (edited i d)
edited_place i d n = go (nat_eq i 1) n
  where
    at : (s : Spot) → IsSeated i d s (in_focus i d.focus) → ByPlace i d (edited_at i (seat_or s (in_focus i d.focus)) d)
    at (at_lone a t) h = spot_place i d (at_lone a t) h tt
    at (at_lemma a b c t) h = spot_place i d (at_lemma a b c t) h tt
    at (at_inner a l f k c t) h = spot_place i d (at_inner a l f k c t) h tt
    at (at_closer a l b c t) h = spot_place i d (at_closer a l b c t) h tt
    at missing h = edited_seat i d (in_focus i d.focus) h.0 h.1

    go : (t : Bool) → t ≡ false → ByPlace i d (if t then changed empty else edited_at i (seat i d) d)
    go true e = no (sym e)
    go false e = at (locate i d.items) (seated_is i d)

pub removed_place : (i : ℕ) (d : Line) → ByPlace i d (removed i d)
removed_place i d = at (locate i d.items) (seated_is i d)
  where
    at : (s : Spot) → IsSeated i d s (in_focus i d.focus) → ByPlace i d (removed_at (seat_or s (in_focus i d.focus)) d)
    at (at_lone a t) h = spot_place i d (at_lone a t) h tt
    at (at_lemma a b c t) h = spot_place i d (at_lemma a b c t) h tt
    at (at_inner a l f k c t) h = spot_place i d (at_inner a l f k c t) h tt
    at (at_closer a l b c t) h = spot_place i d (at_closer a l b c t) h tt
    at missing h = removed_seat i d (in_focus i d.focus) h.0 h.1

-- ---- Cancel

step_distinct : (i : ℕ) (d : Line) (e : Edited) (more : Line → Cancelled) → Distinct (ids d) → IfChanged (IsCutFrom i d) e
    → ((e : Line) → Distinct (ids e) → Distinct (ids (more e).line)) → Distinct (ids (cancel_step i d e more).line)
step_distinct i d unknown more h c f = f d h
step_distinct i d (zone_open k) more h c f = h
step_distinct i d (changed e) more h c f = f e (cut_distinct (ids d) (ids e) (from_cut i d e c) h)

pub cancelled_distinct : (is : List ℕ) (d : Line) → Distinct (ids d) → Distinct (ids (cancelled is d).line)
cancelled_distinct [] d h = h
cancelled_distinct (i ∷ is) d h = step_distinct i d (removed i d) (cancelled is) h (removed_from i d) (cancelled_distinct is)
