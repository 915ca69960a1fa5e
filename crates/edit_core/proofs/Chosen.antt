-- An edit and a removal, by what the id is and whether a zone is open.
use Rattle.std.proofs.Common.{◌≡◌, ℕ, nat_eq, ◌||◌, List, [], ◌∷◌, ◌++◌, Bool, true, false, if◌then◌else◌, refl, sym, ap, subst, ◌∙◌, arith}
use Rattle.std.proofs.lemmas.Bool.Decides.{nat_tests}
use Rattle.std.specs.Prelude.{is_some}
use Rattle.line_theory.specs.Lists.{has}
use Rattle.line_theory.specs.Shapes.{Item, lone, block, End, closed, proof, Focus, last, zone}
use Rattle.line_theory.specs.Lines.{
  Closing,
  Line,
  items_ids,
  item_ids,
  empty,
  front_of,
  front,
  back,
  ids,
  zone_in,
  Spot,
  at_lone,
  at_lemma,
  at_inner,
  at_closer,
  missing,
  locate,
  dropped,
  zoned,
  OpensAt,
  OpensIn,
  Opens,
  DropsIn,
  Drops,
}
use Rattle.line_theory.specs.Edits.{
  Seat,
  among,
  open_lemma,
  open_inner,
  behind,
  nowhere,
  in_focus,
  seat_or,
  seat,
  Edited,
  changed,
  zone_open,
  unknown,
  edited_among,
  edited_open,
  edited_at,
  edited,
  line_of,
  reentered,
  shortened,
  removed_at,
  removed,
}
use Rattle.line_theory.proofs.Lists.{no, test_same, has_left, has_right, left_true, right_true}
use Rattle.line_theory.proofs.Folded.{items_join}
use Rattle.line_theory.proofs.Placed.{IsOpen, IsSeat, IsSeated, seated_is}
use Rattle.vcs_graph.specs.declared.site.Site.TheVariants.{Nowhere, Lemma, Inner, Behind}
use Rattle.vcs_graph.specs.Sites.{seat_site}
use Rattle.vcs_graph.specs.Removals.{Stands, cleared, cleared_at, NarrowsIn, Narrows, narrowed, narrowed_at}
use Rattle.edit_core.specs.Choices.{opens_zone, narrows}

-- ---- an id that is found is there

has_item : (i : ℕ) (xs a t : List (Item ℕ Closing)) (x : Item ℕ Closing) → xs ≡ a ++ (x ∷ t) → has i (item_ids x) ≡ true →
    has i (items_ids xs) ≡ true
has_item i xs a t x e h = ap (λ z. has i (items_ids z)) e ∙ ap (has i) (items_join a (x ∷ t)) ∙
    has_right i (items_ids a) (item_ids x ++ items_ids t) (has_left i (item_ids x) (items_ids t) h)

has_here : (i : ℕ) (f k : List ℕ) → has i (f ++ (i ∷ k)) ≡ true
has_here i f k = has_right i f (i ∷ k) (left_true (nat_eq i i) (has i k) (test_same i))

has_within : (i l : ℕ) (f k : List ℕ) → has i (l ∷ (f ++ (i ∷ k))) ≡ true
has_within i l f k = right_true (nat_eq i l) (has i (f ++ (i ∷ k))) (has_here i f k)

has_lone : (i : ℕ) (xs a t : List (Item ℕ Closing)) → xs ≡ a ++ (lone i ∷ t) → has i (items_ids xs) ≡ true
has_lone i xs a t h = has_item i xs a t (lone i) h (left_true (nat_eq i i) false (test_same i))

has_lemma : (i : ℕ) (xs a t : List (Item ℕ Closing)) (b : List ℕ) (c : Closing) → xs ≡ a ++ (block i b c ∷ t) → has i (items_ids xs) ≡ true
has_lemma i xs a t b c h = has_item i xs a t (block i b c) h (left_true (nat_eq i i) (has i (b ++ (c.id ∷ []))) (test_same i))

has_inner : (i l : ℕ) (xs a t : List (Item ℕ Closing)) (f k : List ℕ) (c : Closing) → xs ≡ a ++ (block l (f ++ (i ∷ k)) c ∷ t) →
    has i (items_ids xs) ≡ true
has_inner i l xs a t f k c h = has_item i xs a t (block l (f ++ (i ∷ k)) c) h
    (right_true (nat_eq i l) (has i ((f ++ (i ∷ k)) ++ (c.id ∷ []))) (has_left i (f ++ (i ∷ k)) (c.id ∷ []) (has_here i f k)))

has_closer : (i l : ℕ) (xs a t : List (Item ℕ Closing)) (b : List ℕ) (c : Closing) → xs ≡ a ++ (block l b c ∷ t) → i ≡ c.id →
    has i (items_ids xs) ≡ true
has_closer i l xs a t b c h e = has_item i xs a t (block l b c) h (ap (λ z. nat_eq z l || has z (b ++ (c.id ∷ []))) e ∙
    right_true (nat_eq c.id l) (has c.id (b ++ (c.id ∷ []))) (has_here c.id b []))

in_front : (i : ℕ) (d : Line) → has i (front d) ≡ true → has i (ids d) ≡ true
in_front i d h = has_left i (front d) (back d) h

in_items : (i : ℕ) (d : Line) → has i (items_ids d.items) ≡ true → has i (ids d) ≡ true
in_items i d h = in_front i d (has_left i (items_ids d.items) (front_of d.focus) h)

in_open : (i : ℕ) (d : Line) → has i (front_of d.focus) ≡ true → has i (ids d) ≡ true
in_open i d h = in_front i d (has_right i (items_ids d.items) (front_of d.focus) h)

open_has : (i l : ℕ) (b : List ℕ) (f : Focus ℕ Closing) → IsOpen f l b → has i (l ∷ b) ≡ true → has i (front_of f) ≡ true
open_has i l b (last closed) o h = absurd o
open_has i l b (last (proof m g)) o h = (λ j. has i (o.0 j ∷ o.1 j)) ∙ h
open_has i l b (zone m g c t x) o h = (λ j. has i (o.0 j ∷ o.1 j)) ∙ h

-- ---- edit

-- a zone is opened
abbrev pub Zones : ℕ → Line → Edited → Type 0
Zones i d e = (has i (ids d) ≡ true) × (Opens i d × (e ≡ changed (zoned i d)))

-- the line is cut
abbrev pub Cuts : ℕ → Line → Edited → Type 0
Cuts i d e = Drops i d × (e ≡ changed (dropped i d))

opens_block : (i : ℕ) (d : Line) (s : Spot) (q : Bool) (f : Focus ℕ Closing) → d.focus ≡ f → has i (items_ids d.items) ≡ true →
    (q ≡ true → OpensAt (locate i d.items)) → ((o : End ℕ) → f ≡ last o → q ≡ true → edited_among i s d f ≡ zoned i d)
    → opens_zone (Lemma q) (is_some (zone_in f)) ≡ true → (has i (ids d) ≡ true) ×
    (OpensIn i d.items f × (edited_among i s d f ≡ zoned i d))
opens_block i d s q (last o) e h u v k = (in_items i d h, (u k, v o refl k))
opens_block i d s q (zone l b c t o) e h u v k = no k

zones_open : (i : ℕ) (d : Line) (l : ℕ) (b : List ℕ) (f : Focus ℕ Closing) → d.focus ≡ f → IsOpen f l b → has i (l ∷ b) ≡ true →
    is_some (zone_in f) ≡ true
    → (has i (ids d) ≡ true) × (OpensIn i d.items f × (edited_open i d f ≡ zoned i d))
zones_open i d l b (last o) e w h k = no k
zones_open i d l b (zone m g c t o) e w h k =
    let r = open_has i l b (zone m g c t o) w h in
    (in_open i d (ap (λ z. has i (front_of z)) e ∙ r), (r, refl))

zones_seat : (i : ℕ) (d : Line) (x : Seat) → IsSeat i d.items d.focus x → opens_zone (seat_site x) (is_some (zone_in d.focus))
    ≡ true → Zones i d (edited_at i x d)
zones_seat i d (among s) w k = absurd w
zones_seat i d (open_lemma l b) w k =
    let r = zones_open i d l b d.focus refl w.0 (left_true (nat_eq i l) (has i b) (ap (λ z. nat_eq i z) (sym w.1) ∙
    test_same i)) k in (r.0, (r.1.0, ap changed r.1.1))
zones_seat i d (open_inner l f g) w k = let r = zones_open i d l (f ++ (i ∷ g)) d.focus refl w (has_within i l f g) k in
    (r.0, (r.1.0, ap changed r.1.1))
zones_seat i d (behind c) w k = no k
zones_seat i d nowhere w k = no k

pub zones : (i : ℕ) (d : Line) → opens_zone (seat_site (seat i d)) (is_some (zone_in d.focus)) ≡ true → Zones i d (edited_at i (seat i d) d)
zones i d k = at (locate i d.items) refl (seated_is i d) k
  where
    at : (s : Spot) → locate i d.items ≡ s → IsSeated i d s (in_focus i d.focus) →
        opens_zone (seat_site (seat_or s (in_focus i d.focus))) (is_some (zone_in d.focus)) ≡ true →
        Zones i d (edited_at i (seat_or s (in_focus i d.focus)) d)
    at (at_lone a t) e h k = no k
    at (at_closer a l b c t) e h k = no k
    at (at_lemma a b c t) e h k =
        let r = opens_block i d (at_lemma a b c t) c.opaque d.focus refl (has_lemma i d.items a t b c h)
        (λ q. subst OpensAt (sym e) q) (λ o f q. ap (λ z. edited_among i (at_lemma a b c t) d z) f ∙
        ap (λ z. if z then zoned i d else dropped i d) q) k in
        (r.0, (r.1.0, ap changed r.1.1))
    at (at_inner a l f g c t) e h k =
        let r = opens_block i d (at_inner a l f g c t) c.opaque d.focus refl (has_inner i l d.items a t f g c h)
        (λ q. subst OpensAt (sym e) q) (λ o y q. ap (λ z. edited_among i (at_inner a l f g c t) d z) y ∙
        ap (λ z. if z then zoned i d else dropped i d) q) (same (is_some (zone_in d.focus)) c.opaque k) in
        (r.0, (r.1.0, ap changed r.1.1))
      where
        same : (z q : Bool) → opens_zone (Inner q) z ≡ true → opens_zone (Lemma q) z ≡ true
        same true q k = k
        same false q k = k
    at missing e h k = zones_seat i d (in_focus i d.focus) h.1 k

cuts_items : (i : ℕ) (d : Line) → has i (items_ids d.items) ≡ true → Drops i d
cuts_items i d h n = (in_items i d h, go d.focus)
  where
    go : (f : Focus ℕ Closing) → DropsIn i d.items f
    go (last o) = tt
    go (zone l b c t o) = h

cuts_among : (i : ℕ) (d : Line) (s : Spot) (q : Bool) (f : Focus ℕ Closing) →
    ((o : End ℕ) → edited_among i s d (last o) ≡ (if q then zoned i d else dropped i d)) →
    opens_zone (Lemma q) (is_some (zone_in f)) ≡ false → edited_among i s d f ≡ dropped i d
cuts_among i d s q (last o) u k = u o ∙ ap (λ z. if z then zoned i d else dropped i d) k
cuts_among i d s q (zone l b c t o) u k = refl

cuts_open : (i : ℕ) (d : Line) (l : ℕ) (b : List ℕ) (f : Focus ℕ Closing) → d.focus ≡ f → IsOpen f l b → has i (l ∷ b) ≡ true →
    is_some (zone_in f) ≡ false
    → (has i (ids d) ≡ true) × (DropsIn i d.items f × (edited_open i d f ≡ dropped i d))
cuts_open i d l b (last o) e w h k = (in_open i d (ap (λ z. has i (front_of z)) e ∙ open_has i l b (last o) w h), (tt, refl))
cuts_open i d l b (zone m g c t o) e w h k = no (sym k)

cuts_seat : (i : ℕ) (d : Line) (x : Seat) → IsSeat i d.items d.focus x → (seat_site x ≡ Nowhere → ⊥) →
    ((c : ℕ) → seat_site x ≡ Behind c → ⊥) → opens_zone (seat_site x) (is_some (zone_in d.focus)) ≡ false → Cuts i d (edited_at i x d)
cuts_seat i d (among s) w u v k = absurd w
cuts_seat i d (open_lemma l b) w u v k =
    let r = cuts_open i d l b d.focus refl w.0 (left_true (nat_eq i l) (has i b) (ap (λ z. nat_eq i z) (sym w.1) ∙ test_same i))
    k in (λ n. (r.0, r.1.0), ap changed r.1.1)
cuts_seat i d (open_inner l f g) w u v k = let r = cuts_open i d l (f ++ (i ∷ g)) d.focus refl w (has_within i l f g) k in
    (λ n. (r.0, r.1.0), ap changed r.1.1)
cuts_seat i d (behind c) w u v k = absurd (v c refl)
cuts_seat i d nowhere w u v k = absurd (u refl)

pub cuts : (i : ℕ) (d : Line) → (seat_site (seat i d) ≡ Nowhere → ⊥) → ((c : ℕ) → seat_site (seat i d) ≡ Behind c → ⊥) →
    opens_zone (seat_site (seat i d)) (is_some (zone_in d.focus)) ≡ false → Cuts i d (edited_at i (seat i d) d)
cuts i d u v k = at (locate i d.items) (seated_is i d) u v k
  where
    at : (s : Spot) → IsSeated i d s (in_focus i d.focus) → (seat_site (seat_or s (in_focus i d.focus)) ≡ Nowhere → ⊥) →
        ((c : ℕ) → seat_site (seat_or s (in_focus i d.focus)) ≡ Behind c → ⊥)
        → opens_zone (seat_site (seat_or s (in_focus i d.focus))) (is_some (zone_in d.focus)) ≡ false →
        Cuts i d (edited_at i (seat_or s (in_focus i d.focus)) d)
    at (at_lone a t) h u v k = (
      cuts_items i d (has_lone i d.items a t h),
      ap changed (cuts_among i d (at_lone a t) false d.focus (λ o. refl) (none (is_some (zone_in d.focus)))),
    )
      where
        none : (z : Bool) → opens_zone (Lemma false) z ≡ false
        none true = refl
        none false = refl
    at (at_closer a l b c t) h u v k = (
      cuts_items i d (has_closer i l d.items a t b c h.0 h.1),
      ap changed (cuts_among i d (at_closer a l b c t) false d.focus (λ o. refl) (none (is_some (zone_in d.focus)))),
    )
      where
        none : (z : Bool) → opens_zone (Lemma false) z ≡ false
        none true = refl
        none false = refl
    at (at_lemma a b c t) h u v k = (
      cuts_items i d (has_lemma i d.items a t b c h),
      ap changed (cuts_among i d (at_lemma a b c t) c.opaque d.focus (λ o. refl) k),
    )
    at (at_inner a l f g c t) h u v k = (
      cuts_items i d (has_inner i l d.items a t f g c h),
      ap changed (cuts_among i d (at_inner a l f g c t) c.opaque d.focus (λ o. refl) (same (is_some (zone_in d.focus)) c.opaque k)),
    )
      where
        same : (z q : Bool) → opens_zone (Inner q) z ≡ false → opens_zone (Lemma q) z ≡ false
        same true q k = k
        same false q k = k
    at missing h u v k = cuts_seat i d (in_focus i d.focus) h.1 u v k

-- ---- removal

narrow_block : (d : Line) (a : List (Item ℕ Closing)) (l : ℕ) (f g : List ℕ) (c : Closing) (t : List (Item ℕ Closing))
    (x : Focus ℕ Closing) → d.focus ≡ x → narrows (Inner c.opaque) (is_some (zone_in x)) ≡ true
    → NarrowsIn (among (at_inner a l f g c t)) x ×
    (removed_at (among (at_inner a l f g c t)) d ≡ changed (narrowed_at (among (at_inner a l f g c t)) d x))
narrow_block d a l f g c t (last o) e k = (
  k,
  ap (λ z. changed (reentered z a l f c t)) e ∙
      ap (λ z. changed (if z then line_of a (zone l f c t o) else line_of a (last (proof l f)))) k,
)
narrow_block d a l f g c t (zone m b y u o) e k = no k

narrow_open : (d : Line) (l : ℕ) (f g : List ℕ) (x : Focus ℕ Closing) → d.focus ≡ x → is_some (zone_in x) ≡ true →
    NarrowsIn (open_inner l f g) x × (removed_at (open_inner l f g) d ≡ changed (narrowed_at (open_inner l f g) d x))
narrow_open d l f g (last o) e k = no k
narrow_open d l f g (zone m b y u o) e k = (tt, ap (λ z. changed (line_of d.items (shortened z f))) e)

narrow_seat : (d : Line) (s : Seat) → narrows (seat_site s) (is_some (zone_in d.focus)) ≡ true → NarrowsIn s d.focus ×
    (removed_at s d ≡ changed (narrowed_at s d d.focus))
narrow_seat d (among (at_lone a t)) k = no k
narrow_seat d (among (at_lemma a b c t)) k = no k
narrow_seat d (among (at_inner a l f g c t)) k = narrow_block d a l f g c t d.focus refl k
narrow_seat d (among (at_closer a l b c t)) k = no k
narrow_seat d (among missing) k = no k
narrow_seat d (open_lemma l b) k = no k
narrow_seat d (open_inner l f g) k = narrow_open d l f g d.focus refl k
narrow_seat d (behind c) k = no k
narrow_seat d nowhere k = no k

-- the id goes with what stands between it and the closer, or the cursor
pub narrowing : (i : ℕ) (d : Line) → narrows (seat_site (seat i d)) (is_some (zone_in d.focus)) ≡ true → Narrows i d ×
    (removed i d ≡ changed (narrowed i d))
narrowing i d k = narrow_seat d (seat i d) k

clear_block : (d : Line) (a : List (Item ℕ Closing)) (l : ℕ) (f : List ℕ) (c : Closing) (t : List (Item ℕ Closing))
    (x : Focus ℕ Closing) → narrows (Inner c.opaque) (is_some (zone_in x)) ≡ false → reentered x a l f c t ≡ line_of a (last (proof l f))
clear_block d a l f c t (last o) k = ap (λ z. if z then line_of a (zone l f c t o) else line_of a (last (proof l f))) k
clear_block d a l f c t (zone m b y u o) k = refl

clear_open : (l : ℕ) (f b : List ℕ) (x : Focus ℕ Closing) → IsOpen x l b → is_some (zone_in x) ≡ false → shortened x f ≡ last (proof l f)
clear_open l f b (last closed) w k = absurd w
clear_open l f b (last (proof m g)) w k = ap (λ z. last (proof z f)) w.0
clear_open l f b (zone m g y u o) w k = no (sym k)

clear_seat : (i : ℕ) (d : Line) (s : Seat) → IsSeat i d.items d.focus s → (seat_site s ≡ Nowhere → ⊥) →
    ((c : ℕ) → seat_site s ≡ Behind c → ⊥) → narrows (seat_site s) (is_some (zone_in d.focus)) ≡ false → Stands s ×
    (removed_at s d ≡ changed (cleared_at s d))
clear_seat i d (among s) w u v k = absurd w
clear_seat i d (open_lemma l b) w u v k = (tt, refl)
clear_seat i d (open_inner l f g) w u v k = (tt, ap (λ z. changed (line_of d.items z)) (clear_open l f (f ++ (i ∷ g)) d.focus w k))
clear_seat i d (behind c) w u v k = absurd (v c refl)
clear_seat i d nowhere w u v k = absurd (u refl)

-- the id goes with all behind it
pub clearing : (i : ℕ) (d : Line) → (seat_site (seat i d) ≡ Nowhere → ⊥) → ((c : ℕ) → seat_site (seat i d) ≡ Behind c → ⊥) →
    narrows (seat_site (seat i d)) (is_some (zone_in d.focus)) ≡ false → Stands (seat i d) × (removed i d ≡ changed (cleared i d))
clearing i d u v k = at (locate i d.items) (seated_is i d) u v k
  where
    at : (s : Spot) → IsSeated i d s (in_focus i d.focus) → (seat_site (seat_or s (in_focus i d.focus)) ≡ Nowhere → ⊥) →
        ((c : ℕ) → seat_site (seat_or s (in_focus i d.focus)) ≡ Behind c → ⊥)
        → narrows (seat_site (seat_or s (in_focus i d.focus))) (is_some (zone_in d.focus)) ≡ false →
        Stands (seat_or s (in_focus i d.focus)) ×
        (removed_at (seat_or s (in_focus i d.focus)) d ≡ changed (cleared_at (seat_or s (in_focus i d.focus)) d))
    at (at_lone a t) h u v k = (tt, refl)
    at (at_closer a l b c t) h u v k = (tt, refl)
    at (at_lemma a b c t) h u v k = (tt, refl)
    at (at_inner a l f g c t) h u v k = (tt, ap changed (clear_block d a l f c t d.focus k))
    at missing h u v k = clear_seat i d (in_focus i d.focus) h.1 u v k

-- ---- an edit that isn't at the place before the line

pub edited_other : (i : ℕ) (d : Line) → nat_eq i 1 ≡ false → edited i d ≡ edited_at i (seat i d) d
edited_other i d h = ap (λ t. if t then changed empty else edited_at i (seat i d) d) h

pub not_same : (n : ℕ) → (n ≡ 1 → ⊥) → nat_eq n 1 ≡ false
not_same n h = grind (arith, nat_tests)
