-- Where an id stands in the line, by its place.
use Rattle.std.proofs.Common.{◌≡◌, ◌⊎◌, inl, inr, ℕ, zero, suc, ◌+◌, ◌<◌, ◌≤◌, nat_eq, List, [], ◌∷◌, ◌++◌, length, take, drop, Bool, true, false, cond, Option, Some, None, refl, sym, ap, subst, ◌∙◌, arith, append_assoc, length-append, slice_index_or}
use Rattle.std.specs.Prelude.{is_some}
use Rattle.indexmap.specs.IndexMap.{IndexMap}
use Rattle.line_theory.specs.Lists.{has}
use Rattle.line_theory.specs.Shapes.{Item, lone, block, End, closed, proof, Focus, last, zone}
use Rattle.line_theory.specs.Lines.{Closing, Line, items_ids, end_ids, ids, front_of, back_of, unfound, split, missing, locate}
use Rattle.line_theory.specs.Edits.{
  Seat,
  among,
  open_lemma,
  open_inner,
  behind,
  nowhere,
  in_inside,
  in_proof,
  in_tail,
  in_focus,
  seat_or,
  seat,
}
use Rattle.vcs_graph.specs.declared.place.Place.{Place}
use Rattle.vcs_graph.specs.declared.place.Part.{Part}
use Rattle.vcs_graph.specs.declared.place.Part.TheVariants.{First, Inside, Closer}
use Rattle.vcs_graph.specs.declared.graph.Opened.{Opened}
use Rattle.vcs_graph.specs.declared.site.Site.TheVariants.{Behind}
use Rattle.vcs_graph.specs.Table.{look, inner_places, item_places, items_places, end_places, all_places}
use Rattle.vcs_graph.specs.GraphView.{line_of, Kept}
use Rattle.vcs_graph.specs.Parts.{stop_of}
use Rattle.vcs_graph.specs.Sites.{seat_site, part_site, open_part_site, place_site}
use Rattle.vcs_graph.proofs.Places.{keys_of, keys_join, keys_has, items_keys, end_keys}
use Rattle.vcs_graph.proofs.Lookups.{eq_self, eq_is}
use Rattle.vcs_graph.proofs.Located.{spot_of, IsPart, IsEndPart, Spotted, spotted, Within, inner_look, end_spotted, found_item, found_end}
use Rattle.vcs_graph.proofs.Keeps.{ZoneAt, zone_at, zone_whole, zone_item}
use Rattle.vcs_graph.proofs.Zones.{opened_line, places_item}
use Rattle.vcs_graph.proofs.Absent.{locate_absent, split_absent}
use Rattle.line_theory.proofs.Lists.{absent_parts, not_either}
use Rattle.vcs_graph.proofs.Viewed.{kept_ids}

-- ---- among the items

pub among_of : (i : ℕ) (q : Part) (f : List (Item ℕ Closing)) (x : Item ℕ Closing) (t : List (Item ℕ Closing)) (s : Seat) →
    IsPart i q x → seat_or (spot_of q f x t) s ≡ among (spot_of q f x t)
among_of i First f (lone e) t s h = refl
among_of i First f (block l b c) t s h = refl
among_of i (Inside zero) f (block l b c) t s h = absurd h
among_of i (Inside (suc j)) f (block l b c) t s h = refl
among_of i Closer f (block l b c) t s h = refl
among_of i (Inside j) f (lone e) t s h = absurd h
among_of i Closer f (lone e) t s h = absurd h

pub among_site : (i : ℕ) (q : Part) (f : List (Item ℕ Closing)) (x : Item ℕ Closing) (t : List (Item ℕ Closing)) →
    IsPart i q x → seat_site (among (spot_of q f x t)) ≡ part_site q x
among_site i First f (lone e) t h = refl
among_site i First f (block l b c) t h = refl
among_site i (Inside zero) f (block l b c) t h = absurd h
among_site i (Inside (suc j)) f (block l b c) t h = refl
among_site i Closer f (block l b c) t h = refl
among_site i (Inside j) f (lone e) t h = absurd h
among_site i Closer f (lone e) t h = absurd h

-- ---- in the block in which the cursor stands

abbrev pub open_seat : Part → End ℕ → Seat
open_seat First (proof l b) = open_lemma l b
open_seat (Inside zero) (proof l b) = nowhere
open_seat (Inside (suc j)) (proof l b) = open_inner l (take j b) (drop (suc j) b)
open_seat Closer (proof l b) = nowhere
open_seat q closed = nowhere

in_open : (i : ℕ) (q : Part) (l : ℕ) (b : List ℕ) (s : Seat) → IsEndPart i q (proof l b) → in_proof i l b s ≡ open_seat q (proof l b)
in_open i First l b s h = ap (λ t. cond t (open_lemma l b) (in_inside l (split i b) s)) (subst (λ y. nat_eq i y ≡ true) h (eq_self i))
in_open i (Inside zero) l b s h = absurd h
in_open i (Inside (suc j)) l b s h = ap (λ t. cond t (open_lemma l b) (in_inside l (split i b) s)) h.0 ∙ ap (λ y. in_inside l y s) h.1.1.1
in_open i Closer l b s h = absurd h

pub open_seat_site : (i : ℕ) (q : Part) (o : End ℕ) (c : ℕ) → IsEndPart i q o → seat_site (open_seat q o) ≡ open_part_site q c
open_seat_site i First (proof l b) c h = refl
open_seat_site i (Inside zero) (proof l b) c h = absurd h
open_seat_site i (Inside (suc j)) (proof l b) c h = refl
open_seat_site i Closer (proof l b) c h = absurd h
open_seat_site i First closed c h = absurd h
open_seat_site i (Inside j) closed c h = absurd h
open_seat_site i Closer closed c h = absurd h

-- ---- where no zone is open

pub seat_item : (i : ℕ) (p : Place) (a : List (Item ℕ Closing)) (o : End ℕ) (s : Spotted i 0 p a) → seat i (line_of a o None)
    ≡ among (spot_of p.part s.front s.item s.rest)
seat_item i p a o s = ap (λ y. seat_or y (in_focus i (last o))) s.spot ∙ among_of i p.part s.front s.item s.rest
    (in_focus i (last o)) s.part

pub seat_end : (i : ℕ) (p : Place) (a : List (Item ℕ Closing)) (o : End ℕ) → locate i a ≡ missing → IsEndPart i p.part o →
    seat i (line_of a o None) ≡ open_seat p.part o
seat_end i p a o m h = ap (λ y. seat_or y (in_focus i (last o))) m ∙ go o p.part h
  where
    go : (u : End ℕ) (q : Part) → IsEndPart i q u → in_focus i (last u) ≡ open_seat q u
    go (proof l b) q h = in_open i q l b nowhere h
    go closed First h = absurd h
    go closed (Inside j) h = absurd h
    go closed Closer h = absurd h

-- ---- where a zone is open

-- an id before the zone's lemma, from there to the cursor, or behind the cursor
pub data InZone (i : ℕ) (p : Place) (n l : ℕ) (b : List ℕ) (c : Closing) (f : List (Item ℕ Closing)) (d : Line) : Type 0 where
  ahead : (s : Spotted i 0 p f) → seat i d ≡ among (spot_of p.part s.front s.item s.rest) → InZone i p n l b c f d
  within : p.item ≡ n → IsEndPart i p.part (proof l b) → seat i d ≡ open_seat p.part (proof l b) → InZone i p n l b c f d
  beyond : n ≤ p.item → (p.item ≡ n → p.part ≡ Closer) → seat i d ≡ behind c.id → InZone i p n l b c f d

tail_seat : (i : ℕ) (c : Closing) (t : List (Item ℕ Closing)) (o : End ℕ) (es : List (ℕ × Place)) (p : Place) →
    keys_of es ≡ c.id ∷ (items_ids t ++ end_ids o) → look i es ≡ Some p → in_tail i c t o ≡ behind c.id
tail_seat i c t o es p e h =
    let k : has i (c.id ∷ (items_ids t ++ end_ids o)) ≡ true = sym (ap (has i) e) ∙ (keys_has i es ∙ ap is_some h) in
    ap (λ z. cond z (behind c.id) nowhere) k

tail_keys : (n m : ℕ) (c : Closing) (t : List (Item ℕ Closing)) (o : End ℕ)
    → keys_of ((c.id, record { item = n; part = Closer }) ∷ (items_places (suc n) t ++ end_places m o)) ≡ c.id ∷ (items_ids t ++ end_ids o)
tail_keys n m c t o = ap (λ z. c.id ∷ z) (keys_join (items_places (suc n) t) (end_places m o) ∙
    (ap (λ z. z ++ keys_of (end_places m o)) (items_keys (suc n) t) ∙ ap (λ z. items_ids t ++ z) (end_keys m o)))

tail_number : (i n m : ℕ) (p : Place) (t : List (Item ℕ Closing)) (o : End ℕ) → suc n + length t ≡ m →
    look i (items_places (suc n) t ++ end_places m o) ≡ Some p → n < p.item
tail_number i n m p t o e h = go (spotted i (suc n) p t (end_places m o) h)
  where
    go : Spotted i (suc n) p t ⊎ ((locate i t ≡ missing) × (look i (end_places m o) ≡ Some p)) → n < p.item
    go (inl s) = omega (arith, s.count)
    go (inr s) = omega (arith, (end_spotted i m p o s.1).0, e)

in_zone : (i : ℕ) (p : Place) (f : List (Item ℕ Closing)) (l : ℕ) (b : List ℕ) (c : Closing) (t : List (Item ℕ Closing)) (o : End ℕ)
    → look i (items_places 0 f ++ (end_places (length f) (proof l b) ++ ((c.id, record { item = length f; part = Closer })
    ∷ (items_places (suc (length f)) t ++ end_places (length f + suc (length t)) o)))) ≡ Some p
    → InZone i p (length f) l b c f (record { items = f; focus = zone l b c t o })
in_zone i p f l b c t o h =
    go (spotted i 0 p f (end_places (length f) (proof l b) ++ ((c.id, record { item = length f; part = Closer })
    ∷ (items_places (suc (length f)) t ++ end_places (length f + suc (length t)) o))) h)
  where
    there : locate i f ≡ missing → seat i (record { items = f; focus = zone l b c t o }) ≡ in_proof i l b (in_tail i c t o)
    there m = ap (λ y. seat_or y (in_proof i l b (in_tail i c t o))) m

    closer_case : locate i f ≡ missing → nat_eq i l ≡ false → split i b ≡ unfound → (v : Bool) → nat_eq i c.id ≡ v
        → cond v (Some (record { item = length f; part = Closer }))
        (look i (items_places (suc (length f)) t ++ end_places (length f + suc (length t)) o)) ≡ Some p
        → in_tail i c t o ≡ behind c.id → InZone i p (length f) l b c f (record { items = f; focus = zone l b c t o })
    closer_case m u w true v k s =
        let q : record { item = length f; part = Closer } ≡ p = cc in
        beyond (omega (arith, ap (λ z. z.item) q)) (λ _. sym (ap (λ z. z.part) q)) (there m ∙
        (ap (λ y. cond y (open_lemma l b) (in_inside l (split i b) (in_tail i c t o))) u ∙
        (ap (λ y. in_inside l y (in_tail i c t o)) w ∙ s)))
    closer_case m u w false v k s =
        let g = tail_number i (length f) (length f + suc (length t)) p t o (omega arith) k in
        beyond (omega (arith, g)) (λ e. absurd (omega (arith, g, e))) (there m ∙
        (ap (λ y. cond y (open_lemma l b) (in_inside l (split i b) (in_tail i c t o))) u ∙
        (ap (λ y. in_inside l y (in_tail i c t o)) w ∙ s)))

    behind_case : locate i f ≡ missing → nat_eq i l ≡ false → split i b ≡ unfound
        → look i ((c.id, record { item = length f; part = Closer }) ∷ (items_places (suc (length f)) t
        ++ end_places (length f + suc (length t)) o)) ≡ Some p
        → InZone i p (length f) l b c f (record { items = f; focus = zone l b c t o })
    behind_case m u w k = closer_case m u w (nat_eq i c.id) refl k
        (tail_seat i c t o ((c.id, record { item = length f; part = Closer }) ∷ (items_places (suc (length f)) t
        ++ end_places (length f + suc (length t)) o)) p (tail_keys (length f) (length f + suc (length t)) c t o) k)

    inside_case : locate i f ≡ missing → (v : Bool) → nat_eq i l ≡ v
        → cond v (Some (record { item = length f; part = First }))
        (look i (inner_places (length f) 1 b ++ ((c.id, record { item = length f; part = Closer })
        ∷ (items_places (suc (length f)) t ++ end_places (length f + suc (length t)) o)))) ≡ Some p
        → InZone i p (length f) l b c f (record { items = f; focus = zone l b c t o })
    inside_case m true v k =
        let q : record { item = length f; part = First } ≡ p = cc in
        let w : IsEndPart i p.part (proof l b) = subst (λ z. IsEndPart i z.part (proof l b)) q (eq_is i l v) in
        within (sym (ap (λ z. z.item) q)) w (there m ∙ in_open i p.part l b (in_tail i c t o) w)
    inside_case m false v k = by (inner_look i (length f) 1 p b ((c.id, record { item = length f; part = Closer })
        ∷ (items_places (suc (length f)) t ++ end_places (length f + suc (length t)) o)) k)
      where
        by : (Within i (length f) 1 p.part b × (p.item ≡ length f)) ⊎
            ((split i b ≡ unfound) ×
            (look i ((c.id, record { item = length f; part = Closer }) ∷ (items_places (suc (length f)) t
            ++ end_places (length f + suc (length t)) o)) ≡ Some p)) →
            InZone i p (length f) l b c f (record { items = f; focus = zone l b c t o })
        by (inr w) = behind_case m v w.0 w.1
        by (inl w) =
            let e : p.part ≡ Inside (suc w.0.number) = w.0.is ∙ ap Inside (one_first w.0.number) in
            let h : IsEndPart i p.part (proof l b) = subst (λ z. IsEndPart i z (proof l b)) (sym e) (
              v,
              (w.0.fits, (w.0.whole, w.0.spot)),
            ) in
            within w.1 h (there m ∙ in_open i p.part l b (in_tail i c t o) h)
          where
            one_first : (n : ℕ) → 1 + n ≡ suc n
            one_first n = omega arith

    go : Spotted i 0 p f ⊎
        ((locate i f ≡ missing) ×
        (look i (end_places (length f) (proof l b) ++ ((c.id, record { item = length f; part = Closer })
        ∷ (items_places (suc (length f)) t ++ end_places (length f + suc (length t)) o))) ≡ Some p))
        → InZone i p (length f) l b c f (record { items = f; focus = zone l b c t o })
    go (inl s) = ahead s (ap (λ y. seat_or y (in_proof i l b (in_tail i c t o))) s.spot ∙ among_of i p.part s.front s.item
        s.rest (in_proof i l b (in_tail i c t o)) s.part)
    go (inr s) = inside_case s.0 (nat_eq i l) refl s.1

module _ {S : Type 0} {a : List (Item ℕ Closing)} {o : End ℕ} {z : Opened} {m : IndexMap ℕ Place S} (k : Kept a o (Some z) m) where
  -- the zone's block, among the items
  pub zone_of : ZoneAt a z
  zone_of = zone_at a z k.zone

  pub zone_number : length zone_of.before ≡ z.item
  zone_number = sym (ap length zone_of.is_front) ∙ zone_of.parts.count

  -- the line
  pub zone_line_is : line_of a o (Some z) ≡ record {
    items = zone_of.before;
    focus = zone zone_of.lemma zone_of.inside
        zone_of.closer zone_of.rest o;
  }
  zone_line_is = ap (λ y. line_of y o (Some z)) (zone_whole a z zone_of) ∙ opened_line zone_of.before zone_of.lemma
      zone_of.inside zone_of.closer zone_of.rest o z zone_number

  pub seat_zone : (i : ℕ) (p : Place) → look i (all_places a o) ≡ Some p → InZone i p z.item zone_of.lemma zone_of.inside
      zone_of.closer zone_of.before (line_of a o (Some z))
  seat_zone i p h =
      let w = zone_of in
      let line : line_of a o (Some z) ≡ record { items = w.before; focus = zone w.lemma w.inside w.closer w.rest o } =
      ap (λ y. line_of y o (Some z)) (zone_whole a z w) ∙ opened_line w.before w.lemma w.inside w.closer w.rest o z zone_number in
      let all : all_places a o ≡ items_places 0 w.before ++ (end_places (length w.before) (proof w.lemma w.inside)
      ++ ((w.closer.id, record { item = length w.before; part = Closer }) ∷ (items_places (suc (length w.before)) w.rest
      ++ end_places (length w.before + suc (length w.rest)) o))) =
      ap (λ y. all_places y o) (zone_whole a z w) ∙ (places_item w.before (block w.lemma w.inside w.closer) w.rest o ∙
      around w.before w.lemma w.inside w.closer w.rest o) in
      subst (λ y. InZone i p z.item w.lemma w.inside w.closer w.before y) (sym line)
      (subst (λ y. InZone i p y w.lemma w.inside w.closer w.before (record {
        items = w.before;
        focus =
            zone w.lemma w.inside w.closer w.rest o;
      })) zone_number
      (in_zone i p w.before w.lemma w.inside w.closer w.rest o (sym (ap (look i) all) ∙ h)))
    where
      around : (f : List (Item ℕ Closing)) (l : ℕ) (b : List ℕ) (c : Closing) (t : List (Item ℕ Closing)) (o : End ℕ)
          → items_places 0 f ++ (item_places (length f) (block l b c) ++ (items_places (suc (length f)) t
          ++ end_places (length f + suc (length t)) o))
          ≡ items_places 0 f ++ (end_places (length f) (proof l b) ++ ((c.id, record { item = length f; part = Closer })
          ∷ (items_places (suc (length f)) t ++ end_places (length f + suc (length t)) o)))
      around f l b c t o = simp append_assoc

-- ---- an id that isn't in the line

pub seat_none : (i : ℕ) (d : Line) → has i (ids d) ≡ false → seat i d ≡ nowhere
seat_none i d h = ap (λ y. seat_or y (in_focus i d.focus)) (locate_absent i d.items p.0) ∙ go d.focus p.1 q.1
  where
    q : (has i (items_ids d.items ++ front_of d.focus) ≡ false) × (has i (back_of d.focus) ≡ false)
    q = absent_parts i (items_ids d.items ++ front_of d.focus) (back_of d.focus) h

    p : (has i (items_ids d.items) ≡ false) × (has i (front_of d.focus) ≡ false)
    p = absent_parts i (items_ids d.items) (front_of d.focus) q.0

    none : (l : ℕ) (b : List ℕ) (s : Seat) → has i (l ∷ b) ≡ false → in_proof i l b s ≡ s
    none l b s e =
        let r = not_either (nat_eq i l) (has i b) e in
        ap (λ t. cond t (open_lemma l b) (in_inside l (split i b) s)) r.0 ∙ ap (λ y. in_inside l y s) (split_absent i b r.1)

    go : (f : Focus ℕ Closing) → has i (front_of f) ≡ false → has i (back_of f) ≡ false → in_focus i f ≡ nowhere
    go (last closed) e g = refl
    go (last (proof l b)) e g = none l b nowhere e
    go (zone l b c t o) e g = none l b (in_tail i c t o) e ∙ ap (λ z. cond z (behind c.id) nowhere) g

pub kept_none : {S : Type 0} {a : List (Item ℕ Closing)} {o : End ℕ} {z : Option Opened} {m : IndexMap ℕ Place S} →
    Kept a o z m → (i : ℕ) → look i (all_places a o) ≡ None → seat i (line_of a o z) ≡ nowhere
kept_none {a = a} {o = o} {z = z} k i h = seat_none i (line_of a o z) (ap (has i) (kept_ids k) ∙
    (keys_has i (all_places a o) ∙ ap is_some h))

-- ---- what the answers of `site` are

-- the first of the items from a number on
pub dropped_at_number : {A : Type 0} (f : List A) (x : A) (t xs : List A) (k : ℕ) → xs ≡ f ++ (x ∷ t) → length f ≡ k → drop k xs ≡ x ∷ t
dropped_at_number {A = A} f x t xs k e c = ap (drop k) e ∙ subst (λ y. drop y (f ++ (x ∷ t)) ≡ x ∷ t) c (go f)
  where
    go : (f : List A) → drop (length f) (f ++ (x ∷ t)) ≡ x ∷ t
    go [] = refl
    go (y ∷ f) = go f

pub dropped_all : {A : Type 0} (xs : List A) (k : ℕ) → length xs ≤ k → drop k xs ≡ []
dropped_all [] zero h = refl
dropped_all [] (suc k) h = refl
dropped_all (x ∷ xs) zero h = absurd (omega arith)
dropped_all (x ∷ xs) (suc k) h = dropped_all xs k (omega arith)

pub lt_or : (x y : ℕ) → (x < y) ⊎ (y ≤ x)
lt_or x zero = inr (omega arith)
lt_or zero (suc y) = inl (omega arith)
lt_or (suc x) (suc y) = up (lt_or x y)
  where
    up : (x < y) ⊎ (y ≤ x) → (suc x < suc y) ⊎ (suc y ≤ suc x)
    up (inl h) = inl (omega arith)
    up (inr h) = inr (omega arith)

pub site_plain : (i : ℕ) (p : Place) (a : List (Item ℕ Closing)) (o : End ℕ) → look i (all_places a o) ≡ Some p →
    place_site p.part (drop p.item a) ≡ seat_site (seat i (line_of a o None))
site_plain i p a o h = go (lt_or p.item (length a))
  where
    go : (p.item < length a) ⊎ (length a ≤ p.item) → place_site p.part (drop p.item a) ≡ seat_site (seat i (line_of a o None))
    go (inl k) =
        let s = found_item i p a o h k in
        ap (place_site p.part) (dropped_at_number s.front s.item s.rest a p.item s.whole (omega (arith, s.count)))
        ∙ (sym (among_site i p.part s.front s.item s.rest s.part) ∙ ap seat_site (sym (seat_item i p a o s)))
    go (inr k) =
        let s = found_end i p a o h k in
        ap (place_site p.part) (dropped_all a p.item k) ∙ (sym (open_seat_site i p.part o 1 s.1) ∙
        ap seat_site (sym (seat_end i p a o s.0 s.1)))

module _ {S : Type 0} {a : List (Item ℕ Closing)} {o : End ℕ} {z : Opened} {m : IndexMap ℕ Place S} (k : Kept a o (Some z) m)
    (i : ℕ) (p : Place) (h : look i (all_places a o) ≡ Some p) where
  pub spot_number : (s : Spotted i 0 p (zone_of k).before) → p.item < z.item
  spot_number s =
      let w = zone_of k in
      omega (arith, s.count, zone_number k, ap length s.whole ∙ length-append s.front (s.item ∷ s.rest))

  pub site_ahead : p.item < z.item → place_site p.part (drop p.item a) ≡ seat_site (seat i (line_of a o (Some z)))
  site_ahead u = go (seat_zone k i p h)
    where
      go : InZone i p z.item (zone_of k).lemma (zone_of k).inside (zone_of k).closer (zone_of k).before (line_of a o (Some z)) →
          place_site p.part (drop p.item a) ≡ seat_site (seat i (line_of a o (Some z)))
      go (ahead s e) =
          let whole : a ≡ s.front
          ++ (s.item ∷ (s.rest ++ (block (zone_of k).lemma (zone_of k).inside (zone_of k).closer ∷ (zone_of k).rest))) =
          zone_whole a z (zone_of k) ∙
          (ap (λ y. y ++ (block (zone_of k).lemma (zone_of k).inside (zone_of k).closer ∷ (zone_of k).rest)) s.whole ∙
          append_assoc s.front (s.item ∷ s.rest) (block (zone_of k).lemma (zone_of k).inside (zone_of k).closer ∷ (zone_of k).rest)) in
          ap (place_site p.part) (dropped_at_number s.front s.item
          (s.rest ++ (block (zone_of k).lemma (zone_of k).inside (zone_of k).closer ∷ (zone_of k).rest)) a p.item whole
          (omega (arith, s.count)))
          ∙ (sym (among_site i p.part s.front s.item s.rest s.part) ∙ ap seat_site (sym e))
      go (within e s q) = absurd (omega (arith, e, u))
      go (beyond e s q) = absurd (omega (arith, e, u))

  pub site_zone : z.item ≡ p.item → (x : Item ℕ Closing) → x ≡ slice_index_or a z.item x → open_part_site p.part (stop_of x)
      ≡ seat_site (seat i (line_of a o (Some z)))
  site_zone u x g = ap (λ y. open_part_site p.part (stop_of y)) (zone_item a z (zone_of k) x g) ∙ go (seat_zone k i p h)
    where
      go : InZone i p z.item (zone_of k).lemma (zone_of k).inside (zone_of k).closer (zone_of k).before (line_of a o (Some z)) →
          open_part_site p.part (zone_of k).closer.id ≡ seat_site (seat i (line_of a o (Some z)))
      go (ahead s e) = absurd (omega (arith, spot_number s, u))
      go (within e s q) = sym (open_seat_site i p.part (proof (zone_of k).lemma (zone_of k).inside) (zone_of k).closer.id s) ∙
          ap seat_site (sym q)
      go (beyond e s q) = ap (λ y. open_part_site y (zone_of k).closer.id) (s (sym u)) ∙ ap seat_site (sym q)

  pub site_behind : z.item < p.item → (x : Item ℕ Closing) → x ≡ slice_index_or a z.item x → Behind (stop_of x)
      ≡ seat_site (seat i (line_of a o (Some z)))
  site_behind u x g = ap (λ y. Behind (stop_of y)) (zone_item a z (zone_of k) x g) ∙ go (seat_zone k i p h)
    where
      go : InZone i p z.item (zone_of k).lemma (zone_of k).inside (zone_of k).closer (zone_of k).before (line_of a o (Some z)) →
          Behind (zone_of k).closer.id ≡ seat_site (seat i (line_of a o (Some z)))
      go (ahead s e) = absurd (omega (arith, spot_number s, u))
      go (within e s q) = absurd (omega (arith, e, u))
      go (beyond e s q) = ap seat_site (sym q)
