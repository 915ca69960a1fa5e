-- What is removed is the end of the list or the inside of one block: each delegated block that is still there has the work that it had.
use Rattle.std.proofs.Common.{
  ◌≡◌,
  ◌⊎◌,
  inl,
  inr,
  ℕ,
  suc,
  ◌≤◌,
  ◌<◌,
  nat_eq,
  List,
  [],
  ◌∷◌,
  ◌++◌,
  map,
  Bool,
  true,
  false,
  if◌then◌else◌,
  refl,
  sym,
  ap,
  subst,
  ◌∙◌,
  arith,
}
use Rattle.line_theory.specs.Lists.{Every, has}
use Rattle.doc_theory.specs.Lists.{Member}
use Rattle.line_theory.specs.Shapes.{lone, block, closed, proof, last, zone}
use Rattle.doc_theory.specs.Documents.{
  Entry,
  delegates,
  reopens,
  Item,
  entries,
  End,
  Focus,
  Document,
  set,
  fall,
  item_marks,
  end_marks,
  body_if,
  item_bodies,
  focus_bodies,
  bodies,
}
use Rattle.doc_theory.specs.Editing.{
  Split,
  found,
  unfound,
  after,
  split,
  Spot,
  at_lone,
  at_lemma,
  at_inner,
  at_closer,
  missing,
  under,
  inside,
  locate,
  Seat,
  among,
  open_lemma,
  open_inner,
  behind,
  nowhere,
  in_inside,
  in_proof,
  in_tail,
  in_focus,
  seat_or,
  seat,
  refocus,
  only,
  unclose,
  reopen,
  reenter,
  lessened,
  shorten,
  Edited,
  unknown,
  refused_by,
  changed,
  remove_at,
  remove,
}
use Rattle.doc_theory.specs.Checks.{Check, Laws, through, Work, work_if, item_works, focus_works, works}
use Rattle.doc_theory.specs.Answers.{Removed, cancel_step, cancel_all}
use Rattle.doc_theory.specs.Invariants.{IsInner, Formed, FormedFocus, Rises, RisesEnd, RisesFocus, Sound, IfChanged}
use Rattle.line_theory.proofs.Lists.{every_parts, has_parts, has_left, has_right, right_true}
use Rattle.doc_theory.proofs.Lists.{member_left, member_right, member_parts, has_none}
use Rattle.doc_theory.proofs.Works.{
  behind_same,
  works_join,
  bodies_join,
  rises_parts,
  rises_le,
  works_within,
  bodies_within,
  focus_works_above,
}
use Rattle.doc_theory.proofs.Added.{inner_fall, at_end, focused, zone_works}

-- ---- the parts around an id are the whole

abbrev pub IsSplit : List Entry → Split → Type 0
IsSplit b (found f e k) = b ≡ f ++ (e ∷ k)
IsSplit b unfound = Unit {0}

split_is : (i : ℕ) (b : List Entry) → IsSplit b (split i b)
split_is i [] = tt
split_is i (e ∷ b) = go (nat_eq i e.id) (split i b) (split_is i b)
  where
    go : (c : Bool) (s : Split) → IsSplit b s → IsSplit (e ∷ b) (if c then found [] e b else after e s)
    go true s h = refl
    go false (found f x k) h = ap (λ z. e ∷ z) h
    go false unfound h = tt

abbrev pub IsSpot : List Item → Spot → Type 0
IsSpot xs (at_lone a e t) = xs ≡ a ++ (lone e ∷ t)
IsSpot xs (at_lemma a l b c t) = xs ≡ a ++ (block l b c ∷ t)
IsSpot xs (at_inner a l f e k c t) = xs ≡ a ++ (block l (f ++ (e ∷ k)) c ∷ t)
IsSpot xs (at_closer a l b c t) = xs ≡ a ++ (block l b c ∷ t)
IsSpot xs missing = Unit {0}

under_is : (x : Item) (xs : List Item) (s : Spot) → IsSpot xs s → IsSpot (x ∷ xs) (under x s)
under_is x xs (at_lone a e t) h = ap (λ z. x ∷ z) h
under_is x xs (at_lemma a l b c t) h = ap (λ z. x ∷ z) h
under_is x xs (at_inner a l f e k c t) h = ap (λ z. x ∷ z) h
under_is x xs (at_closer a l b c t) h = ap (λ z. x ∷ z) h
under_is x xs missing h = tt

if_is : (xs : List Item) (c : Bool) (x y : Spot) → IsSpot xs x → IsSpot xs y → IsSpot xs (if c then x else y)
if_is xs true x y h k = h
if_is xs false x y h k = k

module _ (i : ℕ) where
  inside_is : (l : Entry) (b : List Entry) (c : Entry) (t : List Item) (s : Split) (other : Spot) → IsSplit b s
      → IsSpot (block l b c ∷ t) other → IsSpot (block l b c ∷ t) (inside i l b c t s other)
  inside_is l b c t (found f e k) other h o = ap (λ z. block l z c ∷ t) h
  inside_is l b c t unfound other h o = if_is (block l b c ∷ t) (nat_eq i c.id) (at_closer [] l b c t) other refl o

  pub locate_is : (xs : List Item) → IsSpot xs (locate i xs)
  locate_is [] = tt
  locate_is (lone e ∷ t) = if_is (lone e ∷ t) (nat_eq i e.id) (at_lone [] e t) _ refl (under_is (lone e) t (locate i t) (locate_is t))
  locate_is (block l b c ∷ t) = if_is (block l b c ∷ t) (nat_eq i l.id) (at_lemma [] l b c t) _ refl
      (inside_is l b c t (split i b) _ (split_is i b) (under_is (block l b c) t (locate i t) (locate_is t)))

-- a front of the block that is open at the cursor
abbrev pub IsFront : Focus → List Entry → List Entry → Type 0
IsFront (last closed) f k = Unit {0}
IsFront (last (proof l b)) f k = b ≡ f ++ k
IsFront (zone l b c t o) f k = b ≡ f ++ k

abbrev pub IsSeat : List Item → Focus → Seat → Type 0
IsSeat xs g (among s) = IsSpot xs s
IsSeat xs g (open_lemma l b) = Unit {0}
IsSeat xs g (open_inner l f e k) = IsFront g f (e ∷ k)
IsSeat xs g (behind c) = Unit {0}
IsSeat xs g nowhere = Unit {0}

in_proof_is : (xs : List Item) (g : Focus) (i : ℕ) (l : Entry) (b : List Entry) (other : Seat)
    → ((f k : List Entry) → b ≡ f ++ k → IsFront g f k) → IsSeat xs g other → IsSeat xs g (in_proof i l b other)
in_proof_is xs g i l b other front h = go (nat_eq i l.id) (split i b) (split_is i b)
  where
    go : (c : Bool) (s : Split) → IsSplit b s → IsSeat xs g (if c then open_lemma l b else in_inside l s other)
    go true s e = tt
    go false (found f x k) e = front f (x ∷ k) e
    go false unfound e = h

in_focus_is : (xs : List Item) (i : ℕ) (g : Focus) → IsSeat xs g (in_focus i g)
in_focus_is xs i (last closed) = tt
in_focus_is xs i (last (proof l b)) = in_proof_is xs (last (proof l b)) i l b nowhere (λ f k e. e) tt
in_focus_is xs i (zone l b c t o) = in_proof_is xs (zone l b c t o) i l b (in_tail i c t o) (λ f k e. e)
    (go (has i (c.id ∷ map (λ m. m.id) (item_marks t ++ end_marks o))))
  where
    go : (r : Bool) → IsSeat xs (zone l b c t o) (if r then behind c else nowhere)
    go true = tt
    go false = tt

seat_or_is : (xs : List Item) (g : Focus) (s : Spot) (other : Seat) → IsSpot xs s → IsSeat xs g other → IsSeat xs g (seat_or s other)
seat_or_is xs g (at_lone a e t) other h k = h
seat_or_is xs g (at_lemma a l b c t) other h k = h
seat_or_is xs g (at_inner a l f e x c t) other h k = h
seat_or_is xs g (at_closer a l b c t) other h k = h
seat_or_is xs g missing other h k = k

pub seat_is : (i : ℕ) (d : Document) → IsSeat d.items d.focus (seat i d)
seat_is i d = seat_or_is d.items d.focus (locate i d.items) (in_focus i d.focus) (locate_is i d.items) (in_focus_is d.items i d.focus)

-- ---- what stays

-- each delegated block that is still there has the work that it had, no block becomes delegated, and the document is sound
pub record Keeps {State : Type 0} (L : Check State) (d e : Document) : Type 0 where
  pub works : (w : Work State) → Member w (works L d) → has w.lemma (bodies e) ≡ true → Member w (works L e)
  pub bodies : (n : ℕ) → has n (bodies e) ≡ true → has n (bodies d) ≡ true
  pub sound : Sound e

end_le : (lo hi : ℕ) (o : End) → RisesEnd lo o hi → lo ≤ hi
end_le lo hi closed h = h
end_le lo hi (proof l b) h = omega (arith, h.0, h.1)

focus_le : (lo hi : ℕ) (f : Focus) → RisesFocus lo f hi → lo ≤ hi
focus_le lo hi (last o) h = end_le lo hi o h
focus_le lo hi (zone l b c t o) h = let j = rises_le (suc l.id) h.1.0 t h.1.1.0 in let k = end_le h.1.0 hi o h.1.1.1 in
    omega (arith, h.0, j, k)

module _ {State : Type 0} (L : Check State) (laws : Laws L) (d : Document) (s : Sound d) where
  rising : (a r : List Item) → d.items ≡ a ++ r → (m : ℕ) × (Rises 0 a m × Rises m r s.middle)
  rising a r e = rises_parts 0 s.middle a r (subst (λ z. Rises 0 z s.middle) e s.rises)

  forming : (a r : List Item) → d.items ≡ a ++ r → Every Formed a × Every Formed r
  forming a r e = every_parts Formed a r (subst (Every Formed) e s.items)

  bound : s.middle ≤ d.next
  bound = focus_le s.middle d.next d.focus s.ends

  front_works : (a r : List Item) → d.items ≡ a ++ r → (w : Work State) → Member w (works L d) → has w.lemma (item_bodies a ++ []) ≡ true
      → Member w (item_works L L.start a ++ [])
  front_works a r e w m h = member_left w _ [] (go (member_parts w (item_works L L.start d.items) _ m))
    where
      low : w.lemma < (rising a r e).0
      low = (bodies_within w.lemma 0 (rising a r e).0 a (rising a r e).1.0 (has_none w.lemma (item_bodies a) h)).1

      at : Member w (item_works L L.start a) ⊎ Member w (item_works L (through L L.start (entries a)) r)
          → Member w (item_works L L.start a)
      at (inl k) = k
      at (inr k) = let high = works_within L w _ (rising a r e).0 s.middle r (rising a r e).1.1 k in absurd (omega (arith, low, high.0))

      go : Member w (item_works L L.start d.items) ⊎ Member w (focus_works L (through L L.start (entries d.items)) d.focus)
          → Member w (item_works L L.start a)
      go (inl k) = at (member_parts w (item_works L L.start a) _ (subst (λ z. Member w z) (ap (item_works L L.start) e ∙
          works_join L L.start a r) k))
      go (inr k) = let high = focus_works_above L w _ s.middle d.next d.focus s.ends k in let mid =
          rises_le (rising a r e).0 s.middle r (rising a r e).1.1 in absurd (omega (arith, low, high, mid))

  front_bodies : (a r : List Item) → d.items ≡ a ++ r → (n : ℕ) → has n (item_bodies a ++ []) ≡ true → has n (bodies d) ≡ true
  front_bodies a r e n h = has_left n (item_bodies d.items) _
      (subst (λ z. has n z ≡ true) (sym (ap item_bodies e ∙ bodies_join a r)) (has_left n (item_bodies a) _ (has_none n (item_bodies a) h)))

  only_keeps : (a r : List Item) → d.items ≡ a ++ r → Keeps L d (only a d)
  only_keeps a r e = let p = rising a r e in let mid = rises_le p.0 s.middle r p.1.1 in
      record {
        works = front_works a r e;
        bodies = front_bodies a r e;
        sound = record { items = (forming a r e).0; focus = tt; middle = p.0; rises = p.1.0; ends = omega (arith, mid, bound) };
      }

  more_body : (n m : ℕ) (r : Bool) (ns : List ℕ) → has n ns ≡ true → has n (body_if r m ns) ≡ true
  more_body n m true ns h = right_true (nat_eq n m) (has n ns) h
  more_body n m false ns h = h

  -- a block of the document, of which a front stays
  module _ (a t : List Item) (l : Entry) (b f k : List Entry) (c : Entry) (e : d.items ≡ a ++ (block l b c ∷ t)) (q : b ≡ f ++ k) where
    unclose_keeps : Keeps L d (unclose a l f c d)
    unclose_keeps = let p = rising a (block l b c ∷ t) e in let mid = rises_le (suc l.id) s.middle t p.1.1.1 in
        record {
          works = front_works a (block l b c ∷ t) e;
          bodies = front_bodies a (block l b c ∷ t) e;
          sound = record {
            items = (forming a (block l b c ∷ t) e).0;
            focus = inner_fall (delegates c.sentence.kind) f
                (every_parts IsInner f k (subst (Every IsInner) q (forming a (block l b c ∷ t) e).1.0)).0;
            middle = p.0;
            rises = p.1.0;
            ends = (p.1.1.0, omega (arith, mid, bound));
          };
        }

    reopen_works : (o : End) → reopens c.sentence.kind ≡ true → d.focus ≡ last o → (w : Work State) → Member w (works L d)
        → has w.lemma (item_bodies a ++ item_bodies t) ≡ true
        → Member w (item_works L L.start a ++ focus_works L (through L L.start (entries a)) (zone l (fall true f) (set (λ u. false) c) t o))
    reopen_works o rc g w m h =
        go (member_parts w (item_works L L.start a) _ (subst (λ z. Member w z) (ap (item_works L L.start) e ∙
        works_join L L.start a (block l b c ∷ t)) (at_end w _ (focused L w d (last o) g m))))
      where
        inner : Every IsInner b
        inner = (forming a (block l b c ∷ t) e).1.0

        front : Every IsInner f
        front = (every_parts IsInner f k (subst (Every IsInner) q inner)).0

        lemma_of : (r : Bool) → Member w (work_if L r (through L L.start (entries a)) l b c) → w.lemma ≡ l.id
        lemma_of true (inl z) = ap (λ y. y.lemma) z
        lemma_of true (inr z) = absurd z
        lemma_of false z = absurd z

        apart : w.lemma ≡ l.id → (has w.lemma (item_bodies a) ≡ true) ⊎ (has w.lemma (item_bodies t) ≡ true) → ⊥
        apart z (inl y) = let low = bodies_within w.lemma 0 _ a (rising a (block l b c ∷ t) e).1.0 y in let up =
            (rising a (block l b c ∷ t) e).1.1.0 in omega (arith, z, low.1, up)
        apart z (inr y) = let high = bodies_within w.lemma (suc l.id) s.middle t (rising a (block l b c ∷ t) e).1.1.1 y in
            omega (arith, z, high.0)

        tail : Member w (work_if L (delegates c.sentence.kind) (through L L.start (entries a)) l b c) ⊎
            Member w (item_works L (through L (through L L.start (entries a)) (l ∷ (b ++ (c ∷ [])))) t)
            → Member w (item_works L (through L (through L L.start (entries a)) (l ∷ (fall true f ++ (set (λ u. false) c ∷ [])))) t)
        tail (inl z) = absurd (apart (lemma_of (delegates c.sentence.kind) z) (has_parts w.lemma (item_bodies a) (item_bodies t) h))
        tail (inr z) = subst (λ u. Member w (item_works L u t)) (behind_same L laws (through L L.start (entries a)) l b
            (fall true f) c (set (λ u. false) c) inner (inner_fall true f front) rc rc) z

        go : Member w (item_works L L.start a) ⊎ Member w (item_works L (through L L.start (entries a)) (block l b c ∷ t))
            → Member w (item_works L L.start a ++ item_works L (through L (through L L.start (entries a))
            (l ∷ (fall true f ++ (set (λ u. false) c ∷ [])))) t)
        go (inl z) = member_left w (item_works L L.start a) _ z
        go (inr z) = member_right w (item_works L L.start a) _
            (tail (member_parts w (work_if L (delegates c.sentence.kind) (through L L.start (entries a)) l b c) _ z))

    reopen_keeps : (o : End) → reopens c.sentence.kind ≡ true → d.focus ≡ last o → Keeps L d (reopen a l f c t o d)
    reopen_keeps o rc g = let p = rising a (block l b c ∷ t) e in let fs = forming a (block l b c ∷ t) e in
        record {
          works = reopen_works o rc g;
          bodies = λ n h. has_left n (item_bodies d.items) _
              (subst (λ z. has n z ≡ true) (sym (ap item_bodies e ∙ bodies_join a (block l b c ∷ t)))
              (either n (has_parts n (item_bodies a) (item_bodies t) h)));
          sound = record {
            items = fs.0;
            focus = (
              inner_fall true f (every_parts IsInner f k (subst (Every IsInner) q fs.1.0)).0,
              (rc, (fs.1.1, subst FormedFocus g s.focus)),
            );
            middle = p.0;
            rises = p.1.0;
            ends = (p.1.1.0, (s.middle, (p.1.1.1, subst (λ z. RisesFocus s.middle z d.next) g s.ends)));
          };
        }
      where
        either : (n : ℕ) → (has n (item_bodies a) ≡ true) ⊎ (has n (item_bodies t) ≡ true)
            → has n (item_bodies a ++ item_bodies (block l b c ∷ t)) ≡ true
        either n (inl z) = has_left n (item_bodies a) _ z
        either n (inr z) = has_right n (item_bodies a) _ (more_body n l.id (delegates c.sentence.kind) (item_bodies t) z)

    reenter_keeps : (g : Focus) → d.focus ≡ g → Keeps L d (reenter g a l f c t d)
    reenter_keeps (last o) g = go (reopens c.sentence.kind) refl
      where
        go : (r : Bool) → reopens c.sentence.kind ≡ r → Keeps L d (if r then reopen a l f c t o d else unclose a l f c d)
        go true h = reopen_keeps o h g
        go false h = unclose_keeps
    reenter_keeps (zone m y x u o) g = unclose_keeps

  less : (k : List Entry) (c : Entry) → (lessened k c).sentence ≡ c.sentence
  less [] c = refl
  less (e ∷ k) c = refl

  shorten_keeps : (g : Focus) → d.focus ≡ g → (f k : List Entry) → IsFront g f k → Keeps L d (refocus d.items (shorten g f k) d)
  shorten_keeps (last closed) g f k q = record {
    works = λ w m h. focused L w d (last closed) g m;
    bodies = λ n h. subst (λ z. has n (item_bodies d.items ++ focus_bodies z) ≡ true) (sym g) h;
    sound = record {
      items = s.items;
      focus = tt;
      middle = s.middle;
      rises = s.rises;
      ends =
          subst (λ z. RisesFocus s.middle z d.next) g s.ends;
    };
  }
  shorten_keeps (last (proof l b)) g f k q = record {
    works = λ w m h. focused L w d (last (proof l b)) g m;
    bodies = λ n h. subst (λ z. has n (item_bodies d.items ++ focus_bodies z) ≡ true) (sym g) h;
    sound = record {
      items = s.items;
      focus = (every_parts IsInner f k (subst (Every IsInner) q (subst FormedFocus g s.focus))).0;
      middle = s.middle;
      rises = s.rises;
      ends = subst (λ z. RisesFocus s.middle z d.next) g s.ends;
    };
  }
  shorten_keeps (zone l b c t o) g f k q =
      let fs : FormedFocus (zone l b c t o) = subst FormedFocus g s.focus in
      let front : Every IsInner f = (every_parts IsInner f k (subst (Every IsInner) q fs.0)).0 in
      let rk : reopens (lessened k c).sentence.kind ≡ true = ap (λ z. reopens z.kind) (less k c) ∙ fs.1.0 in
      record {
        works = λ w m h. subst (λ z. Member w (item_works L L.start d.items ++ z))
            (zone_works L laws w l b c t o fs.0 fs.1.0 (through L L.start (entries d.items)) f (lessened k c) front rk)
            (focused L w d (zone l b c t o) g m);
        bodies = λ n h. subst (λ z. has n (item_bodies d.items ++ focus_bodies z) ≡ true) (sym g) h;
        sound = record {
          items = s.items;
          focus = (front, (rk, fs.1.1));
          middle = s.middle;
          rises = s.rises;
          ends =
              subst (λ z. RisesFocus s.middle z d.next) g s.ends;
        };
      }

  same_parts : (a : List Entry) → a ≡ a ++ []
  same_parts [] = refl
  same_parts (e ∷ a) = ap (λ z. e ∷ z) (same_parts a)

  remove_at_keeps : (x : Seat) → IsSeat d.items d.focus x → IfChanged (Keeps L d) (remove_at x d)
  remove_at_keeps (among (at_lone a e t)) h = only_keeps a (lone e ∷ t) h
  remove_at_keeps (among (at_lemma a l b c t)) h = only_keeps a (block l b c ∷ t) h
  remove_at_keeps (among (at_inner a l f e k c t)) h = reenter_keeps a t l (f ++ (e ∷ k)) f (e ∷ k) c h refl d.focus refl
  remove_at_keeps (among (at_closer a l b c t)) h = unclose_keeps a t l b b [] c h (same_parts b)
  remove_at_keeps (among missing) h = tt
  remove_at_keeps (open_lemma l b) h = only_keeps d.items [] (whole_parts d.items)
    where
      whole_parts : (a : List Item) → a ≡ a ++ []
      whole_parts [] = refl
      whole_parts (x ∷ a) = ap (λ z. x ∷ z) (whole_parts a)
  remove_at_keeps (open_inner l f e k) h = shorten_keeps d.focus refl f (e ∷ k) h
  remove_at_keeps (behind c) h = tt
  remove_at_keeps nowhere h = tt

pub remove_keeps : {State : Type 0} (L : Check State) → Laws L → (d : Document) (i : ℕ) → Sound d → IfChanged (Keeps L d) (remove d i)
remove_keeps L laws d i s = remove_at_keeps L laws d s (seat i d) (seat_is i d)

-- ---- a Cancel

keeps_same : {State : Type 0} (L : Check State) (d : Document) → Sound d → Keeps L d d
keeps_same L d s = record { works = λ w m h. m; bodies = λ n h. h; sound = s }

module _ {State : Type 0} (L : Check State) (tag : List ℕ) where
  cancel_step_keeps : (i : ℕ) (d : Document) (e : Edited) (more : Document → Removed)
      → Sound d → IfChanged (Keeps L d) e
      → ((d : Document) → Sound d → Keeps L d (more d).document) → Keeps L d (cancel_step tag i d e more).document
  cancel_step_keeps i d unknown more s h k = k d s
  cancel_step_keeps i d (refused_by x) more s h k = keeps_same L d s
  cancel_step_keeps i d (changed e) more s h k = let r = k e h.sound in
      record { works = λ w m y. r.works w (h.works w m (r.bodies w.lemma y)) y; bodies = λ n y. h.bodies n (r.bodies n y); sound = r.sound }

pub cancel_all_keeps : {State : Type 0} (L : Check State) → Laws L → (tag : List ℕ) (is : List ℕ) (d : Document) → Sound d
    → Keeps L d (cancel_all tag is d).document
cancel_all_keeps L laws tag [] d s = keeps_same L d s
cancel_all_keeps L laws tag (i ∷ is) d s = cancel_step_keeps L tag i d (remove d i) (cancel_all tag is) s
    (remove_keeps L laws d i s) (cancel_all_keeps L laws tag is)
