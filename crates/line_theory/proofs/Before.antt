-- A removal, said by the id before the one that goes.
use Rattle.std.proofs.Common.{
  ◌≡◌,
  ◌⊎◌,
  inl,
  inr,
  ℕ,
  nat_eq,
  ◌||◌,
  List,
  [],
  ◌∷◌,
  ◌++◌,
  Bool,
  true,
  false,
  if◌then◌else◌,
  refl,
  sym,
  ap,
  subst,
  ◌∙◌,
  append_assoc,
  append-nil,
}
use Rattle.line_theory.specs.Lists.{has, Distinct, last_or, before_in}
use Rattle.line_theory.specs.Shapes.{Item, lone, block, End, closed, proof, Focus, last, zone}
use Rattle.line_theory.specs.Lines.{Closing, Line, empty, items_ids, item_ids, end_ids, front_of, back_of, ids, before, found, unfound, after, split, Spot, at_lone, at_lemma, at_inner, at_closer, missing, under, inside, locate, dropped_inside, dropped_open, dropped_at, dropped, zoned_inside, zoned_at, zoned_in, zoned}
use Rattle.line_theory.specs.Edits.{Seat, among, open_lemma, open_inner, behind, nowhere, in_focus, seat_or, seat, changed, edited_open, line_of, reentered, shortened, removed_at, removed, is_inside, among_before, by_before}
use Rattle.line_theory.proofs.Lists.{test_same, test_back, not_either, absent_parts}
use Rattle.line_theory.proofs.Folded.{items_join}
use Rattle.line_theory.proofs.Placed.{IsOpen, IsSeat, IsSeated, seated_is}
use Rattle.line_theory.proofs.Words.{around, behind_lone, behind_lemma, behind_inner, behind_closer, open_inner_part, open_lemma_part}

-- ---- lists

absent_before : (p : ℕ) (a r : List ℕ) → Distinct (a ++ (p ∷ r)) → has p a ≡ false
absent_before p [] r h = refl
absent_before p (x ∷ a) r h = λ i. test_back x p (not_either (nat_eq x p) (has x r) (absent_parts x a (p ∷ r) h.0).1).0 i
    || absent_before p a r h.1 i

before_is : (n i : ℕ) (a r : List ℕ) → has i a ≡ false → before_in n i (a ++ (i ∷ r)) ≡ last_or n a
before_is n i [] r h = ap (λ t. if t then n else before_in i i r) (test_same i)
before_is n i (x ∷ a) r h = let k = not_either (nat_eq i x) (has i a) h in ap (λ t. if t then n else before_in x i (a ++ (i ∷ r))) k.0
    ∙ before_is x i a r k.1

last_of : (n y : ℕ) (g : List ℕ) → last_or n (g ++ (y ∷ [])) ≡ y
last_of n y [] = refl
last_of n y (x ∷ g) = last_of x y g

last_over : (n x : ℕ) (a b : List ℕ) → last_or n (a ++ (x ∷ b)) ≡ last_or x b
last_over n x [] b = refl
last_over n x (y ∷ a) b = last_over y x a b

-- the id before one, by what stands before it
before_at : (i : ℕ) (d : Line) (a r : List ℕ) → ids d ≡ a ++ (i ∷ r) → Distinct (ids d) → before i d ≡ last_or 1 a
before_at i d a r e h = ap (before_in 1 i) e ∙ before_is 1 i a r (absent_before i a r (subst Distinct e h))

not_one : (p : ℕ) (d : Line) (a r : List ℕ) → ids d ≡ a ++ (p ∷ r) → has 1 (ids d) ≡ false → nat_eq p 1 ≡ false
not_one p d a r e h = test_back 1 p (not_either (nat_eq 1 p) (has 1 r) (absent_parts 1 a (p ∷ r) (sym (ap (has 1) e) ∙ h)).1).0

ends : {A : Type 0} (f : List A) → (f ≡ []) ⊎ ((g : List A) × ((y : A) × (f ≡ g ++ (y ∷ []))))
ends [] = inl refl
ends {A} (e ∷ f) = go (ends f)
  where
    go : (f ≡ []) ⊎ ((g : List A) × ((y : A) × (f ≡ g ++ (y ∷ [])))) → (e ∷ f ≡ []) ⊎ ((g : List A) × ((y : A) × (e ∷ f ≡ g ++ (y ∷ []))))
    go (inl q) = inr ([], (e, ap (λ z. e ∷ z) q))
    go (inr r) = inr (e ∷ r.0, (r.1.0, ap (λ z. e ∷ z) r.1.1))

-- ---- looking for an id

split_unfound : (p : ℕ) (b : List ℕ) → has p b ≡ false → split p b ≡ unfound
split_unfound p [] h = refl
split_unfound p (e ∷ b) h = let k = not_either (nat_eq p e) (has p b) h in ap (λ z. if z then found [] b else after e (split p b)) k.0
    ∙ ap (after e) (split_unfound p b k.1)

split_found : (p : ℕ) (g k : List ℕ) → has p g ≡ false → split p (g ++ (p ∷ k)) ≡ found g k
split_found p [] k h = ap (λ z. if z then found [] k else after p (split p k)) (test_same p)
split_found p (e ∷ g) k h = let q = not_either (nat_eq p e) (has p g) h in
    ap (λ z. if z then found [] (g ++ (p ∷ k)) else after e (split p (g ++ (p ∷ k)))) q.0 ∙ ap (after e) (split_found p g k q.1)

locate_skip : (p : ℕ) (x : Item ℕ Closing) (xs : List (Item ℕ Closing)) → has p (item_ids x) ≡ false
    → locate p (x ∷ xs) ≡ under x (locate p xs)
locate_skip p (lone e) xs h = ap (λ z. if z then at_lone [] xs else under (lone e) (locate p xs)) (not_either (nat_eq p e) false h).0
locate_skip p (block l b c) xs h =
    let k = not_either (nat_eq p l) (has p (b ++ (c.id ∷ []))) h in
    let q = absent_parts p b (c.id ∷ []) k.1 in
    ap (λ z. if z then at_lemma [] b c xs else inside p l b c xs (split p b) (under (block l b c) (locate p xs))) k.0
    ∙ ap (λ s. inside p l b c xs s (under (block l b c) (locate p xs))) (split_unfound p b q.0)
    ∙ ap (λ z. if z then at_closer [] l b c xs else under (block l b c) (locate p xs)) (not_either (nat_eq p c.id) false q.1).0

abbrev unders : List (Item ℕ Closing) → Spot → Spot
unders [] s = s
unders (x ∷ a) s = under x (unders a s)

locate_skips : (p : ℕ) (a xs : List (Item ℕ Closing)) → has p (items_ids a) ≡ false → locate p (a ++ xs) ≡ unders a (locate p xs)
locate_skips p [] xs h = refl
locate_skips p (x ∷ a) xs h = let k = absent_parts p (item_ids x) (items_ids a) h in locate_skip p x (a ++ xs) k.0
    ∙ ap (under x) (locate_skips p a xs k.1)

unders_missing : (a : List (Item ℕ Closing)) → unders a missing ≡ missing
unders_missing [] = refl
unders_missing (x ∷ a) = ap (under x) (unders_missing a)

locate_none : (p : ℕ) (a : List (Item ℕ Closing)) → has p (items_ids a) ≡ false → locate p a ≡ missing
locate_none p a h = ap (locate p) (sym (append-nil a)) ∙ locate_skips p a [] h ∙ unders_missing a

unders_lone : (a t : List (Item ℕ Closing)) → unders a (at_lone [] t) ≡ at_lone a t
unders_lone [] t = refl
unders_lone (x ∷ a) t = ap (under x) (unders_lone a t)

unders_lemma : (a : List (Item ℕ Closing)) (b : List ℕ) (c : Closing) (t : List (Item ℕ Closing))
    → unders a (at_lemma [] b c t) ≡ at_lemma a b c t
unders_lemma [] b c t = refl
unders_lemma (x ∷ a) b c t = ap (under x) (unders_lemma a b c t)

unders_inner : (a : List (Item ℕ Closing)) (l : ℕ) (f k : List ℕ) (c : Closing) (t : List (Item ℕ Closing))
    → unders a (at_inner [] l f k c t) ≡ at_inner a l f k c t
unders_inner [] l f k c t = refl
unders_inner (x ∷ a) l f k c t = ap (under x) (unders_inner a l f k c t)

unders_closer : (a : List (Item ℕ Closing)) (l : ℕ) (b : List ℕ) (c : Closing) (t : List (Item ℕ Closing))
    → unders a (at_closer [] l b c t) ≡ at_closer a l b c t
unders_closer [] l b c t = refl
unders_closer (x ∷ a) l b c t = ap (under x) (unders_closer a l b c t)

-- ---- the words at the id before

dropped_to : (p : ℕ) (d : Line) (s : Spot) → nat_eq p 1 ≡ false → locate p d.items ≡ s → dropped p d ≡ dropped_at p s d
dropped_to p d s n e = ap (λ t. if t then empty else dropped_at p (locate p d.items) d) n ∙ ap (λ z. dropped_at p z d) e

zoned_to : (p : ℕ) (d : Line) (s : Spot) (o : End ℕ) → d.focus ≡ last o → locate p d.items ≡ s → zoned p d ≡ zoned_at p s d o
zoned_to p d s o g e = ap (zoned_in p d) g ∙ ap (λ z. zoned_at p z d o) e

-- what isn't inside of a block that takes a zone goes with all behind it
plain_before : (p : ℕ) (s : Spot) (d : Line) (g : Focus ℕ Closing) → is_inside s ≡ false → among_before p s d g ≡ dropped p d
plain_before p s d (last o) h = ap (λ r. if r then zoned p d else dropped p d) h
plain_before p s d (zone l b c t o) h = refl

-- in a line whose ids are distinct, and none of which is 1
module _ (d : Line) (h : Distinct (ids d)) (o : has 1 (ids d) ≡ false) where
  -- all behind items goes where what stands behind their last id does
  drop_items : (a r : List (Item ℕ Closing)) → d.items ≡ a ++ r
      → dropped (last_or 1 (items_ids a)) d ≡ line_of a (last closed)
  drop_items a r e = go (ends a)
    where
      whole : (g : List (Item ℕ Closing)) (y : Item ℕ Closing) → a ≡ g ++ (y ∷ []) → d.items ≡ g ++ (y ∷ r)
      whole g y q = e ∙ ap (λ z. z ++ r) q ∙ append_assoc g (y ∷ []) r

      last_item : (g : List (Item ℕ Closing)) (y : Item ℕ Closing) → a ≡ g ++ (y ∷ [])
          → dropped (last_or 1 (items_ids (g ++ (y ∷ [])))) d ≡ line_of (g ++ (y ∷ [])) (last closed)
      last_item g (lone x) q =
          let w = around d g r (lone x) (whole g (lone x) q)
          ∙ behind_lone (items_ids g) (items_ids r) (front_of d.focus ++ back_of d.focus) x in
          ap (λ z. dropped (last_or 1 z) d) (items_join g (lone x ∷ [])) ∙ ap (λ z. dropped z d) (last_of 1 x (items_ids g))
          ∙ dropped_to x d (at_lone g r) (not_one x d (items_ids g) _ w o)
          (ap (locate x) (whole g (lone x) q) ∙ locate_skips x g (lone x ∷ r) (absent_before x (items_ids g) _ (subst Distinct w h))
          ∙ ap (unders g) (ap (λ b. if b then at_lone [] r else under (lone x) (locate x r)) (test_same x)) ∙ unders_lone g r)
      last_item g (block l b c) q =
          let w = around d g r (block l b c) (whole g (block l b c) q)
          ∙ behind_closer (items_ids g) b (items_ids r) (front_of d.focus ++ back_of d.focus) l c.id in
          let free = absent_parts c.id (items_ids g) (l ∷ b) (absent_before c.id (items_ids g ++ (l ∷ b)) _ (subst Distinct w h)) in
          let own = not_either (nat_eq c.id l) (has c.id b) free.1 in
          ap (λ z. dropped (last_or 1 z) d) (items_join g (block l b c ∷ []) ∙
          ap (λ z. items_ids g ++ z) (append-nil (l ∷ (b ++ (c.id ∷ [])))))
          ∙ ap (λ z. dropped z d) (last_over 1 l (items_ids g) (b ++ (c.id ∷ [])) ∙ last_of l c.id b)
          ∙ dropped_to c.id d (at_closer g l b c r) (not_one c.id d (items_ids g ++ (l ∷ b)) _ w o)
          (ap (locate c.id) (whole g (block l b c) q) ∙ locate_skips c.id g (block l b c ∷ r) free.0
          ∙ ap (unders g) (ap (λ z. if z then at_lemma [] b c r else inside c.id l b c r (split c.id b)
          (under (block l b c) (locate c.id r))) own.0
          ∙ ap (λ s. inside c.id l b c r s (under (block l b c) (locate c.id r))) (split_unfound c.id b own.1)
          ∙ ap (λ z. if z then at_closer [] l b c r else under (block l b c) (locate c.id r)) (test_same c.id))
          ∙ unders_closer g l b c r)

      go : (a ≡ []) ⊎ ((g : List (Item ℕ Closing)) × ((y : Item ℕ Closing) × (a ≡ g ++ (y ∷ []))))
          → dropped (last_or 1 (items_ids a)) d ≡ line_of a (last closed)
      go (inl q) = ap (λ z. dropped (last_or 1 (items_ids z)) d) q ∙ ap (λ z. line_of z (last closed)) (sym q)
      go (inr x) = ap (λ z. dropped (last_or 1 (items_ids z)) d) x.1.1 ∙ last_item x.0 x.1.0 x.1.1
          ∙ ap (λ z. line_of z (last closed)) (sym x.1.1)

  -- a block that stands in the line, and a front of it
  module _ (a t : List (Item ℕ Closing)) (l : ℕ) (f k : List ℕ) (c : Closing) (e : d.items ≡ a ++ (block l (f ++ k) c ∷ t)) where
    -- where the last id of the front stands, or the block's lemma
    abbrev IsFrontSpot : Type 0
    IsFrontSpot = (nat_eq (last_or l f) 1 ≡ false) × (((f ≡ []) × (locate (last_or l f) d.items ≡ at_lemma a (f ++ k) c t)) ⊎
        ((g : List ℕ) × ((y : ℕ) × ((f ≡ g ++ (y ∷ [])) × (locate (last_or l f) d.items ≡ at_inner a l g k c t)))))

    front_spot : IsFrontSpot
    front_spot = go (ends f)
      where
        go : (f ≡ []) ⊎ ((g : List ℕ) × ((y : ℕ) × (f ≡ g ++ (y ∷ [])))) → IsFrontSpot
        go (inl z) =
            let w = around d a t (block l (f ++ k) c) e
            ∙ behind_lemma (items_ids a) (f ++ k) (items_ids t) (front_of d.focus ++ back_of d.focus) l c.id in
            let free = absent_before l (items_ids a) _ (subst Distinct w h) in (
              ap (λ v. nat_eq (last_or l v) 1) z ∙ not_one l d (items_ids a) _ w o,
              inl (
                z,
                ap (λ v. locate (last_or l v) d.items) z ∙ ap (locate l) e ∙ locate_skips l a (block l (f ++ k) c ∷ t) free
                    ∙ ap (unders a) (ap (λ u. if u then at_lemma [] (f ++ k) c t else inside l l (f ++ k) c t (split l (f ++ k))
                    (under (block l (f ++ k) c) (locate l t))) (test_same l))
                    ∙ unders_lemma a (f ++ k) c t,
              ),
            )
        go (inr x) =
            let g = x.0 in
            let y = x.1.0 in
            let same : f ++ k ≡ g ++ (y ∷ k) = ap (λ v. v ++ k) x.1.1 ∙ append_assoc g (y ∷ []) k in
            let e2 : d.items ≡ a ++ (block l (g ++ (y ∷ k)) c ∷ t) = e ∙ ap (λ v. a ++ (block l v c ∷ t)) same in
            let w = around d a t (block l (g ++ (y ∷ k)) c) e2
            ∙ behind_inner (items_ids a) g k (items_ids t) (front_of d.focus ++ back_of d.focus) l y c.id in
            let free = absent_parts y (items_ids a) (l ∷ g) (absent_before y (items_ids a ++ (l ∷ g)) _ (subst Distinct w h)) in
            let own = not_either (nat_eq y l) (has y g) free.1 in
            let is : last_or l f ≡ y = ap (last_or l) x.1.1 ∙ last_of l y g in (
              ap (λ v. nat_eq v 1) is ∙ not_one y d (items_ids a ++ (l ∷ g)) _ w o,
              inr (
                g,
                (
                  y,
                  (
                    x.1.1,
                    ap (λ v. locate v d.items) is ∙ ap (locate y) e2 ∙ locate_skips y a (block l (g ++ (y ∷ k)) c ∷ t) free.0
                        ∙ ap (unders a) (ap (λ u. if u then at_lemma [] (g ++ (y ∷ k)) c t else inside y l (g ++ (y ∷ k)) c t
                        (split y (g ++ (y ∷ k))) (under (block l (g ++ (y ∷ k)) c) (locate y t))) own.0
                        ∙ ap (λ s. inside y l (g ++ (y ∷ k)) c t s (under (block l (g ++ (y ∷ k)) c) (locate y t)))
                        (split_found y g k own.1))
                        ∙ unders_inner a l g k c t,
                  ),
                ),
              ),
            )

    -- a block keeps a front, without its closer
    drop_front : dropped (last_or l f) d ≡ line_of a (last (proof l f))
    drop_front = go front_spot
      where
        go : IsFrontSpot → dropped (last_or l f) d ≡ line_of a (last (proof l f))
        go (n, inl x) = dropped_to (last_or l f) d (at_lemma a (f ++ k) c t) n x.1 ∙ (λ i. line_of a (last (proof (last_or l (x.0 i)) [])))
            ∙ ap (λ z. line_of a (last (proof l z))) (sym x.0)
        go (n, inr x) = dropped_to (last_or l f) d (at_inner a l x.0 k c t) n x.1.1.1
            ∙ ap (λ z. line_of a (last (proof l (x.0 ++ (z ∷ []))))) (ap (last_or l) x.1.1.0 ∙ last_of l x.1.0 x.0)
            ∙ ap (λ z. line_of a (last (proof l z))) (sym x.1.1.0)

    -- a block keeps a front, with a zone behind it
    zone_front : (u : End ℕ) → d.focus ≡ last u → zoned (last_or l f) d ≡ line_of a (zone l f c t u)
    zone_front u g = go front_spot
      where
        go : IsFrontSpot → zoned (last_or l f) d ≡ line_of a (zone l f c t u)
        go (n, inl x) = zoned_to (last_or l f) d (at_lemma a (f ++ k) c t) u g x.1 ∙ (λ i. line_of a (zone (last_or l (x.0 i)) [] c t u))
            ∙ ap (λ z. line_of a (zone l z c t u)) (sym x.0)
        go (n, inr x) = zoned_to (last_or l f) d (at_inner a l x.0 k c t) u g x.1.1.1
            ∙ ap (λ z. line_of a (zone l (x.0 ++ (z ∷ [])) c t u)) (ap (last_or l) x.1.1.0 ∙ last_of l x.1.0 x.0)
            ∙ ap (λ z. line_of a (zone l z c t u)) (sym x.1.1.0)

  -- ---- the block that is open at the cursor

  -- its front's last id, or its lemma, isn't among the items, and is found in the block
  open_spot : (l : ℕ) (f k x : List ℕ) → ids d ≡ (items_ids d.items ++ (l ∷ (f ++ k))) ++ x
      → (nat_eq (last_or l f) 1 ≡ false) × ((locate (last_or l f) d.items ≡ missing)
      × (((f ≡ []) × (nat_eq (last_or l f) l ≡ true)) ⊎
      ((g : List ℕ) × ((y : ℕ) ×
      ((f ≡ g ++ (y ∷ [])) × ((nat_eq (last_or l f) l ≡ false) × (split (last_or l f) (f ++ k) ≡ found g k)))))))
  open_spot l f k x e = go (ends f)
    where
      go : (f ≡ []) ⊎ ((g : List ℕ) × ((y : ℕ) × (f ≡ g ++ (y ∷ []))))
          → (nat_eq (last_or l f) 1 ≡ false) × ((locate (last_or l f) d.items ≡ missing)
          × (((f ≡ []) × (nat_eq (last_or l f) l ≡ true)) ⊎
          ((g : List ℕ) × ((y : ℕ) ×
          ((f ≡ g ++ (y ∷ [])) × ((nat_eq (last_or l f) l ≡ false) × (split (last_or l f) (f ++ k) ≡ found g k)))))))
      go (inl z) =
          let w = e ∙ open_lemma_part (items_ids d.items) (f ++ k) x l in (
            ap (λ v. nat_eq (last_or l v) 1) z ∙ not_one l d (items_ids d.items) _ w o,
            (
              ap (λ v. locate (last_or l v) d.items) z ∙ locate_none l d.items (absent_before l (items_ids d.items) _ (subst Distinct w h)),
              inl (z, ap (λ v. nat_eq (last_or l v) l) z ∙ test_same l),
            ),
          )
      go (inr r) =
          let g = r.0 in
          let y = r.1.0 in
          let same : f ++ k ≡ g ++ (y ∷ k) = ap (λ v. v ++ k) r.1.1 ∙ append_assoc g (y ∷ []) k in
          let w = e ∙ ap (λ v. (items_ids d.items ++ (l ∷ v)) ++ x) same ∙ open_inner_part (items_ids d.items) g k x l y in
          let free = absent_parts y (items_ids d.items) (l ∷ g) (absent_before y (items_ids d.items ++ (l ∷ g)) _ (subst Distinct w h)) in
          let own = not_either (nat_eq y l) (has y g) free.1 in
          let is : last_or l f ≡ y = ap (last_or l) r.1.1 ∙ last_of l y g in (
            ap (λ v. nat_eq v 1) is ∙ not_one y d (items_ids d.items ++ (l ∷ g)) _ w o,
            (
              ap (λ v. locate v d.items) is ∙ locate_none y d.items free.0,
              inr (
                g,
                (
                  y,
                  (
                    r.1.1,
                    (
                      ap (λ v. nat_eq v l) is ∙ own.0,
                      ap (λ v. split v (f ++ k)) is ∙ ap (split y) same ∙
                          split_found y g k own.1,
                    ),
                  ),
                ),
              ),
            ),
          )

  drop_open : (l : ℕ) (f k : List ℕ) → d.focus ≡ last (proof l (f ++ k)) → dropped (last_or l f) d ≡ line_of d.items (last (proof l f))
  drop_open l f k g = go (open_spot l f k [] (ap (λ z. (items_ids d.items ++ front_of z) ++ back_of z) g))
    where
      reach : nat_eq (last_or l f) 1 ≡ false → locate (last_or l f) d.items ≡ missing
          → dropped (last_or l f) d ≡ (if nat_eq (last_or l f) l then record { items = d.items; focus = last (proof l []) }
          else dropped_inside d.items l (f ++ k) (last_or l f) (split (last_or l f) (f ++ k)))
      reach n m = dropped_to (last_or l f) d missing n m ∙ ap (dropped_open (last_or l f) d.items) g

      go : (nat_eq (last_or l f) 1 ≡ false) × ((locate (last_or l f) d.items ≡ missing)
          × (((f ≡ []) × (nat_eq (last_or l f) l ≡ true)) ⊎
          ((u : List ℕ) × ((y : ℕ) ×
          ((f ≡ u ++ (y ∷ [])) × ((nat_eq (last_or l f) l ≡ false) × (split (last_or l f) (f ++ k) ≡ found u k)))))))
          → dropped (last_or l f) d ≡ line_of d.items (last (proof l f))
      go (n, (m, inl x)) = reach n m
          ∙ ap (λ t. if t then record { items = d.items; focus = last (proof l []) } else dropped_inside d.items l (f ++ k)
          (last_or l f) (split (last_or l f) (f ++ k))) x.1
          ∙ ap (λ z. line_of d.items (last (proof l z))) (sym x.0)
      go (n, (m, inr x)) = reach n m
          ∙ ap (λ t. if t then record { items = d.items; focus = last (proof l []) } else dropped_inside d.items l (f ++ k)
          (last_or l f) (split (last_or l f) (f ++ k))) x.1.1.1.0
          ∙ ap (dropped_inside d.items l (f ++ k) (last_or l f)) x.1.1.1.1
          ∙ ap (λ z. line_of d.items (last (proof l (x.0 ++ (z ∷ []))))) (ap (last_or l) x.1.1.0 ∙ last_of l x.1.0 x.0)
          ∙ ap (λ z. line_of d.items (last (proof l z))) (sym x.1.1.0)

  zone_open_front : (l : ℕ) (f k : List ℕ) (c : Closing) (t : List (Item ℕ Closing)) (u : End ℕ) → d.focus ≡ zone l (f ++ k) c t u
      → zoned (last_or l f) d ≡ line_of d.items (zone l f c t u)
  zone_open_front l f k c t u g =
      go (open_spot l f k (c.id ∷ (items_ids t ++ end_ids u)) (ap (λ z. (items_ids d.items ++ front_of z) ++ back_of z) g))
    where
      reach : zoned (last_or l f) d ≡ (if nat_eq (last_or l f) l then record { items = d.items; focus = zone l [] c t u }
          else zoned_inside d.items l (f ++ k) c t u (last_or l f) (split (last_or l f) (f ++ k)))
      reach = ap (zoned_in (last_or l f) d) g

      go : (nat_eq (last_or l f) 1 ≡ false) × ((locate (last_or l f) d.items ≡ missing)
          × (((f ≡ []) × (nat_eq (last_or l f) l ≡ true)) ⊎
          ((v : List ℕ) × ((y : ℕ) ×
          ((f ≡ v ++ (y ∷ [])) × ((nat_eq (last_or l f) l ≡ false) × (split (last_or l f) (f ++ k) ≡ found v k)))))))
          → zoned (last_or l f) d ≡ line_of d.items (zone l f c t u)
      go (n, (m, inl x)) = reach
          ∙ ap (λ w. if w then record { items = d.items; focus = zone l [] c t u } else zoned_inside d.items l (f ++ k) c t u
          (last_or l f) (split (last_or l f) (f ++ k))) x.1
          ∙ ap (λ z. line_of d.items (zone l z c t u)) (sym x.0)
      go (n, (m, inr x)) = reach
          ∙ ap (λ w. if w then record { items = d.items; focus = zone l [] c t u } else zoned_inside d.items l (f ++ k) c t u
          (last_or l f) (split (last_or l f) (f ++ k))) x.1.1.1.0
          ∙ ap (zoned_inside d.items l (f ++ k) c t u (last_or l f)) x.1.1.1.1
          ∙ ap (λ z. line_of d.items (zone l (x.0 ++ (z ∷ [])) c t u)) (ap (last_or l) x.1.1.0 ∙ last_of l x.1.0 x.0)
          ∙ ap (λ z. line_of d.items (zone l z c t u)) (sym x.1.1.0)

  -- ---- the removal

  -- what stays of a block of which an id in its proof goes
  inner_before : (i : ℕ) (a t : List (Item ℕ Closing)) (l : ℕ) (f k : List ℕ) (c : Closing) → d.items ≡ a ++ (block l (f ++ (i ∷ k)) c ∷ t)
      → reentered d.focus a l f c t ≡ among_before (last_or l f) (at_inner a l f k c t) d d.focus
  inner_before i a t l f k c e = at d.focus refl
    where
      go : (u : End ℕ) → d.focus ≡ last u → (r : Bool)
          → (if r then line_of a (zone l f c t u) else line_of a (last (proof l f))) ≡ (if r then zoned (last_or l f) d
          else dropped (last_or l f) d)
      go u g true = sym (zone_front a t l f (i ∷ k) c e u g)
      go u g false = sym (drop_front a t l f (i ∷ k) c e)

      at : (g : Focus ℕ Closing) → d.focus ≡ g → reentered g a l f c t ≡ among_before (last_or l f) (at_inner a l f k c t) d g
      at (last u) g = go u g c.opaque
      at (zone m b x y u) g = sym (drop_front a t l f (i ∷ k) c e)

  lemma_before : (i l : ℕ) (b : List ℕ) → IsOpen d.focus l b → i ≡ l
      → changed (line_of d.items (last closed)) ≡ changed (dropped (before i d) d)
  lemma_before i l b op q =
      ap changed (sym (ap (λ z. dropped z d) (at d.focus refl op) ∙ drop_items d.items [] (sym (append-nil d.items))))
    where
      at : (g : Focus ℕ Closing) → d.focus ≡ g → IsOpen g l b → before i d ≡ last_or 1 (items_ids d.items)
      at (last closed) e k = absurd k
      at (last (proof m f)) e k = before_at i d (items_ids d.items) _ (ap (λ z. (items_ids d.items ++ front_of z) ++ back_of z) e
          ∙ open_lemma_part (items_ids d.items) f [] m ∙ ap (λ z. items_ids d.items ++ (z ∷ (f ++ []))) (k.0 ∙ sym q)) h
      at (zone m f c t x) e k = before_at i d (items_ids d.items) _ (ap (λ z. (items_ids d.items ++ front_of z) ++ back_of z) e ∙
          open_lemma_part (items_ids d.items) f (c.id ∷ (items_ids t ++ end_ids x)) m
          ∙ ap (λ z. items_ids d.items ++ (z ∷ (f ++ (c.id ∷ (items_ids t ++ end_ids x))))) (k.0 ∙ sym q)) h

  open_before : (i l : ℕ) (f k : List ℕ) (g : Focus ℕ Closing) → d.focus ≡ g → IsOpen g l (f ++ (i ∷ k))
      → changed (line_of d.items (shortened g f)) ≡ changed (edited_open (before i d) d g)
  open_before i l f k (last closed) e op = absurd op
  open_before i l f k (last (proof m b)) e op =
      ap changed (sym (ap (λ z. dropped z d) at ∙ drop_open m f (i ∷ k) (e ∙ ap (λ z. last (proof m z)) op.1)))
    where
      at : before i d ≡ last_or m f
      at = before_at i d (items_ids d.items ++ (m ∷ f)) _ (ap (λ z. (items_ids d.items ++ front_of z) ++ back_of z) e ∙
          ap (λ z. (items_ids d.items ++ (m ∷ z)) ++ []) op.1 ∙ open_inner_part (items_ids d.items) f k [] m i) h
          ∙ last_over 1 m (items_ids d.items) f
  open_before i l f k (zone m b c t x) e op =
      ap changed (sym (ap (λ z. zoned z d) at ∙ zone_open_front m f (i ∷ k) c t x (e ∙ ap (λ z. zone m z c t x) op.1)))
    where
      at : before i d ≡ last_or m f
      at = before_at i d (items_ids d.items ++ (m ∷ f)) _ (ap (λ z. (items_ids d.items ++ front_of z) ++ back_of z) e ∙
          ap (λ z. (items_ids d.items ++ (m ∷ z)) ++ (c.id ∷ (items_ids t ++ end_ids x))) op.1
          ∙ open_inner_part (items_ids d.items) f k (c.id ∷ (items_ids t ++ end_ids x)) m i) h
          ∙ last_over 1 m (items_ids d.items) f

  seat_before : (i : ℕ) (x : Seat) → IsSeat i d.items d.focus x → removed_at x d ≡ by_before (before i d) x d
  seat_before i (among s) k = absurd k
  seat_before i (open_lemma l b) k = lemma_before i l b k.0 k.1
  seat_before i (open_inner l f t) k = open_before i l f t d.focus refl k
  seat_before i (behind c) k = refl
  seat_before i nowhere k = refl

pub removed_before : (i : ℕ) (d : Line) → Distinct (ids d) → has 1 (ids d) ≡ false → removed i d ≡ by_before (before i d) (seat i d) d
removed_before i d h o = at (locate i d.items) (seated_is i d)
  where
    at : (s : Spot) → IsSeated i d s (in_focus i d.focus)
        → removed_at (seat_or s (in_focus i d.focus)) d ≡ by_before (before i d) (seat_or s (in_focus i d.focus)) d
    at (at_lone a t) k = ap changed (sym (plain_before (before i d) (at_lone a t) d d.focus refl
        ∙ ap (λ z. dropped z d) (before_at i d (items_ids a) _ (around d a t (lone i) k ∙
        behind_lone (items_ids a) (items_ids t) (front_of d.focus ++ back_of d.focus) i) h)
        ∙ drop_items d h o a (lone i ∷ t) k))
    at (at_lemma a b c t) k = ap changed (sym (plain_before (before i d) (at_lemma a b c t) d d.focus refl
        ∙ ap (λ z. dropped z d) (before_at i d (items_ids a) _ (around d a t (block i b c) k ∙
        behind_lemma (items_ids a) b (items_ids t) (front_of d.focus ++ back_of d.focus) i c.id) h)
        ∙ drop_items d h o a (block i b c ∷ t) k))
    at (at_inner a l f x c t) k = ap changed (inner_before d h o i a t l f x c k
        ∙ ap (λ z. among_before z (at_inner a l f x c t) d d.focus)
        (sym (before_at i d (items_ids a ++ (l ∷ f)) _ (around d a t (block l (f ++ (i ∷ x)) c) k
        ∙ behind_inner (items_ids a) f x (items_ids t) (front_of d.focus ++ back_of d.focus) l i c.id) h
        ∙ last_over 1 l (items_ids a) f)))
    at (at_closer a l b c t) k = ap changed (sym (plain_before (before i d) (at_closer a l b c t) d d.focus refl
        ∙ ap (λ z. dropped z d) (before_at i d (items_ids a ++ (l ∷ b)) _ (around d a t (block l b c) k.0 ∙
        behind_closer (items_ids a) b (items_ids t) (front_of d.focus ++ back_of d.focus) l c.id
        ∙ ap (λ z. (items_ids a ++ (l ∷ b)) ++ (z ∷ ((items_ids t ++ (front_of d.focus ++ back_of d.focus)) ++ []))) (sym k.1)) h
        ∙ last_over 1 l (items_ids a) b)
        ∙ drop_front d h o a t l b [] c (k.0 ∙ ap (λ z. a ++ (block l z c ∷ t)) (sym (append-nil b)))))
    at missing k = seat_before d h o i (in_focus i d.focus) k.1
