-- A sentence that is removed inside of a proof takes the edit of the one before it.
use Rattle.std.proofs.Common.{
  ◌≡◌,
  ◌⊎◌,
  inl,
  inr,
  ℕ,
  ◌≤◌,
  ◌<◌,
  ◌||◌,
  nat_eq,
  List,
  [],
  ◌∷◌,
  ◌++◌,
  map,
  Bool,
  true,
  false,
  if◌then◌else◌,
  refl,
  sym,
  ap,
  subst,
  ◌∙◌,
  append_assoc,
  append-nil,
  arith,
}
use Rattle.line_theory.specs.Lists.{Every, has, last_or, Distinct}
use Rattle.line_theory.specs.Shapes.{lone, block, closed, proof, last, zone}
use Rattle.doc_theory.specs.Documents.{Entry, Item, entries_of, entries, end_entries, Focus, focus_entries, Document}
use Rattle.doc_theory.specs.Editing.{
  found,
  unfound,
  after,
  split,
  Spot,
  at_lone,
  at_lemma,
  at_inner,
  at_closer,
  missing,
  under,
  inside,
  locate,
  Seat,
  among,
  open_lemma,
  open_inner,
  nowhere,
  in_inside,
  in_proof,
  in_tail,
  in_focus,
  seat_or,
  seat,
  refocus,
  reenter,
  shorten,
  changed,
  edit_at,
  edit,
}
use Rattle.doc_theory.specs.Line.{line, HasIds, IsOpen}
use Rattle.doc_theory.proofs.Lists.{test_is}
use Rattle.line_theory.proofs.Lists.{no, test_same, every_parts}
use Rattle.doc_theory.proofs.Forgotten.{map_join}
use Rattle.doc_theory.proofs.Places.{with_block, with_focus, zone_parts}
use Rattle.doc_theory.proofs.Ids.{not_either, absent_parts, other_back}

abbrev named : List Entry → List ℕ
named b = map (λ e. e.id) b

abbrev of_items : List Item → List ℕ
of_items a = named (entries a)

flip_test : (m n : ℕ) → (nat_eq n m) ≡ false → (nat_eq m n) ≡ false
flip_test m n h = go (nat_eq m n) refl
  where
    go : (b : Bool) → (nat_eq m n) ≡ b → b ≡ false
    go true e = no (sym h ∙ ap (λ z. nat_eq n z) (sym (test_is n m e)) ∙ test_same n)
    go false e = refl

-- what stands before an id in a list without doubles hasn't it
absent_before : (p : ℕ) (a r : List ℕ) → Distinct (a ++ (p ∷ r)) → has p a ≡ false
absent_before p [] r h = refl
absent_before p (x ∷ a) r h = let k = absent_parts x a (p ∷ r) h.0 in
    λ i. flip_test p x (not_either (nat_eq x p) (has x r) k.1).0 i || absent_before p a r h.1 i

-- ---- looking for an id that isn't there, or is at one place

split_unfound : (p : ℕ) (b : List Entry) → has p (named b) ≡ false → split p b ≡ unfound
split_unfound p [] h = refl
split_unfound p (e ∷ b) h = let k = not_either (nat_eq p e.id) (has p (named b)) h in
    ap (λ z. if z then found [] e b else after e (split p b)) k.0 ∙ ap (after e) (split_unfound p b k.1)

split_found : (g : List Entry) (y : Entry) (k : List Entry) → has y.id (named g) ≡ false → split y.id (g ++ (y ∷ k)) ≡ found g y k
split_found [] y k h = ap (λ z. if z then found [] y k else after y (split y.id k)) (test_same y.id)
split_found (e ∷ g) y k h = let q = not_either (nat_eq y.id e.id) (has y.id (named g)) h in
    ap (λ z. if z then found [] e (g ++ (y ∷ k)) else after e (split y.id (g ++ (y ∷ k)))) q.0 ∙ ap (after e) (split_found g y k q.1)

locate_skip : (p : ℕ) (x : Item) (xs : List Item) → has p (named (entries_of x)) ≡ false → locate p (x ∷ xs) ≡ under x (locate p xs)
locate_skip p (lone e) xs h = ap (λ z. if z then at_lone [] e xs else under (lone e) (locate p xs)) (not_either (nat_eq p e.id) false h).0
locate_skip p (block l b c) xs h =
    let k = not_either (nat_eq p l.id) (has p (named (b ++ (c ∷ [])))) h in
    let q = absent_parts p (named b) (c.id ∷ []) (ap (has p) (sym (map_join (λ e. e.id) b (c ∷ []))) ∙ k.1) in
    ap (λ z. if z then at_lemma [] l b c xs else inside p l b c xs (split p b) (under (block l b c) (locate p xs))) k.0
    ∙ ap (λ s. inside p l b c xs s (under (block l b c) (locate p xs))) (split_unfound p b q.0)
    ∙ ap (λ z. if z then at_closer [] l b c xs else under (block l b c) (locate p xs)) (not_either (nat_eq p c.id) false q.1).0

abbrev unders : List Item → Spot → Spot
unders [] s = s
unders (x ∷ a) s = under x (unders a s)

locate_skips : (p : ℕ) (a xs : List Item) → has p (of_items a) ≡ false → locate p (a ++ xs) ≡ unders a (locate p xs)
locate_skips p [] xs h = refl
locate_skips p (x ∷ a) xs h = let k = absent_parts p (named (entries_of x)) (of_items a)
    (ap (has p) (sym (map_join (λ e. e.id) (entries_of x) (entries a))) ∙ h) in
    locate_skip p x (a ++ xs) k.0 ∙ ap (under x) (locate_skips p a xs k.1)

unders_missing : (a : List Item) → unders a missing ≡ missing
unders_missing [] = refl
unders_missing (x ∷ a) = ap (under x) (unders_missing a)

locate_none : (p : ℕ) (a : List Item) → has p (of_items a) ≡ false → locate p a ≡ missing
locate_none p a h = ap (locate p) (sym (append-nil a)) ∙ locate_skips p a [] h ∙ unders_missing a

unders_lemma : (a : List Item) (l : Entry) (b : List Entry) (c : Entry) (t : List Item)
    → unders a (at_lemma [] l b c t) ≡ at_lemma a l b c t
unders_lemma [] l b c t = refl
unders_lemma (x ∷ a) l b c t = ap (under x) (unders_lemma a l b c t)

unders_inner : (a : List Item) (l : Entry) (f : List Entry) (e : Entry) (k : List Entry) (c : Entry) (t : List Item)
    → unders a (at_inner [] l f e k c t) ≡ at_inner a l f e k c t
unders_inner [] l f e k c t = refl
unders_inner (x ∷ a) l f e k c t = ap (under x) (unders_inner a l f e k c t)

-- ---- the last of a front

back : (f : List Entry) → (f ≡ []) ⊎ ((g : List Entry) × ((y : Entry) × (f ≡ g ++ (y ∷ []))))
back [] = inl refl
back (e ∷ f) = go (back f)
  where
    go : (f ≡ []) ⊎ ((g : List Entry) × ((y : Entry) × (f ≡ g ++ (y ∷ []))))
        → (e ∷ f ≡ []) ⊎ ((g : List Entry) × ((y : Entry) × (e ∷ f ≡ g ++ (y ∷ []))))
    go (inl q) = inr ([], (e, ap (λ z. e ∷ z) q))
    go (inr r) = inr (e ∷ r.0, (r.1.0, ap (λ z. e ∷ z) r.1.1))

last_of : (n : ℕ) (g : List Entry) (y : Entry) → last_or n (named (g ++ (y ∷ []))) ≡ y.id
last_of n [] y = refl
last_of n (e ∷ g) y = last_of e.id g y

-- ---- equations of lists

at_first : (A B T X : List ℕ) (l c : ℕ) → (A ++ ((l ∷ (B ++ (c ∷ []))) ++ T)) ++ X ≡ A ++ (l ∷ ((B ++ (c ∷ [])) ++ (T ++ X)))
at_first A B T X l c = simp (append_assoc)

at_inside : (A G K T X : List ℕ) (l y c : ℕ)
    → (A ++ ((l ∷ (((G ++ (y ∷ [])) ++ K) ++ (c ∷ []))) ++ T)) ++ X ≡ (A ++ (l ∷ G)) ++ (y ∷ (K ++ (c ∷ (T ++ X))))
at_inside A G K T X l y c = simp (append_assoc)

open_inside : (A G K X : List ℕ) (l y : ℕ) → A ++ (l ∷ (((G ++ (y ∷ [])) ++ K) ++ X)) ≡ (A ++ (l ∷ G)) ++ (y ∷ (K ++ X))
open_inside A G K X l y = simp (append_assoc)

-- ---- the edit

-- an id of a document isn't 1
not_one : (d : Document) (a r : List ℕ) (p : ℕ) → HasIds d → line d ≡ a ++ (p ∷ r) → (nat_eq 1 p) ≡ false
not_one d a r p h e = let b = (every_parts (λ m. (2 ≤ m) × (m < d.next)) a (p ∷ r) (subst (Every (λ m. (2 ≤ m) × (m < d.next)))
    e h.bounds)).1 in
    other_back 1 p (omega (arith, b.0.0))

edit_is : (d : Document) (p : ℕ) (s : Seat) → (nat_eq 1 p) ≡ false → seat p d ≡ s → edit d p ≡ edit_at s d
edit_is d p s o e = ap (λ b. if b then changed (refocus [] (last closed) d) else edit_at (seat p d) d) o ∙ ap (λ x. edit_at x d) e

module _ (d : Document) (h : HasIds d) where
  pub inner_is_edit : (a t : List Item) (l : Entry) (f : List Entry) (e : Entry) (k : List Entry) (c : Entry)
      → d.items ≡ a ++ (block l (f ++ (e ∷ k)) c ∷ t)
      → edit d (last_or l.id (named f)) ≡ changed (reenter d.focus a l f c t d)
  inner_is_edit a t l f e k c q = go (back f)
    where
      parts : (g : List Entry) → f ≡ g
          → line d ≡ (of_items a ++ ((l.id ∷ ((named g ++ named (e ∷ k)) ++ (c.id ∷ []))) ++ of_items t)) ++ named (focus_entries d.focus)
      parts g z = with_block d a t l (f ++ (e ∷ k)) g (e ∷ k) c q (ap (λ v. v ++ (e ∷ k)) z)

      go : (f ≡ []) ⊎ ((g : List Entry) × ((y : Entry) × (f ≡ g ++ (y ∷ []))))
          → edit d (last_or l.id (named f)) ≡ changed (reenter d.focus a l f c t d)
      go (inl z) =
          let w = parts [] z ∙ at_first (of_items a) (e.id ∷ named k) (of_items t) (named (focus_entries d.focus)) l.id c.id in
          let free = absent_before l.id (of_items a) _ (subst Distinct w h.distinct) in
          let found_at : locate l.id d.items ≡ at_lemma a l (f ++ (e ∷ k)) c t = ap (locate l.id) q
          ∙ locate_skips l.id a (block l (f ++ (e ∷ k)) c ∷ t) free
          ∙ ap (unders a) (ap (λ b. if b then at_lemma [] l (f ++ (e ∷ k)) c t else inside l.id l (f ++ (e ∷ k)) c t
          (split l.id (f ++ (e ∷ k))) (under (block l (f ++ (e ∷ k)) c) (locate l.id t))) (test_same l.id))
          ∙ unders_lemma a l (f ++ (e ∷ k)) c t in
          ap (λ v. edit d (last_or l.id (named v))) z
          ∙ edit_is d l.id (among (at_lemma a l (f ++ (e ∷ k)) c t)) (not_one d (of_items a) _ l.id h w)
          (ap (λ s. seat_or s (in_focus l.id d.focus)) found_at)
          ∙ ap (λ v. changed (reenter d.focus a l v c t d)) (sym z)
      go (inr r) =
          let g = r.0 in
          let y = r.1.0 in
          let w = parts (g ++ (y ∷ [])) r.1.1
          ∙ ap (λ v. (of_items a ++ ((l.id ∷ ((v ++ named (e ∷ k)) ++ (c.id ∷ []))) ++ of_items t))
          ++ named (focus_entries d.focus)) (map_join (λ x. x.id) g (y ∷ []))
          ∙ at_inside (of_items a) (named g) (named (e ∷ k)) (of_items t) (named (focus_entries d.focus)) l.id y.id c.id in
          let free = absent_parts y.id (of_items a) (l.id ∷ named g) (absent_before y.id (of_items a ++ (l.id ∷ named g)) _
          (subst Distinct w h.distinct)) in
          let own = not_either (nat_eq y.id l.id) (has y.id (named g)) free.1 in
          let same : f ++ (e ∷ k) ≡ g ++ (y ∷ (e ∷ k)) = ap (λ v. v ++ (e ∷ k)) r.1.1 ∙ append_assoc g (y ∷ []) (e ∷ k) in
          let found_at : locate y.id d.items ≡ at_inner a l g y (e ∷ k) c t = ap (locate y.id) (q ∙ ap (λ v. a ++ (block l v c ∷ t)) same)
          ∙ locate_skips y.id a (block l (g ++ (y ∷ (e ∷ k))) c ∷ t) free.0
          ∙ ap (unders a) (ap (λ b. if b then at_lemma [] l (g ++ (y ∷ (e ∷ k))) c t else inside y.id l (g ++ (y ∷ (e ∷ k))) c
          t (split y.id (g ++ (y ∷ (e ∷ k)))) (under (block l (g ++ (y ∷ (e ∷ k))) c) (locate y.id t))) own.0
          ∙ ap (λ s. inside y.id l (g ++ (y ∷ (e ∷ k))) c t s (under (block l (g ++ (y ∷ (e ∷ k))) c) (locate y.id t)))
          (split_found g y (e ∷ k) own.1))
          ∙ unders_inner a l g y (e ∷ k) c t in
          ap (edit d) (ap (λ v. last_or l.id (named v)) r.1.1 ∙ last_of l.id g y)
          ∙ edit_is d y.id (among (at_inner a l g y (e ∷ k) c t)) (not_one d (of_items a ++ (l.id ∷ named g)) _ y.id h w)
          (ap (λ s. seat_or s (in_focus y.id d.focus)) found_at)
          ∙ ap (λ v. changed (reenter d.focus a l v c t d)) (sym r.1.1)

  -- the same in the block that is open at the cursor
  open_edit : (l : Entry) (f : List Entry) (e : Entry) (k : List Entry) (x : List ℕ) (other : ℕ → Seat)
      → line d ≡ of_items d.items ++ (l.id ∷ (named (f ++ (e ∷ k)) ++ x))
      → ((p : ℕ) → in_focus p d.focus ≡ in_proof p l (f ++ (e ∷ k)) (other p)) → edit d (last_or l.id (named f))
      ≡ changed (refocus d.items (shorten d.focus f (e ∷ k)) d)
  open_edit l f e k x other w s = go (back f)
    where
      go : (f ≡ []) ⊎ ((g : List Entry) × ((y : Entry) × (f ≡ g ++ (y ∷ []))))
          → edit d (last_or l.id (named f)) ≡ changed (refocus d.items (shorten d.focus f (e ∷ k)) d)
      go (inl z) =
          let free = absent_before l.id (of_items d.items) (named (f ++ (e ∷ k)) ++ x) (subst Distinct w h.distinct) in
          let seated : seat l.id d ≡ open_lemma l (f ++ (e ∷ k)) =
          ap (λ v. seat_or v (in_focus l.id d.focus)) (locate_none l.id d.items free)
          ∙ s l.id
          ∙ ap (λ b. if b then open_lemma l (f ++ (e ∷ k)) else in_inside l (split l.id (f ++ (e ∷ k))) (other l.id)) (test_same l.id) in
          ap (λ v. edit d (last_or l.id (named v))) z
          ∙ edit_is d l.id (open_lemma l (f ++ (e ∷ k))) (not_one d (of_items d.items) (named (f ++ (e ∷ k)) ++ x) l.id h w) seated
          ∙ ap (λ v. changed (refocus d.items (shorten d.focus [] (v ++ (e ∷ k))) d)) z
          ∙ ap (λ v. changed (refocus d.items (shorten d.focus v (e ∷ k)) d)) (sym z)
      go (inr r) =
          let g = r.0 in
          let y = r.1.0 in
          let u = w ∙ ap (λ v. of_items d.items ++ (l.id ∷ (named (v ++ (e ∷ k)) ++ x))) r.1.1
          ∙ ap (λ v. of_items d.items ++ (l.id ∷ (v ++ x))) (map_join (λ z. z.id) (g ++ (y ∷ [])) (e ∷ k) ∙
          ap (λ v. v ++ named (e ∷ k)) (map_join (λ z. z.id) g (y ∷ [])))
          ∙ open_inside (of_items d.items) (named g) (named (e ∷ k)) x l.id y.id in
          let free = absent_parts y.id (of_items d.items) (l.id ∷ named g)
          (absent_before y.id (of_items d.items ++ (l.id ∷ named g)) (named (e ∷ k) ++ x) (subst Distinct u h.distinct)) in
          let own = not_either (nat_eq y.id l.id) (has y.id (named g)) free.1 in
          let same : f ++ (e ∷ k) ≡ g ++ (y ∷ (e ∷ k)) = ap (λ v. v ++ (e ∷ k)) r.1.1 ∙ append_assoc g (y ∷ []) (e ∷ k) in
          let seated : seat y.id d ≡ open_inner l g y (e ∷ k) =
          ap (λ v. seat_or v (in_focus y.id d.focus)) (locate_none y.id d.items free.0)
          ∙ s y.id
          ∙ ap (λ v. in_proof y.id l v (other y.id)) same
          ∙ ap (λ b. if b then open_lemma l (g ++ (y ∷ (e ∷ k))) else in_inside l (split y.id (g ++ (y ∷ (e ∷ k)))) (other y.id)) own.0
          ∙ ap (λ v. in_inside l v (other y.id)) (split_found g y (e ∷ k) own.1) in
          ap (edit d) (ap (λ v. last_or l.id (named v)) r.1.1 ∙ last_of l.id g y)
          ∙ edit_is d y.id (open_inner l g y (e ∷ k)) (not_one d (of_items d.items ++ (l.id ∷ named g)) (named (e ∷ k) ++ x)
          y.id h u) seated
          ∙ ap (λ v. changed (refocus d.items (shorten d.focus v (e ∷ k)) d)) (sym r.1.1)

  pub open_is_edit : (g : Focus) → d.focus ≡ g → (l : Entry) (f : List Entry) (e : Entry) (k : List Entry)
      → IsOpen g l (f ++ (e ∷ k))
      → edit d (last_or l.id (named f)) ≡ changed (refocus d.items (shorten d.focus f (e ∷ k)) d)
  open_is_edit (last closed) q l f e k o = absurd o
  open_is_edit (last (proof m b)) q l f e k o = open_edit l f e k [] (λ p. nowhere)
      (with_focus d (last (proof m b)) q ∙ (λ i. of_items d.items ++ ((o.0 i).id ∷ named (o.1 i))) ∙
      ap (λ v. of_items d.items ++ (l.id ∷ v)) (sym (append-nil (named (f ++ (e ∷ k))))))
      (λ p. ap (in_focus p) q ∙ (λ i. in_proof p (o.0 i) (o.1 i) nowhere))
  open_is_edit (zone m b c t z) q l f e k o = open_edit l f e k (c.id ∷ (of_items t ++ named (end_entries z))) (λ p. in_tail p c t z)
      (with_focus d (zone m b c t z) q ∙ ap (λ v. of_items d.items ++ v) (zone_parts m b c t z) ∙
      (λ i. of_items d.items ++ ((o.0 i).id ∷ (named (o.1 i) ++ (c.id ∷ (of_items t ++ named (end_entries z)))))))
      (λ p. ap (in_focus p) q ∙ (λ i. in_proof p (o.0 i) (o.1 i) (in_tail p c t z)))
