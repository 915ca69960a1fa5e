-- Where an id stands: the parts that are found are those of the line.
use Rattle.std.proofs.Common.{◌≡◌, ℕ, nat_eq, ◌||◌, List, [], ◌∷◌, ◌++◌, Bool, true, false, if◌then◌else◌, refl, sym, ap, ◌∙◌}
use Rattle.line_theory.specs.Lists.{has}
use Rattle.line_theory.specs.Shapes.{Item, lone, block, closed, proof, Focus, last, zone}
use Rattle.line_theory.specs.Lines.{
  Closing,
  Line,
  item_ids,
  items_ids,
  end_ids,
  front_of,
  back_of,
  Split,
  found,
  unfound,
  after,
  split,
  Spot,
  at_lone,
  at_lemma,
  at_inner,
  at_closer,
  missing,
  under,
  inside,
  locate,
}
use Rattle.line_theory.specs.Edits.{Seat, among, open_lemma, open_inner, behind, nowhere, in_inside, in_proof, in_tail, in_focus}
use Rattle.line_theory.specs.Placed.{IsSpot, IsKept}
use Rattle.line_theory.proofs.Lists.{test_equal, absent_join}

-- ---- a list around an id

abbrev pub IsSplit : ℕ → List ℕ → Split → Type 0
IsSplit i b (found f k) = b ≡ f ++ (i ∷ k)
IsSplit i b unfound = has i b ≡ false

pub split_is : (i : ℕ) (b : List ℕ) → IsSplit i b (split i b)
split_is i [] = refl
split_is i (e ∷ b) = go (nat_eq i e) refl (split i b) (split_is i b)
  where
    go : (t : Bool) → nat_eq i e ≡ t → (s : Split) → IsSplit i b s → IsSplit i (e ∷ b) (if t then found [] b else after e s)
    go true q s h = ap (λ z. z ∷ b) (sym (test_equal i e q))
    go false q (found f k) h = ap (λ z. e ∷ z) h
    go false q unfound h = λ j. q j || h j

-- ---- items around an id

under_is : (i : ℕ) (x : Item ℕ Closing) (xs : List (Item ℕ Closing)) (s : Spot) → has i (item_ids x) ≡ false → IsSpot i xs s
    → IsSpot i (x ∷ xs) (under x s)
under_is i x xs (at_lone a t) n h = ap (λ z. x ∷ z) h
under_is i x xs (at_lemma a b c t) n h = ap (λ z. x ∷ z) h
under_is i x xs (at_inner a l f k c t) n h = ap (λ z. x ∷ z) h
under_is i x xs (at_closer a l b c t) n h = (ap (λ z. x ∷ z) h.0, h.1)
under_is i x xs missing n h = absent_join i (item_ids x) (items_ids xs) n h

none_in : (i : ℕ) (l : ℕ) (b : List ℕ) (c : Closing) → nat_eq i l ≡ false → has i b ≡ false → nat_eq i c.id ≡ false
    → has i (l ∷ (b ++ (c.id ∷ []))) ≡ false
none_in i l b c p q r = λ j. p j || absent_join i b (c.id ∷ []) q ((λ k. r k || false)) j

pub locate_is : (i : ℕ) (xs : List (Item ℕ Closing)) → IsSpot i xs (locate i xs)
locate_is i [] = refl
locate_is i (lone e ∷ t) = go (locate_is i t) (nat_eq i e) refl
  where
    go : IsSpot i t (locate i t) → (b : Bool) → nat_eq i e ≡ b
        → IsSpot i (lone e ∷ t) (if b then at_lone [] t else under (lone e) (locate i t))
    go rest true q = ap (λ z. lone z ∷ t) (sym (test_equal i e q))
    go rest false q = under_is i (lone e) t (locate i t) ((λ k. q k || false)) rest
locate_is i (block l b c ∷ t) = go (locate_is i t) (nat_eq i l) refl (split i b) (split_is i b)
  where
    last_part : IsSpot i t (locate i t) → nat_eq i l ≡ false → has i b ≡ false → (r : Bool) → nat_eq i c.id ≡ r
        → IsSpot i (block l b c ∷ t) (if r then at_closer [] l b c t else under (block l b c) (locate i t))
    last_part rest p q true e = (refl, test_equal i c.id e)
    last_part rest p q false e = under_is i (block l b c) t (locate i t) (none_in i l b c p q e) rest

    go : IsSpot i t (locate i t) → (r : Bool) → nat_eq i l ≡ r → (s : Split) → IsSplit i b s
        → IsSpot i (block l b c ∷ t) (if r then at_lemma [] b c t else inside i l b c t s (under (block l b c) (locate i t)))
    go rest true e s h = ap (λ z. block z b c ∷ t) (sym (test_equal i l e))
    go rest false e (found f k) h = ap (λ z. block l z c ∷ t) h
    go rest false e unfound h = last_part rest e h (nat_eq i c.id) refl

-- ---- the seat of an id

-- the block that is open at the cursor is this one
abbrev pub IsOpen : Focus ℕ Closing → ℕ → List ℕ → Type 0
IsOpen (last closed) l b = ⊥
IsOpen (last (proof m f)) l b = (m ≡ l) × (f ≡ b)
IsOpen (zone m f c t o) l b = (m ≡ l) × (f ≡ b)

abbrev pub IsSeat : ℕ → List (Item ℕ Closing) → Focus ℕ Closing → Seat → Type 0
IsSeat i a g (among s) = ⊥
IsSeat i a g (open_lemma l b) = IsOpen g l b × (i ≡ l)
IsSeat i a g (open_inner l f k) = IsOpen g l (f ++ (i ∷ k))
IsSeat i a g (behind c) = IsKept g c × ((has i (front_of g) ≡ false) × (has i (back_of g) ≡ true))
IsSeat i a g nowhere = (has i (front_of g) ≡ false) × (has i (back_of g) ≡ false)

module _ (i : ℕ) (a : List (Item ℕ Closing)) where
  in_proof_is : (g : Focus ℕ Closing) (l : ℕ) (b : List ℕ) (other : Seat) → IsOpen g l b
      → ((x y : List ℕ) → x ≡ y → IsOpen g l x → IsOpen g l y)
      → (has i (l ∷ b) ≡ false → IsSeat i a g other) → IsSeat i a g (in_proof i l b other)
  in_proof_is g l b other o f h = go (nat_eq i l) refl (split i b) (split_is i b)
    where
      go : (r : Bool) → nat_eq i l ≡ r → (s : Split) → IsSplit i b s → IsSeat i a g (if r then open_lemma l b else in_inside l s other)
      go true e s k = (o, test_equal i l e)
      go false e (found p q) k = f b (p ++ (i ∷ q)) k o
      go false e unfound k = h ((λ j. e j || k j))

  in_focus_is : (g : Focus ℕ Closing) → IsSeat i a g (in_focus i g)
  in_focus_is (last closed) = (refl, refl)
  in_focus_is (last (proof l b)) = in_proof_is (last (proof l b)) l b nowhere (refl, refl) (λ x y e o. (o.0, o.1 ∙ e))
      (λ n. (n, refl))
  in_focus_is (zone l b c t o) = in_proof_is (zone l b c t o) l b (in_tail i c t o) (refl, refl)
      (λ x y e o. (o.0, o.1 ∙ e)) (λ n. go n (has i (c.id ∷ (items_ids t ++ end_ids o))) refl)
    where
      go : has i (l ∷ b) ≡ false → (r : Bool) → has i (c.id ∷ (items_ids t ++ end_ids o)) ≡ r
          → IsSeat i a (zone l b c t o) (if r then behind c.id else nowhere)
      go n true e = (refl, (n, e))
      go n false e = (n, e)

-- what is found of an id, by its items' parts and by its seat in the focus
abbrev pub IsSeated : ℕ → Line → Spot → Seat → Type 0
IsSeated i d missing s = (has i (items_ids d.items) ≡ false) × IsSeat i d.items d.focus s
IsSeated i d (at_lone a t) s = IsSpot i d.items (at_lone a t)
IsSeated i d (at_lemma a b c t) s = IsSpot i d.items (at_lemma a b c t)
IsSeated i d (at_inner a l f k c t) s = IsSpot i d.items (at_inner a l f k c t)
IsSeated i d (at_closer a l b c t) s = IsSpot i d.items (at_closer a l b c t)

pub seated_is : (i : ℕ) (d : Line) → IsSeated i d (locate i d.items) (in_focus i d.focus)
seated_is i d = go (locate i d.items) (locate_is i d.items)
  where
    go : (s : Spot) → IsSpot i d.items s → IsSeated i d s (in_focus i d.focus)
    go (at_lone a t) h = h
    go (at_lemma a b c t) h = h
    go (at_inner a l f k c t) h = h
    go (at_closer a l b c t) h = h
    go missing h = (h, in_focus_is i d.items d.focus)
