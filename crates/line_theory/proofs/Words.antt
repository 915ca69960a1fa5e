-- What each change makes of the flat lists.
use Rattle.std.proofs.Common.{
  ◌≡◌,
  ◌⊎◌,
  inl,
  inr,
  ℕ,
  nat_eq,
  ◌||◌,
  List,
  [],
  ◌∷◌,
  ◌++◌,
  Bool,
  true,
  false,
  if◌then◌else◌,
  refl,
  sym,
  ap,
  ◌∙◌,
  append_assoc,
  append-nil,
}
use Rattle.line_theory.specs.Lists.{has, IsCut}
use Rattle.line_theory.specs.Shapes.{Item, lone, block, End, closed, proof, Focus, last, zone}
use Rattle.line_theory.specs.Lines.{
  Closing,
  Line,
  empty,
  items_ids,
  item_ids,
  end_ids,
  front_of,
  back_of,
  front,
  back,
  ids,
  committed_in,
  committed,
  AtEnd,
  InProof,
  begun,
  merged,
  merged_in,
  refolded,
  refolded_in,
  Split,
  found,
  unfound,
  split,
  Spot,
  at_lone,
  at_lemma,
  at_inner,
  at_closer,
  missing,
  locate,
  dropped_inside,
  dropped_open,
  dropped_at,
  dropped,
  zoned_inside,
  zoned_at,
  zoned_in,
  zoned,
  OpensAt,
  OpensIn,
  Opens,
  DropsIn,
  Drops,
}
use Rattle.line_theory.specs.Placed.{IsSpot, IsCutBehind}
use Rattle.line_theory.proofs.Lists.{no, test_equal, has_parts}
use Rattle.line_theory.proofs.Folded.{items_join}
use Rattle.line_theory.proofs.Placed.{IsSplit, split_is, locate_is}

-- ---- one id comes in at the cursor

pub committed_front : (i : ℕ) (d : Line) → front (committed i d) ≡ front d ++ (i ∷ [])
committed_front i d = go d.items d.focus
  where
    go : (a : List (Item ℕ Closing)) (f : Focus ℕ Closing) → front (committed_in i a f) ≡ (items_ids a ++ front_of f) ++ (i ∷ [])
    go a (last closed) = append-nil (items_ids (a ++ (lone i ∷ []))) ∙ items_join a (lone i ∷ [])
        ∙ ap (λ z. z ++ (i ∷ [])) (sym (append-nil (items_ids a)))
    go a (last (proof l b)) = sym (append_assoc (items_ids a) (l ∷ b) (i ∷ []))
    go a (zone l b c t o) = sym (append_assoc (items_ids a) (l ∷ b) (i ∷ []))

pub committed_back : (i : ℕ) (d : Line) → back (committed i d) ≡ back d
committed_back i d = go d.items d.focus
  where
    go : (a : List (Item ℕ Closing)) (f : Focus ℕ Closing) → back (committed_in i a f) ≡ back_of f
    go a (last closed) = refl
    go a (last (proof l b)) = refl
    go a (zone l b c t o) = refl

pub begun_front : (i : ℕ) (d : Line) → AtEnd d.focus → front (begun i d) ≡ front d ++ (i ∷ [])
begun_front i d h = go d.focus h
  where
    go : (f : Focus ℕ Closing) → AtEnd f → items_ids d.items ++ (i ∷ []) ≡ (items_ids d.items ++ front_of f) ++ (i ∷ [])
    go (last closed) k = ap (λ z. z ++ (i ∷ [])) (sym (append-nil (items_ids d.items)))
    go (last (proof l b)) k = absurd k
    go (zone l b c t o) k = absurd k

pub begun_back : (i : ℕ) (d : Line) → AtEnd d.focus → back (begun i d) ≡ back d
begun_back i d h = go d.focus h
  where
    go : (f : Focus ℕ Closing) → AtEnd f → [] ≡ back_of f
    go (last closed) k = refl
    go (last (proof l b)) k = absurd k
    go (zone l b c t o) k = absurd k

pub merged_front : (i : ℕ) (q : Bool) (d : Line) → InProof d.focus → front (merged i q d) ≡ front d ++ (i ∷ [])
merged_front i q d h = go d.items d.focus h
  where
    go : (a : List (Item ℕ Closing)) (f : Focus ℕ Closing) → InProof f
        → front (merged_in (record { id = i; opaque = q }) a f) ≡ (items_ids a ++ front_of f) ++ (i ∷ [])
    go a (last closed) k = absurd k
    go a (last (proof l b)) k = append-nil (items_ids (a ++ (block l b (record { id = i; opaque = q }) ∷ [])))
        ∙ items_join a (block l b (record { id = i; opaque = q }) ∷ [])
        ∙ ap (λ z. items_ids a ++ (l ∷ z)) (append-nil (b ++ (i ∷ []))) ∙ sym (append_assoc (items_ids a) (l ∷ b) (i ∷ []))
    go a (zone l b c t o) k = absurd k

pub merged_back : (i : ℕ) (q : Bool) (d : Line) → InProof d.focus → back (merged i q d) ≡ back d
merged_back i q d h = go d.items d.focus h
  where
    go : (a : List (Item ℕ Closing)) (f : Focus ℕ Closing) → InProof f → back (merged_in (record { id = i; opaque = q }) a f) ≡ back_of f
    go a (last closed) k = absurd k
    go a (last (proof l b)) k = refl
    go a (zone l b c t o) k = absurd k

pub refolded_back : (d : Line) → back (refolded d) ≡ []
refolded_back d = go d.items d.focus
  where
    go : (a : List (Item ℕ Closing)) (f : Focus ℕ Closing) → back (refolded_in a f) ≡ []
    go a (last o) = refl
    go a (zone l b c t o) = refl

-- ---- one piece goes behind an id

-- equations of lists: what an item is parted into
pub behind_lone : (A T X : List ℕ) (i : ℕ) → (A ++ (i ∷ T)) ++ X ≡ A ++ (i ∷ ((T ++ X) ++ []))
behind_lone A T X i = simp (append_assoc, append-nil)

pub behind_lemma : (A B T X : List ℕ) (i c : ℕ) → (A ++ ((i ∷ (B ++ (c ∷ []))) ++ T)) ++ X ≡ A ++ (i ∷ ((B ++ (c ∷ (T ++ X))) ++ []))
behind_lemma A B T X i c = simp (append_assoc, append-nil)

pub behind_inner : (A F K T X : List ℕ) (l i c : ℕ)
    → (A ++ ((l ∷ ((F ++ (i ∷ K)) ++ (c ∷ []))) ++ T)) ++ X ≡ (A ++ (l ∷ F)) ++ (i ∷ ((K ++ (c ∷ (T ++ X))) ++ []))
behind_inner A F K T X l i c = simp (append_assoc, append-nil)

pub behind_closer : (A B T X : List ℕ) (l c : ℕ) → (A ++ ((l ∷ (B ++ (c ∷ []))) ++ T)) ++ X ≡ (A ++ (l ∷ B)) ++ (c ∷ ((T ++ X) ++ []))
behind_closer A B T X l c = simp (append_assoc, append-nil)

zone_lemma : (A B T X : List ℕ) (i c : ℕ) → (A ++ ((i ∷ (B ++ (c ∷ []))) ++ T)) ++ X ≡ A ++ (i ∷ (B ++ (c ∷ (T ++ X))))
zone_lemma A B T X i c = simp (append_assoc)

pub zone_inner : (A F K T X : List ℕ) (l i c : ℕ)
    → (A ++ ((l ∷ ((F ++ (i ∷ K)) ++ (c ∷ []))) ++ T)) ++ X ≡ (A ++ (l ∷ F)) ++ (i ∷ (K ++ (c ∷ (T ++ X))))
zone_inner A F K T X l i c = simp (append_assoc)

pub open_inner_part : (A F K X : List ℕ) (l i : ℕ) → (A ++ (l ∷ (F ++ (i ∷ K)))) ++ X ≡ (A ++ (l ∷ F)) ++ (i ∷ (K ++ X))
open_inner_part A F K X l i = simp (append_assoc)

pub open_lemma_part : (A B X : List ℕ) (l : ℕ) → (A ++ (l ∷ B)) ++ X ≡ A ++ (l ∷ (B ++ X))
open_lemma_part A B X l = simp (append_assoc)

pub last_put : (A F : List ℕ) (l i : ℕ) → A ++ (l ∷ (F ++ (i ∷ []))) ≡ (A ++ (l ∷ F)) ++ (i ∷ [])
last_put A F l i = simp (append_assoc)

-- the ids of a line by its items and its focus
parted : (d : Line) (a : List (Item ℕ Closing)) → d.items ≡ a → ids d ≡ items_ids a ++ (front_of d.focus ++ back_of d.focus)
parted d a e = append_assoc (items_ids d.items) (front_of d.focus) (back_of d.focus)
    ∙ ap (λ z. items_ids z ++ (front_of d.focus ++ back_of d.focus)) e

pub around : (d : Line) (a t : List (Item ℕ Closing)) (x : Item ℕ Closing) → d.items ≡ a ++ (x ∷ t)
    → ids d ≡ (items_ids a ++ (item_ids x ++ items_ids t)) ++ (front_of d.focus ++ back_of d.focus)
around d a t x e = parted d (a ++ (x ∷ t)) e ∙ ap (λ z. z ++ (front_of d.focus ++ back_of d.focus)) (items_join a (x ∷ t))

-- ---- all behind an id goes

in_block : (i : ℕ) (d : Line) (l : ℕ) (b : List ℕ) → d.focus ≡ last (proof l b) → has i (l ∷ b) ≡ true
    → IsCutBehind i d (dropped_open i d.items (last (proof l b))) × (back (dropped_open i d.items (last (proof l b))) ≡ [])
in_block i d l b e h = go (nat_eq i l) refl (split i b) (split_is i b)
  where
    whole : ids d ≡ (items_ids d.items ++ (l ∷ b)) ++ []
    whole = ap (λ z. (items_ids d.items ++ front_of z) ++ back_of z) e

    go : (r : Bool) → nat_eq i l ≡ r → (s : Split) → IsSplit i b s
        → IsCutBehind i d (if r then record { items = d.items; focus = last (proof l []) } else dropped_inside d.items l b i s)
        × (back (if r then record { items = d.items; focus = last (proof l []) } else dropped_inside d.items l b i s) ≡ [])
    go true q s k = (
      record {
        before = items_ids d.items;
        gone = b;
        was = whole ∙ open_lemma_part (items_ids d.items) b [] l
            ∙ ap (λ z. items_ids d.items ++ (z ∷ (b ++ []))) (sym (test_equal i l q));
        front = ap (λ z. items_ids d.items ++ (z ∷ [])) (sym (test_equal i l q));
      },
      refl,
    )
    go false q (found f x) k = (
      record {
        before = items_ids d.items ++ (l ∷ f);
        gone = x;
        was = whole ∙ ap (λ z. (items_ids d.items ++ (l ∷ z)) ++ []) k ∙ open_inner_part (items_ids d.items) f x [] l i;
        front = last_put (items_ids d.items) f l i;
      },
      refl,
    )
    go false q unfound k = no (sym ((λ j. q j || k j)) ∙ h)

-- an id of the line is in its items, or in what its focus has
pub seated : (i : ℕ) (d : Line) → has i (ids d) ≡ true
    → (has i (items_ids d.items) ≡ true) ⊎ (has i (front_of d.focus ++ back_of d.focus) ≡ true)
seated i d h = has_parts i (items_ids d.items) (front_of d.focus ++ back_of d.focus)
    (sym (ap (has i) (append_assoc (items_ids d.items) (front_of d.focus) (back_of d.focus))) ∙ h)

-- a spot that is none leaves the focus
at_none : (i : ℕ) (d : Line) (f : Focus ℕ Closing) → d.focus ≡ f
    → (has i (items_ids d.items) ≡ true) ⊎ (has i (front_of f ++ back_of f) ≡ true) → has i (items_ids d.items) ≡ false
    → DropsIn i d.items f
    → IsCutBehind i d (dropped_open i d.items f) × (back (dropped_open i d.items f) ≡ [])
at_none i d f e (inl h) n r = no (sym n ∙ h)
at_none i d (last closed) e (inr h) n r = no h
at_none i d (last (proof l b)) e (inr h) n r = in_block i d l b e (sym (ap (has i) (append-nil (l ∷ b))) ∙ h)
at_none i d (zone l b c t o) e (inr h) n r = no (sym n ∙ r)

dropped_is : (i : ℕ) (d : Line) → has i (ids d) ≡ true → DropsIn i d.items d.focus → (s : Spot) → IsSpot i d.items s
    → IsCutBehind i d (dropped_at i s d) × (back (dropped_at i s d) ≡ [])
dropped_is i d q r (at_lone a t) h = (
  record {
    before = items_ids a;
    gone = items_ids t ++ (front_of d.focus ++ back_of d.focus);
    was = around d a t (lone i) h ∙ behind_lone (items_ids a) (items_ids t) (front_of d.focus ++ back_of d.focus) i;
    front = append-nil (items_ids (a ++ (lone i ∷ []))) ∙ items_join a (lone i ∷ []);
  },
  refl,
)
dropped_is i d q r (at_lemma a b c t) h = (
  record {
    before = items_ids a;
    gone = b ++ (c.id ∷ (items_ids t ++ (front_of d.focus ++ back_of d.focus)));
    was = around d a t (block i b c) h ∙ behind_lemma (items_ids a) b (items_ids t) (front_of d.focus ++ back_of d.focus) i c.id;
    front = refl;
  },
  refl,
)
dropped_is i d q r (at_inner a l f x c t) h = (
  record {
    before = items_ids a ++ (l ∷ f);
    gone = x ++ (c.id ∷ (items_ids t ++ (front_of d.focus ++ back_of d.focus)));
    was = around d a t (block l (f ++ (i ∷ x)) c) h
        ∙ behind_inner (items_ids a) f x (items_ids t) (front_of d.focus ++ back_of d.focus) l i c.id;
    front = last_put (items_ids a) f l i;
  },
  refl,
)
dropped_is i d q r (at_closer a l b c t) h = (
  record {
    before = items_ids a ++ (l ∷ b);
    gone = items_ids t ++ (front_of d.focus ++ back_of d.focus);
    was = around d a t (block l b c) h.0 ∙ behind_closer (items_ids a) b (items_ids t) (front_of d.focus ++ back_of d.focus) l c.id
        ∙ ap (λ z. (items_ids a ++ (l ∷ b)) ++ (z ∷ ((items_ids t ++ (front_of d.focus ++ back_of d.focus)) ++ []))) (sym h.1);
    front = append-nil (items_ids (a ++ (block l b c ∷ []))) ∙ items_join a (block l b c ∷ [])
        ∙ ap (λ z. items_ids a ++ (l ∷ z)) (append-nil (b ++ (c.id ∷ [])))
        ∙ last_put (items_ids a) b l c.id ∙ ap (λ z. (items_ids a ++ (l ∷ b)) ++ (z ∷ [])) (sym h.1);
  },
  refl,
)
dropped_is i d q r missing h = at_none i d d.focus refl (seated i d q) h r

pub dropped_behind : (i : ℕ) (d : Line) → nat_eq i 1 ≡ false → Drops i d → IsCutBehind i d (dropped i d) × (back (dropped i d) ≡ [])
dropped_behind i d o h = go (nat_eq i 1) o
  where
    cut : IsCutBehind i d (dropped_at i (locate i d.items) d) × (back (dropped_at i (locate i d.items) d) ≡ [])
    cut = dropped_is i d (h o).0 (h o).1 (locate i d.items) (locate_is i d.items)

    go : (t : Bool) → t ≡ false
        → IsCutBehind i d (if t then empty else dropped_at i (locate i d.items) d) ×
        (back (if t then empty else dropped_at i (locate i d.items) d) ≡ [])
    go true e = no (sym e)
    go false e = cut

-- ---- what stands between an id and a closer goes

module _ (i : ℕ) (d : Line) where
  -- where no zone is open yet
  zone_opened : (o : End ℕ) → d.focus ≡ last o → (s : Spot) → IsSpot i d.items s → OpensAt s
      → IsCutBehind i d (zoned_at i s d o)
  zone_opened o e (at_lone a t) h k = absurd k
  zone_opened o e (at_closer a l b c t) h k = absurd k
  zone_opened o e missing h k = absurd k
  zone_opened o e (at_lemma a b c t) h k = record {
    before = items_ids a;
    gone = b;
    was = around d a t (block i b c) h ∙ ap (λ z. (items_ids a ++ ((i ∷ (b ++ (c.id ∷ []))) ++ items_ids t)) ++ (front_of z ++ back_of z)) e
        ∙ ap (λ z. (items_ids a ++ ((i ∷ (b ++ (c.id ∷ []))) ++ items_ids t)) ++ z) (append-nil (end_ids o))
        ∙ zone_lemma (items_ids a) b (items_ids t) (end_ids o) i c.id;
    front = refl;
  }
  zone_opened o e (at_inner a l f x c t) h k = record {
    before = items_ids a ++ (l ∷ f);
    gone = x;
    was = around d a t (block l (f ++ (i ∷ x)) c) h
        ∙ ap (λ z. (items_ids a ++ ((l ∷ ((f ++ (i ∷ x)) ++ (c.id ∷ []))) ++ items_ids t)) ++ (front_of z ++ back_of z)) e
        ∙ ap (λ z. (items_ids a ++ ((l ∷ ((f ++ (i ∷ x)) ++ (c.id ∷ []))) ++ items_ids t)) ++ z) (append-nil (end_ids o))
        ∙ zone_inner (items_ids a) f x (items_ids t) (end_ids o) l i c.id;
    front = last_put (items_ids a) f l i;
  }

  -- where that zone is open
  zone_again : (l : ℕ) (b : List ℕ) (c : Closing) (t : List (Item ℕ Closing)) (o : End ℕ) → d.focus ≡ zone l b c t o
      → has i (l ∷ b) ≡ true → IsCutBehind i d (zoned_in i d (zone l b c t o))
  zone_again l b c t o e h = go (nat_eq i l) refl (split i b) (split_is i b)
    where
      whole : ids d ≡ (items_ids d.items ++ (l ∷ b)) ++ (c.id ∷ (items_ids t ++ end_ids o))
      whole = ap (λ z. (items_ids d.items ++ front_of z) ++ back_of z) e

      go : (r : Bool) → nat_eq i l ≡ r → (s : Split) → IsSplit i b s
          → IsCutBehind i d (if r then record { items = d.items; focus = zone l [] c t o } else zoned_inside d.items l b c t o i s)
      go true q s k = record {
        before = items_ids d.items;
        gone = b;
        was = whole ∙ open_lemma_part (items_ids d.items) b (c.id ∷ (items_ids t ++ end_ids o)) l
            ∙ ap (λ z. items_ids d.items ++ (z ∷ (b ++ (c.id ∷ (items_ids t ++ end_ids o))))) (sym (test_equal i l q));
        front = ap (λ z. items_ids d.items ++ (z ∷ [])) (sym (test_equal i l q));
      }
      go false q (found f x) k = record {
        before = items_ids d.items ++ (l ∷ f);
        gone = x;
        was = whole ∙ ap (λ z. (items_ids d.items ++ (l ∷ z)) ++ (c.id ∷ (items_ids t ++ end_ids o))) k
            ∙ open_inner_part (items_ids d.items) f x (c.id ∷ (items_ids t ++ end_ids o)) l i;
        front = last_put (items_ids d.items) f l i;
      }
      go false q unfound k = no (sym ((λ j. q j || k j)) ∙ h)

  pub zoned_behind : Opens i d → IsCutBehind i d (zoned i d)
  zoned_behind h = go d.focus refl h
    where
      go : (f : Focus ℕ Closing) → d.focus ≡ f → OpensIn i d.items f → IsCutBehind i d (zoned_in i d f)
      go (last o) e k = zone_opened o e (locate i d.items) (locate_is i d.items) k
      go (zone l b c t o) e k = zone_again l b c t o e k

-- ---- a cut behind an id is one piece that goes

pub behind_cut : (i : ℕ) (d e : Line) → IsCutBehind i d e → IsCut (ids d) (ids e)
behind_cut i d e c = record {
  front = c.before ++ (i ∷ []);
  gone = c.gone;
  back = back e;
  was = c.was ∙ sym (append_assoc c.before (i ∷ []) (c.gone ++ back e));
  is = ap (λ z. z ++ back e) c.front;
}

-- and for 1, where nothing stays
pub dropped_back : (i : ℕ) (d : Line) → Drops i d → back (dropped i d) ≡ []
dropped_back i d h = go (nat_eq i 1) refl
  where
    go : (t : Bool) → nat_eq i 1 ≡ t → back (dropped i d) ≡ []
    go true e = ap (λ t. back (if t then empty else dropped_at i (locate i d.items) d)) e
    go false e = (dropped_behind i d e h).1
