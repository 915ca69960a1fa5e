-- Where an id is, by its place: what the table says is where the line has it.
use Rattle.std.proofs.Common.{
  ◌≡◌,
  ◌⊎◌,
  inl,
  inr,
  ℕ,
  zero,
  suc,
  ◌+◌,
  ◌<◌,
  ◌≤◌,
  nat_eq,
  List,
  [],
  ◌∷◌,
  ◌++◌,
  length,
  take,
  drop,
  Bool,
  true,
  false,
  cond,
  Some,
  refl,
  sym,
  ap,
  subst,
  ◌∙◌,
  arith,
  append_assoc,
  append-nil,
  length-append,
}
use Rattle.line_theory.specs.Shapes.{Item, lone, block, End, closed, proof}
use Rattle.line_theory.specs.Lines.{
  Closing,
  found,
  unfound,
  after,
  split,
  Spot,
  at_lone,
  at_lemma,
  at_inner,
  at_closer,
  missing,
  under,
  inside,
  locate,
}
use Rattle.vcs_graph.specs.declared.place.Place.{Place}
use Rattle.vcs_graph.specs.declared.place.Part.{Part}
use Rattle.vcs_graph.specs.declared.place.Part.TheVariants.{First, Inside, Closer}
use Rattle.vcs_graph.specs.Table.{look, inner_places, item_places, items_places, end_places, all_places}
use Rattle.vcs_graph.proofs.Lookups.{eq_is}

same_place : (p : Place) (n : ℕ) (q : Part) → p.item ≡ n → p.part ≡ q → p ≡ record { item = n; part = q }
same_place p n q e f = λ i. record { item = e i; part = f i }

-- where a part of an item is, the item standing between these
abbrev pub spot_of : Part → List (Item ℕ Closing) → Item ℕ Closing → List (Item ℕ Closing) → Spot
spot_of First f (lone e) t = at_lone f t
spot_of First f (block l b c) t = at_lemma f b c t
spot_of (Inside zero) f (block l b c) t = missing
spot_of (Inside (suc j)) f (block l b c) t = at_inner f l (take j b) (drop (suc j) b) c t
spot_of Closer f (block l b c) t = at_closer f l b c t
spot_of (Inside j) f (lone e) t = missing
spot_of Closer f (lone e) t = missing

-- an id is this part of an item
abbrev pub IsPart : ℕ → Part → Item ℕ Closing → Type 0
IsPart i First (lone e) = i ≡ e
IsPart i First (block l b c) = i ≡ l
IsPart i (Inside zero) (block l b c) = ⊥
IsPart i (Inside (suc j)) (block l b c) = (j < length b) × (b ≡ take j b ++ (i ∷ drop (suc j) b))
IsPart i Closer (block l b c) = i ≡ c.id
IsPart i (Inside j) (lone e) = ⊥
IsPart i Closer (lone e) = ⊥

pub record Spotted (i n : ℕ) (p : Place) (xs : List (Item ℕ Closing)) : Type 0 where
  pub front : List (Item ℕ Closing)
  pub item : Item ℕ Closing
  pub rest : List (Item ℕ Closing)
  pub whole : xs ≡ front ++ (item ∷ rest)
  pub count : p.item ≡ n + length front
  pub part : IsPart i p.part item
  pub spot : locate i xs ≡ spot_of p.part front item rest

under_spot : (x : Item ℕ Closing) (p : Part) (f : List (Item ℕ Closing)) (y : Item ℕ Closing) (t : List (Item ℕ Closing)) →
    under x (spot_of p f y t) ≡ spot_of p (x ∷ f) y t
under_spot x First f (lone e) t = refl
under_spot x First f (block l b c) t = refl
under_spot x (Inside zero) f (block l b c) t = refl
under_spot x (Inside (suc j)) f (block l b c) t = refl
under_spot x Closer f (block l b c) t = refl
under_spot x (Inside j) f (lone e) t = refl
under_spot x Closer f (lone e) t = refl

further : (i n : ℕ) (p : Place) (x : Item ℕ Closing) (xs : List (Item ℕ Closing)) → locate i (x ∷ xs) ≡ under x (locate i xs) →
    Spotted i (suc n) p xs → Spotted i n p (x ∷ xs)
further i n p x xs e s = record {
  front = x ∷ s.front;
  item = s.item;
  rest = s.rest;
  whole = ap (λ z. x ∷ z) s.whole;
  count = s.count ∙ more n (length s.front);
  part = s.part;
  spot = e ∙ (ap (under x) s.spot ∙ under_spot x p.part s.front s.item s.rest);
}
  where
    more : (n k : ℕ) → suc n + k ≡ n + suc k
    more n k = omega arith

-- an id in the inside of a block, or not
pub record Within (i n j : ℕ) (p : Part) (b : List ℕ) : Type 0 where
  pub number : ℕ
  pub is : p ≡ Inside (j + number)
  pub fits : number < length b
  pub whole : b ≡ take number b ++ (i ∷ drop (suc number) b)
  pub spot : split i b ≡ found (take number b) (drop (suc number) b)

pub inner_look : (i n j : ℕ) (p : Place) (b : List ℕ) (es : List (ℕ × Place)) → look i (inner_places n j b ++ es) ≡ Some p
    → (Within i n j p.part b × (p.item ≡ n)) ⊎ ((split i b ≡ unfound) × (look i es ≡ Some p))
inner_look i n j p [] es h = inr (refl, h)
inner_look i n j p (x ∷ b) es h = go (λ k. inner_look i n (suc j) p b es k) (nat_eq i x) refl h
  where
    from_rest : nat_eq i x ≡ false → (Within i n (suc j) p.part b × (p.item ≡ n)) ⊎ ((split i b ≡ unfound) × (look i es ≡ Some p))
        → (Within i n j p.part (x ∷ b) × (p.item ≡ n)) ⊎ ((split i (x ∷ b) ≡ unfound) × (look i es ≡ Some p))
    from_rest e (inl w) = inl (
      record {
        number = suc w.0.number;
        is = w.0.is ∙ ap Inside (more j w.0.number);
        fits = omega (arith, w.0.fits);
        whole = ap (λ z. x ∷ z) w.0.whole;
        spot = ap (λ t. cond t (found [] b) (after x (split i b))) e ∙ ap (after x) w.0.spot;
      },
      w.1,
    )
      where
        more : (n k : ℕ) → suc n + k ≡ n + suc k
        more n k = omega arith
    from_rest e (inr w) = inr (ap (λ t. cond t (found [] b) (after x (split i b))) e ∙ ap (after x) w.0, w.1)

    go : (look i (inner_places n (suc j) b ++ es) ≡ Some p → (Within i n (suc j) p.part b × (p.item ≡ n)) ⊎
        ((split i b ≡ unfound) × (look i es ≡ Some p))) → (t : Bool) → nat_eq i x ≡ t →
        cond t (Some (record { item = n; part = Inside j })) (look i (inner_places n (suc j) b ++ es)) ≡ Some p
        → (Within i n j p.part (x ∷ b) × (p.item ≡ n)) ⊎ ((split i (x ∷ b) ≡ unfound) × (look i es ≡ Some p))
    go again true e k =
        let q : record { item = n; part = Inside j } ≡ p = cc in
        inl (
          record {
            number = 0;
            is = sym (ap (λ z. z.part) q) ∙ ap Inside (zero_more j);
            fits = omega arith;
            whole = ap (λ z. z ∷ b) (sym (eq_is i x e));
            spot = ap (λ t. cond t (found [] b) (after x (split i b))) e;
          },
          sym (ap (λ z. z.item) q),
        )
      where
        zero_more : (n : ℕ) → n ≡ n + 0
        zero_more n = omega arith
    go again false e k = from_rest e (again k)

-- an id that the table has among the items
pub spotted : (i n : ℕ) (p : Place) (xs : List (Item ℕ Closing)) (es : List (ℕ × Place)) → look i (items_places n xs ++ es)
    ≡ Some p → Spotted i n p xs ⊎ ((locate i xs ≡ missing) × (look i es ≡ Some p))
spotted i n p [] es h = inr (refl, h)
spotted i n p (lone e ∷ xs) es h = go (λ k. spotted i (suc n) p xs es k) (nat_eq i e) refl h
  where
    pass : nat_eq i e ≡ false → Spotted i (suc n) p xs ⊎ ((locate i xs ≡ missing) × (look i es ≡ Some p)) →
        Spotted i n p (lone e ∷ xs) ⊎ ((locate i (lone e ∷ xs) ≡ missing) × (look i es ≡ Some p))
    pass t (inl s) = inl (further i n p (lone e) xs (ap (λ t. cond t (at_lone [] xs) (under (lone e) (locate i xs))) t) s)
    pass t (inr s) = inr (ap (λ t. cond t (at_lone [] xs) (under (lone e) (locate i xs))) t ∙ ap (under (lone e)) s.0, s.1)

    go : (look i (items_places (suc n) xs ++ es) ≡ Some p → Spotted i (suc n) p xs ⊎
        ((locate i xs ≡ missing) × (look i es ≡ Some p))) → (t : Bool) → nat_eq i e ≡ t →
        cond t (Some (record { item = n; part = First })) (look i (items_places (suc n) xs ++ es)) ≡ Some p
        → Spotted i n p (lone e ∷ xs) ⊎ ((locate i (lone e ∷ xs) ≡ missing) × (look i es ≡ Some p))
    go again true t k =
        let q : record { item = n; part = First } ≡ p = cc in
        subst (λ z. Spotted i n z (lone e ∷ xs) ⊎ ((locate i (lone e ∷ xs) ≡ missing) × (look i es ≡ Some z))) q
        (inl (record {
          front = [];
          item = lone e;
          rest = xs;
          whole = refl;
          count = zero_more n;
          part = eq_is i e t;
          spot =
              ap (λ t. cond t (at_lone [] xs) (under (lone e) (locate i xs))) t;
        }))
      where
        zero_more : (n : ℕ) → n ≡ n + 0
        zero_more n = omega arith
    go again false t k = pass t (again k)
spotted i n p (block l b c ∷ xs) es h = go (λ k. spotted i (suc n) p xs es k) (nat_eq i l) refl h
  where
    rest : List (ℕ × Place)
    rest = items_places (suc n) xs ++ es

    zero_more : (n : ℕ) → n ≡ n + 0
    zero_more n = omega arith

    head : nat_eq i l ≡ false → locate i (block l b c ∷ xs) ≡ inside i l b c xs (split i b) (under (block l b c) (locate i xs))
    head t = ap (λ t. cond t (at_lemma [] b c xs) (inside i l b c xs (split i b) (under (block l b c) (locate i xs)))) t

    pass : nat_eq i l ≡ false → split i b ≡ unfound → nat_eq i c.id ≡ false → Spotted i (suc n) p xs ⊎
        ((locate i xs ≡ missing) × (look i es ≡ Some p))
        → Spotted i n p (block l b c ∷ xs) ⊎ ((locate i (block l b c ∷ xs) ≡ missing) × (look i es ≡ Some p))
    pass t u v r = by r
      where
        step : locate i (block l b c ∷ xs) ≡ under (block l b c) (locate i xs)
        step = head t ∙ (ap (λ z. inside i l b c xs z (under (block l b c) (locate i xs))) u ∙
            ap (λ t. cond t (at_closer [] l b c xs) (under (block l b c) (locate i xs))) v)

        by : Spotted i (suc n) p xs ⊎ ((locate i xs ≡ missing) × (look i es ≡ Some p)) → Spotted i n p (block l b c ∷ xs) ⊎
            ((locate i (block l b c ∷ xs) ≡ missing) × (look i es ≡ Some p))
        by (inl s) = inl (further i n p (block l b c) xs step s)
        by (inr s) = inr (step ∙ ap (under (block l b c)) s.0, s.1)

    last_part : (look i (items_places (suc n) xs ++ es) ≡ Some p → Spotted i (suc n) p xs ⊎
        ((locate i xs ≡ missing) × (look i es ≡ Some p))) → nat_eq i l ≡ false → split i b ≡ unfound → (v : Bool) →
        nat_eq i c.id ≡ v → cond v (Some (record { item = n; part = Closer })) (look i rest) ≡ Some p
        → Spotted i n p (block l b c ∷ xs) ⊎ ((locate i (block l b c ∷ xs) ≡ missing) × (look i es ≡ Some p))
    last_part again t u true v k =
        let q : record { item = n; part = Closer } ≡ p = cc in
        subst (λ z. Spotted i n z (block l b c ∷ xs) ⊎ ((locate i (block l b c ∷ xs) ≡ missing) × (look i es ≡ Some z))) q
        (inl (record {
          front = [];
          item = block l b c;
          rest = xs;
          whole = refl;
          count = zero_more n;
          part = eq_is i c.id v;
          spot = head t ∙ (ap (λ z. inside i l b c xs z (under (block l b c) (locate i xs))) u ∙
              ap (λ t. cond t (at_closer [] l b c xs) (under (block l b c) (locate i xs))) v);
        }))
    last_part again t u false v k = pass t u v (again k)

    middle : (look i (items_places (suc n) xs ++ es) ≡ Some p → Spotted i (suc n) p xs ⊎
        ((locate i xs ≡ missing) × (look i es ≡ Some p))) → nat_eq i l ≡ false → (Within i n 1 p.part b × (p.item ≡ n)) ⊎
        ((split i b ≡ unfound) × (look i ((c.id, record { item = n; part = Closer }) ∷ rest) ≡ Some p))
        → Spotted i n p (block l b c ∷ xs) ⊎ ((locate i (block l b c ∷ xs) ≡ missing) × (look i es ≡ Some p))
    middle again t (inl w) =
        let e : p.part ≡ Inside (suc w.0.number) = w.0.is ∙ ap Inside (one_first w.0.number) in
        let q : p ≡ record { item = n; part = Inside (suc w.0.number) } = same_place p n (Inside (suc w.0.number)) w.1 e in
        subst (λ z. Spotted i n z (block l b c ∷ xs) ⊎ ((locate i (block l b c ∷ xs) ≡ missing) × (look i es ≡ Some z))) (sym q)
        (inl (record {
          front = [];
          item = block l b c;
          rest = xs;
          whole = refl;
          count = zero_more n;
          part = (w.0.fits, w.0.whole);
          spot = head t ∙ ap (λ z. inside i l b c xs z (under (block l b c) (locate i xs))) w.0.spot;
        }))
      where
        one_first : (n : ℕ) → 1 + n ≡ suc n
        one_first n = omega arith
    middle again t (inr w) = last_part again t w.0 (nat_eq i c.id) refl w.1

    shape : look i ((inner_places n 1 b ++ ((c.id, record { item = n; part = Closer }) ∷ [])) ++ rest)
        ≡ look i (inner_places n 1 b ++ ((c.id, record { item = n; part = Closer }) ∷ rest))
    shape = ap (look i) (append_assoc (inner_places n 1 b) ((c.id, record { item = n; part = Closer }) ∷ []) rest)

    regroup : look i ((item_places n (block l b c) ++ items_places (suc n) xs) ++ es) ≡ look i (item_places n (block l b c) ++ rest)
    regroup = ap (look i) (append_assoc (item_places n (block l b c)) (items_places (suc n) xs) es)

    go : (look i (items_places (suc n) xs ++ es) ≡ Some p → Spotted i (suc n) p xs ⊎
        ((locate i xs ≡ missing) × (look i es ≡ Some p))) → (t : Bool) → nat_eq i l ≡ t →
        look i ((item_places n (block l b c) ++ items_places (suc n) xs) ++ es) ≡ Some p
        → Spotted i n p (block l b c ∷ xs) ⊎ ((locate i (block l b c ∷ xs) ≡ missing) × (look i es ≡ Some p))
    go again t e k = on again t e
        (sym (ap (λ t. cond t (Some (record { item = n; part = First }))
        (look i ((inner_places n 1 b ++ ((c.id, record { item = n; part = Closer }) ∷ [])) ++ rest))) e) ∙ (sym regroup ∙ k))
      where
        on : (look i (items_places (suc n) xs ++ es) ≡ Some p → Spotted i (suc n) p xs ⊎
            ((locate i xs ≡ missing) × (look i es ≡ Some p))) → (t : Bool) → nat_eq i l ≡ t →
            cond t (Some (record { item = n; part = First }))
            (look i ((inner_places n 1 b ++ ((c.id, record { item = n; part = Closer }) ∷ [])) ++ rest)) ≡ Some p
            → Spotted i n p (block l b c ∷ xs) ⊎ ((locate i (block l b c ∷ xs) ≡ missing) × (look i es ≡ Some p))
        on again true e k =
            let q : record { item = n; part = First } ≡ p = cc in
            subst (λ z. Spotted i n z (block l b c ∷ xs) ⊎ ((locate i (block l b c ∷ xs) ≡ missing) × (look i es ≡ Some z))) q
            (inl (record {
              front = [];
              item = block l b c;
              rest = xs;
              whole = refl;
              count = zero_more n;
              part = eq_is i l e;
              spot = ap (λ t. cond t (at_lemma [] b c xs) (inside i l b c xs (split i b) (under (block l b c) (locate i xs)))) e;
            }))
        on again false e k = middle again e (inner_look i n 1 p b ((c.id, record { item = n; part = Closer }) ∷ rest) (sym shape ∙ k))

-- an id is this part of the block that is open at the end
abbrev pub IsEndPart : ℕ → Part → End ℕ → Type 0
IsEndPart i First (proof l b) = i ≡ l
IsEndPart i (Inside zero) (proof l b) = ⊥
IsEndPart i (Inside (suc j)) (proof l b) = (nat_eq i l ≡ false) ×
    ((j < length b) × ((b ≡ take j b ++ (i ∷ drop (suc j) b)) × (split i b ≡ found (take j b) (drop (suc j) b))))
IsEndPart i Closer (proof l b) = ⊥
IsEndPart i First closed = ⊥
IsEndPart i (Inside j) closed = ⊥
IsEndPart i Closer closed = ⊥

pub end_spotted : (i n : ℕ) (p : Place) (o : End ℕ) → look i (end_places n o) ≡ Some p → (p.item ≡ n) × IsEndPart i p.part o
end_spotted i n p closed h = absurd (cc)
end_spotted i n p (proof l b) h = go (nat_eq i l) refl h
  where
    within : nat_eq i l ≡ false → (Within i n 1 p.part b × (p.item ≡ n)) ⊎
        ((split i b ≡ unfound) × (look {V = Place} i [] ≡ Some p)) → (p.item ≡ n) × IsEndPart i p.part (proof l b)
    within t (inr w) = let z : look {V = Place} i [] ≡ Some p = w.1 in absurd (cc)
    within t (inl w) =
        let e : p.part ≡ Inside (suc w.0.number) = w.0.is ∙ ap Inside (one_first w.0.number) in
        (w.1, subst (λ z. IsEndPart i z (proof l b)) (sym e) (t, (w.0.fits, (w.0.whole, w.0.spot))))
      where
        one_first : (n : ℕ) → 1 + n ≡ suc n
        one_first n = omega arith

    go : (t : Bool) → nat_eq i l ≡ t → cond t (Some (record { item = n; part = First })) (look i (inner_places n 1 b)) ≡ Some p
        → (p.item ≡ n) × IsEndPart i p.part (proof l b)
    go true e k =
        let q : record { item = n; part = First } ≡ p = cc in
        subst (λ z. (z.item ≡ n) × IsEndPart i z.part (proof l b)) q (refl, eq_is i l e)
    go false e k = within e (inner_look i n 1 p b [] (ap (look i) (append-nil (inner_places n 1 b)) ∙ k))

-- an id that the table has: among the items by its place's number, or else in the block at the end
pub found_item : (i : ℕ) (p : Place) (a : List (Item ℕ Closing)) (o : End ℕ) → look i (all_places a o) ≡ Some p →
    p.item < length a → Spotted i 0 p a
found_item i p a o h k = go (spotted i 0 p a (end_places (length a) o) h)
  where
    go : Spotted i 0 p a ⊎ ((locate i a ≡ missing) × (look i (end_places (length a) o) ≡ Some p)) → Spotted i 0 p a
    go (inl s) = s
    go (inr s) = let e : p.item ≡ length a = (end_spotted i (length a) p o s.1).0 in absurd (omega arith)

pub found_end : (i : ℕ) (p : Place) (a : List (Item ℕ Closing)) (o : End ℕ) → look i (all_places a o) ≡ Some p →
    length a ≤ p.item → (locate i a ≡ missing) × IsEndPart i p.part o
found_end i p a o h k = go (spotted i 0 p a (end_places (length a) o) h)
  where
    go : Spotted i 0 p a ⊎ ((locate i a ≡ missing) × (look i (end_places (length a) o) ≡ Some p)) → (locate i a ≡ missing) ×
        IsEndPart i p.part o
    go (inl s) = let e : p.item ≡ 0 + length s.front = s.count in let f : length a ≡ length s.front + length (s.item ∷ s.rest) =
        ap length s.whole ∙ length-append s.front (s.item ∷ s.rest) in absurd (omega arith)
    go (inr s) = (s.0, (end_spotted i (length a) p o s.1).1)
