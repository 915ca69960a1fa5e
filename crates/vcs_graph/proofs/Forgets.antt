-- Ids that go out of the table.
use Rattle.std.proofs.Common.{
  ◌≡◌,
  ℕ,
  zero,
  suc,
  ◌+◌,
  ◌<◌,
  ◌≤◌,
  List,
  [],
  ◌∷◌,
  ◌++◌,
  length,
  take,
  Option,
  Some,
  None,
  refl,
  sym,
  ap,
  subst,
  ◌∙◌,
  arith,
  append_assoc,
  append-nil,
  length-append,
}
use Rattle.indexmap.specs.IndexMap.{IndexMap}
use Rattle.line_theory.specs.Shapes.{Item, proof}
use Rattle.line_theory.specs.Lines.{Closing}
use Rattle.vcs_graph.specs.declared.place.Place.{Place}
use Rattle.vcs_graph.specs.declared.place.Part.TheVariants.{First, Inside, Closer}
use Rattle.vcs_graph.specs.declared.segment.Closer.{Closer as Ends}
use Rattle.vcs_graph.specs.SegmentView.{item_of}
use Rattle.vcs_graph.specs.Parts.{IsBlock, IsOpen, first_of, inside_of}
use Rattle.vcs_graph.specs.EndingView.{end_of}
use Rattle.vcs_graph.specs.Table.{IsTable, inner_places, item_places, items_places, end_places}
use Rattle.vcs_graph.proofs.Places.{inner_push, items_join}

pub take_front : {A : Type 0} (n : ℕ) (a b : List A) → n ≤ length a → take n (a ++ b) ≡ take n a
take_front zero a b h = refl
take_front (suc n) [] b h = absurd (omega arith)
take_front (suc n) (x ∷ a) b h = ap (λ z. x ∷ z) (take_front n a b (omega arith))

pub take_all : {A : Type 0} (n : ℕ) (a : List A) → length a ≤ n → take n a ≡ a
take_all zero [] h = refl
take_all zero (x ∷ a) h = absurd (omega arith)
take_all (suc n) [] h = refl
take_all (suc n) (x ∷ a) h = ap (λ z. x ∷ z) (take_all n a (omega arith))

pub shorter : {A : Type 0} (a b : List A) (x : A) (n : ℕ) → a ≡ b ++ (x ∷ []) → n < length a → n ≤ length b
shorter a b x n e h = let f : length a ≡ length b + 1 = ap length e ∙ length-append b (x ∷ []) in omega arith

-- the last entry of an inside goes
pub inside_less : {S : Type 0} {m n : IndexMap ℕ Place S} (i : ℕ) (old new : List ℕ) → old ≡ new ++ (i ∷ []) →
    ((x y : List (ℕ × Place)) (p : Place) → IsTable m (x ++ ((i, p) ∷ y)) → IsTable n (x ++ y))
    → (k : ℕ) (x y : List (ℕ × Place)) → IsTable m (x ++ (inner_places k 1 old ++ y)) → IsTable n (x ++ (inner_places k 1 new ++ y))
inside_less {m = m} {n = n} i old new e step k x y h =
    let p : Place = record { item = k; part = Inside (suc (length new)) } in
    let f : inner_places k 1 old ≡ inner_places k 1 new ++ ((i, p) ∷ []) = ap (inner_places k 1) e ∙
    inner_push k 1 (suc (length new)) i new (omega arith) in
    let g : x ++ (inner_places k 1 old ++ y) ≡ (x ++ inner_places k 1 new) ++ ((i, p) ∷ y) = ap (λ z. x ++ (z ++ y)) f ∙
    simp append_assoc in
    subst (λ z. IsTable n z) (append_assoc x (inner_places k 1 new) y) (step (x ++ inner_places k 1 new) y p (subst (λ z. IsTable m z) g h))

-- the last item goes
pub items_less : {S : Type 0} {m n : IndexMap ℕ Place S} (v : Item ℕ Closing) (old new : List (Item ℕ Closing)) → old ≡ new ++ (v ∷ [])
    → ((k : ℕ) (x y : List (ℕ × Place)) → IsTable m (x ++ (item_places k v ++ y)) → IsTable n (x ++ y))
    → (x : List (ℕ × Place)) → IsTable m (x ++ items_places 0 old) → IsTable n (x ++ items_places 0 new)
items_less {m = m} {n = n} v old new e step x h =
    let f : items_places 0 old ≡ items_places 0 new ++ (item_places (length new) v ++ []) = ap (items_places 0) e ∙
    items_join 0 (length new) new (v ∷ []) (omega arith) in
    let g : x ++ items_places 0 old ≡ (x ++ items_places 0 new) ++ (item_places (length new) v ++ []) = ap (λ z. x ++ z) f ∙
    sym (append_assoc x (items_places 0 new) (item_places (length new) v ++ [])) in
    subst (λ z. IsTable n z) (append-nil (x ++ items_places 0 new)) (step (length new) (x ++ items_places 0 new) []
    (subst (λ z. IsTable m z) g h))

module _ {S : Type 0} {m n : IndexMap ℕ Place S} where
  pub forget_lone : (f : ℕ) (b : List ℕ) (o : Option Ends) → o ≡ None → ((x y : List (ℕ × Place)) (p : Place) →
      IsTable m (x ++ ((f, p) ∷ y)) → IsTable n (x ++ y))
      → (k : ℕ) (x y : List (ℕ × Place)) → IsTable m (x ++ (item_places k (item_of f b o) ++ y)) → IsTable n (x ++ y)
  forget_lone f b None e step k x y h = step x y (record { item = k; part = First }) h
  forget_lone f b (Some c) e step k x y h = absurd (cc)

  -- the closer of a block goes
  pub forget_closer : (f : ℕ) (b : List ℕ) (o : Option Ends) (c : Ends) → o ≡ Some c → ((x y : List (ℕ × Place)) (p : Place) →
      IsTable m (x ++ ((c.id, p) ∷ y)) → IsTable n (x ++ y))
      → (k : ℕ) (x y : List (ℕ × Place)) → IsTable m (x ++ (item_places k (item_of f b o) ++ y)) →
      IsTable n (x ++ (((first_of (item_of f b o), record { item = k; part = First }) ∷ inner_places k 1
      (inside_of (item_of f b o))) ++ y))
  forget_closer f b None c e step k x y h = absurd (cc)
  forget_closer f b (Some d) c e step k x y h =
      let q : d ≡ c = cc in
      let g : x ++ (item_places k (item_of f b (Some d)) ++ y)
      ≡ (x ++ ((f, record { item = k; part = First }) ∷ inner_places k 1 b)) ++ ((c.id, record { item = k; part = Closer }) ∷ y) =
      simp append_assoc (ap (λ (z : Ends). x ++ ((f, record { item = k; part = First })
      ∷ (inner_places k 1 b ++ ((z.id, record { item = k; part = Closer }) ∷ y)))) q) in
      subst (λ z. IsTable n z) (append_assoc x ((f, record { item = k; part = First }) ∷ inner_places k 1 b) y)
      (step (x ++ ((f, record { item = k; part = First }) ∷ inner_places k 1 b)) y (record { item = k; part = Closer })
      (subst (λ z. IsTable m z) g h))

  -- a lemma whose inside is empty goes
  pub forget_lemma : (f : ℕ) (k : ℕ) → ((x y : List (ℕ × Place)) (p : Place) → IsTable m (x ++ ((f, p) ∷ y)) → IsTable n (x ++ y))
      → (x y : List (ℕ × Place)) → IsTable m (x ++ ((f, record { item = k; part = First }) ∷ y)) → IsTable n (x ++ y)
  forget_lemma f k step x y h = step x y (record { item = k; part = First }) h

-- all of a block goes: its inside, its closer, its lemma
pub forget_block : {S : Type 0} {m0 m1 m2 m3 : IndexMap ℕ Place S} (f : ℕ) (b e : List ℕ) (o : Option Ends) (c : Ends) →
    o ≡ Some c → e ≡ take 0 b
    → ((k : ℕ) (x y : List (ℕ × Place)) → IsTable m0 (x ++ (inner_places k 1 b ++ y)) → IsTable m1 (x ++ (inner_places k 1 e ++ y)))
    → ((x y : List (ℕ × Place)) (p : Place) → IsTable m1 (x ++ ((c.id, p) ∷ y)) → IsTable m2 (x ++ y))
    → ((x y : List (ℕ × Place)) (p : Place) → IsTable m2 (x ++ ((f, p) ∷ y)) → IsTable m3 (x ++ y))
    → (k : ℕ) (x y : List (ℕ × Place)) → IsTable m0 (x ++ (item_places k (item_of f b o) ++ y)) → IsTable m3 (x ++ y)
forget_block f b e None c q r s1 s2 s3 k x y h = absurd (cc)
forget_block {m0 = m0} {m1 = m1} {m2 = m2} f b e (Some d) c q r s1 s2 s3 k x y h =
    let z : d ≡ c = cc in
    let fp : ℕ × Place = (f, record { item = k; part = First }) in
    let g : x ++ (item_places k (item_of f b (Some d)) ++ y) ≡ (x ++ (fp ∷ []))
    ++ (inner_places k 1 b ++ ((c.id, record { item = k; part = Closer }) ∷ y)) =
    simp append_assoc (ap (λ (z : Ends). x ++ (fp ∷ (inner_places k 1 b ++ ((z.id, record { item = k; part = Closer }) ∷ y)))) z) in
    let t1 : IsTable m1 ((x ++ (fp ∷ [])) ++ (inner_places k 1 e ++ ((c.id, record { item = k; part = Closer }) ∷ y))) =
    s1 k (x ++ (fp ∷ [])) ((c.id, record { item = k; part = Closer }) ∷ y) (subst (λ z. IsTable m0 z) g h) in
    let t2 : IsTable m1 ((x ++ (fp ∷ [])) ++ ((c.id, record { item = k; part = Closer }) ∷ y)) =
    subst (λ w. IsTable m1 ((x ++ (fp ∷ [])) ++ (inner_places k 1 w ++ ((c.id, record { item = k; part = Closer }) ∷ y)))) r t1 in
    let t3 : IsTable m2 ((x ++ (fp ∷ [])) ++ y) = s2 (x ++ (fp ∷ [])) y (record { item = k; part = Closer }) t2 in
    s3 x y (record { item = k; part = First }) (subst (λ z. IsTable m2 z) (append_assoc x (fp ∷ []) y) t3)

-- some of the inside of a block goes
pub shorten_block : {S : Type 0} {m n : IndexMap ℕ Place S} (f : ℕ) (b e : List ℕ) (o : Option Ends) → IsBlock (item_of f b o)
    → ((k : ℕ) (x y : List (ℕ × Place)) → IsTable m (x ++ (inner_places k 1 b ++ y)) → IsTable n (x ++ (inner_places k 1 e ++ y)))
    → (k : ℕ) (x y : List (ℕ × Place)) → IsTable m (x ++ (item_places k (item_of f b o) ++ y)) →
    IsTable n (x ++ (item_places k (item_of f e o) ++ y))
shorten_block f b e None h s k x y t = absurd h
shorten_block {m = m} {n = n} f b e (Some d) h s k x y t =
    let fp : ℕ × Place = (f, record { item = k; part = First }) in
    subst (λ z. IsTable n z) (sym (around e)) (s k (x ++ (fp ∷ [])) ((d.id, record { item = k; part = Closer }) ∷ y)
    (subst (λ z. IsTable m z) (around b) t))
  where
    around : (w : List ℕ) → x ++ (item_places k (item_of f w (Some d)) ++ y)
        ≡ (x ++ ((f, record { item = k; part = First }) ∷ [])) ++ (inner_places k 1 w ++ ((d.id, record { item = k; part = Closer }) ∷ y))
    around w = simp append_assoc

-- the same at the end
pub end_clear : {S : Type 0} {m0 m1 m2 : IndexMap ℕ Place S} (l : ℕ) (b e : List ℕ) → e ≡ take 0 b
    → ((k : ℕ) (x y : List (ℕ × Place)) → IsTable m0 (x ++ (inner_places k 1 b ++ y)) → IsTable m1 (x ++ (inner_places k 1 e ++ y)))
    → ((x y : List (ℕ × Place)) (p : Place) → IsTable m1 (x ++ ((l, p) ∷ y)) → IsTable m2 (x ++ y))
    → (k : ℕ) (x : List (ℕ × Place)) → IsTable m0 (x ++ end_places k (proof l b)) → IsTable m2 x
end_clear {m0 = m0} {m1 = m1} {m2 = m2} l b e r s1 s2 k x h =
    let lp : ℕ × Place = (l, record { item = k; part = First }) in
    let g : x ++ end_places k (proof l b) ≡ (x ++ (lp ∷ [])) ++ (inner_places k 1 b ++ []) = simp (append_assoc, append-nil) in
    let t1 : IsTable m1 ((x ++ (lp ∷ [])) ++ (inner_places k 1 e ++ [])) = s1 k (x ++ (lp ∷ [])) [] (subst (λ z. IsTable m0 z) g h) in
    let t2 : IsTable m1 ((x ++ (lp ∷ [])) ++ []) = subst (λ w. IsTable m1 ((x ++ (lp ∷ [])) ++ (inner_places k 1 w ++ []))) r t1 in
    let t3 : IsTable m2 (x ++ []) = s2 x [] (record { item = k; part = First })
    (subst (λ z. IsTable m1 z) (append-nil (x ++ (lp ∷ []))) t2) in
    subst (λ z. IsTable m2 z) (append-nil x) t3

pub end_short : {S : Type 0} {m n : IndexMap ℕ Place S} (l : ℕ) (b e : List ℕ)
    → ((k : ℕ) (x y : List (ℕ × Place)) → IsTable m (x ++ (inner_places k 1 b ++ y)) → IsTable n (x ++ (inner_places k 1 e ++ y)))
    → (k : ℕ) (x : List (ℕ × Place)) → IsTable m (x ++ end_places k (proof l b)) → IsTable n (x ++ end_places k (proof l e))
end_short {m = m} {n = n} l b e s k x h =
    subst (λ z. IsTable n z) (sym (around e)) (s k (x ++ ((l, record { item = k; part = First }) ∷ [])) []
    (subst (λ z. IsTable m z) (around b) h))
  where
    around : (w : List ℕ) → x ++ end_places k (proof l w) ≡ (x ++ ((l, record { item = k; part = First }) ∷ []))
        ++ (inner_places k 1 w ++ [])
    around w = simp (append_assoc, append-nil)

pub end_shorten : {S : Type 0} {m n : IndexMap ℕ Place S} (o : Option ℕ) (b e : List ℕ) → IsOpen (end_of o b)
    → ((k : ℕ) (x y : List (ℕ × Place)) → IsTable m (x ++ (inner_places k 1 b ++ y)) → IsTable n (x ++ (inner_places k 1 e ++ y)))
    → (k : ℕ) (x : List (ℕ × Place)) → IsTable m (x ++ end_places k (end_of o b)) → IsTable n (x ++ end_places k (end_of o e))
end_shorten None b e h s k x t = absurd h
end_shorten (Some l) b e h s k x t = end_short l b e s k x t
