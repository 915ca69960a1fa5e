-- What a delegated block's check depends on: states pass through blocks by what their closers leave, and rising lemmas tell blocks apart.
use Rattle.std.proofs.Common.{
  ◌≡◌,
  ◌⊎◌,
  inl,
  inr,
  ℕ,
  suc,
  ◌≤◌,
  ◌<◌,
  nat_eq,
  List,
  [],
  ◌∷◌,
  ◌++◌,
  Bool,
  true,
  false,
  refl,
  sym,
  ap,
  ◌∙◌,
  append_assoc,
  arith,
  le_refl,
}
use Rattle.line_theory.specs.Lists.{Every, has}
use Rattle.doc_theory.specs.Lists.{Member}
use Rattle.line_theory.specs.Shapes.{lone, block, closed, proof, last, zone}
use Rattle.doc_theory.specs.Documents.{
  Closer,
  qed,
  admitted,
  defined,
  abort,
  Kind,
  plain,
  begin,
  inner,
  close,
  Entry,
  delegates,
  reopens,
  Item,
  entries_of,
  entries,
  End,
  Focus,
  body_if,
  item_bodies,
}
use Rattle.doc_theory.specs.Checks.{Check, Laws, through, Work, work_if, works_of, item_works, focus_works, leaves}
use Rattle.doc_theory.specs.Invariants.{IsInner, Rises, RisesEnd, RisesFocus}
use Rattle.doc_theory.proofs.Lists.{test_is}
use Rattle.line_theory.proofs.Lists.{no, either_true}

-- ---- states

pub through_join : {State : Type 0} (L : Check State) (s : State) (xs ys : List Entry)
    → through L s (xs ++ ys) ≡ through L (through L s xs) ys
through_join L s [] ys = refl
through_join L s (e ∷ xs) ys = through_join L (leaves L s e.id e.sentence) xs ys

-- what stands inside changes nothing of what a closer leaves
pub through_inner : {State : Type 0} (L : Check State) → Laws L → (s : State) (b : List Entry) (k : Closer) → Every IsInner b
    → L.skip (through L s b) k ≡ L.skip s k
through_inner L laws s [] k h = refl
through_inner L laws s (e ∷ b) k h = through_inner L laws (leaves L s e.id e.sentence) b k h.1 ∙ laws.inside s e.id e.sentence k h.0

-- a block with this lemma
module _ {State : Type 0} (L : Check State) (laws : Laws L) (s : State) (l : Entry) where
  pub through_block : (b : List Entry) (c : Entry) (k : Closer) → Every IsInner b → c.sentence.kind ≡ close k
      → delegates (close k) ≡ true → through L s (l ∷ (b ++ (c ∷ []))) ≡ L.skip (leaves L s l.id l.sentence) k
  through_block b c k h e d =
      through_join L (leaves L s l.id l.sentence) b (c ∷ [])
      ∙ laws.closing (through L (leaves L s l.id l.sentence) b) c.id c.sentence k e d
      ∙ through_inner L laws (leaves L s l.id l.sentence) b k h

  -- a closer that can be opened again leaves what Qed leaves
  pub through_reopening : (b : List Entry) (c : Entry) → Every IsInner b
      → reopens c.sentence.kind ≡ true → through L s (l ∷ (b ++ (c ∷ []))) ≡ L.skip (leaves L s l.id l.sentence) qed
  through_reopening b c h r = go c.sentence.kind refl r
    where
      go : (k : Kind) → c.sentence.kind ≡ k → reopens k ≡ true → through L s (l ∷ (b ++ (c ∷ []))) ≡ L.skip (leaves L s l.id l.sentence) qed
      go plain e r = no r
      go begin e r = no r
      go inner e r = no r
      go (close qed) e r = through_block b c qed h e refl
      go (close admitted) e r = through_block b c admitted h e refl ∙ laws.alike (leaves L s l.id l.sentence)
      go (close defined) e r = no r
      go (close abort) e r = no r

  -- so what follows a block that can be opened again doesn't depend on what stands inside
  pub behind_same : (b f : List Entry) (c k : Entry) → Every IsInner b → Every IsInner f
      → reopens c.sentence.kind ≡ true → reopens k.sentence.kind ≡ true
      → through L s (l ∷ (b ++ (c ∷ []))) ≡ through L s (l ∷ (f ++ (k ∷ [])))
  behind_same b f c k hb hf rc rk = through_reopening b c hb rc ∙ sym (through_reopening f k hf rk)

-- ---- works

pub works_join : {State : Type 0} (L : Check State) (s : State) (a t : List Item)
    → item_works L s (a ++ t) ≡ item_works L s a ++ item_works L (through L s (entries a)) t
works_join L s [] t = refl
works_join L s (x ∷ a) t =
    ap (λ z. works_of L s x ++ z) (works_join L (through L s (entries_of x)) a t ∙
    ap (λ u. item_works L (through L s (entries_of x)) a ++ item_works L u t) (sym (through_join L s (entries_of x) (entries a))))
    ∙ sym (append_assoc (works_of L s x) (item_works L (through L s (entries_of x)) a)
    (item_works L (through L s (entries_of x ++ entries a)) t))

pub bodies_join : (a t : List Item) → item_bodies (a ++ t) ≡ item_bodies a ++ item_bodies t
bodies_join [] t = refl
bodies_join (lone e ∷ a) t = bodies_join a t
bodies_join (block l b c ∷ a) t = ap (body_if (delegates c.sentence.kind) l.id) (bodies_join a t) ∙ go (delegates c.sentence.kind)
  where
    go : (r : Bool) → body_if r l.id (item_bodies a ++ item_bodies t) ≡ body_if r l.id (item_bodies a) ++ item_bodies t
    go true = refl
    go false = refl

-- ---- rising lemmas

pub rises_le : (lo hi : ℕ) (xs : List Item) → Rises lo xs hi → lo ≤ hi
rises_le lo hi [] h = h
rises_le lo hi (lone e ∷ t) h = rises_le lo hi t h
rises_le lo hi (block l b c ∷ t) h = let k = rises_le (suc l.id) hi t h.1 in omega (arith, h.0, k)

pub rises_lower : (lo m hi : ℕ) (xs : List Item) → lo ≤ m → Rises m xs hi → Rises lo xs hi
rises_lower lo m hi [] e h = omega (arith, e, h)
rises_lower lo m hi (lone x ∷ t) e h = rises_lower lo m hi t e h
rises_lower lo m hi (block l b c ∷ t) e h = (omega (arith, e, h.0), h.1)

pub rises_parts : (lo hi : ℕ) (a t : List Item) → Rises lo (a ++ t) hi → (m : ℕ) × (Rises lo a m × Rises m t hi)
rises_parts lo hi [] t h = (lo, (le_refl lo, h))
rises_parts lo hi (lone e ∷ a) t h = rises_parts lo hi a t h
rises_parts lo hi (block l b c ∷ a) t h = let r = rises_parts (suc l.id) hi a t h.1 in (r.0, ((h.0, r.1.0), r.1.1))

pub rises_append : (lo m hi : ℕ) (a t : List Item) → Rises lo a m → Rises m t hi → Rises lo (a ++ t) hi
rises_append lo m hi [] t h k = rises_lower lo m hi t h k
rises_append lo m hi (lone e ∷ a) t h k = rises_append lo m hi a t h k
rises_append lo m hi (block l b c ∷ a) t h k = (h.0, rises_append (suc l.id) m hi a t h.1 k)

pub end_more : (lo hi up : ℕ) (o : End) → hi ≤ up → RisesEnd lo o hi → RisesEnd lo o up
end_more lo hi up closed e h = omega (arith, e, h)
end_more lo hi up (proof l b) e h = (h.0, omega (arith, e, h.1))

-- the lemma of each work is within the bounds
pub works_within : {State : Type 0} (L : Check State) (w : Work State) (s : State) (lo hi : ℕ) (xs : List Item) → Rises lo xs hi
    → Member w (item_works L s xs) → (lo ≤ w.lemma) × (w.lemma < hi)
works_within L w s lo hi [] h m = absurd m
works_within L w s lo hi (lone e ∷ t) h m = works_within L w _ lo hi t h m
works_within L w s lo hi (block l b c ∷ t) h m = go (delegates c.sentence.kind)
    (works_within L w (through L s (l ∷ (b ++ (c ∷ [])))) (suc l.id) hi t h.1) m
  where
    go : (r : Bool) → (Member w (item_works L (through L s (l ∷ (b ++ (c ∷ [])))) t) → (suc l.id ≤ w.lemma) × (w.lemma < hi))
        → Member w (work_if L r s l b c ++ item_works L (through L s (l ∷ (b ++ (c ∷ [])))) t) → (lo ≤ w.lemma) × (w.lemma < hi)
    go true more (inl e) = let n : w.lemma ≡ l.id = ap (λ z. z.lemma) e in let k = rises_le (suc l.id) hi t h.1 in
        (omega (arith, n, h.0), omega (arith, n, k))
    go true more (inr e) = let k = more e in (omega (arith, h.0, k.0), k.1)
    go false more e = let k = more e in (omega (arith, h.0, k.0), k.1)

pub bodies_within : (n lo hi : ℕ) (xs : List Item) → Rises lo xs hi → has n (item_bodies xs) ≡ true → (lo ≤ n) × (n < hi)
bodies_within n lo hi [] h m = no m
bodies_within n lo hi (lone e ∷ t) h m = bodies_within n lo hi t h m
bodies_within n lo hi (block l b c ∷ t) h m = go (delegates c.sentence.kind) (bodies_within n (suc l.id) hi t h.1) m
  where
    at_last : (has n (item_bodies t) ≡ true → (suc l.id ≤ n) × (n < hi)) → ((nat_eq n l.id) ≡ true) ⊎ (has n (item_bodies t) ≡ true)
        → (lo ≤ n) × (n < hi)
    at_last more (inl e) = let q = test_is l.id n e in let k = rises_le (suc l.id) hi t h.1 in (omega (arith, q, h.0), omega (arith, q, k))
    at_last more (inr e) = let k = more e in (omega (arith, h.0, k.0), k.1)

    go : (r : Bool) → (has n (item_bodies t) ≡ true → (suc l.id ≤ n) × (n < hi)) → has n (body_if r l.id (item_bodies t)) ≡ true
        → (lo ≤ n) × (n < hi)
    go true more e = at_last more (either_true (nat_eq n l.id) (has n (item_bodies t)) e)
    go false more e = let k = more e in (omega (arith, h.0, k.0), k.1)

pub focus_works_above : {State : Type 0} (L : Check State) (w : Work State) (s : State) (lo hi : ℕ) (f : Focus) → RisesFocus lo f hi
    → Member w (focus_works L s f) → lo ≤ w.lemma
focus_works_above L w s lo hi (last o) h m = absurd m
focus_works_above L w s lo hi (zone l b c t o) h m = let k = works_within L w _ (suc l.id) h.1.0 t h.1.1.0 m in omega (arith, h.0, k.0)
