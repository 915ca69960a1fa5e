-- The entries by id behind a removal are those of the document behind it.
use Rattle.std.proofs.Common.{◌≡◌, ℕ, List, [], ◌∷◌, ◌++◌, Bool, true, false, if◌then◌else◌, refl, sym, ap, ◌∙◌, subst, append-nil, nat_eq, ◌||◌}
use Rattle.line_theory.specs.Lists.{has, Distinct, Every}
use Rattle.line_theory.specs.Shapes.{lone, block, closed, proof, last, zone}
use Rattle.line_theory.proofs.Lists.{has_left, has_right, not_either, absent_parts, distinct_back, every_join, every_parts}
use Rattle.doc_theory.specs.Documents.{
  Entry,
  delegates,
  reopens,
  Kind,
  plain,
  begin,
  inner,
  close,
  qed,
  admitted,
  defined,
  abort,
  Item,
  End,
  Focus,
  Document,
  set,
  fall,
  entries,
  end_entries,
  focus_entries,
  live,
}
use Rattle.doc_theory.specs.Editing.{Seat, among, open_lemma, open_inner, behind, nowhere, at_lone, at_lemma, at_inner, at_closer, missing, seat, unclose, reopen, reenter, shorten, remove_at, remove}
use Rattle.doc_theory.specs.Line.{line}
use Rattle.doc_theory.specs.Invariants.{IfChanged}
use Rattle.doc_theory.proofs.Removed.{IsFront, IsSeat, seat_is}
use Rattle.doc_theory.proofs.Places.{named, named_join, entries_join, of_items, zone_parts}
use Rattle.doc_store.specs.Stored.{IsUntold, QuietItem, IsQuiet}
use Rattle.doc_store.proofs.Filled.{Agrees}
use Rattle.doc_store.proofs.Apart.{apart, not_at, here, there, same_part}
use Rattle.doc_store.proofs.Quiet.{falls_same}

-- ---- before the kept closer falls

-- the entries of a document agree, but that the kept closer's flag is false in the document alone
abbrev pub HalfFocus : (ℕ → Entry) → Focus → Type 0
HalfFocus f (last o) = Agrees f (end_entries o)
HalfFocus f (zone l b c t o) = Agrees f (l ∷ b) × ((set (λ u. false) (f c.id) ≡ c) × Agrees f (entries t ++ end_entries o))

abbrev pub Half : (ℕ → Entry) → Document → Type 0
Half f e = Agrees f (entries e.items) × HalfFocus f e.focus

delegates_reopened : (k : Kind) → reopens k ≡ true → delegates k ≡ true
delegates_reopened plain h = h
delegates_reopened begin h = h
delegates_reopened inner h = h
delegates_reopened (close qed) h = refl
delegates_reopened (close admitted) h = refl
delegates_reopened (close defined) h = h
delegates_reopened (close abort) h = refl

module _ (f : ℕ → Entry) where
  -- the parts of a block among items
  parted : (xs a t : List Item) (x : Item) → xs ≡ a ++ (x ∷ t) → Agrees f (entries xs)
      → Agrees f (entries a) × Agrees f (entries (x ∷ t))
  parted xs a t x e h = every_parts (λ e. f e.id ≡ e) (entries a) (entries (x ∷ t))
      (subst (Agrees f) (ap entries e ∙ entries_join a (x ∷ t)) h)

  block_parts : (l : Entry) (b : List Entry) (c : Entry) (t : List Item) → Agrees f (entries (block l b c ∷ t))
      → Agrees f (l ∷ b) × ((f c.id ≡ c) × Agrees f (entries t))
  block_parts l b c t h =
      let two : Agrees f (l ∷ (b ++ (c ∷ []))) × Agrees f (entries t) =
      every_parts (λ e. f e.id ≡ e) (l ∷ (b ++ (c ∷ []))) (entries t) h in
      let inside : Agrees f b × Agrees f (c ∷ []) = every_parts (λ e. f e.id ≡ e) b (c ∷ []) two.0.1 in
      ((two.0.0, inside.0), (inside.1.0, two.1))

  quiet_block : (xs a t : List Item) (l : Entry) (b : List Entry) (c : Entry) → xs ≡ a ++ (block l b c ∷ t) → Every QuietItem xs
      → delegates c.sentence.kind ≡ true → Every IsUntold b
  quiet_block xs a t l b c e h = λ r.
      ((every_parts QuietItem a (block l b c ∷ t) (subst (Every QuietItem) e h)).1.0 r).0

  -- the front of a block that lost its closer, or that is open again
  front_stays : (r : Bool) (b : List Entry) → (r ≡ true → Every IsUntold b) → Agrees f b → Agrees f (fall r b)
  front_stays true b q h = subst (Agrees f) (sym (falls_same b (q refl))) h
  front_stays false b q h = h

  untold_front : (x k : List Entry) → Every IsUntold (x ++ k) → Every IsUntold x
  untold_front x k h = (every_parts IsUntold x k h).0

  module _ (d : Document) (h : Agrees f (live d)) (q : IsQuiet d) where
    abbrev IsHalf : Document → Type 0
    IsHalf e = Half f e

    both : Agrees f (entries d.items) × Agrees f (focus_entries d.focus)
    both = every_parts (λ e. f e.id ≡ e) (entries d.items) (focus_entries d.focus) h

    unclosed : (a t : List Item) (l : Entry) (b k : List Entry) (c : Entry) → d.items ≡ a ++ (block l (b ++ k) c ∷ t)
        → Half f (unclose a l b c d)
    unclosed a t l b k c e =
        let two : Agrees f (entries a) × Agrees f (entries (block l (b ++ k) c ∷ t)) =
        parted d.items a t (block l (b ++ k) c) e both.0 in
        let in_block : Agrees f (l ∷ (b ++ k)) × ((f c.id ≡ c) × Agrees f (entries t)) = block_parts l (b ++ k) c t two.1 in (
          two.0,
          (
            in_block.0.0,
            front_stays (delegates c.sentence.kind) b
                (λ r. untold_front b k (quiet_block d.items a t l (b ++ k) c e q.0 r))
                (every_parts (λ e. f e.id ≡ e) b k in_block.0.1).0,
          ),
        )

    reopened : (a t : List Item) (l : Entry) (b k : List Entry) (c : Entry) (o : End) → d.items ≡ a ++ (block l (b ++ k) c ∷ t)
        → reopens c.sentence.kind ≡ true → Agrees f (end_entries o) → Half f (reopen a l b c t o d)
    reopened a t l b k c o e r g =
        let two : Agrees f (entries a) × Agrees f (entries (block l (b ++ k) c ∷ t)) =
        parted d.items a t (block l (b ++ k) c) e both.0 in
        let in_block : Agrees f (l ∷ (b ++ k)) × ((f c.id ≡ c) × Agrees f (entries t)) = block_parts l (b ++ k) c t two.1 in (
          two.0,
          (
            (
              in_block.0.0,
              front_stays true b
                  (λ z. untold_front b k (quiet_block d.items a t l (b ++ k) c e q.0 (delegates_reopened c.sentence.kind r)))
                  (every_parts (λ e. f e.id ≡ e) b k in_block.0.1).0,
            ),
            (ap (set (λ u. false)) in_block.1.0, every_join (λ e. f e.id ≡ e) (entries t) (end_entries o) in_block.1.1 g),
          ),
        )

    reentered : (a t : List Item) (l : Entry) (b k : List Entry) (c : Entry) → d.items ≡ a ++ (block l (b ++ k) c ∷ t)
        → (g : Focus) → Agrees f (focus_entries g) → Half f (reenter g a l b c t d)
    reentered a t l b k c e (last o) g = go (reopens c.sentence.kind) refl
      where
        go : (r : Bool) → reopens c.sentence.kind ≡ r → Half f (if r then reopen a l b c t o d else unclose a l b c d)
        go true r = reopened a t l b k c o e r g
        go false r = unclosed a t l b k c e
    reentered a t l b k c e (zone m y z u o) g = unclosed a t l b k c e

    shortened : (g : Focus) (b k : List Entry) (x : Entry) → IsFront g b (x ∷ k) → Agrees f (focus_entries g)
        → HalfFocus f (shorten g b (x ∷ k))
    shortened (last closed) b k x e g = tt
    shortened (last (proof l y)) b k x e g = (g.0, (every_parts (λ e. f e.id ≡ e) b (x ∷ k) (subst (Agrees f) e g.1)).0)
    shortened (zone l y c t o) b k x e g =
        let inside : Agrees f y × Agrees f (c ∷ (entries t ++ end_entries o)) =
        every_parts (λ e. f e.id ≡ e) y (c ∷ (entries t ++ end_entries o)) g.1 in (
          (g.0, (every_parts (λ e. f e.id ≡ e) b (x ∷ k) (subst (Agrees f) e inside.0)).0),
          (ap (set (λ u. false)) inside.1.0, inside.1.1),
        )

    removed_at : (s : Seat) → IsSeat d.items d.focus s → IfChanged IsHalf (remove_at s d)
    removed_at (among (at_lone a e t)) s = ((parted d.items a t (lone e) s both.0).0, tt)
    removed_at (among (at_lemma a l b c t)) s = ((parted d.items a t (block l b c) s both.0).0, tt)
    removed_at (among (at_inner a l b e k c t)) s = reentered a t l b (e ∷ k) c s d.focus both.1
    removed_at (among (at_closer a l b c t)) s =
        unclosed a t l b [] c (s ∙ ap (λ z. a ++ (block l z c ∷ t)) (sym (append-nil b)))
    removed_at (among missing) s = tt
    removed_at (open_lemma l b) s = (both.0, tt)
    removed_at (open_inner l b e k) s = (both.0, shortened d.focus b k e s both.1)
    removed_at (behind c) s = tt
    removed_at nowhere s = tt

    pub remove_half : (i : ℕ) → IfChanged IsHalf (remove d i)
    remove_half i = removed_at (seat i d) (seat_is i d)

-- ---- behind it

-- the kept closer of a zone
abbrev pub stops_of : Focus → List ℕ
stops_of (last o) = []
stops_of (zone l b c t o) = c.id ∷ []

-- of the live ones the kept closer falls, and the others stay
pub record Leaves (f g : ℕ → Entry) (e : Document) : Type 0 where
  pub fallen : (n : ℕ) → has n (stops_of e.focus) ≡ true → g n ≡ set (λ t. false) (f n)
  pub kept : (n : ℕ) → has n (line e) ≡ true → has n (stops_of e.focus) ≡ false → g n ≡ f n

one_absent : (n m : ℕ) (b : List ℕ) → has n (m ∷ b) ≡ false → has n (m ∷ []) ≡ false
one_absent n m b h = ap (λ z. z || false) (not_either (nat_eq n m) (has n b) h).0

module _ (f g : ℕ → Entry) (a : List Item) where
  whole_at : (F : Focus) → Distinct (named (entries a ++ focus_entries F)) → Agrees f (entries a) → HalfFocus f F
      → ((n : ℕ) → has n (stops_of F) ≡ true → g n ≡ set (λ t. false) (f n))
      → ((n : ℕ) → has n (named (entries a ++ focus_entries F)) ≡ true → has n (stops_of F) ≡ false → g n ≡ f n)
      → Agrees g (entries a ++ focus_entries F)
  whole_at (last o) u h k fallen kept = same_part f g (entries a ++ end_entries o)
      (every_join (λ e. f e.id ≡ e) (entries a) (end_entries o) h k) (λ n m. kept n m refl)
  whole_at (zone l b c t o) u h k fallen kept =
      let tail : List Entry = entries t ++ end_entries o in
      let rest : List ℕ = of_items t ++ named (end_entries o) in
      let parts : named (entries a ++ focus_entries (zone l b c t o)) ≡ of_items a ++ (l.id ∷ (named b ++ (c.id ∷ rest))) =
      named_join (entries a) (focus_entries (zone l b c t o)) ∙ ap (λ z. of_items a ++ z) (zone_parts l b c t o) in
      let v : Distinct (of_items a ++ (l.id ∷ (named b ++ (c.id ∷ rest)))) = subst Distinct parts u in
      let v_zone : Distinct (l.id ∷ (named b ++ (c.id ∷ rest))) =
      distinct_back (of_items a) (l.id ∷ (named b ++ (c.id ∷ rest))) v in
      let v_kept : Distinct (c.id ∷ rest) = distinct_back (named b) (c.id ∷ rest) v_zone.1 in
      let known : (n : ℕ) → has n (of_items a ++ (l.id ∷ (named b ++ (c.id ∷ rest)))) ≡ true → has n (c.id ∷ []) ≡ false → g n ≡ f n =
      λ n m. kept n (subst (λ z. has n z ≡ true) (sym parts) m) in
      let behind : (n : ℕ) → has n (l.id ∷ (named b ++ (c.id ∷ rest))) ≡ true → has n (c.id ∷ []) ≡ false → g n ≡ f n =
      λ n m. known n (has_right n (of_items a) (l.id ∷ (named b ++ (c.id ∷ rest))) m) in
      let front : Agrees g (entries a) = same_part f g (entries a) h (λ n m. known n
      (has_left n (of_items a) (l.id ∷ (named b ++ (c.id ∷ rest))) m) (one_absent n c.id rest (absent_parts n (named b) (c.id ∷ rest)
      (absent_parts n (l.id ∷ []) (named b ++ (c.id ∷ rest)) (apart (of_items a) (l.id ∷ (named b ++ (c.id ∷ rest))) v n m)).1).1)) in
      let lemma : g l.id ≡ l = behind l.id (here l.id (named b ++ (c.id ∷ rest)))
      (one_absent l.id c.id rest (absent_parts l.id (named b) (c.id ∷ rest) v_zone.0).1) ∙ k.0.0 in
      let inside : Agrees g b = same_part f g b k.0.1 (λ n m. behind n
      (there n l.id (named b ++ (c.id ∷ rest)) (has_left n (named b) (c.id ∷ rest) m))
      (one_absent n c.id rest (apart (named b) (c.id ∷ rest) v_zone.1 n m))) in
      let closer : g c.id ≡ c = fallen c.id (here c.id []) ∙ k.1.0 in
      let ends : Agrees g tail = same_part f g tail k.1.1 (λ n m.
      let at : has n rest ≡ true = subst (λ z. has n z ≡ true) (named_join (entries t) (end_entries o)) m in
      behind n (there n l.id (named b ++ (c.id ∷ rest)) (has_right n (named b) (c.id ∷ rest) (there n c.id rest at)))
      (ap (λ z. z || false) (not_at c.id n rest at v_kept.0))) in
      every_join (λ e. g e.id ≡ e) (entries a) (l ∷ (b ++ (c ∷ tail))) front
      (lemma, every_join (λ e. g e.id ≡ e) b (c ∷ tail) inside (closer, ends))

-- the entries by id are those of the document that a removal leaves
pub leaves_agree : (f g : ℕ → Entry) (e : Document) → Distinct (line e) → Half f e → Leaves f g e → Agrees g (live e)
leaves_agree f g e u h w = whole_at f g e.items e.focus u h.0 h.1 w.fallen w.kept
