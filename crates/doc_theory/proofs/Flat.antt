-- A document is determined by its flat list and its cursor.
use Rattle.std.proofs.Common.{
  ◌≡◌,
  ℕ,
  suc,
  None,
  List,
  [],
  ◌∷◌,
  ◌++◌,
  Bool,
  true,
  false,
  if◌then◌else◌,
  refl,
  sym,
  ap,
  subst,
  ◌∙◌,
  append_assoc,
  append-nil,
}
use Rattle.serapi_ans.specs.declared.line.Exn.TheVariants as exn
use Rattle.line_theory.specs.Lists.{Every}
use Rattle.line_theory.specs.Shapes.{lone, block, closed, proof, last, zone}
use Rattle.line_theory.specs.Flat.{within, items_entries, front_entries, back_entries, Has, Closes, Ruled, RuledFocus}
use Rattle.line_theory.proofs.Lists.{every_join, every_parts}
use Rattle.line_theory.proofs.Flat.{read_items_back, read_focus_back}
use Rattle.doc_theory.specs.Documents.{Closer, qed, admitted, defined, abort, Kind, plain, begin, inner, close, Sentence, Entry, delegates, reopens, Item, entries, End, Focus, focus_entries, Document, live, set, fall}
use Rattle.doc_theory.specs.Editing.{
  Seat,
  among,
  at_lone,
  at_lemma,
  at_inner,
  at_closer,
  missing,
  open_lemma,
  open_inner,
  behind,
  nowhere,
  seat,
  unclose,
  reopen,
  reenter,
  lessened,
  shorten,
  remove_at,
  remove,
  refused,
  added,
  fresh,
  is_full,
  grown,
  rezoned,
  attempt_at,
  attempt,
}
use Rattle.doc_theory.specs.Flat.{role_of, reading, front, back, from_lists, IsRuled}
use Rattle.doc_theory.specs.Invariants.{IfAdded, IfChanged}
use Rattle.doc_theory.proofs.Removed.{IsFront, IsSeat, seat_is}

-- ---- reading back

pub read_back : (d : Document) → IsRuled d → from_lists (front d) (back d) d.next d.limit ≡ d
read_back d h = λ i. record {
  items = read_items_back reading d.items d.focus h.0 h.1 i;
  focus = read_focus_back reading d.items d.focus h.0 h.1 i;
  next = d.next;
  limit = d.limit;
}

-- the two lists are the whole
same_items : (xs : List Item) → entries xs ≡ items_entries reading xs
same_items [] = refl
same_items (lone e ∷ xs) = ap (λ z. e ∷ z) (same_items xs)
same_items (block l b c ∷ xs) = ap (λ z. (l ∷ (b ++ (c ∷ []))) ++ z) (same_items xs)

pub in_two : (d : Document) → live d ≡ front d ++ back d
in_two d = (λ i. same_items d.items i ++ parts_of d.focus i) ∙
    sym (append_assoc (items_entries reading d.items) (front_entries d.focus) (back_entries reading d.focus))
  where
    parts_of : (f : Focus) → focus_entries f ≡ front_entries f ++ back_entries reading f
    parts_of (last closed) = refl
    parts_of (last (proof l b)) = sym (append-nil (l ∷ b))
    parts_of (zone l b c t closed) = ap (λ z. l ∷ (b ++ (c ∷ (z ++ [])))) (same_items t)
    parts_of (zone l b c t (proof m u)) = ap (λ z. l ∷ (b ++ (c ∷ (z ++ (m ∷ u))))) (same_items t)

-- ---- commands keep each kind where it belongs

inner_fall : (r : Bool) (b : List Entry) → Every (Has reading within) b → Every (Has reading within) (fall r b)
inner_fall false b h = h
inner_fall true [] h = tt
inner_fall true (e ∷ b) h = (h.0, inner_fall true b h.1)

ruled_grown : (d : Document) (p : ℕ) (a : List Item) (f : Focus) → Every (Ruled reading) a → RuledFocus reading f →
    IfAdded IsRuled (grown d p a f)
ruled_grown d p a f h k = go (is_full d)
  where
    go : (b : Bool)
        → IfAdded IsRuled (if b then refused (exn.TooMany p) else added (record {
          items = a;
          focus = f;
          next = suc d.next;
          limit = d.limit;
        }) d.next None)
    go true = tt
    go false = (h, k)

module _ (d : Document) (x : Sentence) (h : Every (Ruled reading) d.items) where
  ruled_fold : (k : Closer) (l : Entry) (b : List Entry) (c : Entry) (t : List Item) (o : End) → x.kind ≡ close k
      → RuledFocus reading (zone l b c t o) → IfAdded IsRuled (rezoned d x l b c t o)
  ruled_fold k l b c t o e f =
      (every_join (Ruled reading) d.items _ h ((f.0.0, (inner_fall true b f.0.1.0, (ap role_of e, refl))), f.1.0), f.1.1)

  ruled_at : (p : ℕ) (k : Kind) (f : Focus) → x.kind ≡ k → RuledFocus reading f → IfAdded IsRuled (attempt_at d p x k f)
  ruled_at p plain (last closed) e r = ruled_grown d p (d.items ++ lone (fresh d x) ∷ []) (last closed)
      (every_join (Ruled reading) d.items _ h (ap role_of e, tt)) tt
  ruled_at p plain (last (proof l b)) e r = tt
  ruled_at p plain (zone l b c t o) e r = tt
  ruled_at p begin (last closed) e r = ruled_grown d p d.items (last (proof (fresh d x) [])) h (ap role_of e, tt)
  ruled_at p begin (last (proof l b)) e r = tt
  ruled_at p begin (zone l b c t o) e r = tt
  ruled_at p inner (last closed) e r = tt
  ruled_at p inner (last (proof l b)) e r = ruled_grown d p d.items (last (proof l (b ++ fresh d x ∷ []))) h (
    r.0,
    every_join (Has reading within) b _ r.1 (ap role_of e, tt),
  )
  ruled_at p inner (zone l b c t o) e r = ruled_grown d p d.items (zone l (b ++ fresh d x ∷ []) (set (λ u. false) c) t o) h
      ((r.0.0, (every_join (Has reading within) b _ r.0.1.0 (ap role_of e, tt), (r.0.1.1.0, refl))), r.1)
  ruled_at p (close k) (last closed) e r = tt
  ruled_at p (close k) (last (proof l b)) e r = ruled_grown d p (d.items ++ block l (fall (delegates x.kind) b) (fresh d x)
      ∷ []) (last closed)
      (every_join (Ruled reading) d.items _ h ((r.0, (inner_fall (delegates x.kind) b r.1, (ap role_of e, refl))), tt)) tt
  ruled_at p (close qed) (zone l b c t o) e r = ruled_fold qed l b c t o e r
  ruled_at p (close admitted) (zone l b c t o) e r = ruled_fold admitted l b c t o e r
  ruled_at p (close defined) (zone l b c t o) e r = tt
  ruled_at p (close abort) (zone l b c t o) e r = tt

pub attempt_ruled : (d : Document) (p : ℕ) (x : Sentence) → IsRuled d → IfAdded IsRuled (attempt d p x)
attempt_ruled d p x h = ruled_at d x h.0 p x.kind d.focus refl h.1

module _ (d : Document) (h : IsRuled d) where
  parts : (a r : List Item) → d.items ≡ a ++ r → Every (Ruled reading) a × Every (Ruled reading) r
  parts a r e = every_parts (Ruled reading) a r (subst (Every (Ruled reading)) e h.0)

  reenter_ruled : (a t : List Item) (l : Entry) (f k : List Entry) (c : Entry) → d.items ≡ a ++ (block l (f ++ k) c ∷ t)
      → IsRuled (reenter d.focus a l f c t d)
  reenter_ruled a t l f k c e = at d.focus h.1
    where
      ps : Every (Ruled reading) a × Every (Ruled reading) (block l (f ++ k) c ∷ t)
      ps = parts a (block l (f ++ k) c ∷ t) e

      fs : Every (Has reading within) f
      fs = (every_parts (Has reading within) f k ps.1.0.1.0).0

      left : IsRuled (unclose a l f c d)
      left = (ps.0, (ps.1.0.0, inner_fall (delegates c.sentence.kind) f fs))

      go : (o : End) → RuledFocus reading (last o) → (w : Bool) → IsRuled (if w then reopen a l f c t o d else unclose a l f c d)
      go o r true = (ps.0, ((ps.1.0.0, (inner_fall true f fs, (ps.1.0.1.1.0, refl))), (ps.1.1, r)))
      go o r false = left

      at : (g : Focus) → RuledFocus reading g → IsRuled (reenter g a l f c t d)
      at (last o) r = go o r (reopens c.sentence.kind)
      at (zone m y x u o) r = left

closes_less : (gone : List Entry) (c : Entry) → Closes reading c → Closes reading (lessened gone c)
closes_less [] c h = h
closes_less (e ∷ gone) c h = (h.0, refl)

shorten_ruled : (g : Focus) (f k : List Entry) → RuledFocus reading g → IsFront g f k → RuledFocus reading (shorten g f k)
shorten_ruled (last closed) f k r q = tt
shorten_ruled (last (proof l b)) f k r q = (r.0, (every_parts (Has reading within) f k (subst (Every (Has reading within)) q r.1)).0)
shorten_ruled (zone l b c t o) f k r q = (
  (
    r.0.0,
    (
      (every_parts (Has reading within) f k (subst (Every (Has reading within)) q r.0.1.0)).0,
      closes_less k c r.0.1.1,
    ),
  ),
  r.1,
)

pub remove_ruled_at : (d : Document) (x : Seat) → IsSeat d.items d.focus x → IsRuled d → IfChanged IsRuled (remove_at x d)
remove_ruled_at d (among (at_lone a e t)) p h = ((parts d h a (lone e ∷ t) p).0, tt)
remove_ruled_at d (among (at_lemma a l b c t)) p h = ((parts d h a (block l b c ∷ t) p).0, tt)
remove_ruled_at d (among (at_inner a l f e k c t)) p h = reenter_ruled d h a t l f (e ∷ k) c p
remove_ruled_at d (among (at_closer a l b c t)) p h = let ps = parts d h a (block l b c ∷ t) p in
    (ps.0, (ps.1.0.0, inner_fall (delegates c.sentence.kind) b ps.1.0.1.0))
remove_ruled_at d (among missing) p h = tt
remove_ruled_at d (open_lemma l b) p h = (h.0, tt)
remove_ruled_at d (open_inner l f e k) p h = (h.0, shorten_ruled d.focus f (e ∷ k) h.1 p)
remove_ruled_at d (behind c) p h = tt
remove_ruled_at d nowhere p h = tt

pub remove_ruled : (d : Document) (i : ℕ) → IsRuled d → IfChanged IsRuled (remove d i)
remove_ruled d i h = remove_ruled_at d (seat i d) (seat_is i d) h
