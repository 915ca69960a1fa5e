-- Each change of a document by sentences that were read leaves a document of such sentences.
use Rattle.std.proofs.Common.{◌≡◌, ℕ, suc, List, [], ◌∷◌, ◌++◌, map, Bool, true, false, if◌then◌else◌, None, refl, ap, subst}
use Rattle.serapi_ans.specs.declared.line.Exn.TheVariants as exn
use Rattle.line_theory.specs.Lists.{Every}
use Rattle.line_theory.specs.Shapes.{lone, block, closed, proof, last, zone}
use Rattle.line_theory.specs.Flat.{within, closes}
use Rattle.line_theory.proofs.Lists.{every_join, every_parts}
use Rattle.doc_theory.specs.Documents.{Closer, qed, admitted, defined, abort, Kind, plain, begin, inner, close, Sentence, Entry, delegates, reopens, Item, End, Focus, Document, Home, outside, home, set, fall, flag, flag_item, flag_end, flag_focus, flagged}
use Rattle.doc_theory.specs.Editing.{
  Seat,
  among,
  at_lone,
  at_lemma,
  at_inner,
  at_closer,
  missing,
  open_lemma,
  open_inner,
  behind,
  nowhere,
  seat,
  unclose,
  reopen,
  reenter,
  lessened,
  shorten,
  remove_at,
  remove,
  refused,
  added,
  fresh,
  is_full,
  grown,
  rezoned,
  attempt_at,
  attempt,
}
use Rattle.doc_theory.specs.Flat.{role_of}
use Rattle.doc_theory.specs.Invariants.{IfAdded, IfChanged}
use Rattle.doc_theory.proofs.Removed.{IsFront, IsSeat, seat_is}
use Rattle.check_theory.specs.Read.{IsRead, Does, ItemRead, EndRead, FocusRead, DocumentRead}

fall_read : (r : Bool) (b : List Entry) → Every (Does within) b → Every (Does within) (fall r b)
fall_read false b h = h
fall_read true [] h = tt
fall_read true (e ∷ b) h = (h.0, fall_read true b h.1)

-- ---- adding

grown_read : (d : Document) (p : ℕ) (a : List Item) (f : Focus) → Every ItemRead a → FocusRead f → IfAdded DocumentRead (grown d p a f)
grown_read d p a f h k = go (is_full d)
  where
    go : (b : Bool)
        → IfAdded DocumentRead (if b then refused (exn.TooMany p) else added (record {
          items = a;
          focus = f;
          next = suc d.next;
          limit = d.limit;
        }) d.next None)
    go true = tt
    go false = (h, k)

module _ (d : Document) (x : Sentence) (r : IsRead x) (h : Every ItemRead d.items) where
  refolded_read : (k : Closer) (l : Entry) (b : List Entry) (c : Entry) (t : List Item) (o : End) → x.kind ≡ close k
      → FocusRead (zone l b c t o) → IfAdded DocumentRead (rezoned d x l b c t o)
  refolded_read k l b c t o e f = (every_join ItemRead d.items _ h ((f.0.0, fall_read true b f.0.1, (r, ap role_of e)), f.1), f.2)

  at_read : (p : ℕ) (k : Kind) (f : Focus) → x.kind ≡ k → FocusRead f → IfAdded DocumentRead (attempt_at d p x k f)
  at_read p plain (last closed) e f =
      grown_read d p (d.items ++ lone (fresh d x) ∷ []) (last closed) (every_join ItemRead d.items _ h ((r, ap role_of e), tt)) tt
  at_read p plain (last (proof l b)) e f = tt
  at_read p plain (zone l b c t o) e f = tt
  at_read p begin (last closed) e f = grown_read d p d.items (last (proof (fresh d x) [])) h ((r, ap role_of e), tt)
  at_read p begin (last (proof l b)) e f = tt
  at_read p begin (zone l b c t o) e f = tt
  at_read p inner (last closed) e f = tt
  at_read p inner (last (proof l b)) e f =
      grown_read d p d.items (last (proof l (b ++ fresh d x ∷ []))) h (f.0, every_join (Does within) b _ f.1 ((r, ap role_of e), tt))
  at_read p inner (zone l b c t o) e f =
      grown_read d p d.items (zone l (b ++ fresh d x ∷ []) (set (λ u. false) c) t o) h
      ((f.0.0, every_join (Does within) b _ f.0.1 ((r, ap role_of e), tt), f.0.2), f.1, f.2)
  at_read p (close k) (last closed) e f = tt
  at_read p (close k) (last (proof l b)) e f =
      grown_read d p (d.items ++ block l (fall (delegates x.kind) b) (fresh d x) ∷ []) (last closed)
      (every_join ItemRead d.items _ h ((f.0, fall_read (delegates x.kind) b f.1, (r, ap role_of e)), tt)) tt
  at_read p (close qed) (zone l b c t o) e f = refolded_read qed l b c t o e f
  at_read p (close admitted) (zone l b c t o) e f = refolded_read admitted l b c t o e f
  at_read p (close defined) (zone l b c t o) e f = tt
  at_read p (close abort) (zone l b c t o) e f = tt

pub attempt_read : (d : Document) (p : ℕ) (x : Sentence) → IsRead x → DocumentRead d → IfAdded DocumentRead (attempt d p x)
attempt_read d p x r h = at_read d x r h.0 p x.kind d.focus refl h.1

-- ---- removing

module _ (d : Document) (h : DocumentRead d) where
  parts : (a r : List Item) → d.items ≡ a ++ r → Every ItemRead a × Every ItemRead r
  parts a r e = every_parts ItemRead a r (subst (Every ItemRead) e h.0)

  reenter_read : (a t : List Item) (l : Entry) (f k : List Entry) (c : Entry) → d.items ≡ a ++ (block l (f ++ k) c ∷ t)
      → DocumentRead (reenter d.focus a l f c t d)
  reenter_read a t l f k c e = at d.focus h.1
    where
      ps : Every ItemRead a × Every ItemRead (block l (f ++ k) c ∷ t)
      ps = parts a (block l (f ++ k) c ∷ t) e

      fs : Every (Does within) f
      fs = (every_parts (Does within) f k ps.1.0.1).0

      left : DocumentRead (unclose a l f c d)
      left = (ps.0, (ps.1.0.0, fall_read (delegates c.sentence.kind) f fs))

      go : (o : End) → EndRead o → (w : Bool) → DocumentRead (if w then reopen a l f c t o d else unclose a l f c d)
      go o r true = (ps.0, ((ps.1.0.0, fall_read true f fs, ps.1.0.2), ps.1.1, r))
      go o r false = left

      at : (g : Focus) → FocusRead g → DocumentRead (reenter g a l f c t d)
      at (last o) r = go o r (reopens c.sentence.kind)
      at (zone m y x u o) r = left

lessened_read : (gone : List Entry) (c : Entry) → Does closes c → Does closes (lessened gone c)
lessened_read [] c h = h
lessened_read (e ∷ gone) c h = h

shorten_read : (g : Focus) (f k : List Entry) → FocusRead g → IsFront g f k → FocusRead (shorten g f k)
shorten_read (last closed) f k r q = tt
shorten_read (last (proof l b)) f k r q = (r.0, (every_parts (Does within) f k (subst (Every (Does within)) q r.1)).0)
shorten_read (zone l b c t o) f k r q =
    ((r.0.0, (every_parts (Does within) f k (subst (Every (Does within)) q r.0.1)).0, lessened_read k c r.0.2), r.1, r.2)

remove_at_read : (d : Document) (x : Seat) → IsSeat d.items d.focus x → DocumentRead d → IfChanged DocumentRead (remove_at x d)
remove_at_read d (among (at_lone a e t)) p h = ((parts d h a (lone e ∷ t) p).0, tt)
remove_at_read d (among (at_lemma a l b c t)) p h = ((parts d h a (block l b c ∷ t) p).0, tt)
remove_at_read d (among (at_inner a l f e k c t)) p h = reenter_read d h a t l f (e ∷ k) c p
remove_at_read d (among (at_closer a l b c t)) p h =
    let ps = parts d h a (block l b c ∷ t) p in
    (ps.0, (ps.1.0.0, fall_read (delegates c.sentence.kind) b ps.1.0.1))
remove_at_read d (among missing) p h = tt
remove_at_read d (open_lemma l b) p h = (h.0, tt)
remove_at_read d (open_inner l f e k) p h = (h.0, shorten_read d.focus f (e ∷ k) h.1 p)
remove_at_read d (behind c) p h = tt
remove_at_read d nowhere p h = tt

pub remove_read : (d : Document) (i : ℕ) → DocumentRead d → IfChanged DocumentRead (remove d i)
remove_read d i h = remove_at_read d (seat i d) (seat_is i d) h

-- ---- flags

module _ (rule : Home → ℕ → Bool → Bool) where
  flag_read : (h : Home) (b : List Entry) → Every (Does within) b → Every (Does within) (map (flag rule h) b)
  flag_read h [] k = tt
  flag_read h (e ∷ b) k = (k.0, flag_read h b k.1)

  items_read : (xs : List Item) → Every ItemRead xs → Every ItemRead (map (flag_item rule) xs)
  items_read [] k = tt
  items_read (lone e ∷ xs) k = (k.0, items_read xs k.1)
  items_read (block l b c ∷ xs) k =
      ((k.0.0, flag_read (home (delegates c.sentence.kind) l.id) b k.0.1, k.0.2), items_read xs k.1)

  end_read : (o : End) → EndRead o → EndRead (flag_end rule o)
  end_read closed k = tt
  end_read (proof l b) k = (k.0, flag_read outside b k.1)

  focus_read : (f : Focus) → FocusRead f → FocusRead (flag_focus rule f)
  focus_read (last o) k = end_read o k
  focus_read (zone l b c t o) k = ((k.0.0, flag_read outside b k.0.1, k.0.2), items_read t k.1, end_read o k.2)

  pub flagged_read : (d : Document) → DocumentRead d → DocumentRead (flagged rule d)
  flagged_read d k = (items_read d.items k.0, focus_read d.focus k.1)
