-- A sentence that is added leaves the work of each delegated block as it was, and the document sound.
use Rattle.std.proofs.Common.{
  ◌≡◌,
  ◌⊎◌,
  inl,
  inr,
  ℕ,
  suc,
  ◌≤◌,
  List,
  [],
  ◌∷◌,
  ◌++◌,
  Bool,
  true,
  false,
  if◌then◌else◌,
  refl,
  sym,
  ap,
  subst,
  arith,
  le_refl,
  None,
}
use Rattle.serapi_ans.specs.declared.line.Exn.TheVariants as exn
use Rattle.line_theory.specs.Lists.{Every}
use Rattle.doc_theory.specs.Lists.{Member}
use Rattle.line_theory.specs.Shapes.{lone, block, closed, proof, last, zone}
use Rattle.doc_theory.specs.Documents.{
  untold,
  qed,
  admitted,
  defined,
  abort,
  Kind,
  plain,
  begin,
  inner,
  close,
  Sentence,
  Entry,
  delegates,
  reopens,
  Item,
  entries,
  End,
  Focus,
  Document,
  set,
  fall,
}
use Rattle.doc_theory.specs.Editing.{Tried, refused, added, fresh, is_full, grown, refolded, attempt_at, attempt}
use Rattle.doc_theory.specs.Checks.{Check, Laws, through, Work, works_of, item_works, focus_works, works, Piece, piece, unread}
use Rattle.doc_theory.specs.Answers.{Ran, add_step, add_all}
use Rattle.doc_theory.specs.Invariants.{IsInner, Formed, FormedEnd, FormedFocus, Rises, RisesEnd, RisesFocus, Sound, IfAdded}
use Rattle.line_theory.proofs.Lists.{every_join}
use Rattle.doc_theory.proofs.Lists.{member_left, member_right, member_parts}
use Rattle.doc_theory.proofs.Works.{behind_same, works_join, rises_append, end_more}

-- the works of a document are there in another, which is sound
pub record Grows {State : Type 0} (L : Check State) (d e : Document) : Type 0 where
  pub works : (w : Work State) → Member w (works L d) → Member w (works L e)
  pub sound : Sound e

pub inner_fall : (r : Bool) (b : List Entry) → Every IsInner b → Every IsInner (fall r b)
inner_fall false b h = h
inner_fall true [] h = tt
inner_fall true (e ∷ b) h = (h.0, inner_fall true b h.1)

if_grown : (P : Document → Type 0) (d : Document) (p : ℕ) (a : List Item) (f : Focus)
    → P (record { items = a; focus = f; next = suc d.next; limit = d.limit }) → IfAdded P (grown d p a f)
if_grown P d p a f h = go (is_full d)
  where
    go : (b : Bool)
        → IfAdded P (if b then refused (exn.TooMany p) else added (record {
          items = a;
          focus = f;
          next = suc d.next;
          limit =
              d.limit;
        }) d.next None)
    go true = tt
    go false = h

-- items at the end change nothing of the works before
more_items : {State : Type 0} (L : Check State) (w : Work State) (a t : List Item) (s : State) → Member w (item_works L s a)
    → Member w (item_works L s (a ++ t))
more_items L w a t s m = subst (λ z. Member w z) (sym (works_join L s a t)) (member_left w (item_works L s a) _ m)

-- the focus has no works at the end of the document
pub at_end : {State : Type 0} (w : Work State) (a : List (Work State)) → Member w (a ++ []) → Member w a
at_end w [] m = m
at_end w (x ∷ a) (inl e) = inl e
at_end w (x ∷ a) (inr m) = inr (at_end w a m)

-- the works of a document with this focus
pub focused : {State : Type 0} (L : Check State) (w : Work State) (d : Document) (f : Focus) → d.focus ≡ f → Member w (works L d)
    → Member w (item_works L L.start d.items ++ focus_works L (through L L.start (entries d.items)) f)
focused L w d f e m = subst (λ g. Member w (item_works L L.start d.items ++ focus_works L (through L L.start (entries d.items)) g)) e m

-- a zone whose block can be opened again
module _ {State : Type 0} (L : Check State) (laws : Laws L) (w : Work State) (l : Entry) (b : List Entry) (c : Entry) (t : List Item)
    (o : End) (hb : Every IsInner b) (rc : reopens c.sentence.kind ≡ true) where
  -- with another inside and closer
  pub zone_works : (s : State) (f : List Entry) (k : Entry) → Every IsInner f → reopens k.sentence.kind ≡ true
      → focus_works L s (zone l b c t o) ≡ focus_works L s (zone l f k t o)
  zone_works s f k hf rk = ap (λ u. item_works L u t) (behind_same L laws s l b f c k hb hf rc rk)

  -- what it is among the items, when its block is closed
  fold_works : (a : List Item) (k : Entry) → reopens k.sentence.kind ≡ true
      → Member w (item_works L L.start a ++ focus_works L (through L L.start (entries a)) (zone l b c t o))
      → Member w (item_works L L.start (a ++ (block l (fall true b) k ∷ t)) ++ [])
  fold_works a k rk m =
      member_left w _ [] (subst (λ z. Member w z) (sym (works_join L L.start a (block l (fall true b) k ∷ t)))
      (go (member_parts w (item_works L L.start a) _ m)))
    where
      go : Member w (item_works L L.start a) ⊎ Member w (item_works L (through L (through L L.start (entries a)) (l ∷ (b ++ (c ∷ [])))) t)
          → Member w (item_works L L.start a ++ item_works L (through L L.start (entries a)) (block l (fall true b) k ∷ t))
      go (inl h) = member_left w (item_works L L.start a) _ h
      go (inr h) = member_right w (item_works L L.start a) _
          (member_right w (works_of L (through L L.start (entries a)) (block l (fall true b) k)) _
          (subst (λ u. Member w (item_works L u t)) (behind_same L laws (through L L.start (entries a)) l b (fall true b) c k hb
          (inner_fall true b hb) rc rk) h))

-- ---- each case

reopening : (x : Sentence) (k : Kind) → x.kind ≡ k → reopens k ≡ true → reopens x.kind ≡ true
reopening x k e r = subst (λ z. reopens z ≡ true) (sym e) r

module _ {State : Type 0} (L : Check State) (d : Document) (x : Sentence) (s : Sound d) where
  grows_plain : d.focus ≡ last closed
      → Grows L d (record { items = d.items ++ lone (fresh d x) ∷ []; focus = last closed; next = suc d.next; limit = d.limit })
  grows_plain e = let bound : s.middle ≤ d.next = subst (λ f. RisesFocus s.middle f d.next) e s.ends in
      record {
        works = λ w m. member_left w _ [] (more_items L w d.items _ L.start (at_end w _ (focused L w d (last closed) e m)));
        sound = record {
          items = every_join Formed d.items _ s.items (tt, tt);
          focus = tt;
          middle = s.middle;
          rises = rises_append 0 s.middle s.middle d.items _ s.rises (le_refl s.middle);
          ends = omega (arith, bound);
        };
      }

  grows_begin : d.focus ≡ last closed
      → Grows L d (record { items = d.items; focus = last (proof (fresh d x) []); next = suc d.next; limit = d.limit })
  grows_begin e = let bound : s.middle ≤ d.next = subst (λ f. RisesFocus s.middle f d.next) e s.ends in
      record {
        works = λ w m. focused L w d (last closed) e m;
        sound = record { items = s.items; focus = tt; middle = s.middle; rises = s.rises; ends = (bound, le_refl (suc d.next)) };
      }

  grows_inner : (l : Entry) (b : List Entry) → x.kind ≡ inner → d.focus ≡ last (proof l b)
      → Grows L d (record { items = d.items; focus = last (proof l (b ++ fresh d x ∷ [])); next = suc d.next; limit = d.limit })
  grows_inner l b k e = let bound : (s.middle ≤ l.id) × (suc l.id ≤ d.next) = subst (λ f. RisesFocus s.middle f d.next) e s.ends in
      let inside : Every IsInner b = subst FormedFocus e s.focus in
      record {
        works = λ w m. focused L w d (last (proof l b)) e m;
        sound = record {
          items = s.items;
          focus = every_join IsInner b _ inside (k, tt);
          middle = s.middle;
          rises = s.rises;
          ends = (bound.0, omega (arith, bound.1));
        };
      }

  grows_zone : Laws L → (l : Entry) (b : List Entry) (c : Entry) (t : List Item) (o : End) → x.kind ≡ inner → d.focus ≡ zone l b c t o
      → Grows L d (record {
        items = d.items;
        focus = zone l (b ++ fresh d x ∷ []) (set (λ u. false) c) t o;
        next = suc d.next;
        limit = d.limit;
      })
  grows_zone laws l b c t o k e =
      let bound : (s.middle ≤ l.id) × ((m : ℕ) × (Rises (suc l.id) t m × RisesEnd m o d.next)) =
      subst (λ f. RisesFocus s.middle f d.next) e s.ends in
      let inside : Every IsInner b × ((reopens c.sentence.kind ≡ true) × (Every Formed t × FormedEnd o)) = subst FormedFocus e s.focus in
      let all : Every IsInner (b ++ fresh d x ∷ []) = every_join IsInner b _ inside.0 (k, tt) in
      record {
        works = λ w m. subst (λ z. Member w (item_works L L.start d.items ++ z))
            (zone_works L laws w l b c t o inside.0 inside.1.0 (through L L.start (entries d.items)) (b ++ fresh d x ∷ [])
            (set (λ u. false) c) all inside.1.0) (focused L w d (zone l b c t o) e m);
        sound = record {
          items = s.items;
          focus = (all, (inside.1.0, inside.1.1));
          middle = s.middle;
          rises = s.rises;
          ends = (bound.0, (bound.1.0, (bound.1.1.0, end_more bound.1.0 d.next (suc d.next) o (omega arith) bound.1.1.1)));
        };
      }

  grows_close : (l : Entry) (b : List Entry) → d.focus ≡ last (proof l b)
      → Grows L d (record {
        items = d.items ++ block l (fall (delegates x.kind) b) (fresh d x) ∷ [];
        focus = last closed;
        next =
            suc d.next;
        limit = d.limit;
      })
  grows_close l b e = let bound : (s.middle ≤ l.id) × (suc l.id ≤ d.next) = subst (λ f. RisesFocus s.middle f d.next) e s.ends in
      let inside : Every IsInner b = subst FormedFocus e s.focus in
      record {
        works = λ w m. member_left w _ [] (more_items L w d.items _ L.start (at_end w _ (focused L w d (last (proof l b)) e m)));
        sound = record {
          items = every_join Formed d.items _ s.items (inner_fall (delegates x.kind) b inside, tt);
          focus = tt;
          middle = d.next;
          rises = rises_append 0 s.middle d.next d.items _ s.rises (bound.0, bound.1);
          ends = omega arith;
        };
      }

  grows_fold : Laws L → (l : Entry) (b : List Entry) (c : Entry) (t : List Item) (o : End) → reopens x.kind ≡ true
      → d.focus ≡ zone l b c t o → Grows L d (refolded d x l b c t o)
  grows_fold laws l b c t o k e =
      let bound : (s.middle ≤ l.id) × ((m : ℕ) × (Rises (suc l.id) t m × RisesEnd m o d.next)) =
      subst (λ f. RisesFocus s.middle f d.next) e s.ends in
      let inside : Every IsInner b × ((reopens c.sentence.kind ≡ true) × (Every Formed t × FormedEnd o)) = subst FormedFocus e s.focus in
      record {
        works = λ w m. fold_works L laws w l b c t o inside.0 inside.1.0 d.items (untold c.id x) k (focused L w d (zone l b c t o) e m);
        sound = record {
          items = every_join Formed d.items _ s.items (inner_fall true b inside.0, inside.1.1.0);
          focus = inside.1.1.1;
          middle = bound.1.0;
          rises = rises_append 0 s.middle bound.1.0 d.items _ s.rises (bound.0, bound.1.1.0);
          ends = bound.1.1.1;
        };
      }

  attempt_at_grows : Laws L → (p : ℕ) (k : Kind) (f : Focus) → x.kind ≡ k → d.focus ≡ f → IfAdded (Grows L d) (attempt_at d p x k f)
  attempt_at_grows laws p plain (last closed) ek ef = if_grown (Grows L d) d p _ _ (grows_plain ef)
  attempt_at_grows laws p plain (last (proof l b)) ek ef = tt
  attempt_at_grows laws p plain (zone l b c t o) ek ef = tt
  attempt_at_grows laws p begin (last closed) ek ef = if_grown (Grows L d) d p _ _ (grows_begin ef)
  attempt_at_grows laws p begin (last (proof l b)) ek ef = tt
  attempt_at_grows laws p begin (zone l b c t o) ek ef = tt
  attempt_at_grows laws p inner (last closed) ek ef = tt
  attempt_at_grows laws p inner (last (proof l b)) ek ef = if_grown (Grows L d) d p _ _ (grows_inner l b ek ef)
  attempt_at_grows laws p inner (zone l b c t o) ek ef = if_grown (Grows L d) d p _ _ (grows_zone laws l b c t o ek ef)
  attempt_at_grows laws p (close k) (last closed) ek ef = tt
  attempt_at_grows laws p (close k) (last (proof l b)) ek ef = if_grown (Grows L d) d p _ _ (grows_close l b ef)
  attempt_at_grows laws p (close qed) (zone l b c t o) ek ef = grows_fold laws l b c t o (reopening x (close qed) ek refl) ef
  attempt_at_grows laws p (close admitted) (zone l b c t o) ek ef = grows_fold laws l b c t o
      (reopening x (close admitted) ek refl) ef
  attempt_at_grows laws p (close defined) (zone l b c t o) ek ef = tt
  attempt_at_grows laws p (close abort) (zone l b c t o) ek ef = tt

pub attempt_grows : {State : Type 0} (L : Check State) → Laws L → (d : Document) (p : ℕ) (x : Sentence) → Sound d
    → IfAdded (Grows L d) (attempt d p x)
attempt_grows L laws d p x s = attempt_at_grows L d x s laws p x.kind d.focus refl refl

-- ---- an Add

module _ {State : Type 0} (L : Check State) (tag : List ℕ) where
  add_step_grows : (p q : ℕ) (d : Document) (e : Tried) (more : Document → Ran) → Sound d
      → IfAdded (Grows L d) e
      → ((d : Document) → Sound d → Grows L d (more d).document) → Grows L d (add_step tag p q d e more).document
  add_step_grows p q d (refused r) more s h k = record { works = λ w m. m; sound = s }
  add_step_grows p q d (added e i t) more s h k = record {
    works = λ w m. (k e h.sound).works w (h.works w m);
    sound =
        (k e h.sound).sound;
  }

pub add_all_grows : {State : Type 0} (L : Check State) → Laws L → (tag : List ℕ) (ps : List Piece) (d : Document) → Sound d
    → Grows L d (add_all tag ps d).document
add_all_grows L laws tag [] d s = record { works = λ w m. m; sound = s }
add_all_grows L laws tag (unread p ∷ ps) d s = record { works = λ w m. m; sound = s }
add_all_grows L laws tag (piece p q x ∷ ps) d s = add_step_grows L tag p q d (attempt d p x) (add_all tag ps) s
    (attempt_grows L laws d p x s) (add_all_grows L laws tag ps)
