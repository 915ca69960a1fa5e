-- Add and Cancel change no verdict of what stays told.
use Rattle.std.proofs.Common.{
  ◌≡◌,
  ◌⊎◌,
  inl,
  inr,
  ℕ,
  suc,
  List,
  [],
  ◌∷◌,
  ◌++◌,
  map,
  Bool,
  true,
  false,
  if◌then◌else◌,
  refl,
  sym,
  ap,
  subst,
  ◌∙◌,
  append_assoc,
  append-nil,
  None,
}
use Rattle.serapi_ans.specs.declared.line.Exn.TheVariants as exn
use Rattle.line_theory.specs.Lists.{Every, chosen}
use Rattle.doc_theory.specs.Lists.{Member}
use Rattle.line_theory.specs.Shapes.{lone, block, closed, proof, last, zone}
use Rattle.doc_theory.specs.Documents.{
  untold,
  qed,
  admitted,
  defined,
  abort,
  Kind,
  plain,
  begin,
  inner,
  close,
  Sentence,
  Entry,
  delegates,
  reopens,
  Item,
  entries,
  End,
  Focus,
  Document,
  Home,
  outside,
  body_of,
  home,
  Mark,
  mark,
  marks_of,
  item_marks,
  end_marks,
  focus_marks,
  marks,
  set,
  fall,
}
use Rattle.doc_theory.specs.Editing.{
  Seat,
  among,
  at_lone,
  at_lemma,
  at_inner,
  at_closer,
  missing,
  open_lemma,
  open_inner,
  behind,
  nowhere,
  seat,
  refocus,
  only,
  unclose,
  reopen,
  reenter,
  shorten,
  Edited,
  unknown,
  refused_by,
  changed,
  remove_at,
  remove,
  Tried,
  refused,
  added,
  fresh,
  is_full,
  grown,
  refolded,
  attempt_at,
  attempt,
}
use Rattle.doc_theory.specs.Checks.{Check, Laws, through, Judged, judged_from, Told, Piece, piece, unread, leaves, verdict}
use Rattle.doc_theory.specs.Answers.{Ran, add_step, add_all, Removed, cancel_step, cancel_all}
use Rattle.doc_theory.specs.Invariants.{IsInner, Formed, FormedFocus, Sound, IfAdded, IfChanged}
use Rattle.doc_theory.specs.Notes.{noted_of, picked, is_noted, Steady}
use Rattle.line_theory.proofs.Lists.{every_join, every_parts}
use Rattle.doc_theory.proofs.Lists.{member_left, member_right, member_parts}
use Rattle.doc_theory.proofs.Forgotten.{map_join}
use Rattle.doc_theory.proofs.Works.{behind_same}
use Rattle.doc_theory.proofs.Added.{Grows, attempt_grows, inner_fall}
use Rattle.doc_theory.proofs.Removed.{IsFront, IsSeat, seat_is, Keeps, remove_keeps}
use Rattle.doc_theory.proofs.Reports.{passed, passed_marks, passed_items}

module _ {State : Type 0} (L : Check State) where
  abbrev notes : State → List Mark → List Told
  notes s ms = picked L is_noted s ms

  -- of the first marks no more is noted than of the second
  abbrev Sub : State → List Mark → List Mark → Type 0
  Sub s a b = (t : Told) → Member t (notes s a) → Member t (notes s b)

  notes_join : (s : State) (a b : List Mark) → notes s (a ++ b) ≡ notes s a ++ notes (passed L s a) b
  notes_join s [] b = refl
  notes_join s (m ∷ a) b = go (is_noted m) (notes_join (leaves L s m.id m.sentence) a b)
    where
      this : Judged State
      this = record { mark = m; verdict = verdict L s m.id m.sentence; state = leaves L s m.id m.sentence }

      go : (c : Bool)
          → notes (leaves L s m.id m.sentence) (a ++ b) ≡ notes (leaves L s m.id m.sentence) a
          ++ notes (passed L (leaves L s m.id m.sentence) a) b
          → map noted_of (if c then this ∷ chosen (λ j. is_noted j.mark) (judged_from L (leaves L s m.id m.sentence) (a ++ b))
          else chosen (λ j. is_noted j.mark) (judged_from L (leaves L s m.id m.sentence) (a ++ b)))
          ≡ map noted_of (if c then this ∷ chosen (λ j. is_noted j.mark) (judged_from L (leaves L s m.id m.sentence) a)
          else chosen (λ j. is_noted j.mark) (judged_from L (leaves L s m.id m.sentence) a))
          ++ notes (passed L (leaves L s m.id m.sentence) a) b
      go true h = ap (λ z. noted_of this ∷ z) h
      go false h = h

  sub_join : (s : State) (a b c d : List Mark) → Sub s a b → passed L s a ≡ passed L s b → Sub (passed L s b) c d
      → Sub s (a ++ c) (b ++ d)
  sub_join s a b c d h e k t m = subst (λ z. Member t z) (sym (notes_join s b d))
      (go (member_parts t (notes s a) _ (subst (λ z. Member t z) (notes_join s a c) m)))
    where
      go : Member t (notes s a) ⊎ Member t (notes (passed L s a) c) → Member t (notes s b ++ notes (passed L s b) d)
      go (inl x) = member_left t (notes s b) _ (h t x)
      go (inr x) = member_right t (notes s b) _ (k t (subst (λ u. Member t (notes u c)) e x))

  sub_same : (s : State) (a : List Mark) → Sub s a a
  sub_same s a t m = m

  sub_none : (s : State) (a b : List Mark) → notes s a ≡ [] → Sub s a b
  sub_none s a b e t m = absurd (subst (λ z. Member t z) e m)

  -- marks at the end of the second are no matter
  sub_front : (s : State) (a c : List Mark) → Sub s a (a ++ c)
  sub_front s a c t m = subst (λ z. Member t z) (sym (notes_join s a c)) (member_left t (notes s a) _ m)

  -- nor marks at the end of the first that give nothing
  sub_end : (s : State) (a c : List Mark) → notes (passed L s a) c ≡ [] → Sub s (a ++ c) a
  sub_end s a c e t m = go (member_parts t (notes s a) _ (subst (λ z. Member t z) (notes_join s a c) m))
    where
      go : Member t (notes s a) ⊎ Member t (notes (passed L s a) c) → Member t (notes s a)
      go (inl x) = x
      go (inr x) = absurd (subst (λ z. Member t z) e x)

  -- one mark before both
  sub_first : (s : State) (m : Mark) (a b : List Mark) → Sub (leaves L s m.id m.sentence) a b → Sub s (m ∷ a) (m ∷ b)
  sub_first s m a b h = sub_join s (m ∷ []) (m ∷ []) a b (sub_same s (m ∷ [])) refl h

  untold_rest : (h : Home) (s : State) (b : List Entry) → notes s (map (mark h) (fall true b)) ≡ []
  untold_rest h s [] = refl
  untold_rest outside s (e ∷ b) = untold_rest outside (leaves L s e.id e.sentence) b
  untold_rest (body_of n) s (e ∷ b) = untold_rest (body_of n) (leaves L s e.id e.sentence) b

  bodies_none : (n : ℕ) (s : State) (b : List Entry) → notes s (map (mark (body_of n)) b) ≡ []
  bodies_none n s [] = refl
  bodies_none n s (e ∷ b) = bodies_none n (leaves L s e.id e.sentence) b

  -- an untold entry
  new_one : (h : Home) (s : State) (i : ℕ) (x : Sentence) → notes s (mark h (untold i x) ∷ []) ≡ []
  new_one outside s i x = refl
  new_one (body_of n) s i x = refl

  nil_of : (a b : List Told) → a ≡ [] → b ≡ [] → a ++ b ≡ []
  nil_of a b e f = ap (λ z. z ++ b) e ∙ f

  marks_join : (a b : List Item) → item_marks (a ++ b) ≡ item_marks a ++ item_marks b
  marks_join [] b = refl
  marks_join (x ∷ a) b = ap (λ z. marks_of x ++ z) (marks_join a b) ∙ sym (append_assoc (marks_of x) (item_marks a) (item_marks b))

  -- a document in two parts: the items before a place, and what comes then
  from_items : (a r : List Item) (f : List Mark) (xs : List Mark) → Sub (through L L.start (entries a)) f (item_marks r ++ xs)
      → Sub L.start (item_marks a ++ f) (item_marks (a ++ r) ++ xs)
  from_items a r f xs h = subst (Sub L.start (item_marks a ++ f)) (sym (append_assoc (item_marks a) (item_marks r) xs) ∙
      ap (λ z. z ++ xs) (sym (marks_join a r)))
      (sub_join L.start (item_marks a) (item_marks a) f (item_marks r ++ xs) (sub_same L.start (item_marks a)) refl
      (subst (λ u. Sub u f (item_marks r ++ xs)) (sym (passed_items L L.start a)) h))

  to_items : (a r : List Item) (f : List Mark) → Sub (through L L.start (entries a)) (item_marks r) f
      → Sub L.start (item_marks (a ++ r) ++ []) (item_marks a ++ f)
  to_items a r f h = subst (λ z. Sub L.start z (item_marks a ++ f)) (sym (append-nil (item_marks (a ++ r)) ∙ marks_join a r))
      (sub_join L.start (item_marks a) (item_marks a) (item_marks r) f (sub_same L.start (item_marks a)) refl
      (subst (λ u. Sub u (item_marks r) f) (sym (passed_items L L.start a)) h))

  focus_sub : (a : List Item) (f g : Focus) → Sub (through L L.start (entries a)) (focus_marks f) (focus_marks g)
      → Sub L.start (item_marks a ++ focus_marks f) (item_marks a ++ focus_marks g)
  focus_sub a f g h = sub_join L.start (item_marks a) (item_marks a) _ _ (sub_same L.start (item_marks a)) refl
      (subst (λ u. Sub u (focus_marks f) (focus_marks g)) (sym (passed_items L L.start a)) h)

  -- the state behind a block's marks
  passed_block : (s : State) (h : Home) (l : Entry) (b : List Entry) (c : Entry)
      → passed L s (mark outside l ∷ (map (mark h) b ++ (mark h c ∷ []))) ≡ through L s (l ∷ (b ++ (c ∷ [])))
  passed_block s h l b c = ap (passed L (leaves L s l.id l.sentence)) (sym (map_join (mark h) b (c ∷ [])))
      ∙ passed_marks L h (leaves L s l.id l.sentence) (b ++ (c ∷ []))

  -- a zone's marks as its block's, then the tail's
  zone_parts : (l : Entry) (b : List Entry) (c : Entry) (t : List Item) (o : End)
      → focus_marks (zone l b c t o) ≡ (mark outside l ∷ (map (mark outside) b ++ (mark outside c ∷ []))) ++ (item_marks t ++ end_marks o)
  zone_parts l b c t o =
      ap (λ z. mark outside l ∷ z) (sym (append_assoc (map (mark outside) b) (mark outside c ∷ []) (item_marks t ++ end_marks o)))

  -- an untold closer behind a front
  untold_closer : (s : State) (h : Home) (f k : List Mark) (i : ℕ) (x : Sentence) (c : List Mark) → Sub s f (k ++ c)
      → Sub s (f ++ (mark h (untold i x) ∷ [])) (k ++ c)
  untold_closer s h f k i x c sub t m = sub t (sub_end s f _ (new_one h (passed L s f) i x) t m)

  -- a block before a tail
  module _ (s : State) (h k : Home) (l : Entry) (b : List Entry) (c : Entry) (rest : List Mark) where
    -- with another inside and closer no more is noted of it, and the state behind it is the same
    before_tail : (f : List Entry) (e : Entry) → through L s (l ∷ (f ++ (e ∷ []))) ≡ through L s (l ∷ (b ++ (c ∷ [])))
        → Sub (leaves L s l.id l.sentence) (map (mark k) f ++ (mark k e ∷ [])) (map (mark h) b ++ (mark h c ∷ []))
        → Sub s ((mark outside l ∷ (map (mark k) f ++ (mark k e ∷ []))) ++ rest)
        ((mark outside l ∷ (map (mark h) b ++ (mark h c ∷ []))) ++ rest)
    before_tail f e q sub = sub_join s (mark outside l ∷ (map (mark k) f ++ (mark k e ∷ [])))
        (mark outside l ∷ (map (mark h) b ++ (mark h c ∷ []))) rest rest
        (sub_first s (mark outside l) (map (mark k) f ++ (mark k e ∷ [])) (map (mark h) b ++ (mark h c ∷ [])) sub)
        (passed_block s k l f e ∙ q ∙ sym (passed_block s h l b c)) (sub_same _ rest)

    -- with its inside and closer untold
    steady_fallen : Laws L → (i : ℕ) (x : Sentence) (f : List Entry) → Every IsInner b → Every IsInner f → reopens c.sentence.kind ≡ true
        → reopens x.kind ≡ true → Sub s ((mark outside l ∷ (map (mark k) (fall true f) ++ (mark k (untold i x) ∷ []))) ++ rest)
        ((mark outside l ∷ (map (mark h) b ++ (mark h c ∷ []))) ++ rest)
    steady_fallen laws i x f hb hf rc rx = before_tail (fall true f) (untold i x)
        (behind_same L laws s l (fall true f) b (untold i x) c (inner_fall true f hf) hb rx rc)
        (untold_closer (leaves L s l.id l.sentence) k (map (mark k) (fall true f)) (map (mark h) b) i x (mark h c ∷ [])
        (sub_none (leaves L s l.id l.sentence) (map (mark k) (fall true f)) (map (mark h) b ++ (mark h c ∷ []))
        (untold_rest k (leaves L s l.id l.sentence) f)))

  fallen_front : (s : State) (b f k : List Entry) (h : Home) → b ≡ f ++ k → (x : List Mark) → Sub s (map (mark h) f) (map (mark h) b ++ x)
  fallen_front s b f k h q x = subst (λ z. Sub s (map (mark h) f) (map (mark h) z ++ x)) (sym q)
      (subst (λ z. Sub s (map (mark h) f) (z ++ x)) (sym (map_join (mark h) f k)) (subst (λ z. Sub s (map (mark h) f) z)
      (sym (append_assoc (map (mark h) f) (map (mark h) k) x)) (sub_front s (map (mark h) f) (map (mark h) k ++ x))))

  sub_more : (s : State) (a b c : List Mark) → Sub s a b → Sub s a (b ++ c)
  sub_more s a b c h t m = sub_front s b c t (h t m)

  -- ---- adding

  module _ (laws : Laws L) (d : Document) (s : Sound d) where
    abbrev at : State
    at = through L L.start (entries d.items)

    with_focus : (g : Focus) → d.focus ≡ g → (e : Document) → Sub L.start (marks e) (item_marks d.items ++ focus_marks g) → Steady L d e
    with_focus g q e h t m = subst (λ z. Member t (notes L.start (item_marks d.items ++ focus_marks z))) (sym q) (h t m)

    steady_grown : (p : ℕ) (a : List Item) (f : Focus) → Steady L d (record { items = a; focus = f; next = suc d.next; limit = d.limit })
        → IfAdded (Steady L d) (grown d p a f)
    steady_grown p a f h = go (is_full d)
      where
        go : (b : Bool)
            → IfAdded (Steady L d) (if b then refused (exn.TooMany p)
            else added (record { items = a; focus = f; next = suc d.next; limit = d.limit }) d.next None)
        go true = tt
        go false = h

    steady_inner : (x : Sentence) (l : Entry) (b : List Entry)
        → Sub at (end_marks (proof l (b ++ fresh d x ∷ []))) (end_marks (proof l b))
    steady_inner x l b = sub_first at (mark outside l) (map (mark outside) (b ++ fresh d x ∷ [])) (map (mark outside) b)
        (subst (λ z. Sub (leaves L at l.id l.sentence) z (map (mark outside) b)) (sym (map_join (mark outside) b (fresh d x ∷ [])))
        (sub_end (leaves L at l.id l.sentence) (map (mark outside) b) (mark outside (fresh d x) ∷ [])
        (new_one outside (passed L (leaves L at l.id l.sentence) (map (mark outside) b)) d.next x)))

    steady_close : (x : Sentence) (l : Entry) (b : List Entry)
        → Sub at (marks_of (block l (fall (delegates x.kind) b) (fresh d x)) ++ []) (end_marks (proof l b))
    steady_close x l b = subst (λ z. Sub at z (end_marks (proof l b)))
        (sym (append-nil (marks_of (block l (fall (delegates x.kind) b) (fresh d x)))))
        (sub_first at (mark outside l) (map (mark (home (delegates x.kind) l.id)) (fall (delegates x.kind) b)
        ++ (mark (home (delegates x.kind) l.id) (fresh d x) ∷ [])) (map (mark outside) b) (go (delegates x.kind)))
      where
        go : (r : Bool)
            → Sub (leaves L at l.id l.sentence) (map (mark (home r l.id)) (fall r b) ++ (mark (home r l.id) (fresh d x) ∷ []))
            (map (mark outside) b)
        go true = λ t m. absurd (subst (λ z. Member t z) (untold_rest (body_of l.id) (leaves L at l.id l.sentence) b)
            (sub_end (leaves L at l.id l.sentence) (map (mark (body_of l.id)) (fall true b)) (mark (body_of l.id) (fresh d x)
            ∷ []) (new_one (body_of l.id) (passed L (leaves L at l.id l.sentence) (map (mark (body_of l.id)) (fall true b)))
            d.next x) t m))
        go false = sub_end (leaves L at l.id l.sentence) (map (mark outside) b) (mark outside (fresh d x) ∷ [])
            (new_one outside (passed L (leaves L at l.id l.sentence) (map (mark outside) b)) d.next x)

    steady_zone : (x : Sentence) (l : Entry) (b : List Entry) (c : Entry) (t : List Item) (o : End) → d.focus ≡ zone l b c t o
        → x.kind ≡ inner
        → Sub at (focus_marks (zone l (b ++ fresh d x ∷ []) (set (λ u. false) c) t o)) (focus_marks (zone l b c t o))
    steady_zone x l b c t o g q =
        let fs : FormedFocus (zone l b c t o) = subst FormedFocus g s.focus in
        let all : Every IsInner (b ++ fresh d x ∷ []) = every_join IsInner b _ fs.0 (q, tt) in
        let both = subst (λ z. Sub at z ((mark outside l ∷ (map (mark outside) b ++ (mark outside c ∷ [])))
        ++ (item_marks t ++ end_marks o))) (sym (zone_parts l (b ++ fresh d x ∷ []) (set (λ u. false) c) t o))
        (before_tail at outside outside l b c (item_marks t ++ end_marks o) (b ++ fresh d x ∷ []) (set (λ u. false) c)
        (behind_same L laws at l (b ++ fresh d x ∷ []) b (set (λ u. false) c) c all fs.0 fs.1.0 fs.1.0)
        (untold_closer (leaves L at l.id l.sentence) outside (map (mark outside) (b ++ fresh d x ∷ [])) (map (mark outside) b)
        c.id c.sentence (mark outside c ∷ [])
        (λ u m. sub_front (leaves L at l.id l.sentence) (map (mark outside) b) (mark outside c ∷ []) u
        (sub_end (leaves L at l.id l.sentence) (map (mark outside) b) (mark outside (fresh d x) ∷ [])
        (new_one outside (passed L (leaves L at l.id l.sentence) (map (mark outside) b)) d.next x) u
        (subst (λ z. Member u (notes (leaves L at l.id l.sentence) z)) (map_join (mark outside) b (fresh d x ∷ [])) m))))) in
        subst (Sub at (focus_marks (zone l (b ++ fresh d x ∷ []) (set (λ u. false) c) t o))) (sym (zone_parts l b c t o)) both

    steady_fold : (x : Sentence) (l : Entry) (b : List Entry) (c : Entry) (t : List Item) (o : End) → d.focus ≡ zone l b c t o
        → reopens x.kind ≡ true → Steady L d (refolded d x l b c t o)
    steady_fold x l b c t o g r =
        let fs : FormedFocus (zone l b c t o) = subst FormedFocus g s.focus in
        let new : Entry = record { id = c.id; sentence = x; told = false } in
        with_focus (zone l b c t o) g (refolded d x l b c t o)
        (subst (λ z. Sub L.start z (item_marks d.items ++ focus_marks (zone l b c t o)))
        (sym (ap (λ z. z ++ end_marks o) (marks_join d.items (block l (fall true b) new ∷ t)) ∙
        append_assoc (item_marks d.items) (item_marks (block l (fall true b) new ∷ t)) (end_marks o)))
        (sub_join L.start (item_marks d.items) (item_marks d.items) (item_marks (block l (fall true b) new ∷ t) ++ end_marks o)
        (focus_marks (zone l b c t o)) (sub_same L.start (item_marks d.items)) refl
        (subst (λ u. Sub u (item_marks (block l (fall true b) new ∷ t) ++ end_marks o) (focus_marks (zone l b c t o)))
        (sym (passed_items L L.start d.items))
        (subst (λ z. Sub at z (focus_marks (zone l b c t o)))
        (sym (append_assoc (marks_of (block l (fall true b) new)) (item_marks t) (end_marks o)))
        (subst (Sub at (marks_of (block l (fall true b) new) ++ (item_marks t ++ end_marks o))) (sym (zone_parts l b c t o))
        (steady_fallen at outside (home (delegates x.kind) l.id) l b c (item_marks t ++ end_marks o) laws c.id x b fs.0 fs.0 fs.1.0 r))))))

    reopening : (x : Sentence) (k : Kind) → x.kind ≡ k → reopens k ≡ true → reopens x.kind ≡ true
    reopening x k e r = subst (λ z. reopens z ≡ true) (sym e) r

    steady_new : (p : ℕ) (a : List Item) (f g : Focus) → d.focus ≡ g
        → Sub L.start (item_marks a ++ focus_marks f) (item_marks d.items ++ focus_marks g) → IfAdded (Steady L d) (grown d p a f)
    steady_new p a f g q h = steady_grown p a f (with_focus g q (record { items = a; focus = f; next = suc d.next; limit = d.limit }) h)

    steady_at : (p : ℕ) (x : Sentence) (k : Kind) (f : Focus) → x.kind ≡ k → d.focus ≡ f → IfAdded (Steady L d) (attempt_at d p x k f)
    steady_at p x plain (last closed) ek g = steady_new p (d.items ++ lone (fresh d x) ∷ []) (last closed) (last closed) g
        (to_items d.items (lone (fresh d x) ∷ []) [] (sub_none at (mark outside (fresh d x) ∷ []) [] (new_one outside at d.next x)))
    steady_at p x plain (last (proof l b)) ek g = tt
    steady_at p x plain (zone l b c t o) ek g = tt
    steady_at p x begin (last closed) ek g = steady_new p d.items (last (proof (fresh d x) [])) (last closed) g
        (focus_sub d.items (last (proof (fresh d x) [])) (last closed) (sub_none at (mark outside (fresh d x) ∷ []) []
        (new_one outside at d.next x)))
    steady_at p x begin (last (proof l b)) ek g = tt
    steady_at p x begin (zone l b c t o) ek g = tt
    steady_at p x inner (last closed) ek g = tt
    steady_at p x inner (last (proof l b)) ek g = steady_new p d.items (last (proof l (b ++ fresh d x ∷ []))) (last (proof l b))
        g (focus_sub d.items (last (proof l (b ++ fresh d x ∷ []))) (last (proof l b)) (steady_inner x l b))
    steady_at p x inner (zone l b c t o) ek g = steady_new p d.items (zone l (b ++ fresh d x ∷ []) (set (λ u. false) c) t o)
        (zone l b c t o) g (focus_sub d.items (zone l (b ++ fresh d x ∷ []) (set (λ u. false) c) t o) (zone l b c t o)
        (steady_zone x l b c t o g ek))
    steady_at p x (close k) (last closed) ek g = tt
    steady_at p x (close k) (last (proof l b)) ek g = steady_new p (d.items ++ block l (fall (delegates x.kind) b) (fresh d x)
        ∷ []) (last closed) (last (proof l b)) g (to_items d.items (block l (fall (delegates x.kind) b) (fresh d x) ∷ [])
        (end_marks (proof l b)) (steady_close x l b))
    steady_at p x (close qed) (zone l b c t o) ek g = steady_fold x l b c t o g (reopening x (close qed) ek refl)
    steady_at p x (close admitted) (zone l b c t o) ek g = steady_fold x l b c t o g (reopening x (close admitted) ek refl)
    steady_at p x (close defined) (zone l b c t o) ek g = tt
    steady_at p x (close abort) (zone l b c t o) ek g = tt

    -- ---- removing

    with_items : (a r : List Item) → d.items ≡ a ++ r → (e : Document)
        → Sub L.start (marks e) (item_marks (a ++ r) ++ focus_marks d.focus) → Steady L d e
    with_items a r q e h t m = subst (λ z. Member t (notes L.start (item_marks z ++ focus_marks d.focus))) (sym q) (h t m)

    steady_only : (a r : List Item) → d.items ≡ a ++ r → Steady L d (only a d)
    steady_only a r q = with_items a r q (only a d) (from_items a r [] (focus_marks d.focus)
        (sub_none (through L L.start (entries a)) [] (item_marks r ++ focus_marks d.focus) refl))

    -- a block of the document, of which a front stays
    module _ (a t : List Item) (l : Entry) (b f k : List Entry) (c : Entry) (e : d.items ≡ a ++ (block l b c ∷ t)) (q : b ≡ f ++ k) where
      steady_unclose : Steady L d (unclose a l f c d)
      steady_unclose = with_items a (block l b c ∷ t) e (unclose a l f c d)
          (from_items a (block l b c ∷ t) (end_marks (proof l (fall (delegates c.sentence.kind) f))) (focus_marks d.focus)
          (sub_first here (mark outside l) (map (mark outside) (fall (delegates c.sentence.kind) f))
          (((map (mark (home (delegates c.sentence.kind) l.id)) b ++ (mark (home (delegates c.sentence.kind) l.id) c ∷ []))
          ++ item_marks t) ++ focus_marks d.focus)
          (sub_more inside (map (mark outside) (fall (delegates c.sentence.kind) f))
          ((map (mark (home (delegates c.sentence.kind) l.id)) b ++ (mark (home (delegates c.sentence.kind) l.id) c ∷ []))
          ++ item_marks t) (focus_marks d.focus)
          (sub_more inside (map (mark outside) (fall (delegates c.sentence.kind) f))
          (map (mark (home (delegates c.sentence.kind) l.id)) b ++ (mark (home (delegates c.sentence.kind) l.id) c ∷ []))
          (item_marks t) (go (delegates c.sentence.kind))))))
        where
          here : State
          here = through L L.start (entries a)

          inside : State
          inside = leaves L (through L L.start (entries a)) l.id l.sentence

          go : (r : Bool)
              → Sub (leaves L (through L L.start (entries a)) l.id l.sentence) (map (mark outside) (fall r f))
              (map (mark (home r l.id)) b ++ (mark (home r l.id) c ∷ []))
          go true = sub_none (leaves L (through L L.start (entries a)) l.id l.sentence) (map (mark outside) (fall true f))
              (map (mark (body_of l.id)) b ++ (mark (body_of l.id) c ∷ []))
              (untold_rest outside (leaves L (through L L.start (entries a)) l.id l.sentence) f)
          go false = fallen_front (leaves L (through L L.start (entries a)) l.id l.sentence) b f k outside q (mark outside c ∷ [])

      steady_reopen : (o : End) → reopens c.sentence.kind ≡ true → d.focus ≡ last o → Steady L d (reopen a l f c t o d)
      steady_reopen o rc g =
          let fs : Every Formed a × Every Formed (block l b c ∷ t) = every_parts Formed a (block l b c ∷ t)
          (subst (Every Formed) e s.items) in
          let front : Every IsInner f = (every_parts IsInner f k (subst (Every IsInner) q fs.1.0)).0 in
          let here : State = through L L.start (entries a) in
          let one = steady_fallen here (home (delegates c.sentence.kind) l.id) outside l b c (item_marks t ++ end_marks o)
          laws c.id c.sentence f fs.1.0 front rc rc in
          let two = subst (Sub here (focus_marks (zone l (fall true f) (set (λ u. false) c) t o)))
          (sym (append_assoc (marks_of (block l b c)) (item_marks t) (end_marks o)))
          (subst (λ z. Sub here z (marks_of (block l b c) ++ (item_marks t ++ end_marks o)))
          (sym (zone_parts l (fall true f) (set (λ u. false) c) t o)) one) in
          let three = from_items a (block l b c ∷ t) (focus_marks (zone l (fall true f) (set (λ u. false) c) t o)) (end_marks o) two in
          with_items a (block l b c ∷ t) e (reopen a l f c t o d)
          (subst (λ z. Sub L.start (item_marks a ++ focus_marks (zone l (fall true f) (set (λ u. false) c) t o))
          (item_marks (a ++ (block l b c ∷ t)) ++ focus_marks z)) (sym g) three)

      steady_reenter : (g : Focus) → d.focus ≡ g → Steady L d (reenter g a l f c t d)
      steady_reenter (last o) g = go (reopens c.sentence.kind) refl
        where
          go : (r : Bool) → reopens c.sentence.kind ≡ r → Steady L d (if r then reopen a l f c t o d else unclose a l f c d)
          go true h = steady_reopen o h g
          go false h = steady_unclose
      steady_reenter (zone m y x u o) g = steady_unclose

    front_only : (u : State) (b f k : List Entry) → b ≡ f ++ k → Sub u (map (mark outside) f) (map (mark outside) b)
    front_only u b f k q = subst (Sub u (map (mark outside) f)) (append-nil (map (mark outside) b)) (fallen_front u b f k outside q [])

    steady_shorten : (g : Focus) → d.focus ≡ g → (f : List Entry) (e : Entry) (k : List Entry) → IsFront g f (e ∷ k)
        → Steady L d (refocus d.items (shorten g f (e ∷ k)) d)
    steady_shorten (last closed) g f e k q = with_focus (last closed) g (refocus d.items (last closed) d)
        (sub_same L.start (item_marks d.items ++ []))
    steady_shorten (last (proof l b)) g f e k q = with_focus (last (proof l b)) g (refocus d.items (last (proof l f)) d)
        (focus_sub d.items (last (proof l f)) (last (proof l b)) (sub_first at (mark outside l) (map (mark outside) f)
        (map (mark outside) b) (front_only (leaves L at l.id l.sentence) b f (e ∷ k) q)))
    steady_shorten (zone l b c t o) g f e k q =
        let fs : FormedFocus (zone l b c t o) = subst FormedFocus g s.focus in
        let front : Every IsInner f = (every_parts IsInner f (e ∷ k) (subst (Every IsInner) q fs.0)).0 in
        let one = before_tail at outside outside l b c (item_marks t ++ end_marks o) f (set (λ u. false) c)
        (behind_same L laws at l f b (set (λ u. false) c) c front fs.0 fs.1.0 fs.1.0)
        (untold_closer (leaves L at l.id l.sentence) outside (map (mark outside) f) (map (mark outside) b) c.id c.sentence
        (mark outside c ∷ [])
        (fallen_front (leaves L at l.id l.sentence) b f (e ∷ k) outside q (mark outside c ∷ []))) in
        let two = subst (Sub at (focus_marks (zone l f (set (λ u. false) c) t o))) (sym (zone_parts l b c t o))
        (subst (λ z. Sub at z ((mark outside l ∷ (map (mark outside) b ++ (mark outside c ∷ [])))
        ++ (item_marks t ++ end_marks o))) (sym (zone_parts l f (set (λ u. false) c) t o)) one) in
        with_focus (zone l b c t o) g (refocus d.items (zone l f (set (λ u. false) c) t o) d)
        (focus_sub d.items (zone l f (set (λ u. false) c) t o) (zone l b c t o) two)

    same_parts : (a : List Entry) → a ≡ a ++ []
    same_parts a = sym (append-nil a)

    steady_remove : (x : Seat) → IsSeat d.items d.focus x → IfChanged (Steady L d) (remove_at x d)
    steady_remove (among (at_lone a e t)) h = steady_only a (lone e ∷ t) h
    steady_remove (among (at_lemma a l b c t)) h = steady_only a (block l b c ∷ t) h
    steady_remove (among (at_inner a l f e k c t)) h = steady_reenter a t l (f ++ (e ∷ k)) f (e ∷ k) c h refl d.focus refl
    steady_remove (among (at_closer a l b c t)) h = steady_unclose a t l b b [] c h (same_parts b)
    steady_remove (among missing) h = tt
    steady_remove (open_lemma l b) h = steady_only d.items [] (sym (append-nil d.items))
    steady_remove (open_inner l f e k) h = steady_shorten d.focus refl f e k h
    steady_remove (behind c) h = tt
    steady_remove nowhere h = tt

-- ---- Add and Cancel

module _ {State : Type 0} (L : Check State) (tag : List ℕ) where
  add_step_steady : (p q : ℕ) (d : Document) (e : Tried) (more : Document → Ran)
      → IfAdded (Grows L d) e → IfAdded (Steady L d) e
      → ((d : Document) → Sound d → Steady L d (more d).document) → Steady L d (add_step tag p q d e more).document
  add_step_steady p q d (refused r) more g h k = λ t m. m
  add_step_steady p q d (added e i t) more g h k = λ u m. h u (k e g.sound u m)

  cancel_step_steady : (i : ℕ) (d : Document) (e : Edited) (more : Document → Removed)
      → Sound d → IfChanged (Keeps L d) e → IfChanged (Steady L d) e
      → ((d : Document) → Sound d → Steady L d (more d).document) → Steady L d (cancel_step tag i d e more).document
  cancel_step_steady i d unknown more s g h k = k d s
  cancel_step_steady i d (refused_by x) more s g h k = λ t m. m
  cancel_step_steady i d (changed e) more s g h k = λ t m. h t (k e g.sound t m)

pub add_all_steady : {State : Type 0} (L : Check State) → Laws L → (tag : List ℕ) (ps : List Piece) (d : Document) → Sound d
    → Steady L d (add_all tag ps d).document
add_all_steady L laws tag [] d s = λ t m. m
add_all_steady L laws tag (unread p ∷ ps) d s = λ t m. m
add_all_steady L laws tag (piece p q x ∷ ps) d s = add_step_steady L tag p q d (attempt d p x) (add_all tag ps)
    (attempt_grows L laws d p x s) (steady_at L laws d s p x x.kind d.focus refl refl) (add_all_steady L laws tag ps)

pub cancel_all_steady : {State : Type 0} (L : Check State) → Laws L → (tag : List ℕ) (is : List ℕ) (d : Document) → Sound d
    → Steady L d (cancel_all tag is d).document
cancel_all_steady L laws tag [] d s = λ t m. m
cancel_all_steady L laws tag (i ∷ is) d s = cancel_step_steady L tag i d (remove d i) (cancel_all tag is) s
    (remove_keeps L laws d i s) (steady_remove L laws d s (seat i d) (seat_is i d)) (cancel_all_steady L laws tag is)
