-- Where a Join is answered every live entry is told.
use Rattle.std.proofs.Common.{
  ◌≡◌,
  ◌⊎◌,
  inl,
  inr,
  ℕ,
  suc,
  ◌≤◌,
  nat_eq,
  List,
  [],
  ◌∷◌,
  ◌++◌,
  map,
  Bool,
  true,
  false,
  if◌then◌else◌,
  Some,
  None,
  refl,
  sym,
  ap,
  subst,
  ◌∙◌,
  arith,
}
use Rattle.serapi_ans.specs.declared.line.Line.TheVariants.{CoqExn}
use Rattle.serapi_ans.specs.declared.line.Exn.TheVariants as exn
use Rattle.serapi_cmd.specs.declared.command.Command.TheVariants as cmd
use Rattle.serapi_cmd.specs.declared.command.Command.{Command}
use Rattle.serapi_cmd.specs.declared.request.Request.{Request}
use Rattle.serapi_cmd.specs.declared.request.Request.TheVariants.{Do, Bad}
use Rattle.line_theory.specs.Lists.{Every}
use Rattle.doc_theory.specs.Lists.{Member}
use Rattle.line_theory.specs.Shapes.{lone, block, closed, proof, last, zone}
use Rattle.doc_theory.specs.Documents.{
  qed,
  admitted,
  defined,
  abort,
  Kind,
  plain,
  begin,
  inner,
  close,
  Sentence,
  Entry,
  reopens,
  Item,
  entries,
  End,
  Focus,
  Document,
  Home,
  outside,
  body_of,
  home,
  is_state,
  cursor,
  set,
  flag,
  flag_item,
  flag_focus,
  flagged,
  telling,
  reporting,
}
use Rattle.doc_theory.specs.Editing.{
  at_lone,
  at_lemma,
  at_inner,
  at_closer,
  missing,
  Seat,
  among,
  open_lemma,
  open_inner,
  behind,
  nowhere,
  seat,
  unclose,
  reopen,
  reenter,
  shorten,
  Edited,
  unknown,
  refused_by,
  changed,
  remove_at,
  remove,
  Tried,
  refused,
  added,
  fresh,
  is_full,
  grown,
  rezoned,
  attempt_at,
  attempt,
}
use Rattle.doc_theory.specs.Checks.{Check, Laws, through, Work, item_works, works, Judged, judged, before, path, Piece, piece, unread}
use Rattle.doc_theory.specs.Answers.{
  Ran,
  add_step,
  add_all,
  limited,
  is_on_top,
  Removed,
  cancel_step,
  cancel_all,
  Cut,
  whole,
  after,
  cut_to,
  told_of,
  due,
  all_due,
  feedbacks,
  first_wrong,
  asked_at,
  sid_of,
  Answer,
  answered,
  told_to,
  perform,
  answer,
}
use Rattle.doc_theory.specs.Invariants.{Rises, RisesEnd, RisesFocus, Sound, IfAdded, IfChanged}
use Rattle.doc_theory.specs.Told.{IsTold, BodyTold, FocusBodyTold, BlockTold}
use Rattle.line_theory.proofs.Lists.{test_same, every_join, every_parts, right_true}
use Rattle.doc_theory.proofs.Lists.{member_parts}
use Rattle.doc_theory.proofs.Works.{works_within}
use Rattle.doc_theory.proofs.Added.{Grows, attempt_grows, focused, at_end}
use Rattle.doc_theory.proofs.Removed.{IsSeat, seat_is}

-- ---- told bodies stay told, when a sentence is added

if_grown : (P : Document → Type 0) (d : Document) (p : ℕ) (a : List Item) (f : Focus)
    → P (record { items = a; focus = f; next = suc d.next; limit = d.limit }) → IfAdded P (grown d p a f)
if_grown P d p a f h = go (is_full d)
  where
    go : (b : Bool)
        → IfAdded P (if b then refused (exn.TooMany p) else added (record {
          items = a;
          focus = f;
          next = suc d.next;
          limit =
              d.limit;
        }) d.next None)
    go true = tt
    go false = h

module _ {State : Type 0} (L : Check State) (w : Work State) where
  grown_told : (d : Document) (p : ℕ) (a : List Item) (f : Focus) → Every (BodyTold w.lemma) a → FocusBodyTold w.lemma f
      → IfAdded (BlockTold w.lemma) (grown d p a f)
  grown_told d p a f h k = if_grown (BlockTold w.lemma) d p a f (h, k)

  module _ (d : Document) (s : Sound d) (m : Member w (works L d)) where
    -- the lemma that is open at the cursor has no work
    open_other : (l : Entry) (b : List Entry) → d.focus ≡ last (proof l b) → l.id ≡ w.lemma → ⊥
    open_other l b e q = let up : (s.middle ≤ l.id) × (suc l.id ≤ d.next) = subst (λ f. RisesFocus s.middle f d.next) e s.ends in
        let k = works_within L w L.start 0 s.middle d.items s.rises (at_end w _ (focused L w d (last (proof l b)) e m)) in
        omega (arith, q, k.1, up.0)

    zone_other : (l : Entry) (b : List Entry) (c : Entry) (t : List Item) (o : End) → d.focus ≡ zone l b c t o → l.id ≡ w.lemma → ⊥
    zone_other l b c t o e q = go (member_parts w (item_works L L.start d.items) _ (focused L w d (zone l b c t o) e m))
      where
        up : (s.middle ≤ l.id) × ((n : ℕ) × (Rises (suc l.id) t n × RisesEnd n o d.next))
        up = subst (λ f. RisesFocus s.middle f d.next) e s.ends

        go : Member w (item_works L L.start d.items) ⊎
            Member w (item_works L (through L (through L L.start (entries d.items)) (l ∷ (b ++ (c ∷ [])))) t)
            → ⊥
        go (inl k) = let j = works_within L w L.start 0 s.middle d.items s.rises k in let u = up.0 in omega (arith, q, j.1, u)
        go (inr k) = let j = works_within L w _ (suc l.id) up.1.0 t up.1.1.0 k in omega (arith, q, j.0)

    fold_told : (x : Sentence) (l : Entry) (b : List Entry) (c : Entry) (t : List Item) (o : End) → d.focus ≡ zone l b c t o
        → BlockTold w.lemma d
        → IfAdded (BlockTold w.lemma) (rezoned d x l b c t o)
    fold_told x l b c t o e h = (
      every_join (BodyTold w.lemma) d.items _ h.0 (
        (λ r q. absurd (zone_other l b c t o e q)),
        subst (FocusBodyTold w.lemma) e h.1,
      ),
      tt,
    )

    attempt_at_told : (p : ℕ) (x : Sentence) → BlockTold w.lemma d → (k : Kind) (f : Focus) → d.focus ≡ f
        → IfAdded (BlockTold w.lemma) (attempt_at d p x k f)
    attempt_at_told p x h plain (last closed) e = grown_told d p _ (last closed) (every_join (BodyTold w.lemma) d.items _
        h.0 (tt, tt)) tt
    attempt_at_told p x h plain (last (proof l b)) e = tt
    attempt_at_told p x h plain (zone l b c t o) e = tt
    attempt_at_told p x h begin (last closed) e = grown_told d p d.items (last (proof (fresh d x) [])) h.0 tt
    attempt_at_told p x h begin (last (proof l b)) e = tt
    attempt_at_told p x h begin (zone l b c t o) e = tt
    attempt_at_told p x h inner (last closed) e = tt
    attempt_at_told p x h inner (last (proof l b)) e = grown_told d p d.items (last (proof l (b ++ fresh d x ∷ []))) h.0 tt
    attempt_at_told p x h inner (zone l b c t o) e =
        grown_told d p d.items (zone l (b ++ fresh d x ∷ []) (set (λ u. false) c) t o) h.0 (subst (FocusBodyTold w.lemma) e h.1)
    attempt_at_told p x h (close k) (last closed) e = tt
    attempt_at_told p x h (close k) (last (proof l b)) e = grown_told d p _ (last closed)
        (every_join (BodyTold w.lemma) d.items _ h.0 ((λ r q. absurd (open_other l b e q)), tt)) tt
    attempt_at_told p x h (close qed) (zone l b c t o) e = fold_told x l b c t o e h
    attempt_at_told p x h (close admitted) (zone l b c t o) e = fold_told x l b c t o e h
    attempt_at_told p x h (close defined) (zone l b c t o) e = tt
    attempt_at_told p x h (close abort) (zone l b c t o) e = tt

  -- the rest of an Add leaves the block told
  module _ (tag : List ℕ) (more : Document → Ran) (f : (d : Document) → Sound d → Member w (works L d) → BlockTold w.lemma d
      → BlockTold w.lemma (more d).document) where
    add_step_told : (p q : ℕ) (d : Document) (e : Tried) → Member w (works L d) → BlockTold w.lemma d
        → IfAdded (Grows L d) e → IfAdded (BlockTold w.lemma) e → BlockTold w.lemma (add_step tag p q d e more).document
    add_step_told p q d (refused r) m h g k = h
    add_step_told p q d (added e i t) m h g k = f e g.sound (g.works w m) k

  add_all_told : Laws L → (tag : List ℕ) (ps : List Piece) (d : Document) → Sound d → Member w (works L d) → BlockTold w.lemma d
      → BlockTold w.lemma (add_all tag ps d).document
  add_all_told laws tag [] d s m h = h
  add_all_told laws tag (unread p ∷ ps) d s m h = h
  add_all_told laws tag (piece p q x ∷ ps) d s m h = add_step_told tag (add_all tag ps) (add_all_told laws tag ps) p q d
      (attempt d p x) m h (attempt_grows L laws d p x s) (attempt_at_told d s m p x h x.kind d.focus refl)

-- ---- when sentences are removed

module _ (n : ℕ) (d : Document) (h : BlockTold n d) where
  front_told : (a r : List Item) → d.items ≡ a ++ r → Every (BodyTold n) a × Every (BodyTold n) r
  front_told a r e = every_parts (BodyTold n) a r (subst (Every (BodyTold n)) e h.0)

  reenter_told : (g : Focus) (a : List Item) (l : Entry) (b f : List Entry) (c : Entry) (t : List Item)
      → d.items ≡ a ++ (block l b c ∷ t) → BlockTold n (reenter g a l f c t d)
  reenter_told (last o) a l b f c t e = go (reopens c.sentence.kind)
    where
      go : (r : Bool) → BlockTold n (if r then reopen a l f c t o d else unclose a l f c d)
      go true = ((front_told a (block l b c ∷ t) e).0, (front_told a (block l b c ∷ t) e).1.1)
      go false = ((front_told a (block l b c ∷ t) e).0, tt)
  reenter_told (zone m y x u o) a l b f c t e = ((front_told a (block l b c ∷ t) e).0, tt)

shorten_told : (n : ℕ) (g : Focus) (f k : List Entry) → FocusBodyTold n g → FocusBodyTold n (shorten g f k)
shorten_told n (last closed) f k h = tt
shorten_told n (last (proof l b)) f k h = tt
shorten_told n (zone l b c t o) f k h = h

remove_at_told : (n : ℕ) (d : Document) (x : Seat) → IsSeat d.items d.focus x → BlockTold n d → IfChanged (BlockTold n) (remove_at x d)
remove_at_told n d (among (at_lone a e t)) p h = ((front_told n d h a _ p).0, tt)
remove_at_told n d (among (at_lemma a l b c t)) p h = ((front_told n d h a _ p).0, tt)
remove_at_told n d (among (at_inner a l f e k c t)) p h = reenter_told n d h d.focus a l _ f c t p
remove_at_told n d (among (at_closer a l b c t)) p h = ((front_told n d h a _ p).0, tt)
remove_at_told n d (among missing) p h = tt
remove_at_told n d (open_lemma l b) p h = (h.0, tt)
remove_at_told n d (open_inner l f e k) p h = (h.0, shorten_told n d.focus f (e ∷ k) h.1)
remove_at_told n d (behind c) p h = tt
remove_at_told n d nowhere p h = tt

module _ (n : ℕ) (tag : List ℕ) where
  cancel_step_told : (i : ℕ) (d : Document) (e : Edited) (more : Document → Removed) → BlockTold n d
      → IfChanged (BlockTold n) e
      → ((d : Document) → BlockTold n d → BlockTold n (more d).document) → BlockTold n (cancel_step tag i d e more).document
  cancel_step_told i d unknown more h k f = f d h
  cancel_step_told i d (refused_by x) more h k f = h
  cancel_step_told i d (changed e) more h k f = f e k

  cancel_all_told : (is : List ℕ) (d : Document) → BlockTold n d → BlockTold n (cancel_all tag is d).document
  cancel_all_told [] d h = h
  cancel_all_told (i ∷ is) d h = cancel_step_told i d (remove d i) (cancel_all tag is) h
      (remove_at_told n d (seat i d) (seat_is i d) h) (cancel_all_told is)

-- ---- when flags change

-- a rule that leaves told what is told inside of delegated blocks
abbrev pub Raises : (Home → ℕ → Bool → Bool) → Type 0
Raises rule = (h : Home) (i : ℕ) → rule h i true ≡ true

told_flag : (rule : Home → ℕ → Bool → Bool) → Raises rule → (h : Home) (e : Entry) → IsTold e → IsTold (flag rule h e)
told_flag rule up h e k = ap (rule h e.id) k ∙ up h e.id

told_flags : (rule : Home → ℕ → Bool → Bool) → Raises rule → (h : Home) (b : List Entry) → Every IsTold b
    → Every IsTold (map (flag rule h) b)
told_flags rule up h [] k = tt
told_flags rule up h (e ∷ b) k = (told_flag rule up h e k.0, told_flags rule up h b k.1)

body_flagged : (rule : Home → ℕ → Bool → Bool) → Raises rule → (n : ℕ) (xs : List Item) → Every (BodyTold n) xs
    → Every (BodyTold n) (map (flag_item rule) xs)
body_flagged rule up n [] h = tt
body_flagged rule up n (lone e ∷ xs) h = (tt, body_flagged rule up n xs h.1)
body_flagged rule up n (block l b c ∷ xs) h =
    ((λ r q. let k = h.0 r q in (told_flags rule up _ b k.0, told_flag rule up _ c k.1)), body_flagged rule up n xs h.1)

focus_flagged : (rule : Home → ℕ → Bool → Bool) → Raises rule → (n : ℕ) (f : Focus) → FocusBodyTold n f
    → FocusBodyTold n (flag_focus rule f)
focus_flagged rule up n (last o) h = tt
focus_flagged rule up n (zone l b c t o) h = body_flagged rule up n t h

pub block_flagged : (rule : Home → ℕ → Bool → Bool) → Raises rule → (n : ℕ) (d : Document) → BlockTold n d → BlockTold n (flagged rule d)
block_flagged rule up n d h = (body_flagged rule up n d.items h.0, focus_flagged rule up n d.focus h.1)

telling_raises : (ns : List ℕ) → Raises (telling ns)
telling_raises ns outside i = refl
telling_raises ns (body_of m) i = refl

pub reporting_raises : (n : ℕ) → Raises (reporting n)
reporting_raises n outside i = refl
reporting_raises n (body_of m) i = refl

-- a result tells its block
report_told : (n m i : ℕ) (t : Bool) → m ≡ n → reporting n (body_of m) i t ≡ true
report_told n m i t e = right_true t (nat_eq n m) (ap (λ z. nat_eq n z) e ∙ test_same n)

reported_body : (n m : ℕ) (b : List Entry) → m ≡ n → Every IsTold (map (flag (reporting n) (body_of m)) b)
reported_body n m [] e = tt
reported_body n m (x ∷ b) e = (report_told n m x.id x.told e, reported_body n m b e)

pub reported_items : (n : ℕ) (xs : List Item) → Every (BodyTold n) (map (flag_item (reporting n)) xs)
reported_items n [] = tt
reported_items n (lone e ∷ xs) = (tt, reported_items n xs)
reported_items n (block l b c ∷ xs) = (
  (λ r q. subst (λ h. Every IsTold (map (flag (reporting n) (home h l.id)) b) × IsTold (flag (reporting n) (home h l.id) c)) (sym r)
      (reported_body n l.id b q, report_told n l.id c.id c.told q)),
  reported_items n xs,
)

pub reported_focus : (n : ℕ) (f : Focus) → FocusBodyTold n (flag_focus (reporting n) f)
reported_focus n (last o) = tt
reported_focus n (zone l b c t o) = reported_items n t

-- ---- a command

told_told : {State : Type 0} (n : ℕ) (js : List (Judged State)) (d : Document) → BlockTold n d → BlockTold n (told_to js d)
told_told n js d h = block_flagged (telling (map (λ j. j.mark.id) js)) (telling_raises _) n d h

if_told : (n : ℕ) (b : Bool) (x y : Answer) → BlockTold n x.document → BlockTold n y.document → BlockTold n (if b then x else y).document
if_told n true x y h k = h
if_told n false x y h k = k

module _ {State : Type 0} (L : Check State) (laws : Laws L) (w : Work State) (d : Document) where
  perform_told : (tag : List ℕ) (c : Command) (cut : Cut) → Sound d → Member w (works L d) → BlockTold w.lemma d
      → BlockTold w.lemma (perform L d tag c cut).document
  perform_told tag (cmd.Add opts text) cut s m h = if_told w.lemma (is_on_top opts.ontop d)
      (answered (add_all tag (cut_to cut (limited opts.lim (L.pieces text))) d).document
      ((add_all tag (cut_to cut (limited opts.lim (L.pieces text))) d).lines ++ told_of cut tag
      (add_all tag (cut_to cut (limited opts.lim (L.pieces text))) d).stop))
      (answered d (told_of cut tag (Some (exn.NotTip (cursor d)))))
      (add_all_told L w laws tag (cut_to cut (limited opts.lim (L.pieces text))) d s m h) h
  perform_told tag (cmd.Cancel is) cut s m h = cancel_all_told w.lemma tag (cut_to cut is) d h
  perform_told tag (cmd.Exec i) cut s m h = if_told w.lemma (is_state i d)
      (answered (told_to (cut_to cut (due L d i)) d) (feedbacks 0 (cut_to cut (due L d i)) ++ told_of cut tag
      (first_wrong (path (before i (judged L d))))))
      (answered d (told_of cut tag (Some (exn.NoSuchState i)))) (told_told w.lemma (cut_to cut (due L d i)) d h) h
  perform_told tag (cmd.Query opts q) whole s m h = if_told w.lemma (is_state (sid_of opts.sid d) d)
      (answered d (asked_at L tag q L.start None (before (sid_of opts.sid d) (judged L d)) ∷ []))
      (answered d (CoqExn tag (exn.NoSuchState (sid_of opts.sid d)) ∷ [])) h h
  perform_told tag (cmd.Query opts q) (after n) s m h = h
  perform_told tag cmd.Join cut s m h = told_told w.lemma (cut_to cut (all_due L d)) d h
  perform_told tag cmd.Quit cut s m h = h

  pub answer_told : (q : Request) (cut : Cut) → Sound d → Member w (works L d) → BlockTold w.lemma d
      → BlockTold w.lemma (answer L d q cut).document
  answer_told (Do t) cut s m h = perform_told t.tag t.command cut s m h
  answer_told (Bad b) cut s m h = h
