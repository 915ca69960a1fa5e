-- Ids stay distinct, so the path of the tip has all live sentences; and a law that each change of a document keeps, each command keeps.
use Rattle.std.proofs.Common.{
  ◌≡◌,
  ℕ,
  suc,
  ◌≤◌,
  ◌<◌,
  ◌||◌,
  nat_eq,
  List,
  [],
  ◌∷◌,
  ◌++◌,
  map,
  Bool,
  true,
  false,
  if◌then◌else◌,
  Some,
  None,
  refl,
  sym,
  ap,
  subst,
  ◌∙◌,
  arith,
}
use Rattle.serapi_ans.specs.declared.line.Line.TheVariants.{CoqExn}
use Rattle.serapi_ans.specs.declared.line.Exn.TheVariants as exn
use Rattle.serapi_cmd.specs.declared.command.Command.TheVariants as cmd
use Rattle.serapi_cmd.specs.declared.command.Command.{Command}
use Rattle.serapi_cmd.specs.declared.request.Request.{Request}
use Rattle.serapi_cmd.specs.declared.request.Request.TheVariants.{Do, Bad}
use Rattle.std.proofs.lemmas.Bool.Decides.{nat_tests}
use Rattle.line_theory.specs.Lists.{Every, has, chosen, last_or, IsCut, IsGrown, Distinct}
use Rattle.line_theory.specs.Shapes.{lone, block, closed, proof, last, zone}
use Rattle.doc_theory.specs.Documents.{
  qed,
  admitted,
  defined,
  abort,
  Kind,
  plain,
  begin,
  inner,
  close,
  Entry,
  delegates,
  reopens,
  Item,
  Focus,
  set,
  fall,
  Sentence,
  Document,
  Mark,
  marks,
  ids,
  tip,
  cursor,
  is_state,
  tell,
  telling,
  report,
  reporting,
}
use Rattle.doc_theory.specs.Editing.{
  Seat,
  among,
  at_lone,
  at_lemma,
  at_inner,
  at_closer,
  missing,
  open_lemma,
  open_inner,
  behind,
  nowhere,
  seat,
  unclose,
  reopen,
  reenter,
  remove_at,
  fresh,
  is_full,
  grown,
  attempt_at,
  Edited,
  unknown,
  refused_by,
  changed,
  remove,
  Tried,
  refused,
  added,
  attempt,
}
use Rattle.doc_theory.specs.Checks.{Check, Judged, judged_from, judged, up_to, before, path, Piece, piece, unread, leaves, verdict}
use Rattle.doc_theory.specs.Answers.{
  Ran,
  add_step,
  add_all,
  limited,
  is_on_top,
  Removed,
  cancel_step,
  cancel_all,
  Cut,
  whole,
  after,
  cut_to,
  told_of,
  due,
  all_due,
  feedbacks,
  first_wrong,
  asked_at,
  sid_of,
  Answer,
  answered,
  told_to,
  perform,
  answer,
}
use Rattle.doc_theory.specs.Histories.{
  Event,
  command,
  claim,
  none_waiting,
  returned,
  lose,
  join_answered,
  join_not_yet,
  join_stopped,
  shut,
  Standing,
  start,
  standing,
  standing_from,
  step,
  block_of,
}
use Rattle.doc_theory.specs.Invariants.{IfAdded, IfChanged}
use Rattle.doc_theory.specs.Line.{HasNext, line, IsAddedTo, HasIds}
use Rattle.line_theory.proofs.Lists.{no, test_same, left_true, right_true, every_join, every_parts, has_join}
use Rattle.doc_theory.proofs.Lists.{every_map, test_is}
use Rattle.doc_theory.proofs.Places.{attempt_line, remove_cut, line_flagged, ids_line}

-- ---- what each change keeps

-- a property that is kept when a sentence is added or removed and when flags are set
pub record IsStable (P : Document → Type 0) : Type 0 where
  pub adding : (d : Document) (p : ℕ) (x : Sentence) → P d → IfAdded P (attempt d p x)
  pub removing : (d : Document) (i : ℕ) → P d → IfChanged P (remove d i)
  pub telling : (d : Document) (ns : List ℕ) → P d → P (tell ns d)
  pub reporting : (d : Document) (n : ℕ) → P d → P (report n d)

module _ (P : Document → Type 0) (k : IsStable P) where
  module _ (tag : List ℕ) where
    add_step_stable : (p q : ℕ) (d : Document) (e : Tried) (more : Document → Ran) → P d → IfAdded P e
        → ((d : Document) → P d → P (more d).document) → P (add_step tag p q d e more).document
    add_step_stable p q d (refused r) more h g f = h
    add_step_stable p q d (added e i t) more h g f = f e g

    add_all_stable : (ps : List Piece) (d : Document) → P d → P (add_all tag ps d).document
    add_all_stable [] d h = h
    add_all_stable (unread p ∷ ps) d h = h
    add_all_stable (piece p q x ∷ ps) d h = add_step_stable p q d (attempt d p x) (add_all tag ps) h (k.adding d p x h)
        (add_all_stable ps)

    cancel_step_stable : (i : ℕ) (d : Document) (e : Edited) (more : Document → Removed) → P d → IfChanged P e
        → ((d : Document) → P d → P (more d).document) → P (cancel_step tag i d e more).document
    cancel_step_stable i d unknown more h g f = f d h
    cancel_step_stable i d (refused_by x) more h g f = h
    cancel_step_stable i d (changed e) more h g f = f e g

    cancel_all_stable : (is : List ℕ) (d : Document) → P d → P (cancel_all tag is d).document
    cancel_all_stable [] d h = h
    cancel_all_stable (i ∷ is) d h = cancel_step_stable i d (remove d i) (cancel_all tag is) h (k.removing d i h)
        (cancel_all_stable is)

  if_stable : (b : Bool) (x y : Answer) → P x.document → P y.document → P (if b then x else y).document
  if_stable true x y h g = h
  if_stable false x y h g = g

  perform_stable : {State : Type 0} (L : Check State) (d : Document) (tag : List ℕ) (c : Command) (cut : Cut) → P d
      → P (perform L d tag c cut).document
  perform_stable L d tag (cmd.Add opts text) cut h = if_stable (is_on_top opts.ontop d)
      (answered (add_all tag (cut_to cut (limited opts.lim (L.pieces text))) d).document
      ((add_all tag (cut_to cut (limited opts.lim (L.pieces text))) d).lines ++ told_of cut tag
      (add_all tag (cut_to cut (limited opts.lim (L.pieces text))) d).stop))
      (answered d (told_of cut tag (Some (exn.NotTip (cursor d)))))
      (add_all_stable tag (cut_to cut (limited opts.lim (L.pieces text))) d h) h
  perform_stable L d tag (cmd.Cancel is) cut h = cancel_all_stable tag (cut_to cut is) d h
  perform_stable L d tag (cmd.Exec i) cut h = if_stable (is_state i d)
      (answered (told_to (cut_to cut (due L d i)) d) (feedbacks 0 (cut_to cut (due L d i)) ++ told_of cut tag
      (first_wrong (path (before i (judged L d))))))
      (answered d (told_of cut tag (Some (exn.NoSuchState i)))) (k.telling d (map (λ j. j.mark.id) (cut_to cut (due L d i))) h) h
  perform_stable L d tag (cmd.Query opts q) whole h = if_stable (is_state (sid_of opts.sid d) d)
      (answered d (asked_at L tag q L.start None (before (sid_of opts.sid d) (judged L d)) ∷ []))
      (answered d (CoqExn tag (exn.NoSuchState (sid_of opts.sid d)) ∷ [])) h h
  perform_stable L d tag (cmd.Query opts q) (after n) h = h
  perform_stable L d tag cmd.Join cut h = k.telling d (map (λ j. j.mark.id) (cut_to cut (all_due L d))) h
  perform_stable L d tag cmd.Quit cut h = h

  pub answer_stable : {State : Type 0} (L : Check State) (d : Document) (q : Request) (cut : Cut) → P d → P (answer L d q cut).document
  answer_stable L d (Do t) cut h = perform_stable L d t.tag t.command cut h
  answer_stable L d (Bad b) cut h = h

  step_stable : {State : Type 0} (L : Check State) (p : Standing State) (e : Event) → P p.document → P (step L p e).document
  step_stable L p (command n q cut ls) h = answer_stable L p.document q cut h
  step_stable L p (claim s n) h = h
  step_stable L p (none_waiting s) h = h
  step_stable L p (returned s n true) h = k.reporting p.document (block_of n p.table.rows) h
  step_stable L p (returned s n false) h = h
  step_stable L p (lose s n) h = h
  step_stable L p join_answered h = h
  step_stable L p (join_not_yet n s) h = h
  step_stable L p join_stopped h = h
  step_stable L p shut h = h

  pub standing_stable : {State : Type 0} (L : Check State) (p : Standing State) (h : List Event) → P p.document
      → P (standing_from L p h).document
  standing_stable L p [] g = g
  standing_stable L p (e ∷ es) g = standing_stable L (step L p e) es (step_stable L p e g)

-- ---- ids

pub not_either : (a b : Bool) → (a || b) ≡ false → (a ≡ false) × (b ≡ false)
not_either true b h = no (sym h)
not_either false b h = (refl, h)

pub absent_parts : (n : ℕ) (a b : List ℕ) → has n (a ++ b) ≡ false → (has n a ≡ false) × (has n b ≡ false)
absent_parts n a b h = not_either (has n a) (has n b) (sym (has_join n a b) ∙ h)

absent_join : (n : ℕ) (a b : List ℕ) → has n a ≡ false → has n b ≡ false → has n (a ++ b) ≡ false
absent_join n a b h k = has_join n a b ∙ (λ i. h i || k i)

distinct_back : (a b : List ℕ) → Distinct (a ++ b) → Distinct b
distinct_back [] b h = h
distinct_back (x ∷ a) b h = distinct_back a b h.1

distinct_cut : (p g q : List ℕ) → Distinct (p ++ (g ++ q)) → Distinct (p ++ q)
distinct_cut [] g q h = distinct_back g q h
distinct_cut (x ∷ p) g q h = let r = absent_parts x p (g ++ q) h.0 in (
  absent_join x p q r.0 (absent_parts x g q r.1).1,
  distinct_cut p g q h.1,
)

other_test : (m n : ℕ) → m < n → (nat_eq n m) ≡ false
other_test m n h = grind (arith, nat_tests)

pub other_back : (m n : ℕ) → m < n → (nat_eq m n) ≡ false
other_back m n h = grind (arith, nat_tests)

-- a number that is greater than all isn't there
absent_above : (n : ℕ) (xs : List ℕ) → Every (λ m. (2 ≤ m) × (m < n)) xs → has n xs ≡ false
absent_above n [] h = refl
absent_above n (m ∷ xs) h = λ i. other_test m n h.0.1 i || absent_above n xs h.1 i

distinct_grown : (n : ℕ) (p q : List ℕ) → Every (λ m. (2 ≤ m) × (m < n)) (p ++ q) → Distinct (p ++ q) → Distinct (p ++ (n ∷ q))
distinct_grown n [] q e h = (absent_above n q e, h)
distinct_grown n (x ∷ p) q e h = let r = absent_parts x p q h.0 in
    (absent_join x p (n ∷ q) r.0 ((λ i. other_back x n e.0.1 i || r.1 i)), distinct_grown n p q e.1 h.1)

bounds_more : (n : ℕ) (xs : List ℕ) → Every (λ m. (2 ≤ m) × (m < n)) xs → Every (λ m. (2 ≤ m) × (m < suc n)) xs
bounds_more n xs h = every_map (λ m. (2 ≤ m) × (m < n)) (λ m. (2 ≤ m) × (m < suc n)) xs (λ m k. (k.0, omega (arith, k.1))) h

ids_cut : (d e : Document) → e.next ≡ d.next → IsCut (line d) (line e) → HasIds d → HasIds e
ids_cut d e n c h =
    let b : Every (λ m. (2 ≤ m) × (m < d.next)) (c.front ++ (c.gone ++ c.back)) = subst (Every (λ m. (2 ≤ m) × (m < d.next)))
    c.was h.bounds in
    let f = every_parts (λ m. (2 ≤ m) × (m < d.next)) c.front (c.gone ++ c.back) b in
    let g = every_parts (λ m. (2 ≤ m) × (m < d.next)) c.gone c.back f.1 in
    record {
      distinct = subst Distinct (sym c.is) (distinct_cut c.front c.gone c.back (subst Distinct c.was h.distinct));
      bounds = subst (λ z. Every (λ m. (2 ≤ m) × (m < z)) (line e)) (sym n) (subst (Every (λ m. (2 ≤ m) × (m < d.next)))
          (sym c.is) (every_join (λ m. (2 ≤ m) × (m < d.next)) c.front c.back f.0 g.1));
      next = subst (λ z. 2 ≤ z) (sym n) h.next;
    }

ids_grown : (d e : Document) → e.next ≡ suc d.next → IsGrown d.next (line d) (line e) → HasIds d → HasIds e
ids_grown d e n c h =
    let b : Every (λ m. (2 ≤ m) × (m < d.next)) (c.front ++ c.back) = subst (Every (λ m. (2 ≤ m) × (m < d.next))) c.was h.bounds in
    let f = every_parts (λ m. (2 ≤ m) × (m < suc d.next)) c.front c.back (bounds_more d.next (c.front ++ c.back) b) in
    record {
      distinct = subst Distinct (sym c.is) (distinct_grown d.next c.front c.back b (subst Distinct c.was h.distinct));
      bounds = subst (λ z. Every (λ m. (2 ≤ m) × (m < z)) (line e)) (sym n) (subst (Every (λ m. (2 ≤ m) × (m < suc d.next))) (sym c.is)
          (every_join (λ m. (2 ≤ m) × (m < suc d.next)) c.front (d.next ∷ c.back) f.0 ((h.next, omega arith), f.1)));
      next = subst (λ z. 2 ≤ z) (sym n) (let k = h.next in omega (arith, k));
    }

ids_same : (d e : Document) → e.next ≡ d.next → line e ≡ line d → HasIds d → HasIds e
ids_same d e n l h = record {
  distinct = subst Distinct (sym l) h.distinct;
  bounds = subst (λ z. Every (λ m. (2 ≤ m) × (m < z)) (line e)) (sym n) (subst (Every (λ m. (2 ≤ m) × (m < d.next))) (sym l) h.bounds);
  next = subst (λ z. 2 ≤ z) (sym n) h.next;
}

-- ---- the next id

grown_next : (d : Document) (p : ℕ) (a : List Item) (f : Focus) → HasNext d (grown d p a f)
grown_next d p a f = go (is_full d)
  where
    go : (b : Bool)
        → HasNext d (if b then refused (exn.TooMany p) else added (record {
          items = a;
          focus = f;
          next = suc d.next;
          limit =
              d.limit;
        }) d.next None)
    go true = tt
    go false = refl

pub attempt_at_next : (d : Document) (p : ℕ) (x : Sentence) (k : Kind) (f : Focus) → HasNext d (attempt_at d p x k f)
attempt_at_next d p x plain (last closed) = grown_next d p (d.items ++ lone (fresh d x) ∷ []) (last closed)
attempt_at_next d p x plain (last (proof l b)) = tt
attempt_at_next d p x plain (zone l b c t o) = tt
attempt_at_next d p x begin (last closed) = grown_next d p d.items (last (proof (fresh d x) []))
attempt_at_next d p x begin (last (proof l b)) = tt
attempt_at_next d p x begin (zone l b c t o) = tt
attempt_at_next d p x inner (last closed) = tt
attempt_at_next d p x inner (last (proof l b)) = grown_next d p d.items (last (proof l (b ++ fresh d x ∷ [])))
attempt_at_next d p x inner (zone l b c t o) = grown_next d p d.items (zone l (b ++ fresh d x ∷ []) (set (λ u. false) c) t o)
attempt_at_next d p x (close k) (last closed) = tt
attempt_at_next d p x (close k) (last (proof l b)) = grown_next d p (d.items ++ block l (fall (delegates x.kind) b) (fresh d x)
    ∷ []) (last closed)
attempt_at_next d p x (close qed) (zone l b c t o) = refl
attempt_at_next d p x (close admitted) (zone l b c t o) = refl
attempt_at_next d p x (close defined) (zone l b c t o) = tt
attempt_at_next d p x (close abort) (zone l b c t o) = tt

reenter_next : (d : Document) (g : Focus) (a : List Item) (l : Entry) (f : List Entry) (c : Entry) (t : List Item)
    → (reenter g a l f c t d).next ≡ d.next
reenter_next d (last o) a l f c t = go (reopens c.sentence.kind)
  where
    go : (b : Bool) → (if b then reopen a l f c t o d else unclose a l f c d).next ≡ d.next
    go true = refl
    go false = refl
reenter_next d (zone m y x u o) a l f c t = refl

remove_at_next : (d : Document) (x : Seat) → IfChanged (λ e. e.next ≡ d.next) (remove_at x d)
remove_at_next d (among (at_lone a e t)) = refl
remove_at_next d (among (at_lemma a l b c t)) = refl
remove_at_next d (among (at_inner a l f e k c t)) = reenter_next d d.focus a l f c t
remove_at_next d (among (at_closer a l b c t)) = refl
remove_at_next d (among missing) = tt
remove_at_next d (open_lemma l b) = refl
remove_at_next d (open_inner l f e k) = refl
remove_at_next d (behind c) = tt
remove_at_next d nowhere = tt

added_ids : (d : Document) (x : Tried) → HasNext d x → IsAddedTo d x → HasIds d → IfAdded HasIds x
added_ids d (refused r) n l h = tt
added_ids d (added e i None) n l h = ids_grown d e n (subst (λ z. IsGrown z (line d) (line e)) l.1 l.0) h
added_ids d (added e i (Some t)) n l h = ids_same d e n l h

changed_ids : (d : Document) (x : Edited) → IfChanged (λ e. e.next ≡ d.next) x → IfChanged (λ e. IsCut (line d) (line e)) x → HasIds d
    → IfChanged HasIds x
changed_ids d unknown n c h = tt
changed_ids d (refused_by k) n c h = tt
changed_ids d (changed e) n c h = ids_cut d e n c h

ids_stable : IsStable HasIds
ids_stable = record {
  adding = λ d p x h. added_ids d (attempt d p x) (attempt_at_next d p x x.kind d.focus) (attempt_line d p x) h;
  removing = λ d i h. changed_ids d (remove d i) (remove_at_next d (seat i d)) (remove_cut d i) h;
  telling = λ d ns h. ids_same d (tell ns d) refl (line_flagged (telling ns) d) h;
  reporting = λ d n h. ids_same d (report n d) refl (line_flagged (reporting n) d) h;
}

pub standing_ids : {State : Type 0} (L : Check State) (limit : ℕ) (h : List Event) → HasIds (standing L limit h).document
standing_ids L limit h = standing_stable HasIds ids_stable L (start limit) h (record { distinct = tt; bounds = tt; next = omega arith })

-- ---- the path of the tip is the whole list

has_last : (n : ℕ) (xs : List ℕ) → has (last_or n xs) (n ∷ xs) ≡ true
has_last n [] = left_true (nat_eq n n) false (test_same n)
has_last n (x ∷ xs) = right_true (nat_eq (last_or x xs) n) (has (last_or x xs) (x ∷ xs)) (has_last x xs)

differs : (n m : ℕ) (xs : List ℕ) → has n xs ≡ false → has m xs ≡ true → (nat_eq m n) ≡ false
differs n m xs h k = go (nat_eq m n) refl
  where
    go : (b : Bool) → (nat_eq m n) ≡ b → b ≡ false
    go true e = no (sym h ∙ ap (λ z. has z xs) (test_is n m e) ∙ k)
    go false e = refl

up_to_last : {State : Type 0} (L : Check State) (s : State) (m : Mark) (ms : List Mark) → Distinct (map (λ m. m.id) (m ∷ ms))
    → up_to (last_or m.id (map (λ m. m.id) ms)) (judged_from L s (m ∷ ms)) ≡ judged_from L s (m ∷ ms)
up_to_last L s m [] h = ap (λ b. if b then record {
  mark = m;
  verdict = verdict L s m.id m.sentence;
  state =
      leaves L s m.id m.sentence;
} ∷ [] else record {
  mark = m;
  verdict = verdict L s m.id m.sentence;
  state =
      leaves L s m.id m.sentence;
} ∷ []) (test_same m.id)
up_to_last {State} L s m (x ∷ ms) h =
    ap (λ b. if b then this ∷ [] else this ∷ up_to (last_or x.id (map (λ m. m.id) ms)) rest)
    (differs m.id (last_or x.id (map (λ m. m.id) ms)) (x.id ∷ map (λ m. m.id) ms) h.0 (has_last x.id (map (λ m. m.id) ms)))
    ∙ ap (λ z. this ∷ z) (up_to_last L (leaves L s m.id m.sentence) x ms h.1)
  where
    this : Judged State
    this = record { mark = m; verdict = verdict L s m.id m.sentence; state = leaves L s m.id m.sentence }

    rest : List (Judged State)
    rest = judged_from L (leaves L s m.id m.sentence) (x ∷ ms)

above_one : (n : ℕ) (xs : List ℕ) → Every (λ m. (2 ≤ m) × (m < n)) xs → has 1 xs ≡ false
above_one n [] h = refl
above_one n (m ∷ xs) h = λ i. other_back 1 m (omega (arith, h.0.0)) i || above_one n xs h.1 i

pub before_tip : {State : Type 0} (L : Check State) (d : Document) → HasIds d → before (tip d) (judged L d) ≡ judged L d
before_tip {State} L d h = go (marks d) (subst Distinct (sym (ids_line d)) h.distinct)
    (above_one d.next (ids d) (subst (Every (λ m. (2 ≤ m) × (m < d.next))) (sym (ids_line d)) h.bounds))
  where
    go : (ms : List Mark) → Distinct (map (λ m. m.id) ms) → has 1 (map (λ m. m.id) ms) ≡ false
        → before (last_or 1 (map (λ m. m.id) ms)) (judged_from L L.start ms) ≡ judged_from L L.start ms
    go [] k o = refl
    go (m ∷ ms) k o = ap (λ b. if b then [] else up_to (last_or m.id (map (λ m. m.id) ms)) (judged_from L L.start (m ∷ ms)))
        (flip (differs 1 (last_or m.id (map (λ m. m.id) ms)) (m.id ∷ map (λ m. m.id) ms) o (has_last m.id (map (λ m. m.id) ms))))
        ∙ up_to_last L L.start m ms k
      where
        flip : (nat_eq (last_or m.id (map (λ m. m.id) ms)) 1) ≡ false → (nat_eq 1 (last_or m.id (map (λ m. m.id) ms))) ≡ false
        flip e = grind (arith, nat_tests)

-- so a Join tells what an Exec of the tip tells
pub join_is_exec : {State : Type 0} (L : Check State) (d : Document) → HasIds d → all_due L d ≡ due L d (tip d)
join_is_exec L d h = ap (chosen (λ j. j.mark.due)) (sym (before_tip L d h))
