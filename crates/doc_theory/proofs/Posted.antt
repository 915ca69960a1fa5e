-- No more rows are posted than ids are given.
use Rattle.std.proofs.Common.{
  ◌≡◌,
  ◌⊎◌,
  inl,
  inr,
  ℕ,
  suc,
  ◌+◌,
  ◌≤◌,
  List,
  [],
  ◌∷◌,
  ◌++◌,
  map,
  length,
  Bool,
  true,
  false,
  nat_eq,
  Some,
  None,
  refl,
  sym,
  ap,
  subst,
  ◌∙◌,
  arith,
  length-append,
  append-nil,
}
use Rattle.std.proofs.lemmas.List.{length-map}
use Rattle.line_theory.specs.Lists.{Every, has, Distinct, IsGrown}
use Rattle.doc_theory.specs.Lists.{Member}
use Rattle.doc_theory.specs.Documents.{
  Document,
  Home,
  entries,
  focus_entries,
  live,
  item_bodies,
  focus_bodies,
  bodies,
  flagged,
  telling,
  report,
  reporting,
}
use Rattle.doc_theory.specs.Editing.{Edited, unknown, refused_by, changed, remove, Tried, refused, added, attempt}
use Rattle.doc_theory.specs.Checks.{Check, Laws, Work, works}
use Rattle.doc_theory.specs.Answers.{answer}
use Rattle.doc_theory.specs.Histories.{
  Row,
  Table,
  withdraw,
  blocks,
  new_row,
  post_one,
  post,
  asks,
  held,
  done,
  is_held,
  block_of,
  Event,
  command,
  claim,
  none_waiting,
  returned,
  lose,
  join_answered,
  join_not_yet,
  join_stopped,
  shut,
  Mode,
  idle,
  joining,
  over,
  IsIdle,
  IsJoining,
  IsGoing,
  Standing,
  start,
  standing,
  standing_from,
  step,
  Asks,
  LegalFrom,
  Legal,
}
use Rattle.doc_theory.specs.Invariants.{Sound, IfAdded, IfChanged}
use Rattle.doc_theory.specs.Line.{line, IsAddedTo, HasNext}
use Rattle.doc_theory.specs.Tasks.{IsLive, Kept}
use Rattle.doc_theory.specs.Numbers.{Counted}
use Rattle.line_theory.proofs.Lists.{no, test_same, left_true, right_true, either_true, distinct_more}
use Rattle.doc_theory.proofs.Lists.{test_is}
use Rattle.doc_theory.proofs.Forgotten.{map_join}
use Rattle.doc_theory.proofs.Flags.{bodies_flagged, sound_flagged}
use Rattle.doc_theory.proofs.Added.{Grows, attempt_grows}
use Rattle.doc_theory.proofs.Removed.{Keeps, remove_keeps}
use Rattle.doc_theory.proofs.Places.{attempt_line, line_flagged}
use Rattle.doc_theory.proofs.Ids.{IsStable, answer_stable, standing_stable, attempt_at_next}
use Rattle.doc_theory.proofs.Tables.{step_kept, start_kept}
use Rattle.doc_theory.proofs.Ended.{bodies_works, given_blocks, blocks_stand}
use Rattle.doc_theory.proofs.Counting.{no_more, stay_and_go, blocks_chosen, distinct_chosen}
use Rattle.doc_theory.proofs.Losing.{Loses, remove_loses, bodies_few, focus_few, Shrinks, loses_shrinks, grows_shrinks, shrinks_over}

-- ---- the lemmas of works

lemma_of : {State : Type 0} (n : ℕ) (ws : List (Work State)) → has n (map (λ w. w.lemma) ws) ≡ true
    → (w : Work State) × (Member w ws × (w.lemma ≡ n))
lemma_of n [] h = no h
lemma_of {State} n (w ∷ ws) h = go (either_true (nat_eq n w.lemma) (has n (map (λ w. w.lemma) ws)) h) (lemma_of n ws)
  where
    go : (nat_eq n w.lemma ≡ true) ⊎ (has n (map (λ w. w.lemma) ws) ≡ true)
        → (has n (map (λ w. w.lemma) ws) ≡ true → (x : Work State) × (Member x ws × (x.lemma ≡ n)))
        → (x : Work State) × (Member x (w ∷ ws) × (x.lemma ≡ n))
    go (inl e) more = (w, (inl refl, test_is w.lemma n e))
    go (inr e) more = let r = more e in (r.0, (inr r.1.0, r.1.1))

has_lemma : {State : Type 0} (w : Work State) (ws : List (Work State)) → Member w ws → has w.lemma (map (λ w. w.lemma) ws) ≡ true
has_lemma w [] m = absurd m
has_lemma w (x ∷ ws) (inl e) = left_true (nat_eq w.lemma x.lemma) (has w.lemma (map (λ w. w.lemma) ws))
    (ap (λ z. nat_eq w.lemma z.lemma) (sym e) ∙ test_same w.lemma)
has_lemma w (x ∷ ws) (inr m) = right_true (nat_eq w.lemma x.lemma) (has w.lemma (map (λ w. w.lemma) ws)) (has_lemma w ws m)

works_bodies : {State : Type 0} (L : Check State) (d e : Document) → ((w : Work State) → Member w (works L d) → Member w (works L e))
    → (n : ℕ) → has n (bodies d) ≡ true → has n (bodies e) ≡ true
works_bodies L d e f n h =
    let r = lemma_of n (works L d) (ap (has n) (sym (bodies_works L d)) ∙ h) in
    ap (has n) (bodies_works L e)
    ∙ subst (λ m. has m (map (λ w. w.lemma) (works L e)) ≡ true) r.1.1 (has_lemma r.0 (works L e) (f r.0 r.1.0))

-- ---- each change of a document

line_size : (d : Document) → length (line d) ≡ length (live d)
line_size d = length-map (live d) (λ e. e.id)

same_size : (d e : Document) → line e ≡ line d → length (live e) ≡ length (live d)
same_size d e h = sym (line_size e) ∙ ap length h ∙ line_size d

grown_size : (n : ℕ) (d e : Document) → IsGrown n (line d) (line e) → length (live e) ≡ suc (length (live d))
grown_size n d e g =
    let a = length-append g.front g.back in
    let b = length-append g.front (n ∷ g.back) in
    let x : length (line d) ≡ length (g.front ++ g.back) = ap length g.was in
    let y : length (line e) ≡ length (g.front ++ (n ∷ g.back)) = ap length g.is in
    let z = line_size d in
    let w = line_size e in
    omega (arith, a, b, x, y, z, w)

attempt_counts : (d : Document) (t : Tried) → HasNext d t → IsAddedTo d t
    → IfAdded (λ e. length (live e) + d.next ≡ length (live d) + e.next) t
attempt_counts d (refused r) n l = tt
attempt_counts d (added e i None) n l = let g = grown_size i d e l.0 in omega (arith, g, n)
attempt_counts d (added e i (Some t)) n l = let g = same_size d e l in omega (arith, g, n)

added_shrinks : {State : Type 0} (L : Check State) (b d : Document) (t : Tried) → Shrinks b d → IfAdded (Grows L d) t
    → IfAdded (λ e. length (live e) + d.next ≡ length (live d) + e.next) t → IfAdded (λ e. Sound e × Shrinks b e) t
added_shrinks L b d (refused r) s g c = tt
added_shrinks L b d (added e i t) s g c = (g.sound, shrinks_over b d e s (grows_shrinks d e (works_bodies L d e g.works) c))

removed_shrinks : {State : Type 0} (L : Check State) (b d : Document) (x : Edited) → Shrinks b d → IfChanged (Keeps L d) x
    → IfChanged (Loses d) x → IfChanged (λ e. Sound e × Shrinks b e) x
removed_shrinks L b d unknown s k l = tt
removed_shrinks L b d (refused_by c) s k l = tt
removed_shrinks L b d (changed e) s k l = (k.sound, shrinks_over b d e s (loses_shrinks d e l))

flagged_shrinks : (rule : Home → ℕ → Bool → Bool) (b d : Document) → Sound d × Shrinks b d
    → Sound (flagged rule d) × Shrinks b (flagged rule d)
flagged_shrinks rule b d h = (
  sound_flagged rule d h.0,
  shrinks_over b d (flagged rule d) h.1
      (grows_shrinks d (flagged rule d) (λ n k. ap (has n) (bodies_flagged rule d) ∙ k)
      (ap (λ z. z + d.next) (same_size d (flagged rule d) (line_flagged rule d)))),
)

shrinks_stable : {State : Type 0} (L : Check State) → Laws L → (b : Document) → IsStable (λ e. Sound e × Shrinks b e)
shrinks_stable L laws b = record {
  adding = λ d p x h. added_shrinks L b d (attempt d p x) h.1 (attempt_grows L laws d p x h.0) (attempt_counts d (attempt d p x)
      (attempt_at_next d p x x.kind d.focus) (attempt_line d p x));
  removing = λ d i h. removed_shrinks L b d (remove d i) h.1 (remove_keeps L laws d i h.0) (remove_loses d i);
  telling = λ d ns h. flagged_shrinks (telling ns) b d h;
  reporting = λ d n h. flagged_shrinks (reporting n) b d h;
}

-- ---- posting

post_one_counts : {State : Type 0} (b : Bool) (w : Work State) (t : Table State)
    → (post_one b w t).next + length t.rows ≡ t.next + length (post_one b w t).rows
post_one_counts true w t = refl
post_one_counts false w t = let k = length-append t.rows (new_row t w ∷ []) in omega (arith, k)

post_counts : {State : Type 0} (ws : List (Work State)) (t : Table State)
    → (post ws t).next + length t.rows ≡ t.next + length (post ws t).rows
post_counts [] t = refl
post_counts (w ∷ ws) t =
    let a = post_one_counts (has w.lemma (blocks t.rows)) w t in
    let b = post_counts ws (post_one (has w.lemma (blocks t.rows)) w t) in
    omega (arith, a, b)

post_one_apart : {State : Type 0} (b : Bool) (w : Work State) (t : Table State) → has w.lemma (blocks t.rows) ≡ b
    → Distinct (blocks t.rows) → Distinct (blocks (post_one b w t).rows)
post_one_apart true w t e h = h
post_one_apart false w t e h = subst Distinct (sym (map_join (λ r. r.block) t.rows (new_row t w ∷ [])))
    (distinct_more w.lemma (blocks t.rows) [] (ap (has w.lemma) (append-nil (blocks t.rows)) ∙ e)
    (subst Distinct (sym (append-nil (blocks t.rows))) h))

post_apart : {State : Type 0} (ws : List (Work State)) (t : Table State) → Distinct (blocks t.rows) → Distinct (blocks (post ws t).rows)
post_apart [] t h = h
post_apart (w ∷ ws) t h = post_apart ws (post_one (has w.lemma (blocks t.rows)) w t)
    (post_one_apart (has w.lemma (blocks t.rows)) w t refl h)

-- ---- a standing

rows_size : {State : Type 0} (rs : List (Row State)) → length (blocks rs) ≡ length rs
rows_size rs = length-map rs (λ r. r.block)

in_bodies : {State : Type 0} (L : Check State) (d : Document) (rs : List (Row State)) → Every (IsLive L d) rs
    → Every (λ n. has n (bodies d) ≡ true) (blocks rs)
in_bodies L d [] h = tt
in_bodies L d (r ∷ rs) h = (
  ap (has r.block) (bodies_works L d)
      ∙ subst (λ m. has m (map (λ w. w.lemma) (works L d)) ≡ true) (sym h.0.1) (has_lemma r.work (works L d) h.0.0),
  in_bodies L d rs h.1,
)

-- there are no more rows than live sentences
rows_few : {State : Type 0} (L : Check State) (d : Document) (rs : List (Row State)) → Every (IsLive L d) rs → Distinct (blocks rs)
    → length rs ≤ length (live d)
rows_few L d rs h k =
    let a = no_more (blocks rs) (bodies d) k (in_bodies L d rs h) in
    let b = rows_size rs in
    let c = bodies_few d.items in
    let x = focus_few d.focus in
    let y = length-append (item_bodies d.items) (focus_bodies d.focus) in
    let z = length-append (entries d.items) (focus_entries d.focus) in
    omega (arith, a, b, c, x, y, z)

-- where nothing changes that counts
same_counted : {State : Type 0} (p q : Standing State) → (IsGoing q.mode → IsGoing p.mode)
    → length (live q.document) ≡ length (live p.document) → q.document.next ≡ p.document.next
    → q.table.next ≡ p.table.next → blocks q.table.rows ≡ blocks p.table.rows → Counted p → Counted q
same_counted p q m l n t b c = record {
  posted = λ g.
      let k = c.posted (m g) in
      let x = rows_size q.table.rows in
      let y = rows_size p.table.rows in
      let z : length (blocks q.table.rows) ≡ length (blocks p.table.rows) = ap length b in
      omega (arith, k, x, y, z, l, n, t);
  fewer = let k = c.fewer in omega (arith, k, n, t);
  apart = subst Distinct (sym b) c.apart;
}

idle_going : (m : Mode) → IsIdle m → IsGoing m
idle_going idle h = tt
idle_going (joining tag) h = absurd h
idle_going over h = absurd h

joining_going : (m : Mode) → IsJoining m → IsGoing m
joining_going idle h = absurd h
joining_going (joining tag) h = tt
joining_going over h = absurd h

step_counted : {State : Type 0} (L : Check State) → Laws L → (p : Standing State) (e : Event) → Asks L p e → Kept L p → Counted p
    → Counted (step L p e)
step_counted L laws p (command n q cut ls) a k c =
    let d = p.document in
    let e = (answer L d q cut).document in
    let t = withdraw e p.table in
    let ws = asks L e q cut in
    let s = (answer_stable (λ e. Sound e × Shrinks d e) (shrinks_stable L laws d) L d q cut (
      k.sound,
      grows_shrinks d d (λ n h. h) refl,
    )).1 in
    let old = c.posted (idle_going p.mode a.idle) in
    let less = s (blocks p.table.rows) c.apart (in_bodies L d p.table.rows k.rows) in
    let stay = stay_and_go (λ n. has n (bodies e)) p.table.rows in
    let more = post_counts ws t in
    let apart : Distinct (blocks (post ws t).rows) =
    post_apart ws t (subst Distinct (sym (blocks_chosen (λ n. has n (bodies e)) p.table.rows))
    (distinct_chosen (λ n. has n (bodies e)) (blocks p.table.rows) c.apart)) in
    let few = rows_few L e (post ws t).rows (step_kept L laws p (command n q cut ls) k).rows apart in
    record { posted = λ g. omega (arith, old, less, stay, more); fewer = omega (arith, old, less, stay, more, few); apart = apart }
step_counted L laws p (claim s n) a k c = same_counted p (step L p (claim s n)) (λ g. g) refl refl refl
    (blocks_stand n (held s) p.table.rows) c
step_counted L laws p (none_waiting s) a k c = c
step_counted L laws p (returned s n true) a k c = same_counted p (step L p (returned s n true)) (λ g. g)
    (same_size p.document (report (block_of n p.table.rows) p.document) (line_flagged (reporting (block_of n p.table.rows))
    p.document)) refl refl (blocks_stand n done p.table.rows) c
step_counted L laws p (returned s n false) a k c = same_counted p (step L p (returned s n false)) (λ g. g) refl refl refl refl c
step_counted L laws p (lose s n) a k c = same_counted p (step L p (lose s n)) (λ g. g) refl refl refl
    (given_blocks (is_held s n p.table.rows) n p.table.rows) c
step_counted L laws p join_answered a k c = same_counted p (step L p join_answered) (λ g. joining_going p.mode a.0) refl refl refl refl c
step_counted L laws p (join_not_yet n s) a k c = c
step_counted L laws p join_stopped a k c = same_counted p (step L p join_stopped) (λ g. joining_going p.mode a) refl refl refl refl c
step_counted L laws p shut a k c = record { posted = λ g. absurd g; fewer = c.fewer; apart = tt }

standing_counted : {State : Type 0} (L : Check State) → Laws L → (p : Standing State) (h : List Event) → LegalFrom L p h → Kept L p
    → Counted p → Counted (standing_from L p h)
standing_counted L laws p [] l k c = c
standing_counted L laws p (e ∷ es) l k c = standing_counted L laws (step L p e) es l.1 (step_kept L laws p e k)
    (step_counted L laws p e l.0 k c)

pub history_counted : {State : Type 0} (L : Check State) → Laws L → (limit : ℕ) (h : List Event) → Legal L limit h
    → Counted (standing L limit h)
history_counted L laws limit h l = standing_counted L laws (start limit) h l (start_kept L limit)
    (record { posted = λ g. omega arith; fewer = omega arith; apart = tt })

-- ---- ids rise, and a history goes on entry by entry

pub standing_join : {State : Type 0} (L : Check State) (p : Standing State) (h k : List Event)
    → standing_from L p (h ++ k) ≡ standing_from L (standing_from L p h) k
standing_join L p [] k = refl
standing_join L p (e ∷ h) k = standing_join L (step L p e) h k

pub legal_parts : {State : Type 0} (L : Check State) (p : Standing State) (h k : List Event) → LegalFrom L p (h ++ k)
    → LegalFrom L p h × LegalFrom L (standing_from L p h) k
legal_parts L p [] k l = (tt, l)
legal_parts L p (e ∷ h) k l = let r = legal_parts L (step L p e) h k l.1 in ((l.0, r.0), r.1)

pub legal_join : {State : Type 0} (L : Check State) (p : Standing State) (h k : List Event) → LegalFrom L p h
    → LegalFrom L (standing_from L p h) k → LegalFrom L p (h ++ k)
legal_join L p [] k a b = b
legal_join L p (e ∷ h) k a b = (a.0, legal_join L (step L p e) h k a.1 b)

if_next : (n : ℕ) (d : Document) (t : Tried) → HasNext d t → n ≤ d.next → IfAdded (λ e. n ≤ e.next) t
if_next n d (refused r) h k = tt
if_next n d (added e i None) h k = omega (arith, h, k)
if_next n d (added e i (Some t)) h k = omega (arith, h, k)

if_lost : (n : ℕ) (d : Document) (x : Edited) → IfChanged (Loses d) x → n ≤ d.next → IfChanged (λ e. n ≤ e.next) x
if_lost n d unknown h k = tt
if_lost n d (refused_by c) h k = tt
if_lost n d (changed e) h k = let m = h.next in omega (arith, m, k)

next_stable : (n : ℕ) → IsStable (λ e. n ≤ e.next)
next_stable n = record {
  adding = λ d p x h. if_next n d (attempt d p x) (attempt_at_next d p x x.kind d.focus) h;
  removing = λ d i h. if_lost n d (remove d i) (remove_loses d i) h;
  telling = λ d ns h. h;
  reporting = λ d m h. h;
}

pub ids_rise : {State : Type 0} (L : Check State) (limit : ℕ) (h k : List Event)
    → (standing L limit h).document.next ≤ (standing L limit (h ++ k)).document.next
ids_rise L limit h k = subst (λ q. (standing L limit h).document.next ≤ q.document.next) (sym (standing_join L (start limit) h k))
    (standing_stable (λ e. (standing L limit h).document.next ≤ e.next) (next_stable (standing L limit h).document.next) L
    (standing L limit h) k (omega arith))
