-- Where a Join is answered every live entry is told.
use Rattle.std.proofs.Common.{
  ◌≡◌,
  ◌⊎◌,
  inl,
  inr,
  ℕ,
  suc,
  ◌≤◌,
  nat_eq,
  ◌||◌,
  List,
  [],
  ◌∷◌,
  ◌++◌,
  map,
  Bool,
  true,
  false,
  not,
  if◌then◌else◌,
  refl,
  sym,
  ap,
  subst,
  ◌∙◌,
  arith,
}
use Rattle.serapi_cmd.specs.declared.command.Command.TheVariants as cmd
use Rattle.serapi_cmd.specs.declared.command.Command.{Command}
use Rattle.serapi_cmd.specs.declared.request.Request.{Request}
use Rattle.serapi_cmd.specs.declared.request.Request.TheVariants.{Do, Bad}
use Rattle.serapi_cmd.specs.Requests.{is_quit}
use Rattle.line_theory.specs.Lists.{Every, has, chosen}
use Rattle.doc_theory.specs.Lists.{Member}
use Rattle.line_theory.specs.Shapes.{lone, block, closed, proof, last, zone}
use Rattle.doc_theory.specs.Documents.{
  Entry,
  delegates,
  Item,
  entries,
  End,
  end_entries,
  Focus,
  focus_entries,
  Document,
  live,
  outside,
  home,
  Mark,
  mark,
  marks_of,
  item_marks,
  end_marks,
  focus_marks,
  marks,
  flag,
  flag_item,
  flag_end,
  flag_focus,
  telling,
  tell,
  reporting,
  report,
  body_if,
  item_bodies,
  focus_bodies,
  bodies,
}
use Rattle.doc_theory.specs.Checks.{
  Check,
  Laws,
  through,
  Work,
  work_if,
  item_works,
  focus_works,
  works,
  Judged,
  judged_from,
  leaves,
  verdict,
}
use Rattle.doc_theory.specs.Answers.{perform, Cut, whole, after, all_due, told_to, answer}
use Rattle.doc_theory.specs.Histories.{
  Progress,
  waiting,
  held,
  done,
  Row,
  Table,
  withdraw,
  blocks,
  new_row,
  post_one,
  post,
  asks,
  with_progress,
  all_done,
  rest_of,
  least_left,
  mode_of,
  mode_after,
  asked_for,
  IsJoining,
  Standing,
  start,
  done_by,
  Event,
  command,
  claim,
  none_waiting,
  returned,
  lose,
  join_answered,
  join_not_yet,
  join_stopped,
  shut,
  given_back,
  step,
  is_held,
  block_of,
  standing,
  standing_from,
  Legal,
  Mode,
  joining,
}
use Rattle.doc_theory.specs.Tasks.{IsLive, Numbered, Kept}
use Rattle.doc_theory.specs.Told.{IsTold, BodyTold, FocusBodyTold, BlockTold, RestTold, EndTold, FocusTold, OutsideTold, IsAsked, Tells}
use Rattle.line_theory.proofs.Lists.{no, test_same, every_join, either_true, left_true, right_true, has_left, has_right}
use Rattle.doc_theory.proofs.Lists.{member_left, member_right, every_at, chosen_member, test_is}
use Rattle.doc_theory.proofs.Forgotten.{map_join}
use Rattle.doc_theory.proofs.Flags.{bodies_flagged}
use Rattle.doc_theory.proofs.Tables.{step_kept, start_kept}
use Rattle.doc_theory.proofs.Late.{last_asks}
use Rattle.doc_theory.proofs.Joined.{answer_told, block_flagged, reporting_raises, reported_items, reported_focus}

-- ---- what a Join tells

due_has : {State : Type 0} (L : Check State) (s : State) (ms : List Mark) (m : Mark) → Member m ms → m.due ≡ true
    → has m.id (map (λ j. j.mark.id) (chosen (λ j. j.mark.due) (judged_from L s ms))) ≡ true
due_has L s [] m h d = absurd h
due_has {State} L s (x ∷ ms) m h d = go x.due refl h (due_has L (leaves L s x.id x.sentence) ms m)
  where
    rest : List (Judged State)
    rest = chosen (λ j. j.mark.due) (judged_from L (leaves L s x.id x.sentence) ms)

    this : Judged State
    this = record { mark = x; verdict = verdict L s x.id x.sentence; state = leaves L s x.id x.sentence }

    go : (b : Bool) → x.due ≡ b → Member m (x ∷ ms) → (Member m ms → m.due ≡ true → has m.id (map (λ j. j.mark.id) rest) ≡ true)
        → has m.id (map (λ j. j.mark.id) (if b then this ∷ rest else rest)) ≡ true
    go true e (inl q) more = left_true (nat_eq m.id x.id) _ (ap (λ z. nat_eq z.id x.id) q ∙ test_same x.id)
    go true e (inr q) more = right_true (nat_eq m.id x.id) _ (more q d)
    go false e (inl q) more = no (sym e ∙ ap (λ z. z.due) (sym q) ∙ d)
    go false e (inr q) more = more q d

module _ (ns : List ℕ) where
  -- of these marks all that are due are among the ids
  abbrev Covers : List Mark → Type 0
  Covers ms = (m : Mark) → Member m ms → m.due ≡ true → has m.id ns ≡ true

  covers_left : (a b : List Mark) → Covers (a ++ b) → Covers a
  covers_left a b h m q = h m (member_left m a b q)

  covers_right : (a b : List Mark) → Covers (a ++ b) → Covers b
  covers_right a b h m q = h m (member_right m a b q)

  one_told : (e : Entry) (ms : List Mark) → Covers (mark outside e ∷ ms) → IsTold (flag (telling ns) outside e)
  one_told e ms h = go e.told (h (mark outside e) (inl refl))
    where
      go : (t : Bool) → (not t ≡ true → has e.id ns ≡ true) → (t || has e.id ns) ≡ true
      go true k = refl
      go false k = k refl

  list_told : (b : List Entry) → Covers (map (mark outside) b) → Every IsTold (map (flag (telling ns) outside) b)
  list_told [] h = tt
  list_told (e ∷ b) h = (one_told e _ h, list_told b (λ m q. h m (inr q)))

  items_told : (xs : List Item) → Covers (item_marks xs) → Every RestTold (map (flag_item (telling ns)) xs)
  items_told [] h = tt
  items_told (lone e ∷ xs) h = (one_told e _ h, items_told xs (λ m q. h m (inr q)))
  items_told (block l b c ∷ xs) h = (
    (
      one_told l _ h,
      λ r. subst (λ v. Every IsTold (map (flag (telling ns) (home v l.id)) b) ×
          IsTold (flag (telling ns) (home v l.id) c)) (sym r) (inner r),
    ),
    items_told xs (covers_right (marks_of (block l b c)) (item_marks xs) h),
  )
    where
      inside : Covers (map (mark (home (delegates c.sentence.kind) l.id)) b ++ (mark (home (delegates c.sentence.kind) l.id) c ∷ []))
      inside m q = covers_left (marks_of (block l b c)) (item_marks xs) h m (inr q)

      plain : delegates c.sentence.kind ≡ false → Covers (map (mark outside) b ++ (mark outside c ∷ []))
      plain r = subst (λ v. Covers (map (mark (home v l.id)) b ++ (mark (home v l.id) c ∷ []))) r inside

      inner : delegates c.sentence.kind ≡ false → Every IsTold (map (flag (telling ns) outside) b) × IsTold (flag (telling ns) outside c)
      inner r = (list_told b (covers_left _ _ (plain r)), one_told c [] (covers_right (map (mark outside) b) _ (plain r)))

  end_told : (o : End) → Covers (end_marks o) → EndTold (flag_end (telling ns) o)
  end_told closed h = tt
  end_told (proof l b) h = (one_told l _ h, list_told b (λ m q. h m (inr q)))

  focus_told : (f : Focus) → Covers (focus_marks f) → FocusTold (flag_focus (telling ns) f)
  focus_told (last o) h = end_told o h
  focus_told (zone l b c t o) h =
      let k : Covers (map (mark outside) b ++ (mark outside c ∷ (item_marks t ++ end_marks o))) = λ m q. h m (inr q) in
      let r : Covers (mark outside c ∷ (item_marks t ++ end_marks o)) = covers_right (map (mark outside) b) _ k in
      let u : Covers (item_marks t ++ end_marks o) = λ m q. r m (inr q) in (
        (one_told l _ h, list_told b (covers_left (map (mark outside) b) _ k)),
        (one_told c _ r, (items_told t (covers_left (item_marks t) _ u), end_told o (covers_right (item_marks t) _ u))),
      )

  outside_told : (d : Document) → Covers (marks d) → OutsideTold (tell ns d)
  outside_told d h = (items_told d.items (covers_left (item_marks d.items) _ h), focus_told d.focus (covers_right (item_marks d.items) _ h))

-- ---- what a Join asks for

post_more : {State : Type 0} (n : ℕ) (ws : List (Work State)) (t : Table State) → has n (blocks t.rows) ≡ true
    → has n (blocks (post ws t).rows) ≡ true
post_more n [] t h = h
post_more n (w ∷ ws) t h = post_more n ws (post_one (has w.lemma (blocks t.rows)) w t) (go (has w.lemma (blocks t.rows)))
  where
    go : (b : Bool) → has n (blocks (post_one b w t).rows) ≡ true
    go true = h
    go false = ap (has n) (map_join (λ r. r.block) t.rows (new_row t w ∷ [])) ∙ has_left n (blocks t.rows) _ h

post_has : {State : Type 0} (n : ℕ) (ws : List (Work State)) (t : Table State) → has n (map (λ w. w.lemma) ws) ≡ true
    → has n (blocks (post ws t).rows) ≡ true
post_has n [] t h = no h
post_has n (w ∷ ws) t h = at (either_true (nat_eq n w.lemma) (has n (map (λ w. w.lemma) ws)) h)
    (post_has n ws (post_one (has w.lemma (blocks t.rows)) w t))
  where
    go : (b : Bool) → has w.lemma (blocks t.rows) ≡ b → has w.lemma (blocks (post_one b w t).rows) ≡ true
    go true e = e
    go false e = ap (has w.lemma) (map_join (λ r. r.block) t.rows (new_row t w ∷ []))
        ∙ has_right w.lemma (blocks t.rows) (w.lemma ∷ []) (left_true (nat_eq w.lemma w.lemma) false (test_same w.lemma))

    at : (nat_eq n w.lemma) ≡ true ⊎ (has n (map (λ w. w.lemma) ws) ≡ true)
        → (has n (map (λ w. w.lemma) ws) ≡ true → has n (blocks (post ws (post_one (has w.lemma (blocks t.rows)) w t)).rows) ≡ true)
        → has n (blocks (post ws (post_one (has w.lemma (blocks t.rows)) w t)).rows) ≡ true
    at (inl e) more = post_more n ws (post_one (has w.lemma (blocks t.rows)) w t)
        (subst (λ m. has m (blocks (post_one (has w.lemma (blocks t.rows)) w t).rows) ≡ true) (test_is w.lemma n e)
        (go (has w.lemma (blocks t.rows)) refl))
    at (inr e) more = more e

bodies_works_items : {State : Type 0} (L : Check State) (s : State) (xs : List Item)
    → item_bodies xs ≡ map (λ w. w.lemma) (item_works L s xs)
bodies_works_items L s [] = refl
bodies_works_items L s (lone e ∷ xs) = bodies_works_items L (through L s (e ∷ [])) xs
bodies_works_items L s (block l b c ∷ xs) = go (delegates c.sentence.kind) (bodies_works_items L (through L s (l ∷ (b ++ (c ∷ [])))) xs)
  where
    go : (r : Bool) → item_bodies xs ≡ map (λ w. w.lemma) (item_works L (through L s (l ∷ (b ++ (c ∷ [])))) xs)
        → body_if r l.id (item_bodies xs) ≡ map (λ w. w.lemma) (work_if L r s l b c ++ item_works L (through L s (l ∷ (b ++ (c ∷ [])))) xs)
    go true h = ap (λ z. l.id ∷ z) h
    go false h = h

bodies_works_focus : {State : Type 0} (L : Check State) (s : State) (f : Focus) → focus_bodies f ≡ map (λ w. w.lemma) (focus_works L s f)
bodies_works_focus L s (last o) = refl
bodies_works_focus L s (zone l b c t o) = bodies_works_items L (through L s (l ∷ (b ++ (c ∷ [])))) t

pub bodies_works : {State : Type 0} (L : Check State) (d : Document) → bodies d ≡ map (λ w. w.lemma) (works L d)
bodies_works L d = (λ i. bodies_works_items L L.start d.items i ++ bodies_works_focus L (through L L.start (entries d.items)) d.focus i)
    ∙ sym (map_join (λ w. w.lemma) (item_works L L.start d.items) (focus_works L (through L L.start (entries d.items)) d.focus))

-- what a whole Join leaves
join_asks : {State : Type 0} (L : Check State) (p : Standing State) (m : Mode) (quit : Bool)
    → IsAsked (record {
      document = told_to (all_due L p.document) p.document;
      table = post (works L (told_to (all_due L p.document) p.document)) (withdraw (told_to (all_due L p.document) p.document) p.table);
      mode = m;
      commands = suc p.commands;
      quit = quit;
    })
join_asks L p m quit = record {
  outside = outside_told (map (λ j. j.mark.id) (all_due L p.document)) p.document (due_has L L.start (marks p.document));
  rows = λ n h. post_has n (works L (told_to (all_due L p.document) p.document))
      (withdraw (told_to (all_due L p.document) p.document) p.table)
      (subst (λ z. has n z ≡ true) (bodies_works L (told_to (all_due L p.document) p.document)) h);
}

abbrev performed : {State : Type 0} → Check State → Standing State → List ℕ → Command → Cut → Bool → Standing State
performed L p tag c cut quit = record {
  document = (perform L p.document tag c cut).document;
  table = post (asked_for L (perform L p.document tag c cut).document c cut) (withdraw (perform L p.document tag c cut).document p.table);
  mode = mode_of tag c cut;
  commands = suc p.commands;
  quit = quit;
}

tagged_asks : {State : Type 0} (L : Check State) (p : Standing State) (tag : List ℕ) (c : Command) (cut : Cut) (quit : Bool)
    → IsJoining (mode_of tag c cut) → IsAsked (performed L p tag c cut quit)
tagged_asks L p tag (cmd.Add opts text) cut quit h = absurd h
tagged_asks L p tag (cmd.Cancel is) cut quit h = absurd h
tagged_asks L p tag (cmd.Exec i) cut quit h = absurd h
tagged_asks L p tag (cmd.Query opts q) cut quit h = absurd h
tagged_asks L p tag cmd.Join whole quit h = join_asks L p (joining tag) quit
tagged_asks L p tag cmd.Join (after n) quit h = absurd h
tagged_asks L p tag cmd.Quit cut quit h = absurd h

command_asks : {State : Type 0} (L : Check State) (p : Standing State) (q : Request) (cut : Cut) → IsJoining (mode_after q cut)
    → IsAsked (done_by L p q cut (answer L p.document q cut).document)
command_asks L p (Do t) cut h = tagged_asks L p t.tag t.command cut (is_quit (Do t)) h
command_asks L p (Bad b) cut h = absurd h

-- ---- rows that are done

waits : {A : Type 0} → waiting ≡ done → A
waits h = cc

is_kept : {A : Type 0} (s : ℕ) → held s ≡ done → A
is_kept s h = cc

post_done : {State : Type 0} (ws : List (Work State)) (t : Table State) (r : Row State) → Member r (post ws t).rows → r.progress ≡ done
    → Member r t.rows
post_done [] t r m h = m
post_done {State} (w ∷ ws) t r m h = go (has w.lemma (blocks t.rows)) (post_done ws (post_one (has w.lemma (blocks t.rows)) w t) r m h)
  where
    parts : (xs : List (Row State)) → Member r (xs ++ (new_row t w ∷ [])) → Member r xs
    parts [] (inl e) = waits (ap (λ z. z.progress) (sym e) ∙ h)
    parts [] (inr e) = absurd e
    parts (x ∷ xs) (inl e) = inl e
    parts (x ∷ xs) (inr e) = inr (parts xs e)

    go : (b : Bool) → Member r (post_one b w t).rows → Member r t.rows
    go true k = k
    go false k = parts t.rows k

-- a row that is done was done before, or has the number that now is
stand_done : {State : Type 0} (n : ℕ) (s : Progress) (rs : List (Row State)) (r : Row State) → Member r (with_progress n s rs)
    → r.progress ≡ done
    → (x : Row State) × (Member x rs × ((r.block ≡ x.block) × ((x.progress ≡ done) ⊎ ((s ≡ done) × (x.number ≡ n)))))
stand_done n s [] r m h = absurd m
stand_done n s (q ∷ rs) r (inl e) h = (q, (inl refl, (ap (λ z. z.block) e, go (nat_eq n q.number) refl (ap (λ z. z.progress) (sym e) ∙ h))))
  where
    go : (b : Bool) → (nat_eq n q.number) ≡ b → (if b then s else q.progress) ≡ done → (q.progress ≡ done) ⊎ ((s ≡ done) × (q.number ≡ n))
    go true f k = inr (k, test_is q.number n f)
    go false f k = inl k
stand_done n s (q ∷ rs) r (inr m) h = let x = stand_done n s rs r m h in (x.0, (inr x.1.0, x.1.1))

pub blocks_stand : {State : Type 0} (n : ℕ) (s : Progress) (rs : List (Row State)) → blocks (with_progress n s rs) ≡ blocks rs
blocks_stand n s [] = refl
blocks_stand n s (r ∷ rs) = ap (λ z. r.block ∷ z) (blocks_stand n s rs)

above : {State : Type 0} (lo hi : ℕ) (rs : List (Row State)) (r : Row State) → Numbered lo rs hi → Member r rs → lo ≤ r.number
above lo hi [] r h m = absurd m
above lo hi (q ∷ rs) r h (inl e) = let n : r.number ≡ q.number = ap (λ z. z.number) e in omega (arith, n, h.0)
above lo hi (q ∷ rs) r h (inr m) = let k = above (suc q.number) hi rs r h.1 m in omega (arith, h.0, k)

block_is : {State : Type 0} (n lo hi : ℕ) (rs : List (Row State)) (r : Row State) → Numbered lo rs hi → Member r rs → r.number ≡ n
    → block_of n rs ≡ r.block
block_is n lo hi [] r h m e = absurd m
block_is n lo hi (q ∷ rs) r h m e = go (nat_eq n q.number) refl m (block_is n (suc q.number) hi rs r h.1)
  where
    go : (b : Bool) → (nat_eq n q.number) ≡ b → Member r (q ∷ rs) → (Member r rs → r.number ≡ n → block_of n rs ≡ r.block)
        → (if b then q.block else block_of n rs) ≡ r.block
    go true f (inl k) more = ap (λ z. z.block) (sym k)
    go true f (inr k) more = let u = above (suc q.number) hi rs r h.1 k in let v = test_is q.number n f in absurd (omega (arith, u, v, e))
    go false f (inl k) more = no (sym f ∙ ap (λ z. nat_eq n z) (ap (λ z. z.number) (sym k) ∙ e) ∙ test_same n)
    go false f (inr k) more = more k e

-- ---- each event

asked_as : {State : Type 0} (p q : Standing State) → OutsideTold q.document → bodies q.document ≡ bodies p.document
    → blocks q.table.rows ≡ blocks p.table.rows → IsAsked p → IsAsked q
asked_as p q o e f k = record {
  outside = o;
  rows = λ n h. subst (λ z. has n z ≡ true) (sym f)
      (k.rows n (subst (λ z. has n z ≡ true) e h));
}

report_plain : (n : ℕ) (b : List Entry) → Every IsTold b → Every IsTold (map (flag (reporting n) outside) b)
report_plain n [] h = tt
report_plain n (e ∷ b) h = (h.0, report_plain n b h.1)

report_rest : (n : ℕ) (xs : List Item) → Every RestTold xs → Every RestTold (map (flag_item (reporting n)) xs)
report_rest n [] h = tt
report_rest n (lone e ∷ xs) h = (h.0, report_rest n xs h.1)
report_rest n (block l b c ∷ xs) h = (
  (
    h.0.0,
    λ r. let k = h.0.1 r in
        subst (λ v. Every IsTold (map (flag (reporting n) (home v l.id)) b) × IsTold (flag (reporting n) (home v l.id) c))
        (sym r) (report_plain n b k.0, k.1),
  ),
  report_rest n xs h.1,
)

report_end : (n : ℕ) (o : End) → EndTold o → EndTold (flag_end (reporting n) o)
report_end n closed h = tt
report_end n (proof l b) h = (h.0, report_plain n b h.1)

report_focus : (n : ℕ) (f : Focus) → FocusTold f → FocusTold (flag_focus (reporting n) f)
report_focus n (last o) h = report_end n o h
report_focus n (zone l b c t o) h = ((h.0.0, report_plain n b h.0.1), (h.1.0, (report_rest n t h.1.1.0, report_end n o h.1.1.1)))

report_outside : (n : ℕ) (d : Document) → OutsideTold d → OutsideTold (report n d)
report_outside n d h = (report_rest n d.items h.0, report_focus n d.focus h.1)

pub given_blocks : {State : Type 0} (b : Bool) (n : ℕ) (rs : List (Row State)) → blocks (given_back b n rs) ≡ blocks rs
given_blocks true n rs = blocks_stand n waiting rs
given_blocks false n rs = refl

given_done : {State : Type 0} (d : Document) (b : Bool) (n : ℕ) (rs : List (Row State))
    → ((r : Row State) → Member r rs → r.progress ≡ done → BlockTold r.block d)
    → (r : Row State) → Member r (given_back b n rs) → r.progress ≡ done → BlockTold r.block d
given_done d false n rs f r m h = f r m h
given_done {State} d true n rs f r m h = let x = stand_done n waiting rs r m h in subst (λ z. BlockTold z d) (sym x.1.1.0)
    (go x.0 x.1.0 x.1.1.1)
  where
    go : (x : Row State) → Member x rs → (x.progress ≡ done) ⊎ ((waiting ≡ done) × (x.number ≡ n)) → BlockTold x.block d
    go x k (inl e) = f x k e
    go x k (inr e) = waits e.0

pub step_tells : {State : Type 0} (L : Check State) → Laws L → (p : Standing State) (e : Event) → Kept L p → Tells p → Tells (step L p e)
step_tells L laws p (command n q cut ls) k t = record {
  done = λ r m h.
      let old = chosen_member (λ r. has r.block (bodies (answer L p.document q cut).document)) p.table.rows r
      (post_done (asks L (answer L p.document q cut).document q cut) (withdraw (answer L p.document q cut).document p.table) r m h) in
      let live = every_at (IsLive L p.document) p.table.rows k.rows r old.0 in
      subst (λ z. BlockTold z (answer L p.document q cut).document) (sym live.1)
      (answer_told L laws r.work p.document q cut k.sound live.0 (subst (λ z. BlockTold z p.document) live.1 (t.done r old.0 h)));
  joining = command_asks L p q cut;
}
step_tells {State} L laws p (claim s n) k t = record {
  done = λ r m h. let x = stand_done n (held s) p.table.rows r m h in subst (λ z. BlockTold z p.document) (sym x.1.1.0)
      (go x.0 x.1.0 x.1.1.1);
  joining = λ j. let a = t.joining j in asked_as p (step L p (claim s n)) a.outside refl (blocks_stand n (held s) p.table.rows) a;
}
  where
    go : (x : Row State) → Member x p.table.rows → (x.progress ≡ done) ⊎ ((held s ≡ done) × (x.number ≡ n)) → BlockTold x.block p.document
    go x m (inl e) = t.done x m e
    go x m (inr e) = is_kept s e.0
step_tells L laws p (none_waiting s) k t = t
step_tells {State} L laws p (returned s n true) k t = record {
  done = λ r m h. let x = stand_done n done p.table.rows r m h in
      subst (λ z. BlockTold z (report (block_of n p.table.rows) p.document)) (sym x.1.1.0) (go x.0 x.1.0 x.1.1.1);
  joining = λ j. let a = t.joining j in asked_as p (step L p (returned s n true)) (report_outside (block_of n p.table.rows)
      p.document a.outside)
      (bodies_flagged (reporting (block_of n p.table.rows)) p.document) (blocks_stand n done p.table.rows) a;
}
  where
    go : (x : Row State) → Member x p.table.rows → (x.progress ≡ done) ⊎ ((done ≡ done) × (x.number ≡ n))
        → BlockTold x.block (report (block_of n p.table.rows) p.document)
    go x m (inl e) = block_flagged (reporting (block_of n p.table.rows)) (reporting_raises (block_of n p.table.rows)) x.block
        p.document (t.done x m e)
    go x m (inr e) = subst (λ z. BlockTold z (report (block_of n p.table.rows) p.document))
        (block_is n 0 p.table.next p.table.rows x k.numbers m e.1)
        (reported_items (block_of n p.table.rows) p.document.items, reported_focus (block_of n p.table.rows) p.document.focus)
step_tells L laws p (returned s n false) k t = record {
  done = t.done;
  joining = λ j. let a = t.joining j in
      record { outside = a.outside; rows = a.rows };
}
step_tells L laws p (lose s n) k t = record {
  done = given_done p.document (is_held s n p.table.rows) n p.table.rows t.done;
  joining = λ j. let a = t.joining j in asked_as p (step L p (lose s n)) a.outside refl (given_blocks (is_held s n p.table.rows)
      n p.table.rows) a;
}
step_tells L laws p join_answered k t = record { done = t.done; joining = λ j. absurd j }
step_tells L laws p (join_not_yet n s) k t = t
step_tells L laws p join_stopped k t = record { done = t.done; joining = λ j. absurd j }
step_tells L laws p shut k t = record { done = λ r m h. absurd m; joining = λ j. absurd j }

standing_tells : {State : Type 0} (L : Check State) → Laws L → (p : Standing State) (h : List Event) → Kept L p → Tells p
    → Tells (standing_from L p h)
standing_tells L laws p [] k t = t
standing_tells L laws p (e ∷ es) k t = standing_tells L laws (step L p e) es (step_kept L laws p e k) (step_tells L laws p e k t)

pub history_tells : {State : Type 0} (L : Check State) → Laws L → (limit : ℕ) (h : List Event) → Tells (standing L limit h)
history_tells L laws limit h = standing_tells L laws (start limit) h (start_kept L limit) (record {
  done = λ r m e. absurd m;
  joining = λ j. absurd j;
})

-- ---- the end of a Join

done_all : {State : Type 0} (rs : List (Row State)) → least_left rs ≡ all_done → (r : Row State) → Member r rs → r.progress ≡ done
done_all [] h r m = absurd m
done_all {State} (q ∷ rs) h r m = go q.progress refl h (done_all rs) m
  where
    go : (s : Progress) → q.progress ≡ s → rest_of s q.number (least_left rs) ≡ all_done
        → (least_left rs ≡ all_done → (x : Row State) → Member x rs → x.progress ≡ done) → Member r (q ∷ rs) → r.progress ≡ done
    go waiting e k more n = cc
    go (held s) e k more n = cc
    go done e k more (inl n) = ap (λ z. z.progress) n ∙ e
    go done e k more (inr n) = more k r n

pub has_row : {State : Type 0} (n : ℕ) (rs : List (Row State)) → has n (blocks rs) ≡ true
    → (r : Row State) × (Member r rs × (r.block ≡ n))
has_row n [] h = no h
has_row {State} n (q ∷ rs) h = go (either_true (nat_eq n q.block) (has n (blocks rs)) h) (has_row n rs)
  where
    go : ((nat_eq n q.block) ≡ true) ⊎ (has n (blocks rs) ≡ true)
        → (has n (blocks rs) ≡ true → (r : Row State) × (Member r rs × (r.block ≡ n)))
        → (r : Row State) × (Member r (q ∷ rs) × (r.block ≡ n))
    go (inl e) more = (q, (inl refl, test_is q.block n e))
    go (inr e) more = let x = more e in (x.0, (inr x.1.0, x.1.1))

item_told : (xs : List Item) → Every RestTold xs → ((n : ℕ) → has n (item_bodies xs) ≡ true → Every (BodyTold n) xs)
    → Every IsTold (entries xs)
item_told [] a f = tt
item_told (lone e ∷ xs) a f = (a.0, item_told xs a.1 (λ n h. (f n h).1))
item_told (block l b c ∷ xs) a f = (
  a.0.0,
  every_join IsTold (b ++ (c ∷ [])) (entries xs) (go (delegates c.sentence.kind) refl)
      (item_told xs a.1 (λ n h. (f n (more n (delegates c.sentence.kind) h)).1)),
)
  where
    more : (n : ℕ) (r : Bool) → has n (item_bodies xs) ≡ true → has n (body_if r l.id (item_bodies xs)) ≡ true
    more n true h = right_true (nat_eq n l.id) (has n (item_bodies xs)) h
    more n false h = h

    here : (r : Bool) → r ≡ true → has l.id (body_if r l.id (item_bodies xs)) ≡ true
    here true h = left_true (nat_eq l.id l.id) (has l.id (item_bodies xs)) (test_same l.id)
    here false h = no h

    both : Every IsTold b × IsTold c → Every IsTold (b ++ (c ∷ []))
    both k = every_join IsTold b (c ∷ []) k.0 (k.1, tt)

    go : (r : Bool) → delegates c.sentence.kind ≡ r → Every IsTold (b ++ (c ∷ []))
    go true e = both ((f l.id (here (delegates c.sentence.kind) e)).0 e refl)
    go false e = both (a.0.1 e)

end_all : (o : End) → EndTold o → Every IsTold (end_entries o)
end_all closed h = tt
end_all (proof l b) h = h

focus_all : (g : Focus) → FocusTold g → ((n : ℕ) → has n (focus_bodies g) ≡ true → FocusBodyTold n g) → Every IsTold (focus_entries g)
focus_all (last o) a f = end_all o a
focus_all (zone l b c t o) a f =
    (a.0.0, every_join IsTold b _ a.0.1 (a.1.0, every_join IsTold (entries t) _ (item_told t a.1.1.0 f) (end_all o a.1.1.1)))

pub all_told : {State : Type 0} (L : Check State) → Laws L → (limit : ℕ) (h : List Event) → Legal L limit (h ++ (join_answered ∷ []))
    → Every IsTold (live (standing L limit h).document)
all_told {State} L laws limit h l = every_join IsTold (entries d.items) _ (item_told d.items asked.outside.0
    (λ n k. (of n (has_left n (item_bodies d.items) _ k)).0))
    (focus_all d.focus asked.outside.1 (λ n k. (of n (has_right n (item_bodies d.items) _ k)).1))
  where
    d : Document
    d = (standing L limit h).document

    tells : Tells (standing L limit h)
    tells = history_tells L laws limit h

    asks_end : IsJoining (standing L limit h).mode × (least_left (standing L limit h).table.rows ≡ all_done)
    asks_end = last_asks L (start limit) h join_answered l

    asked : IsAsked (standing L limit h)
    asked = tells.joining asks_end.0

    of : (n : ℕ) → has n (bodies d) ≡ true → BlockTold n d
    of n k = let r = has_row n (standing L limit h).table.rows (asked.rows n k) in
        subst (λ z. BlockTold z d) r.1.1 (tells.done r.0 r.1.0 (done_all (standing L limit h).table.rows asks_end.1 r.0 r.1.0))
