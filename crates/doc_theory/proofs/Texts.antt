-- Where a Join is answered the verdict of each live sentence is one that was told outside of delegated blocks, or one of a row's result.
use Rattle.std.proofs.Common.{
  ◌≡◌,
  ◌⊎◌,
  inl,
  inr,
  ℕ,
  ◌&&◌,
  nat_eq,
  List,
  [],
  ◌∷◌,
  ◌++◌,
  map,
  Bool,
  true,
  false,
  not,
  if◌then◌else◌,
  refl,
  sym,
  ap,
  subst,
  ◌∙◌,
  Option,
  None,
  Some,
}
use Rattle.serapi_ans.specs.declared.line.Line.TheVariants.{Feedback}
use Rattle.serapi_ans.specs.declared.line.Line.{Line}
use Rattle.line_theory.specs.Lists.{Every, has, chosen}
use Rattle.doc_theory.specs.Lists.{Member}
use Rattle.line_theory.specs.Shapes.{lone, block, closed, proof, last, zone}
use Rattle.doc_theory.specs.Documents.{
  Entry,
  delegates,
  Item,
  entries,
  End,
  end_entries,
  Focus,
  focus_entries,
  Document,
  live,
  Home,
  outside,
  body_of,
  home,
  Mark,
  mark,
  is_body,
  item_marks,
  end_marks,
  focus_marks,
  marks,
  body_if,
  item_bodies,
  focus_bodies,
  bodies,
}
use Rattle.doc_theory.specs.Checks.{Check, Laws, Judged, judged_from, judged, Told, checked, text_of, leaves, verdict, good, wrong, Verdict}
use Rattle.doc_theory.specs.Answers.{faults, faults_with, is_wrong, feedbacks}
use Rattle.doc_theory.specs.Histories.{Row, Event, join_answered, standing, start, Legal, is_home, result_lines}
use Rattle.doc_theory.specs.Tasks.{task_lines, IsLive}
use Rattle.doc_theory.specs.Told.{IsTold}
use Rattle.doc_theory.specs.Notes.{noted_of, picked, is_noted, noted}
use Rattle.line_theory.proofs.Lists.{test_same, every_join, every_parts, left_true, right_true, has_left, has_right}
use Rattle.doc_theory.proofs.Lists.{every_at}
use Rattle.doc_theory.proofs.Forgotten.{map_join}
use Rattle.doc_theory.proofs.Reports.{live_lines}
use Rattle.doc_theory.proofs.Late.{history_kept, last_asks}
use Rattle.doc_theory.proofs.Ended.{all_told, history_tells, has_row}

-- ---- told entries are not due

abbrev IsDone : Mark → Type 0
IsDone m = m.due ≡ false

one_done : (h : Home) (e : Entry) → IsTold e → IsDone (mark h e)
one_done outside e k = ap not k
one_done (body_of n) e k = refl

list_done : (h : Home) (b : List Entry) → Every IsTold b → Every IsDone (map (mark h) b)
list_done h [] k = tt
list_done h (e ∷ b) k = (one_done h e k.0, list_done h b k.1)

items_done : (xs : List Item) → Every IsTold (entries xs) → Every IsDone (item_marks xs)
items_done [] k = tt
items_done (lone e ∷ xs) k = (one_done outside e k.0, items_done xs k.1)
items_done (block l b c ∷ xs) k =
    let p = every_parts IsTold (b ++ (c ∷ [])) (entries xs) k.1 in
    let q = every_parts IsTold b (c ∷ []) p.0 in (
      one_done outside l k.0,
      every_join IsDone (map (mark (home (delegates c.sentence.kind) l.id)) b ++ (mark (home (delegates c.sentence.kind) l.id) c
          ∷ [])) (item_marks xs)
          (every_join IsDone (map (mark (home (delegates c.sentence.kind) l.id)) b)
          (mark (home (delegates c.sentence.kind) l.id) c ∷ []) (list_done (home (delegates c.sentence.kind) l.id) b q.0)
          (one_done (home (delegates c.sentence.kind) l.id) c q.1.0, tt))
          (items_done xs p.1),
    )

end_done : (o : End) → Every IsTold (end_entries o) → Every IsDone (end_marks o)
end_done closed k = tt
end_done (proof l b) k = (one_done outside l k.0, list_done outside b k.1)

focus_done : (f : Focus) → Every IsTold (focus_entries f) → Every IsDone (focus_marks f)
focus_done (last o) k = end_done o k
focus_done (zone l b c t o) k =
    let p = every_parts IsTold b (c ∷ (entries t ++ end_entries o)) k.1 in
    let q = every_parts IsTold (entries t) (end_entries o) p.1.1 in (
      one_done outside l k.0,
      every_join IsDone (map (mark outside) b) (mark outside c ∷ (item_marks t ++ end_marks o)) (list_done outside b p.0)
          (one_done outside c p.1.0, every_join IsDone (item_marks t) (end_marks o) (items_done t q.0) (end_done o q.1)),
    )

marks_done : (d : Document) → Every IsTold (live d) → Every IsDone (marks d)
marks_done d k = let p = every_parts IsTold (entries d.items) (focus_entries d.focus) k in
    every_join IsDone (item_marks d.items) (focus_marks d.focus) (items_done d.items p.0) (focus_done d.focus p.1)

-- ---- a body is of a delegated block

not_outside : {A : Type 0} (n : ℕ) → outside ≡ body_of n → A
not_outside n e = cc

-- where marks have homes, these are bodies
abbrev Homed : List ℕ → Mark → Type 0
Homed ns m = (n : ℕ) → m.home ≡ body_of n → has n ns ≡ true

outside_homed : (ns : List ℕ) (b : List Entry) → Every (Homed ns) (map (mark outside) b)
outside_homed ns [] = tt
outside_homed ns (e ∷ b) = ((λ n h. not_outside n h), outside_homed ns b)

same_home : (m n : ℕ) → body_of m ≡ body_of n → m ≡ n
same_home m n e = cc

body_homed : (m : ℕ) (ns : List ℕ) (b : List Entry) → has m ns ≡ true → Every (Homed ns) (map (mark (body_of m)) b)
body_homed m ns [] h = tt
body_homed m ns (e ∷ b) h = ((λ n q. subst (λ z. has z ns ≡ true) (same_home m n q) h), body_homed m ns b h)

more_homed : (ns ms : List ℕ) (xs : List Mark) → ((n : ℕ) → has n ns ≡ true → has n ms ≡ true) → Every (Homed ns) xs → Every (Homed ms) xs
more_homed ns ms [] f h = tt
more_homed ns ms (m ∷ xs) f h = ((λ n q. f n (h.0 n q)), more_homed ns ms xs f h.1)

items_homed : (xs : List Item) → Every (Homed (item_bodies xs)) (item_marks xs)
items_homed [] = tt
items_homed (lone e ∷ xs) = ((λ n h. not_outside n h), items_homed xs)
items_homed (block l b c ∷ xs) = go (delegates c.sentence.kind) (items_homed xs)
  where
    rest : (r : Bool) (n : ℕ) → has n (item_bodies xs) ≡ true → has n (body_if r l.id (item_bodies xs)) ≡ true
    rest true n h = right_true (nat_eq n l.id) (has n (item_bodies xs)) h
    rest false n h = h

    inside : (r : Bool) → Every (Homed (body_if r l.id (item_bodies xs))) (map (mark (home r l.id)) (b ++ (c ∷ [])))
    inside true = body_homed l.id (l.id ∷ item_bodies xs) (b ++ (c ∷ []))
        (left_true (nat_eq l.id l.id) (has l.id (item_bodies xs)) (test_same l.id))
    inside false = outside_homed (item_bodies xs) (b ++ (c ∷ []))

    go : (r : Bool) → Every (Homed (item_bodies xs)) (item_marks xs)
        → Every (Homed (body_if r l.id (item_bodies xs)))
        ((mark outside l ∷ (map (mark (home r l.id)) b ++ (mark (home r l.id) c ∷ []))) ++ item_marks xs)
    go r k = (
      (λ n h. not_outside n h),
      every_join (Homed (body_if r l.id (item_bodies xs))) (map (mark (home r l.id)) b ++ (mark (home r l.id) c ∷ [])) (item_marks xs)
          (subst (Every (Homed (body_if r l.id (item_bodies xs)))) (map_join (mark (home r l.id)) b (c ∷ [])) (inside r))
          (more_homed (item_bodies xs) (body_if r l.id (item_bodies xs)) (item_marks xs) (rest r) k),
    )

end_homed : (ns : List ℕ) (o : End) → Every (Homed ns) (end_marks o)
end_homed ns closed = tt
end_homed ns (proof l b) = ((λ n h. not_outside n h), outside_homed ns b)

focus_homed : (f : Focus) → Every (Homed (focus_bodies f)) (focus_marks f)
focus_homed (last o) = end_homed [] o
focus_homed (zone l b c t o) = (
  (λ n h. not_outside n h),
  every_join (Homed (item_bodies t)) (map (mark outside) b) (mark outside c ∷ (item_marks t ++ end_marks o))
      (outside_homed (item_bodies t) b) (
        (λ n h. not_outside n h),
        every_join (Homed (item_bodies t)) (item_marks t) (end_marks o) (items_homed t)
            (end_homed (item_bodies t) o),
      ),
)

marks_homed : (d : Document) → Every (Homed (bodies d)) (marks d)
marks_homed d = every_join (Homed (bodies d)) (item_marks d.items) (focus_marks d.focus)
    (more_homed (item_bodies d.items) (bodies d) (item_marks d.items) (λ n h. has_left n (item_bodies d.items)
    (focus_bodies d.focus) h) (items_homed d.items))
    (more_homed (focus_bodies d.focus) (bodies d) (focus_marks d.focus) (λ n h. has_right n (item_bodies d.items)
    (focus_bodies d.focus) h) (focus_homed d.focus))

-- ---- each verdict is noted, or of a body

module _ {State : Type 0} (L : Check State) where
  abbrev of_body : ℕ → State → List Mark → List Told
  of_body n s ms = picked L (λ m. is_home n m.home) s ms

  -- one mark more leaves what is picked of the others
  picked_more : (p : Mark → Bool) (s : State) (m : Mark) (ms : List Mark) (t : Told)
      → Member t (picked L p (leaves L s m.id m.sentence) ms) → Member t (picked L p s (m ∷ ms))
  picked_more p s m ms t h = go (p m)
    where
      go : (b : Bool)
          → Member t (map noted_of (if b then record {
            mark = m;
            verdict = verdict L s m.id m.sentence;
            state =
                leaves L s m.id m.sentence;
          } ∷ chosen (λ j. p j.mark) (judged_from L (leaves L s m.id m.sentence) ms)
          else chosen (λ j. p j.mark) (judged_from L (leaves L s m.id m.sentence) ms)))
      go true = inr h
      go false = h

  picked_first : (p : Mark → Bool) (s : State) (m : Mark) (ms : List Mark) → p m ≡ true
      → Member (record { id = m.id; verdict = verdict L s m.id m.sentence }) (picked L p s (m ∷ ms))
  picked_first p s m ms e = subst (λ b. Member (record { id = m.id; verdict = verdict L s m.id m.sentence })
      (map noted_of (if b then record { mark = m; verdict = verdict L s m.id m.sentence; state = leaves L s m.id m.sentence }
      ∷ chosen (λ j. p j.mark) (judged_from L (leaves L s m.id m.sentence) ms) else chosen (λ j. p j.mark)
      (judged_from L (leaves L s m.id m.sentence) ms))))
      (sym e) (inl refl)

  sorted : (ns : List ℕ) (s : State) (ms : List Mark) → Every IsDone ms → Every (Homed ns) ms → (t : Told)
      → Member t (map noted_of (judged_from L s ms))
      → Member t (picked L is_noted s ms) ⊎ ((n : ℕ) × ((has n ns ≡ true) × Member t (of_body n s ms)))
  sorted ns s [] d h t k = absurd k
  sorted ns s (m ∷ ms) d h t (inl e) = go m.home refl
    where
      go : (x : Home) → m.home ≡ x
          → Member t (picked L is_noted s (m ∷ ms)) ⊎ ((n : ℕ) × ((has n ns ≡ true) × Member t (of_body n s (m ∷ ms))))
      go outside q = inl (subst (λ z. Member z (picked L is_noted s (m ∷ ms))) (sym e)
          (picked_first is_noted s m ms (λ i. not (is_body (q i)) && not (d.0 i))))
      go (body_of n) q = inr (
        n,
        (
          h.0 n q,
          subst (λ z. Member z (of_body n s (m ∷ ms))) (sym e)
              (picked_first (λ x. is_home n x.home) s m ms (ap (is_home n) q ∙ test_same n)),
        ),
      )
  sorted ns s (m ∷ ms) d h t (inr k) = go (sorted ns (leaves L s m.id m.sentence) ms d.1 h.1 t k)
    where
      go : Member t (picked L is_noted (leaves L s m.id m.sentence) ms) ⊎
          ((n : ℕ) × ((has n ns ≡ true) × Member t (of_body n (leaves L s m.id m.sentence) ms)))
          → Member t (picked L is_noted s (m ∷ ms)) ⊎ ((n : ℕ) × ((has n ns ≡ true) × Member t (of_body n s (m ∷ ms))))
      go (inl x) = inl (picked_more is_noted s m ms t x)
      go (inr x) = inr (x.0, (x.1.0, picked_more (λ y. is_home x.0 y.home) s m ms t x.1.1))

-- ---- lines and what they tell

abbrev verdict_in : Option (List ℕ) → Verdict
verdict_in None = good
verdict_in (Some t) = wrong t

verdict_back : (v : Verdict) → verdict_in (text_of v) ≡ v
verdict_back good = refl
verdict_back (wrong t) = refl

abbrev told_by : Line → List Told
told_by (Feedback i r v) = record { id = i; verdict = verdict_in v } ∷ []
told_by other = []

abbrev told_by_all : List Line → List Told
told_by_all [] = []
told_by_all (l ∷ ls) = told_by l ++ told_by_all ls

by_feedbacks : {State : Type 0} (js : List (Judged State)) → told_by_all (feedbacks 1 js) ≡ map noted_of js
by_feedbacks [] = refl
by_feedbacks (j ∷ js) = λ i. record { id = j.mark.id; verdict = verdict_back j.verdict i } ∷ by_feedbacks js i

by_task : (ts : List Told) → told_by_all (map (λ t. Feedback t.id 1 (text_of t.verdict)) ts) ≡ ts
by_task [] = refl
by_task (t ∷ ts) = λ i. record { id = t.id; verdict = verdict_back t.verdict i } ∷ by_task ts i

pub all_texts : {State : Type 0} (L : Check State) → Laws L → (limit : ℕ) (h : List Event) → Legal L limit (h ++ (join_answered ∷ []))
    → (t : Told) → Member t (map noted_of (judged L (standing L limit h).document))
    → Member t (noted L (standing L limit h).document) ⊎
    ((r : Row State) × (Member r (standing L limit h).table.rows × Member t (checked L r.work)))
all_texts {State} L laws limit h l t m = go (sorted L (bodies d) L.start (marks d) (marks_done d (all_told L laws limit h l))
    (marks_homed d) t m)
  where
    d : Document
    d = (standing L limit h).document

    go : Member t (noted L d) ⊎ ((n : ℕ) × ((has n (bodies d) ≡ true) × Member t (of_body L n L.start (marks d))))
        → Member t (noted L d) ⊎ ((r : Row State) × (Member r (standing L limit h).table.rows × Member t (checked L r.work)))
    go (inl x) = inl x
    go (inr x) =
        let asked = (history_tells L laws limit h).joining (last_asks L (start limit) h join_answered l).0 in
        let r = has_row x.0 (standing L limit h).table.rows (asked.rows x.0 x.1.0) in
        let k = history_kept L laws limit h in
        let live = every_at (IsLive L d) (standing L limit h).table.rows k.rows r.0 r.1.0 in
        let lines : result_lines L d x.0 ≡ task_lines L r.0.work = ap (result_lines L d) (sym r.1.1 ∙ live.1)
        ∙ live_lines L d r.0.work k.sound live.0 in
        inr (
          r.0,
          (
            r.1.0,
            subst (Member t) (sym (by_feedbacks (chosen (λ j. is_home x.0 j.mark.home) (judged L d))) ∙
                ap told_by_all lines ∙ by_task (checked L r.0.work)) x.1.1,
          ),
        )

-- a Joined line lists those whose verdict isn't good
pub faults_are : {State : Type 0} (js : List (Judged State))
    → map (λ f. f.0) (faults js) ≡ map (λ j. j.mark.id) (chosen (λ j. is_wrong j.verdict) js)
faults_are [] = refl
faults_are (j ∷ js) = go j.verdict (faults_are js)
  where
    go : (v : Verdict) → map (λ f. f.0) (faults js) ≡ map (λ j. j.mark.id) (chosen (λ j. is_wrong j.verdict) js)
        → map (λ f. f.0) (faults_with j.mark.id v (faults js)) ≡ map (λ j. j.mark.id) (if is_wrong v then j
        ∷ chosen (λ j. is_wrong j.verdict) js else chosen (λ j. is_wrong j.verdict) js)
    go good h = h
    go (wrong t) h = ap (λ z. j.mark.id ∷ z) h

-- with the texts that their lines tell
pub fault_texts_are : {State : Type 0} (js : List (Judged State))
    → map {A = ℕ × List ℕ} {B = ℕ × Option (List ℕ)} (λ f. (f.0, Some f.1)) (faults js)
    ≡ map (λ j. (j.mark.id, text_of j.verdict)) (chosen (λ j. is_wrong j.verdict) js)
fault_texts_are [] = refl
fault_texts_are {State} (j ∷ js) = go j.verdict refl (fault_texts_are js)
  where
    paired : List (ℕ × List ℕ) → List (ℕ × Option (List ℕ))
    paired fs = map (λ f. (f.0, Some f.1)) fs

    wrongs : List (Judged State)
    wrongs = chosen (λ k. is_wrong k.verdict) js

    told : List (Judged State) → List (ℕ × Option (List ℕ))
    told ks = map (λ k. (k.mark.id, text_of k.verdict)) ks

    go : (v : Verdict) → j.verdict ≡ v → paired (faults js) ≡ told wrongs
        → paired (faults_with j.mark.id v (faults js)) ≡ told (if is_wrong v then j ∷ wrongs else wrongs)
    go good e h = h
    go (wrong t) e h = λ i. (j.mark.id, sym (ap text_of e) i) ∷ h i
