-- The lines of a block by the fold over the whole document are those of its check alone.
use Rattle.std.proofs.Common.{
  ◌≡◌,
  ◌⊎◌,
  inl,
  inr,
  ℕ,
  suc,
  ◌≤◌,
  ◌<◌,
  nat_eq,
  List,
  [],
  ◌∷◌,
  ◌++◌,
  map,
  Bool,
  true,
  false,
  if◌then◌else◌,
  refl,
  sym,
  ap,
  subst,
  ◌∙◌,
  append-nil,
  arith,
}
use Rattle.serapi_ans.specs.declared.line.Line.TheVariants.{Feedback}
use Rattle.serapi_ans.specs.declared.line.Line.{Line}
use Rattle.std.proofs.lemmas.Bool.Decides.{nat_tests}
use Rattle.line_theory.specs.Lists.{chosen}
use Rattle.doc_theory.specs.Lists.{Member}
use Rattle.line_theory.specs.Shapes.{lone, block, closed, proof, last, zone}
use Rattle.doc_theory.specs.Documents.{
  Entry,
  delegates,
  Item,
  entries_of,
  entries,
  End,
  Focus,
  Document,
  Home,
  outside,
  body_of,
  Mark,
  mark,
  home,
  marks_of,
  item_marks,
  end_marks,
  focus_marks,
}
use Rattle.doc_theory.specs.Checks.{
  Check,
  through,
  judged_from,
  Named,
  Work,
  named,
  work_if,
  item_works,
  focus_works,
  works,
  checked_from,
  text_of,
  leaves,
  verdict,
}
use Rattle.doc_theory.specs.Answers.{feedbacks}
use Rattle.doc_theory.specs.Histories.{is_home, result_lines}
use Rattle.doc_theory.specs.Invariants.{Rises, RisesFocus, Sound}
use Rattle.doc_theory.specs.Tasks.{task_lines}
use Rattle.line_theory.proofs.Lists.{test_same}
use Rattle.doc_theory.proofs.Lists.{member_parts}
use Rattle.doc_theory.proofs.Forgotten.{map_join}
use Rattle.doc_theory.proofs.Works.{through_join, rises_le, works_within, focus_works_above}

-- the state behind marks
abbrev pub passed : {State : Type 0} → Check State → State → List Mark → State
passed L s [] = s
passed L s (m ∷ ms) = passed L (leaves L s m.id m.sentence) ms

-- the lines of one block, of marks from a state on
abbrev reports : {State : Type 0} → Check State → ℕ → State → List Mark → List Line
reports L n s ms = feedbacks 1 (chosen (λ j. is_home n j.mark.home) (judged_from L s ms))

abbrev told_as : {State : Type 0} → Check State → State → List Named → List Line
told_as L s ns = map (λ t. Feedback t.id 1 (text_of t.verdict)) (checked_from L s ns)

reports_join : {State : Type 0} (L : Check State) (n : ℕ) (s : State) (a b : List Mark)
    → reports L n s (a ++ b) ≡ reports L n s a ++ reports L n (passed L s a) b
reports_join L n s [] b = refl
reports_join L n s (m ∷ a) b = go (is_home n m.home) (reports_join L n (leaves L s m.id m.sentence) a b)
  where
    go : (c : Bool)
        → reports L n (leaves L s m.id m.sentence) (a ++ b) ≡ reports L n (leaves L s m.id m.sentence) a ++ reports L n
        (passed L (leaves L s m.id m.sentence) a) b
        → feedbacks 1 (if c then record { mark = m; verdict = verdict L s m.id m.sentence; state = leaves L s m.id m.sentence }
        ∷ chosen (λ j. is_home n j.mark.home) (judged_from L (leaves L s m.id m.sentence) (a ++ b))
        else chosen (λ j. is_home n j.mark.home) (judged_from L (leaves L s m.id m.sentence) (a ++ b)))
        ≡ feedbacks 1 (if c then record { mark = m; verdict = verdict L s m.id m.sentence; state = leaves L s m.id m.sentence }
        ∷ chosen (λ j. is_home n j.mark.home) (judged_from L (leaves L s m.id m.sentence) a)
        else chosen (λ j. is_home n j.mark.home) (judged_from L (leaves L s m.id m.sentence) a))
        ++ reports L n (passed L (leaves L s m.id m.sentence) a) b
    go true h = ap (λ z. Feedback m.id 1 (text_of (verdict L s m.id m.sentence)) ∷ z) h
    go false h = h

passed_join : {State : Type 0} (L : Check State) (s : State) (a b : List Mark) → passed L s (a ++ b) ≡ passed L (passed L s a) b
passed_join L s [] b = refl
passed_join L s (m ∷ a) b = passed_join L (leaves L s m.id m.sentence) a b

pub passed_marks : {State : Type 0} (L : Check State) (h : Home) (s : State) (b : List Entry)
    → passed L s (map (mark h) b) ≡ through L s b
passed_marks L h s [] = refl
passed_marks L h s (e ∷ b) = passed_marks L h (leaves L s e.id e.sentence) b

body_join : (h : Home) (b : List Entry) (c : Entry) → map (mark h) b ++ (mark h c ∷ []) ≡ map (mark h) (b ++ (c ∷ []))
body_join h b c = sym (map_join (mark h) b (c ∷ []))

named_join : (b : List Entry) (c : Entry) → map named (b ++ (c ∷ [])) ≡ map named b ++ (named c ∷ [])
named_join b c = map_join named b (c ∷ [])

pub passed_item : {State : Type 0} (L : Check State) (s : State) (x : Item) → passed L s (marks_of x) ≡ through L s (entries_of x)
passed_item L s (lone e) = refl
passed_item L s (block l b c) = go (home (delegates c.sentence.kind) l.id)
  where
    go : (h : Home)
        → passed L (leaves L s l.id l.sentence) (map (mark h) b ++ (mark h c ∷ [])) ≡ through L (leaves L s l.id l.sentence) (b ++ (c ∷ []))
    go h = ap (passed L (leaves L s l.id l.sentence)) (body_join h b c) ∙ passed_marks L h (leaves L s l.id l.sentence) (b ++ (c ∷ []))

pub passed_items : {State : Type 0} (L : Check State) (s : State) (xs : List Item) → passed L s (item_marks xs) ≡ through L s (entries xs)
passed_items L s [] = refl
passed_items L s (x ∷ xs) = passed_join L s (marks_of x) (item_marks xs) ∙ ap (λ u. passed L u (item_marks xs)) (passed_item L s x)
    ∙ passed_items L (through L s (entries_of x)) xs ∙ sym (through_join L s (entries_of x) (entries xs))

-- ---- one block

reports_outside : {State : Type 0} (L : Check State) (n : ℕ) (s : State) (b : List Entry) → reports L n s (map (mark outside) b) ≡ []
reports_outside L n s [] = refl
reports_outside L n s (e ∷ b) = reports_outside L n (leaves L s e.id e.sentence) b

reports_body : {State : Type 0} (L : Check State) (n m : ℕ) (s : State) (b : List Entry) → (nat_eq n m) ≡ true
    → reports L n s (map (mark (body_of m)) b) ≡ told_as L s (map named b)
reports_body L n m s [] h = refl
reports_body L n m s (e ∷ b) h =
    ap (λ c. feedbacks 1 (if c then record {
      mark = mark (body_of m) e;
      verdict = verdict L s e.id e.sentence;
      state =
          leaves L s e.id e.sentence;
    } ∷ chosen (λ j. is_home n j.mark.home) (judged_from L (leaves L s e.id e.sentence)
    (map (mark (body_of m)) b))
    else chosen (λ j. is_home n j.mark.home) (judged_from L (leaves L s e.id e.sentence) (map (mark (body_of m)) b)))) h
    ∙ ap (λ z. Feedback e.id 1 (text_of (verdict L s e.id e.sentence)) ∷ z) (reports_body L n m (leaves L s e.id e.sentence) b h)

reports_other : {State : Type 0} (L : Check State) (n m : ℕ) (s : State) (b : List Entry) → (nat_eq n m) ≡ false
    → reports L n s (map (mark (body_of m)) b) ≡ []
reports_other L n m s [] h = refl
reports_other L n m s (e ∷ b) h =
    ap (λ c. feedbacks 1 (if c then record {
      mark = mark (body_of m) e;
      verdict = verdict L s e.id e.sentence;
      state =
          leaves L s e.id e.sentence;
    } ∷ chosen (λ j. is_home n j.mark.home) (judged_from L (leaves L s e.id e.sentence)
    (map (mark (body_of m)) b))
    else chosen (λ j. is_home n j.mark.home) (judged_from L (leaves L s e.id e.sentence) (map (mark (body_of m)) b)))) h
    ∙ reports_other L n m (leaves L s e.id e.sentence) b h

test_other : (m n : ℕ) → (m < n) ⊎ (n < m) → (nat_eq n m) ≡ false
test_other m n (inl h) = grind (arith, nat_tests)
test_other m n (inr h) = grind (arith, nat_tests)

-- a block with another lemma gives nothing
item_other : {State : Type 0} (L : Check State) (n : ℕ) (s : State) (l : Entry) (b : List Entry) (c : Entry) → (nat_eq n l.id) ≡ false
    → reports L n s (marks_of (block l b c)) ≡ []
item_other L n s l b c h = go (delegates c.sentence.kind)
  where
    go : (r : Bool) → reports L n (leaves L s l.id l.sentence) (map (mark (home r l.id)) b ++ (mark (home r l.id) c ∷ [])) ≡ []
    go true = ap (reports L n (leaves L s l.id l.sentence)) (body_join (body_of l.id) b c)
        ∙ reports_other L n l.id (leaves L s l.id l.sentence) (b ++ (c ∷ [])) h
    go false = ap (reports L n (leaves L s l.id l.sentence)) (body_join outside b c)
        ∙ reports_outside L n (leaves L s l.id l.sentence) (b ++ (c ∷ []))

-- items whose lemmas are all before or all behind a number give nothing for it
reports_none : {State : Type 0} (L : Check State) (n : ℕ) (s : State) (lo hi : ℕ) (xs : List Item) → Rises lo xs hi → (n < lo) ⊎ (hi ≤ n)
    → reports L n s (item_marks xs) ≡ []
reports_none L n s lo hi [] h k = refl
reports_none L n s lo hi (lone e ∷ xs) h k = reports_none L n (leaves L s e.id e.sentence) lo hi xs h k
reports_none L n s lo hi (block l b c ∷ xs) h k =
    reports_join L n s (marks_of (block l b c)) (item_marks xs)
    ∙ ap (λ z. z ++ reports L n (passed L s (marks_of (block l b c))) (item_marks xs))
    (item_other L n s l b c (test_other l.id n (side k)))
    ∙ reports_none L n (passed L s (marks_of (block l b c))) (suc l.id) hi xs h.1 (beyond k)
  where
    side : (n < lo) ⊎ (hi ≤ n) → (l.id < n) ⊎ (n < l.id)
    side (inl e) = inr (omega (arith, e, h.0))
    side (inr e) = let q = rises_le (suc l.id) hi xs h.1 in inl (omega (arith, e, q))

    beyond : (n < lo) ⊎ (hi ≤ n) → (n < suc l.id) ⊎ (hi ≤ n)
    beyond (inl e) = inl (omega (arith, e, h.0))
    beyond (inr e) = inr e

-- items give for a work of theirs what its check gives
reports_items : {State : Type 0} (L : Check State) (w : Work State) (s : State) (lo hi : ℕ) (xs : List Item) → Rises lo xs hi
    → Member w (item_works L s xs) → reports L w.lemma s (item_marks xs) ≡ task_lines L w
reports_items L w s lo hi [] h m = absurd m
reports_items L w s lo hi (lone e ∷ xs) h m = reports_items L w (leaves L s e.id e.sentence) lo hi xs h m
reports_items {State} L w s lo hi (block l b c ∷ xs) h m =
    reports_join L w.lemma s (marks_of (block l b c)) (item_marks xs)
    ∙ ap (λ u. reports L w.lemma s (marks_of (block l b c)) ++ reports L w.lemma u (item_marks xs)) (passed_item L s (block l b c))
    ∙ go (delegates c.sentence.kind) refl (reports_items L w (through L s (l ∷ (b ++ (c ∷ [])))) (suc l.id) hi xs h.1) m
  where
    behind : State
    behind = through L s (l ∷ (b ++ (c ∷ [])))

    later : (Member w (item_works L behind xs) → reports L w.lemma behind (item_marks xs) ≡ task_lines L w)
        → Member w (item_works L behind xs)
        → reports L w.lemma s (marks_of (block l b c)) ++ reports L w.lemma behind (item_marks xs) ≡ task_lines L w
    later more e = let k = works_within L w behind (suc l.id) hi xs h.1 e in
        ap (λ z. z ++ reports L w.lemma behind (item_marks xs))
        (item_other L w.lemma s l b c (test_other l.id w.lemma (inl (omega (arith, k.0)))))
        ∙ more e

    this : Work State
    this = record { opened = leaves L s l.id l.sentence; lemma = l.id; inside = map named b; closer = named c }

    here : delegates c.sentence.kind ≡ true → w ≡ this
        → reports L w.lemma s (marks_of (block l b c)) ++ reports L w.lemma behind (item_marks xs) ≡ task_lines L w
    here d e = subst (λ v. reports L v.lemma s (marks_of (block l b c)) ++ reports L v.lemma behind (item_marks xs)
        ≡ task_lines L v) (sym e)
        (ap (λ z. reports L l.id s (marks_of (block l b c)) ++ z) (reports_none L l.id behind (suc l.id) hi xs h.1 (inl (omega arith)))
        ∙ append-nil (reports L l.id s (marks_of (block l b c)))
        ∙ ap (λ r. reports L l.id (leaves L s l.id l.sentence) (map (mark (home r l.id)) b ++ (mark (home r l.id) c ∷ []))) d
        ∙ ap (reports L l.id (leaves L s l.id l.sentence)) (body_join (body_of l.id) b c)
        ∙ reports_body L l.id l.id (leaves L s l.id l.sentence) (b ++ (c ∷ [])) (test_same l.id)
        ∙ ap (told_as L (leaves L s l.id l.sentence)) (named_join b c))

    go : (r : Bool) → delegates c.sentence.kind ≡ r
        → (Member w (item_works L behind xs) → reports L w.lemma behind (item_marks xs) ≡ task_lines L w)
        → Member w (work_if L r s l b c ++ item_works L behind xs)
        → reports L w.lemma s (marks_of (block l b c)) ++ reports L w.lemma behind (item_marks xs) ≡ task_lines L w
    go true d more (inl e) = here d e
    go true d more (inr e) = later more e
    go false d more e = later more e

-- ---- the whole document

reports_end : {State : Type 0} (L : Check State) (n : ℕ) (s : State) (o : End) → reports L n s (end_marks o) ≡ []
reports_end L n s closed = refl
reports_end L n s (proof l b) = reports_outside L n (leaves L s l.id l.sentence) b

-- a zone's block gives nothing; what it gives is of its tail
zone_reports : {State : Type 0} (L : Check State) (n : ℕ) (s : State) (l : Entry) (b : List Entry) (c : Entry) (t : List Item) (o : End)
    → reports L n s (focus_marks (zone l b c t o)) ≡ reports L n (through L s (l ∷ (b ++ (c ∷ [])))) (item_marks t)
zone_reports L n s l b c t o =
    reports_join L n (leaves L s l.id l.sentence) (map (mark outside) b) (mark outside c ∷ (item_marks t ++ end_marks o))
    ∙ ap (λ z. z ++ reports L n (passed L (leaves L s l.id l.sentence) (map (mark outside) b))
    (mark outside c ∷ (item_marks t ++ end_marks o))) (reports_outside L n (leaves L s l.id l.sentence) b)
    ∙ ap (λ u. reports L n (leaves L u c.id c.sentence) (item_marks t ++ end_marks o))
    (passed_marks L outside (leaves L s l.id l.sentence) b)
    ∙ ap (λ u. reports L n u (item_marks t ++ end_marks o)) (sym (through_join L (leaves L s l.id l.sentence) b (c ∷ [])))
    ∙ reports_join L n (through L s (l ∷ (b ++ (c ∷ [])))) (item_marks t) (end_marks o)
    ∙ ap (λ z. reports L n (through L s (l ∷ (b ++ (c ∷ [])))) (item_marks t) ++ z) (reports_end L n _ o)
    ∙ append-nil (reports L n (through L s (l ∷ (b ++ (c ∷ [])))) (item_marks t))

focus_none : {State : Type 0} (L : Check State) (n : ℕ) (s : State) (lo hi : ℕ) (f : Focus) → RisesFocus lo f hi → n < lo
    → reports L n s (focus_marks f) ≡ []
focus_none L n s lo hi (last o) h k = reports_end L n s o
focus_none L n s lo hi (zone l b c t o) h k = zone_reports L n s l b c t o
    ∙ reports_none L n _ (suc l.id) h.1.0 t h.1.1.0 (inl (omega (arith, h.0, k)))

focus_reports : {State : Type 0} (L : Check State) (w : Work State) (s : State) (lo hi : ℕ) (f : Focus) → RisesFocus lo f hi
    → Member w (focus_works L s f) → reports L w.lemma s (focus_marks f) ≡ task_lines L w
focus_reports L w s lo hi (last o) h m = absurd m
focus_reports L w s lo hi (zone l b c t o) h m = zone_reports L w.lemma s l b c t o ∙ reports_items L w _ (suc l.id) h.1.0 t h.1.1.0 m

-- the lines of a live block are those of its check
pub live_lines : {State : Type 0} (L : Check State) (d : Document) (w : Work State) → Sound d → Member w (works L d)
    → result_lines L d w.lemma ≡ task_lines L w
live_lines {State} L d w s m =
    reports_join L w.lemma L.start (item_marks d.items) (focus_marks d.focus)
    ∙ ap (λ u. reports L w.lemma L.start (item_marks d.items) ++ reports L w.lemma u (focus_marks d.focus))
    (passed_items L L.start d.items)
    ∙ go (member_parts w (item_works L L.start d.items) _ m)
  where
    at : State
    at = through L L.start (entries d.items)

    go : Member w (item_works L L.start d.items) ⊎ Member w (focus_works L at d.focus)
        → reports L w.lemma L.start (item_marks d.items) ++ reports L w.lemma at (focus_marks d.focus) ≡ task_lines L w
    go (inl k) = let low = works_within L w L.start 0 s.middle d.items s.rises k in
        ap (λ z. reports L w.lemma L.start (item_marks d.items) ++ z) (focus_none L w.lemma at s.middle d.next d.focus s.ends low.1)
        ∙ append-nil (reports L w.lemma L.start (item_marks d.items)) ∙ reports_items L w L.start 0 s.middle d.items s.rises k
    go (inr k) = let high = focus_works_above L w at s.middle d.next d.focus s.ends k in
        ap (λ z. z ++ reports L w.lemma at (focus_marks d.focus)) (reports_none L w.lemma L.start 0 s.middle d.items s.rises (inr high))
        ∙ focus_reports L w at s.middle d.next d.focus s.ends k
