-- An Exec in turns: telling the first of what is due leaves the others due, as they were.
use Rattle.std.proofs.Common.{
  ◌≡◌,
  ℕ,
  zero,
  suc,
  ◌||◌,
  ◌&&◌,
  nat_eq,
  List,
  [],
  ◌∷◌,
  ◌++◌,
  map,
  take,
  drop,
  Bool,
  true,
  false,
  not,
  if◌then◌else◌,
  refl,
  sym,
  ap,
  subst,
  ◌∙◌,
}
use Rattle.line_theory.specs.Lists.{has, chosen, Distinct}
use Rattle.line_theory.specs.Shapes.{lone, block, closed, proof, last, zone}
use Rattle.doc_theory.specs.Documents.{
  Entry,
  delegates,
  Item,
  End,
  Focus,
  Document,
  Home,
  outside,
  body_of,
  home,
  Mark,
  mark,
  marks_of,
  item_marks,
  end_marks,
  focus_marks,
  marks,
  flag,
  flag_item,
  flag_end,
  flag_focus,
  telling,
  tell,
}
use Rattle.doc_theory.specs.Checks.{Check, Judged, judged_from, judged, up_to, before, leaves, verdict}
use Rattle.doc_theory.specs.Answers.{due, told_to}
use Rattle.doc_theory.specs.Line.{HasIds}
use Rattle.doc_theory.proofs.Lists.{test_is}
use Rattle.line_theory.proofs.Lists.{no, test_same}
use Rattle.doc_theory.proofs.Forgotten.{map_join}
use Rattle.doc_theory.proofs.Places.{ids_line}
use Rattle.doc_theory.proofs.Ids.{not_either}

-- a mark whose sentence is told with these ids
abbrev dim : List ℕ → Mark → Mark
dim ns m = record { id = m.id; sentence = m.sentence; home = m.home; due = m.due && not (has m.id ns) }

dim_outside : (ns : List ℕ) (e : Entry) → mark outside (flag (telling ns) outside e) ≡ dim ns (mark outside e)
dim_outside ns e = ap (λ t. record { id = e.id; sentence = e.sentence; home = outside; due = t }) (go e.told (has e.id ns))
  where
    go : (t h : Bool) → not (t || h) ≡ (not t && not h)
    go true h = refl
    go false h = refl

dim_body : (ns : List ℕ) (h : Home) (b : List Entry) → map (mark h) (map (flag (telling ns) h) b) ≡ map (dim ns) (map (mark h) b)
dim_body ns h [] = refl
dim_body ns outside (e ∷ b) = λ i. dim_outside ns e i ∷ dim_body ns outside b i
dim_body ns (body_of n) (e ∷ b) = ap (λ z. mark (body_of n) e ∷ z) (dim_body ns (body_of n) b)

dim_one : (ns : List ℕ) (h : Home) (e : Entry) → mark h (flag (telling ns) h e) ≡ dim ns (mark h e)
dim_one ns outside e = dim_outside ns e
dim_one ns (body_of n) e = refl

dim_item : (ns : List ℕ) (x : Item) → marks_of (flag_item (telling ns) x) ≡ map (dim ns) (marks_of x)
dim_item ns (lone e) = ap (λ z. z ∷ []) (dim_outside ns e)
dim_item ns (block l b c) = go (home (delegates c.sentence.kind) l.id)
  where
    go : (h : Home)
        → mark outside (flag (telling ns) outside l) ∷ (map (mark h) (map (flag (telling ns) h) b) ++ (mark h (flag (telling ns) h c) ∷ []))
        ≡ map (dim ns) (mark outside l ∷ (map (mark h) b ++ (mark h c ∷ [])))
    go h = (λ i. dim_outside ns l i ∷ (dim_body ns h b i ++ (dim_one ns h c i ∷ [])))
        ∙ ap (λ z. dim ns (mark outside l) ∷ z) (sym (map_join (dim ns) (map (mark h) b) (mark h c ∷ [])))

dim_items : (ns : List ℕ) (xs : List Item) → item_marks (map (flag_item (telling ns)) xs) ≡ map (dim ns) (item_marks xs)
dim_items ns [] = refl
dim_items ns (x ∷ xs) = (λ i. dim_item ns x i ++ dim_items ns xs i) ∙ sym (map_join (dim ns) (marks_of x) (item_marks xs))

dim_end : (ns : List ℕ) (o : End) → end_marks (flag_end (telling ns) o) ≡ map (dim ns) (end_marks o)
dim_end ns closed = refl
dim_end ns (proof l b) = λ i. dim_outside ns l i ∷ dim_body ns outside b i

dim_focus : (ns : List ℕ) (f : Focus) → focus_marks (flag_focus (telling ns) f) ≡ map (dim ns) (focus_marks f)
dim_focus ns (last o) = dim_end ns o
dim_focus ns (zone l b c t o) =
    (λ i. dim_outside ns l i ∷ (dim_body ns outside b i ++ (dim_outside ns c i ∷ (dim_items ns t i ++ dim_end ns o i))))
    ∙ ap (λ z. dim ns (mark outside l) ∷ (map (dim ns) (map (mark outside) b) ++ (dim ns (mark outside c) ∷ z)))
    (sym (map_join (dim ns) (item_marks t) (end_marks o)))
    ∙ ap (λ z. dim ns (mark outside l) ∷ z)
    (sym (map_join (dim ns) (map (mark outside) b) (mark outside c ∷ (item_marks t ++ end_marks o))))

dim_marks : (ns : List ℕ) (d : Document) → marks (tell ns d) ≡ map (dim ns) (marks d)
dim_marks ns d = (λ i. dim_items ns d.items i ++ dim_focus ns d.focus i)
    ∙ sym (map_join (dim ns) (item_marks d.items) (focus_marks d.focus))

-- ---- what is left

module _ {State : Type 0} (L : Check State) where
  abbrev dimmed : List ℕ → Judged State → Judged State
  dimmed ns j = record { mark = dim ns j.mark; verdict = j.verdict; state = j.state }

  dim_judged : (ns : List ℕ) (s : State) (ms : List Mark) → judged_from L s (map (dim ns) ms) ≡ map (dimmed ns) (judged_from L s ms)
  dim_judged ns s [] = refl
  dim_judged ns s (m ∷ ms) = ap (λ z. record {
    mark = dim ns m;
    verdict = verdict L s m.id m.sentence;
    state =
        leaves L s m.id m.sentence;
  } ∷ z) (dim_judged ns (leaves L s m.id m.sentence) ms)

  dim_up_to : (ns : List ℕ) (i : ℕ) (js : List (Judged State)) → up_to i (map (dimmed ns) js) ≡ map (dimmed ns) (up_to i js)
  dim_up_to ns i [] = refl
  dim_up_to ns i (j ∷ js) = go (nat_eq i j.mark.id) (dim_up_to ns i js)
    where
      go : (b : Bool) → up_to i (map (dimmed ns) js) ≡ map (dimmed ns) (up_to i js)
          → (if b then dimmed ns j ∷ [] else dimmed ns j ∷ up_to i (map (dimmed ns) js)) ≡ map (dimmed ns) (if b then j ∷ []
          else j ∷ up_to i js)
      go true h = refl
      go false h = ap (λ z. dimmed ns j ∷ z) h

  dim_before : (ns : List ℕ) (i : ℕ) (js : List (Judged State)) → before i (map (dimmed ns) js) ≡ map (dimmed ns) (before i js)
  dim_before ns i js = go (nat_eq 1 i) (dim_up_to ns i js)
    where
      go : (b : Bool) → up_to i (map (dimmed ns) js) ≡ map (dimmed ns) (up_to i js)
          → (if b then [] else up_to i (map (dimmed ns) js)) ≡ map (dimmed ns) (if b then [] else up_to i js)
      go true h = refl
      go false h = h

  -- what is due and isn't told with these ids
  still_due : (ns : List ℕ) (js : List (Judged State))
      → chosen (λ j. j.mark.due) (map (dimmed ns) js) ≡ chosen (λ j. not (has j.mark.id ns)) (chosen (λ j. j.mark.due) js)
  still_due ns [] = refl
  still_due ns (j ∷ js) = go j.mark.due (has j.mark.id ns) refl refl (still_due ns js)
    where
      both : (d h : Bool) → j.mark.due ≡ d → has j.mark.id ns ≡ h → (d && not h) ≡ true → d ≡ true → dimmed ns j ≡ j
      both d h p q r t = λ i. record {
        mark = record {
          id = j.mark.id;
          sentence = j.mark.sentence;
          home = j.mark.home;
          due =
              same i;
        };
        verdict = j.verdict;
        state = j.state;
      }
        where
          same : (j.mark.due && not (has j.mark.id ns)) ≡ j.mark.due
          same = (λ i. p i && not (q i)) ∙ r ∙ sym t ∙ sym p

      go : (d h : Bool) → j.mark.due ≡ d → has j.mark.id ns ≡ h
          → chosen (λ j. j.mark.due) (map (dimmed ns) js) ≡ chosen (λ j. not (has j.mark.id ns)) (chosen (λ j. j.mark.due) js)
          → (if j.mark.due && not (has j.mark.id ns) then dimmed ns j ∷ chosen (λ j. j.mark.due) (map (dimmed ns) js)
          else chosen (λ j. j.mark.due) (map (dimmed ns) js))
          ≡ chosen (λ j. not (has j.mark.id ns)) (if j.mark.due then j ∷ chosen (λ j. j.mark.due) js else chosen (λ j. j.mark.due) js)
      go false h p q k = (λ i. if p i && not (has j.mark.id ns) then dimmed ns j ∷ chosen (λ j. j.mark.due) (map (dimmed ns) js)
          else chosen (λ j. j.mark.due) (map (dimmed ns) js))
          ∙ k
          ∙ ap (λ b. chosen (λ j. not (has j.mark.id ns)) (if b then j ∷ chosen (λ j. j.mark.due) js
          else chosen (λ j. j.mark.due) js)) (sym p)
      go true true p q k = (λ i. if p i && not (q i) then dimmed ns j ∷ chosen (λ j. j.mark.due) (map (dimmed ns) js)
          else chosen (λ j. j.mark.due) (map (dimmed ns) js))
          ∙ k
          ∙ ap (λ b. if not b then j ∷ chosen (λ j. not (has j.mark.id ns)) (chosen (λ j. j.mark.due) js)
          else chosen (λ j. not (has j.mark.id ns)) (chosen (λ j. j.mark.due) js)) (sym q)
          ∙ ap (λ b. chosen (λ j. not (has j.mark.id ns)) (if b then j ∷ chosen (λ j. j.mark.due) js
          else chosen (λ j. j.mark.due) js)) (sym p)
      go true false p q k = (λ i. if p i && not (q i) then dimmed ns j ∷ chosen (λ j. j.mark.due) (map (dimmed ns) js)
          else chosen (λ j. j.mark.due) (map (dimmed ns) js))
          ∙ (λ i. both true false p q refl refl i ∷ k i)
          ∙ ap (λ b. if not b then j ∷ chosen (λ j. not (has j.mark.id ns)) (chosen (λ j. j.mark.due) js)
          else chosen (λ j. not (has j.mark.id ns)) (chosen (λ j. j.mark.due) js)) (sym q)
          ∙ ap (λ b. chosen (λ j. not (has j.mark.id ns)) (if b then j ∷ chosen (λ j. j.mark.due) js
          else chosen (λ j. j.mark.due) js)) (sym p)

  abbrev named : List (Judged State) → List ℕ
  named js = map (λ j. j.mark.id) js

  absent_chosen : (n : ℕ) (p : Judged State → Bool) (js : List (Judged State)) → has n (named js) ≡ false
      → has n (named (chosen p js)) ≡ false
  absent_chosen n p [] h = refl
  absent_chosen n p (j ∷ js) h = go (p j) (not_either (nat_eq n j.mark.id) (has n (named js)) h) (absent_chosen n p js)
    where
      go : (b : Bool) → ((nat_eq n j.mark.id) ≡ false) × (has n (named js) ≡ false)
          → (has n (named js) ≡ false → has n (named (chosen p js)) ≡ false)
          → has n (named (if b then j ∷ chosen p js else chosen p js)) ≡ false
      go true k f = λ i. k.0 i || f k.1 i
      go false k f = f k.1

  distinct_chosen : (p : Judged State → Bool) (js : List (Judged State)) → Distinct (named js) → Distinct (named (chosen p js))
  distinct_chosen p [] h = tt
  distinct_chosen p (j ∷ js) h = go (p j) (distinct_chosen p js h.1)
    where
      go : (b : Bool) → Distinct (named (chosen p js)) → Distinct (named (if b then j ∷ chosen p js else chosen p js))
      go true k = (absent_chosen j.mark.id p js h.0, k)
      go false k = k

  absent_up_to : (n i : ℕ) (js : List (Judged State)) → has n (named js) ≡ false → has n (named (up_to i js)) ≡ false
  absent_up_to n i [] h = refl
  absent_up_to n i (j ∷ js) h = go (nat_eq i j.mark.id) (not_either (nat_eq n j.mark.id) (has n (named js)) h) (absent_up_to n i js)
    where
      go : (b : Bool) → ((nat_eq n j.mark.id) ≡ false) × (has n (named js) ≡ false)
          → (has n (named js) ≡ false → has n (named (up_to i js)) ≡ false) → has n (named (if b then j ∷ [] else j ∷ up_to i js)) ≡ false
      go true k f = ap (λ b. b || false) k.0
      go false k f = λ x. k.0 x || f k.1 x

  distinct_up_to : (i : ℕ) (js : List (Judged State)) → Distinct (named js) → Distinct (named (up_to i js))
  distinct_up_to i [] h = tt
  distinct_up_to i (j ∷ js) h = go (nat_eq i j.mark.id) (distinct_up_to i js h.1)
    where
      go : (b : Bool) → Distinct (named (up_to i js)) → Distinct (named (if b then j ∷ [] else j ∷ up_to i js))
      go true k = (refl, tt)
      go false k = (absent_up_to j.mark.id i js h.0, k)

  distinct_before : (i : ℕ) (js : List (Judged State)) → Distinct (named js) → Distinct (named (before i js))
  distinct_before i js h = go (nat_eq 1 i)
    where
      go : (b : Bool) → Distinct (named (if b then [] else up_to i js))
      go true = tt
      go false = distinct_up_to i js h

  -- of a list, all but those among ids that aren't there
  all_stay : (js : List (Judged State)) → chosen (λ j. not (has j.mark.id [])) js ≡ js
  all_stay [] = refl
  all_stay (j ∷ js) = ap (λ z. j ∷ z) (all_stay js)

  -- an id that isn't in the list is no matter
  other_stays : (n : ℕ) (ns : List ℕ) (js : List (Judged State)) → has n (named js) ≡ false
      → chosen (λ j. not (has j.mark.id (n ∷ ns))) js ≡ chosen (λ j. not (has j.mark.id ns)) js
  other_stays n ns [] h = refl
  other_stays n ns (j ∷ js) h = (λ i. if not (flip i || has j.mark.id ns) then j ∷ chosen (λ j. not (has j.mark.id (n ∷ ns))) js
      else chosen (λ j. not (has j.mark.id (n ∷ ns))) js)
      ∙ ap (λ z. if not (has j.mark.id ns) then j ∷ z else z)
      (other_stays n ns js (not_either (nat_eq n j.mark.id) (has n (named js)) h).1)
    where
      flip : (nat_eq j.mark.id n) ≡ false
      flip = go (nat_eq j.mark.id n) refl
        where
          go : (b : Bool) → (nat_eq j.mark.id n) ≡ b → b ≡ false
          go true e = no (sym (not_either (nat_eq n j.mark.id) (has n (named js)) h).0 ∙
              ap (λ z. nat_eq n z) (sym (test_is n j.mark.id e)) ∙ test_same n)
          go false e = refl

  first_gone : (n : ℕ) (js : List (Judged State)) → Distinct (named js)
      → chosen (λ j. not (has j.mark.id (named (take n js)))) js ≡ drop n js
  first_gone zero js h = all_stay js
  first_gone (suc n) [] h = refl
  first_gone (suc n) (j ∷ js) h = ap (λ b. if not (b || has j.mark.id (named (take n js))) then j
      ∷ chosen (λ x. not (has x.mark.id (named (take (suc n) (j ∷ js))))) js
      else chosen (λ x. not (has x.mark.id (named (take (suc n) (j ∷ js))))) js) (test_same j.mark.id)
      ∙ other_stays j.mark.id (named (take n js)) js h.0 ∙ first_gone n js h.1

  judged_ids : (s : State) (ms : List Mark) → named (judged_from L s ms) ≡ map (λ m. m.id) ms
  judged_ids s [] = refl
  judged_ids s (m ∷ ms) = ap (λ z. m.id ∷ z) (judged_ids (leaves L s m.id m.sentence) ms)

  pub turn_left : (d : Document) (i n : ℕ) → HasIds d → due L (told_to (take n (due L d i)) d) i ≡ drop n (due L d i)
  turn_left d i n h =
      ap (λ ms. chosen (λ j. j.mark.due) (before i (judged_from L L.start ms))) (dim_marks (named (take n (due L d i))) d)
      ∙ ap (λ js. chosen (λ j. j.mark.due) (before i js)) (dim_judged (named (take n (due L d i))) L.start (marks d))
      ∙ ap (chosen (λ j. j.mark.due)) (dim_before (named (take n (due L d i))) i (judged L d))
      ∙ still_due (named (take n (due L d i))) (before i (judged L d))
      ∙ first_gone n (due L d i) (distinct_chosen (λ j. j.mark.due) (before i (judged L d))
      (distinct_before i (judged L d) (subst Distinct (sym (judged_ids L.start (marks d) ∙ ids_line d)) h.distinct)))
