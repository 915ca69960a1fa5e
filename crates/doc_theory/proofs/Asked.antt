-- A Join asks for what an Exec of the tip asks for: all delegated blocks.
use Rattle.std.proofs.Common.{
  ◌≡◌,
  ◌⊎◌,
  inl,
  inr,
  ℕ,
  nat_eq,
  List,
  [],
  ◌∷◌,
  ◌++◌,
  map,
  Bool,
  true,
  false,
  if◌then◌else◌,
  refl,
  sym,
  ap,
  subst,
  ◌∙◌,
}
use Rattle.line_theory.specs.Lists.{Every, has, chosen}
use Rattle.doc_theory.specs.Lists.{Member}
use Rattle.line_theory.specs.Shapes.{lone, block, last, zone}
use Rattle.doc_theory.specs.Documents.{Entry, delegates, Item, entries, Focus, focus_entries, end_entries, Document, Mark, marks, tip}
use Rattle.doc_theory.specs.Checks.{Check, through, judged_from, Work, work_if, item_works, focus_works, works, leaves}
use Rattle.doc_theory.specs.Histories.{up_to_closers}
use Rattle.doc_theory.specs.Line.{line, HasIds}
use Rattle.line_theory.proofs.Lists.{test_same, left_true, right_true, has_left, has_right}
use Rattle.doc_theory.proofs.Lists.{member_parts, every_of}
use Rattle.doc_theory.proofs.Forgotten.{map_join}
use Rattle.doc_theory.proofs.Places.{ids_line}
use Rattle.doc_theory.proofs.Ids.{before_tip}

abbrev named : List Entry → List ℕ
named b = map (λ e. e.id) b

-- the closer of a work is in the list
closer_there : {State : Type 0} (L : Check State) (w : Work State) (s : State) (xs : List Item) → Member w (item_works L s xs)
    → has w.closer.id (named (entries xs)) ≡ true
closer_there L w s [] m = absurd m
closer_there L w s (lone e ∷ xs) m = right_true (nat_eq w.closer.id e.id) (has w.closer.id (named (entries xs)))
    (closer_there L w (through L s (e ∷ [])) xs m)
closer_there {State} L w s (block l b c ∷ xs) m = subst (λ z. has w.closer.id z ≡ true)
    (sym (map_join (λ e. e.id) (l ∷ (b ++ (c ∷ []))) (entries xs)))
    (go (member_parts w (work_if L (delegates c.sentence.kind) s l b c) (item_works L (through L s (l ∷ (b ++ (c ∷ [])))) xs) m)
    (closer_there L w (through L s (l ∷ (b ++ (c ∷ [])))) xs))
  where
    this : (r : Bool) → Member w (work_if L r s l b c) → w.closer.id ≡ c.id
    this true (inl e) = ap (λ z. z.closer.id) e
    this true (inr e) = absurd e
    this false e = absurd e

    own : has c.id (named (l ∷ (b ++ (c ∷ [])))) ≡ true
    own = right_true (nat_eq c.id l.id) (has c.id (named (b ++ (c ∷ []))))
        (subst (λ z. has c.id z ≡ true) (sym (map_join (λ e. e.id) b (c ∷ []))) (has_right c.id (named b) (c.id ∷ [])
        (left_true (nat_eq c.id c.id) false (test_same c.id))))

    go : Member w (work_if L (delegates c.sentence.kind) s l b c) ⊎ Member w (item_works L (through L s (l ∷ (b ++ (c ∷ [])))) xs)
        → (Member w (item_works L (through L s (l ∷ (b ++ (c ∷ [])))) xs) → has w.closer.id (named (entries xs)) ≡ true)
        → has w.closer.id (named (l ∷ (b ++ (c ∷ []))) ++ named (entries xs)) ≡ true
    go (inl k) more = has_left w.closer.id (named (l ∷ (b ++ (c ∷ [])))) (named (entries xs))
        (subst (λ z. has z (named (l ∷ (b ++ (c ∷ [])))) ≡ true) (sym (this (delegates c.sentence.kind) k)) own)
    go (inr k) more = has_right w.closer.id (named (l ∷ (b ++ (c ∷ [])))) (named (entries xs)) (more k)

closer_in_focus : {State : Type 0} (L : Check State) (w : Work State) (s : State) (f : Focus) → Member w (focus_works L s f)
    → has w.closer.id (named (focus_entries f)) ≡ true
closer_in_focus L w s (last o) m = absurd m
closer_in_focus L w s (zone l b c t o) m = right_true (nat_eq w.closer.id l.id) _ (subst (λ z. has w.closer.id z ≡ true)
    (sym (map_join (λ e. e.id) b (c ∷ (entries t ++ end_entries o))))
    (has_right w.closer.id (named b) (c.id ∷ named (entries t ++ end_entries o)) (right_true (nat_eq w.closer.id c.id)
    (has w.closer.id (named (entries t ++ end_entries o)))
    (subst (λ z. has w.closer.id z ≡ true) (sym (map_join (λ e. e.id) (entries t) (end_entries o)))
    (has_left w.closer.id (named (entries t)) (named (end_entries o)) (closer_there L w (through L s (l ∷ (b ++ (c ∷ [])))) t m))))))

closer_live : {State : Type 0} (L : Check State) (d : Document) (w : Work State) → Member w (works L d) → has w.closer.id (line d) ≡ true
closer_live L d w m = subst (λ z. has w.closer.id z ≡ true) (sym (map_join (λ e. e.id) (entries d.items) (focus_entries d.focus)))
    (go (member_parts w (item_works L L.start d.items) (focus_works L (through L L.start (entries d.items)) d.focus) m))
  where
    go : Member w (item_works L L.start d.items) ⊎ Member w (focus_works L (through L L.start (entries d.items)) d.focus)
        → has w.closer.id (named (entries d.items) ++ named (focus_entries d.focus)) ≡ true
    go (inl k) = has_left w.closer.id (named (entries d.items)) (named (focus_entries d.focus)) (closer_there L w L.start d.items k)
    go (inr k) = has_right w.closer.id (named (entries d.items)) (named (focus_entries d.focus))
        (closer_in_focus L w (through L L.start (entries d.items)) d.focus k)

chosen_all : {A : Type 0} (p : A → Bool) (xs : List A) → Every (λ x. p x ≡ true) xs → chosen p xs ≡ xs
chosen_all p [] h = refl
chosen_all p (x ∷ xs) h = ap (λ b. if b then x ∷ chosen p xs else chosen p xs) h.0 ∙ ap (λ z. x ∷ z) (chosen_all p xs h.1)

judged_ids : {State : Type 0} (L : Check State) (s : State) (ms : List Mark)
    → map (λ j. j.mark.id) (judged_from L s ms) ≡ map (λ m. m.id) ms
judged_ids L s [] = refl
judged_ids L s (m ∷ ms) = ap (λ z. m.id ∷ z) (judged_ids L (leaves L s m.id m.sentence) ms)

pub join_asks_all : {State : Type 0} (L : Check State) (d : Document) → HasIds d → up_to_closers L d (tip d) ≡ works L d
join_asks_all L d h =
    ap (λ js. chosen (λ w. has w.closer.id (map (λ j. j.mark.id) js)) (works L d)) (before_tip L d h)
    ∙ ap (λ ns. chosen (λ w. has w.closer.id ns) (works L d)) (judged_ids L L.start (marks d) ∙ ids_line d)
    ∙ chosen_all (λ w. has w.closer.id (line d)) (works L d) (every_of (λ w. has w.closer.id (line d) ≡ true) (works L d)
    (closer_live L d))
