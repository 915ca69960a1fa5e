-- Flags that change leave works, bodies and soundness as they are.
use Rattle.std.proofs.Common.{◌≡◌, ℕ, suc, List, [], ◌∷◌, ◌++◌, map, Bool, true, false, refl, sym, ap, ◌∙◌}
use Rattle.line_theory.specs.Lists.{Every}
use Rattle.line_theory.specs.Shapes.{lone, block, closed, proof, last, zone}
use Rattle.doc_theory.specs.Documents.{
  Entry,
  delegates,
  Item,
  entries_of,
  entries,
  End,
  Focus,
  Document,
  Home,
  outside,
  home,
  flag,
  flag_item,
  flag_end,
  flag_focus,
  flagged,
  body_if,
  item_bodies,
  focus_bodies,
  bodies,
}
use Rattle.doc_theory.specs.Checks.{Check, through, named, work_if, works_of, item_works, focus_works, works, leaves}
use Rattle.doc_theory.specs.Invariants.{IsInner, Formed, FormedEnd, FormedFocus, Rises, RisesEnd, RisesFocus, Sound}
use Rattle.doc_theory.proofs.Works.{through_join}

pub through_flag : {State : Type 0} (L : Check State) (rule : Home → ℕ → Bool → Bool) (h : Home) (s : State) (b rest : List Entry)
    → through L s (map (flag rule h) b ++ rest) ≡ through L s (b ++ rest)
through_flag L rule h s [] rest = refl
through_flag L rule h s (e ∷ b) rest = through_flag L rule h (leaves L s e.id e.sentence) b rest

-- a closer with a flag of its own
through_closer : {State : Type 0} (L : Check State) (rule : Home → ℕ → Bool → Bool) (h : Home) (s : State) (b : List Entry) (c : Entry)
    → through L s (b ++ (flag rule h c ∷ [])) ≡ through L s (b ++ (c ∷ []))
through_closer L rule h s [] c = refl
through_closer L rule h s (e ∷ b) c = through_closer L rule h (leaves L s e.id e.sentence) b c

through_item : {State : Type 0} (L : Check State) (rule : Home → ℕ → Bool → Bool) (s : State) (x : Item)
    → through L s (entries_of (flag_item rule x)) ≡ through L s (entries_of x)
through_item L rule s (lone e) = refl
through_item L rule s (block l b c) =
    through_flag L rule (home (delegates c.sentence.kind) l.id) (leaves L s l.id l.sentence) b _
    ∙ through_closer L rule (home (delegates c.sentence.kind) l.id) (leaves L s l.id l.sentence) b c

through_items : {State : Type 0} (L : Check State) (rule : Home → ℕ → Bool → Bool) (s : State) (xs : List Item)
    → through L s (entries (map (flag_item rule) xs)) ≡ through L s (entries xs)
through_items L rule s [] = refl
through_items L rule s (x ∷ xs) = through_join L s (entries_of (flag_item rule x)) _
    ∙ ap (λ u. through L u (entries (map (flag_item rule) xs))) (through_item L rule s x)
    ∙ through_items L rule (through L s (entries_of x)) xs ∙ sym (through_join L s (entries_of x) (entries xs))

named_flag : (rule : Home → ℕ → Bool → Bool) (h : Home) (b : List Entry) → map named (map (flag rule h) b) ≡ map named b
named_flag rule h [] = refl
named_flag rule h (e ∷ b) = ap (λ z. named e ∷ z) (named_flag rule h b)

works_item : {State : Type 0} (L : Check State) (rule : Home → ℕ → Bool → Bool) (s : State) (x : Item)
    → works_of L s (flag_item rule x) ≡ works_of L s x
works_item L rule s (lone e) = refl
works_item L rule s (block l b c) = go (delegates c.sentence.kind) (home (delegates c.sentence.kind) l.id)
  where
    go : (r : Bool) (h : Home) → work_if L r s (flag rule outside l) (map (flag rule h) b) (flag rule h c) ≡ work_if L r s l b c
    go true h = ap (λ z. record { opened = leaves L s l.id l.sentence; lemma = l.id; inside = z; closer = named c } ∷ [])
        (named_flag rule h b)
    go false h = refl

works_items : {State : Type 0} (L : Check State) (rule : Home → ℕ → Bool → Bool) (s : State) (xs : List Item)
    → item_works L s (map (flag_item rule) xs) ≡ item_works L s xs
works_items L rule s [] = refl
works_items L rule s (x ∷ xs) = (λ i. works_item L rule s x i ++ item_works L (through_item L rule s x i) (map (flag_item rule) xs))
    ∙ ap (λ z. works_of L s x ++ z) (works_items L rule (through L s (entries_of x)) xs)

works_focus : {State : Type 0} (L : Check State) (rule : Home → ℕ → Bool → Bool) (s : State) (f : Focus)
    → focus_works L s (flag_focus rule f) ≡ focus_works L s f
works_focus L rule s (last o) = refl
works_focus L rule s (zone l b c t o) = ap (λ u. item_works L u (map (flag_item rule) t))
    (through_flag L rule outside (leaves L s l.id l.sentence) b _ ∙ through_closer L rule outside (leaves L s l.id l.sentence) b c)
    ∙ works_items L rule (through L s (l ∷ (b ++ (c ∷ [])))) t

pub works_flagged : {State : Type 0} (L : Check State) (rule : Home → ℕ → Bool → Bool) (d : Document)
    → works L (flagged rule d) ≡ works L d
works_flagged L rule d = (λ i. works_items L rule L.start d.items i ++ focus_works L (through_items L rule L.start d.items i)
    (flag_focus rule d.focus))
    ∙ ap (λ z. item_works L L.start d.items ++ z) (works_focus L rule (through L L.start (entries d.items)) d.focus)

bodies_items : (rule : Home → ℕ → Bool → Bool) (xs : List Item) → item_bodies (map (flag_item rule) xs) ≡ item_bodies xs
bodies_items rule [] = refl
bodies_items rule (lone e ∷ xs) = bodies_items rule xs
bodies_items rule (block l b c ∷ xs) = ap (body_if (delegates c.sentence.kind) l.id) (bodies_items rule xs)

bodies_focus : (rule : Home → ℕ → Bool → Bool) (f : Focus) → focus_bodies (flag_focus rule f) ≡ focus_bodies f
bodies_focus rule (last o) = refl
bodies_focus rule (zone l b c t o) = bodies_items rule t

pub bodies_flagged : (rule : Home → ℕ → Bool → Bool) (d : Document) → bodies (flagged rule d) ≡ bodies d
bodies_flagged rule d = λ i. bodies_items rule d.items i ++ bodies_focus rule d.focus i

inner_flag : (rule : Home → ℕ → Bool → Bool) (h : Home) (b : List Entry) → Every IsInner b → Every IsInner (map (flag rule h) b)
inner_flag rule h [] k = tt
inner_flag rule h (e ∷ b) k = (k.0, inner_flag rule h b k.1)

formed_flag : (rule : Home → ℕ → Bool → Bool) (xs : List Item) → Every Formed xs → Every Formed (map (flag_item rule) xs)
formed_flag rule [] k = tt
formed_flag rule (lone e ∷ xs) k = (tt, formed_flag rule xs k.1)
formed_flag rule (block l b c ∷ xs) k = (inner_flag rule _ b k.0, formed_flag rule xs k.1)

formed_end : (rule : Home → ℕ → Bool → Bool) (o : End) → FormedEnd o → FormedEnd (flag_end rule o)
formed_end rule closed k = tt
formed_end rule (proof l b) k = inner_flag rule outside b k

formed_focus : (rule : Home → ℕ → Bool → Bool) (f : Focus) → FormedFocus f → FormedFocus (flag_focus rule f)
formed_focus rule (last o) k = formed_end rule o k
formed_focus rule (zone l b c t o) k = (inner_flag rule outside b k.0, (k.1.0, (formed_flag rule t k.1.1.0, formed_end rule o k.1.1.1)))

rises_flag : (rule : Home → ℕ → Bool → Bool) (lo hi : ℕ) (xs : List Item) → Rises lo xs hi → Rises lo (map (flag_item rule) xs) hi
rises_flag rule lo hi [] k = k
rises_flag rule lo hi (lone e ∷ xs) k = rises_flag rule lo hi xs k
rises_flag rule lo hi (block l b c ∷ xs) k = (k.0, rises_flag rule (suc l.id) hi xs k.1)

rises_end : (rule : Home → ℕ → Bool → Bool) (lo hi : ℕ) (o : End) → RisesEnd lo o hi → RisesEnd lo (flag_end rule o) hi
rises_end rule lo hi closed k = k
rises_end rule lo hi (proof l b) k = k

rises_focus : (rule : Home → ℕ → Bool → Bool) (lo hi : ℕ) (f : Focus) → RisesFocus lo f hi → RisesFocus lo (flag_focus rule f) hi
rises_focus rule lo hi (last o) k = rises_end rule lo hi o k
rises_focus rule lo hi (zone l b c t o) k = (k.0, (k.1.0, (rises_flag rule (suc l.id) k.1.0 t k.1.1.0, rises_end rule k.1.0 hi o k.1.1.1)))

pub sound_flagged : (rule : Home → ℕ → Bool → Bool) (d : Document) → Sound d → Sound (flagged rule d)
sound_flagged rule d s = record {
  items = formed_flag rule d.items s.items;
  focus = formed_focus rule d.focus s.focus;
  middle = s.middle;
  rises = rises_flag rule 0 s.middle d.items s.rises;
  ends = rises_focus rule s.middle d.next d.focus s.ends;
}
