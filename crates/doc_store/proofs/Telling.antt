-- The entries by id where a sentence is told are those of the document in which it is.
use Rattle.std.proofs.Common.{◌≡◌, ℕ, nat_eq, ◌||◌, if◌then◌else◌, List, [], ◌∷◌, ◌++◌, map, Bool, true, false, refl, ap, ◌∙◌}
use Rattle.line_theory.specs.Lists.{Every}
use Rattle.line_theory.specs.Shapes.{lone, block, closed, proof, last, zone}
use Rattle.line_theory.proofs.Lists.{every_join, every_parts}
use Rattle.doc_theory.specs.Documents.{Entry, delegates, Item, End, Focus, Document, Mark, Home, outside, body_of, home, mark, marks_of, item_marks, end_marks, focus_marks, entries, entries_of, end_entries, focus_entries, live, set, flag, flag_item, flag_end, flag_focus, telling, tell}
use Rattle.doc_store.specs.Stored.{Outside}
use Rattle.doc_store.proofs.Filled.{Agrees}

-- of these marks one with the id stands outside
abbrev pub AreOutside : ℕ → List Mark → Type 0
AreOutside i ms = Every (λ m. nat_eq m.id i ≡ true → m.home ≡ outside) ms

is_body_not : (n : ℕ) → body_of n ≡ outside → ⊥
is_body_not n h = absurd (cc)

other : (a : Bool) → (a ≡ true → ⊥) → a ≡ false
other true f = absurd (f refl)
other false f = refl

-- what is told is told
set_told : (e : Entry) (r : Bool) → (if r then set (λ t. true) e else e) ≡ set (λ t. t || (r || false)) e
set_told e true = go e.told
  where
    go : (t : Bool) → set (λ u. true) e ≡ set (λ u. t || true) e
    go true = refl
    go false = refl
set_told e false = go e.told refl
  where
    go : (t : Bool) → e.told ≡ t → e ≡ set (λ u. u || false) e
    go t h = λ i. record { id = e.id; sentence = e.sentence; told = back e.told i }
      where
        back : (u : Bool) → u ≡ (u || false)
        back true = refl
        back false = refl

module _ (i : ℕ) (f g : ℕ → Entry) (step : (n : ℕ) → g n ≡ (if nat_eq n i then set (λ t. true) (f n) else f n)) where
  abbrev rule : Home → ℕ → Bool → Bool
  rule = telling (i ∷ [])

  one_outside : (e : Entry) → f e.id ≡ e → g e.id ≡ flag rule outside e
  one_outside e h = step e.id ∙ ap (λ z. if nat_eq e.id i then set (λ t. true) z else z) h ∙ set_told e (nat_eq e.id i)

  one_inside : (n : ℕ) (e : Entry) → f e.id ≡ e → (nat_eq e.id i ≡ true → body_of n ≡ outside) → g e.id ≡ flag rule (body_of n) e
  one_inside n e h o = step e.id ∙ ap (λ r. if r then set (λ t. true) (f e.id) else f e.id)
      (other (nat_eq e.id i) (λ r. is_body_not n (o r))) ∙ h

  all_outside : (b : List Entry) → Agrees f b → Agrees g (map (flag rule outside) b)
  all_outside [] h = tt
  all_outside (e ∷ es) h = (one_outside e h.0, all_outside es h.1)

  at_home : (r : Bool) (n : ℕ) (b : List Entry) → Agrees f b → AreOutside i (map (mark (home r n)) b) → Agrees g (map (flag rule (home r n)) b)
  at_home r n [] h o = tt
  at_home true n (e ∷ es) h o = (one_inside n e h.0 o.0, at_home true n es h.1 o.1)
  at_home false n (e ∷ es) h o = (one_outside e h.0, at_home false n es h.1 o.1)

  one_home : (r : Bool) (n : ℕ) (c : Entry) → f c.id ≡ c → (nat_eq c.id i ≡ true → home r n ≡ outside) → g c.id ≡ flag rule (home r n) c
  one_home true n c h o = one_inside n c h o
  one_home false n c h o = one_outside c h

  item_told : (x : Item) → Agrees f (entries_of x) → AreOutside i (marks_of x) → Agrees g (entries_of (flag_item rule x))
  item_told (lone e) h o = (one_outside e h.0, tt)
  item_told (block l b c) h o =
      let r : Bool = delegates c.sentence.kind in
      let parts : Agrees f b × Agrees f (c ∷ []) = every_parts (λ e. f e.id ≡ e) b (c ∷ []) h.1 in
      let places : AreOutside i (map (mark (home r l.id)) b) × AreOutside i (mark (home r l.id) c ∷ []) =
      every_parts (λ m. nat_eq m.id i ≡ true → m.home ≡ outside) (map (mark (home r l.id)) b) (mark (home r l.id) c ∷ []) o.1 in (
        one_outside l h.0,
        every_join (λ e. g e.id ≡ e) (map (flag rule (home r l.id)) b) (flag rule (home r l.id) c ∷ [])
            (at_home r l.id b parts.0 places.0) (one_home r l.id c parts.1.0 places.1.0, tt),
      )

  items_told : (xs : List Item) → Agrees f (entries xs) → AreOutside i (item_marks xs) → Agrees g (entries (map (flag_item rule) xs))
  items_told [] h o = tt
  items_told (x ∷ xs) h o =
      let parts : Agrees f (entries_of x) × Agrees f (entries xs) = every_parts (λ e. f e.id ≡ e) (entries_of x) (entries xs) h in
      let places : AreOutside i (marks_of x) × AreOutside i (item_marks xs) =
      every_parts (λ m. nat_eq m.id i ≡ true → m.home ≡ outside) (marks_of x) (item_marks xs) o in
      every_join (λ e. g e.id ≡ e) (entries_of (flag_item rule x)) (entries (map (flag_item rule) xs))
      (item_told x parts.0 places.0) (items_told xs parts.1 places.1)

  end_told : (o : End) → Agrees f (end_entries o) → Agrees g (end_entries (flag_end rule o))
  end_told closed h = tt
  end_told (proof l b) h = (one_outside l h.0, all_outside b h.1)

  focus_told : (F : Focus) → Agrees f (focus_entries F) → AreOutside i (focus_marks F) → Agrees g (focus_entries (flag_focus rule F))
  focus_told (last o) h p = end_told o h
  focus_told (zone l b c t o) h p =
      let inside : Agrees f b × Agrees f (c ∷ (entries t ++ end_entries o)) =
      every_parts (λ e. f e.id ≡ e) b (c ∷ (entries t ++ end_entries o)) h.1 in
      let ends : Agrees f (entries t) × Agrees f (end_entries o) =
      every_parts (λ e. f e.id ≡ e) (entries t) (end_entries o) inside.1.1 in
      let places : AreOutside i (map (mark outside) b) × AreOutside i (mark outside c ∷ (item_marks t ++ end_marks o)) =
      every_parts (λ m. nat_eq m.id i ≡ true → m.home ≡ outside) (map (mark outside) b) (mark outside c ∷ (item_marks t ++ end_marks o)) p.1 in
      let tails : AreOutside i (item_marks t) × AreOutside i (end_marks o) =
      every_parts (λ m. nat_eq m.id i ≡ true → m.home ≡ outside) (item_marks t) (end_marks o) places.1.1 in (
        one_outside l h.0,
        every_join (λ e. g e.id ≡ e) (map (flag rule outside) b)
            (flag rule outside c ∷ (entries (map (flag_item rule) t) ++ end_entries (flag_end rule o))) (all_outside b inside.0) (
              one_outside c inside.1.0,
              every_join (λ e. g e.id ≡ e) (entries (map (flag_item rule) t)) (end_entries (flag_end rule o))
                  (items_told t ends.0 tails.0) (end_told o ends.1),
            ),
      )

  pub tell_agrees : (d : Document) → Agrees f (live d) → Outside i d → Agrees g (live (tell (i ∷ []) d))
  tell_agrees d h o =
      let parts : Agrees f (entries d.items) × Agrees f (focus_entries d.focus) =
      every_parts (λ e. f e.id ≡ e) (entries d.items) (focus_entries d.focus) h in
      let places : AreOutside i (item_marks d.items) × AreOutside i (focus_marks d.focus) =
      every_parts (λ m. nat_eq m.id i ≡ true → m.home ≡ outside) (item_marks d.items) (focus_marks d.focus) o in
      every_join (λ e. g e.id ≡ e) (entries (map (flag_item rule) d.items)) (focus_entries (flag_focus rule d.focus))
      (items_told d.items parts.0 places.0) (focus_told d.focus parts.1 places.1)
