-- The entries by id behind a sentence that was added are those of the document behind it.
use Rattle.std.proofs.Common.{◌≡◌, ℕ, suc, ◌<◌, ◌≤◌, nat_eq, ◌||◌, if◌then◌else◌, List, [], ◌∷◌, ◌++◌, Bool, true, false, None, refl, sym, ap, ◌∙◌, subst}
use Rattle.line_theory.specs.Lists.{has, Distinct}
use Rattle.line_theory.specs.Shapes.{lone, block, closed, proof, last, zone}
use Rattle.line_theory.proofs.Lists.{has_left, has_right, not_either, absent_parts, distinct_back, every_join, every_parts}
use Rattle.doc_theory.specs.Documents.{
  Kind,
  plain,
  begin,
  inner,
  close,
  qed,
  admitted,
  defined,
  abort,
  Sentence,
  Entry,
  delegates,
  Item,
  End,
  Focus,
  Document,
  untold,
  set,
  fall,
  entries,
  end_entries,
  focus_entries,
  live,
}
use Rattle.serapi_ans.specs.declared.line.Exn.TheVariants as exn
use Rattle.doc_theory.specs.Editing.{refused, added, is_full, grown, fresh, refolded, attempt_at, attempt}
use Rattle.doc_theory.specs.Line.{line, HasIds}
use Rattle.doc_theory.specs.Invariants.{IfAdded}
use Rattle.doc_theory.proofs.Places.{named, named_join, entries_join, of_items, zone_parts}
use Rattle.doc_theory.proofs.Ids.{other_back}
use Rattle.doc_store.proofs.Filled.{Agrees}
use Rattle.doc_store.proofs.Apart.{within, apart, apart_back, not_at, here, there, same_part, fallen_part}

-- ---- what changes

-- the sentences whose flags fall when one of a kind is added
abbrev pub fallen_if : Bool → List Entry → List ℕ
fallen_if true b = named b
fallen_if false b = []

abbrev pub fallen_in : Sentence → Kind → Focus → List ℕ
fallen_in x (close k) (last (proof l b)) = fallen_if (delegates x.kind) b
fallen_in x (close k) (last closed) = []
fallen_in x (close k) (zone l b c t o) = named b
fallen_in x inner (zone l b c t o) = c.id ∷ []
fallen_in x inner (last o) = []
fallen_in x plain f = []
fallen_in x begin f = []

-- the id that it has
abbrev pub id_in : ℕ → Kind → Focus → ℕ
id_in n (close k) (zone l b c t o) = c.id
id_in n (close k) (last o) = n
id_in n plain f = n
id_in n begin f = n
id_in n inner f = n

-- the entries by id behind it: one is new, these fell, and the others stay
pub record Adds (f g : ℕ → Entry) (x : Sentence) (i : ℕ) (gone : List ℕ) : Type 0 where
  pub new : g i ≡ untold i x
  pub fallen : (n : ℕ) → has n gone ≡ true → nat_eq n i ≡ false → g n ≡ set (λ t. false) (f n)
  pub kept : (n : ℕ) → has n gone ≡ false → nat_eq n i ≡ false → g n ≡ f n

-- ---- the document behind it

pub if_grown : (P : Document → Type 0) (d : Document) (p : ℕ) (a : List Item) (f : Focus)
    → P (record { items = a; focus = f; next = suc d.next; limit = d.limit }) → IfAdded P (grown d p a f)
if_grown P d p a f h = go (is_full d)
  where
    go : (b : Bool) → IfAdded P (if b then refused (exn.TooMany p) else added (record {
      items = a;
      focus = f;
      next = suc d.next;
      limit = d.limit;
    }) d.next None)
    go true = tt
    go false = h

module _ (f g : ℕ → Entry) where
  more_items : (a t : List Item) → Agrees g (entries a) → Agrees g (entries t) → Agrees g (entries (a ++ t))
  more_items a t h k = subst (Agrees g) (sym (entries_join a t)) (every_join (λ e. g e.id ≡ e) (entries a) (entries t) h k)

  -- a part of which nothing changes
  stays : {x : Sentence} {i : ℕ} {gone : List ℕ} (es : List Entry) → Adds f g x i gone → Agrees f es
      → ((n : ℕ) → has n (named es) ≡ true → has n gone ≡ false) → ((n : ℕ) → has n (named es) ≡ true → nat_eq n i ≡ false) → Agrees g es
  stays es w h away other = same_part f g es h (λ n m. w.kept n (away n m) (other n m))

  -- the inside of a block that is closed
  falls_by : (r : Bool) (b : List Entry) {x : Sentence} {i : ℕ} → Adds f g x i (fallen_if r b) → Agrees f b
      → ((n : ℕ) → has n (named b) ≡ true → nat_eq n i ≡ false) → Agrees g (fall r b)
  falls_by true b w h other = fallen_part f g b h (λ n m. w.fallen n m (other n m))
  falls_by false b w h other = stays b w h (λ n m. refl) other

  away_by : (r : Bool) (b : List Entry) (n : ℕ) → has n (named b) ≡ false → has n (fallen_if r b) ≡ false
  away_by true b n h = h
  away_by false b n h = refl

  module _ (d : Document) (p : ℕ) (x : Sentence) where
    abbrev IsBehind : Document → Type 0
    IsBehind e = Agrees g (live e)

    -- the parts of what was there, with no zone
    at_end : (o : End) → Agrees f (entries d.items ++ end_entries o) → Agrees f (entries d.items) × Agrees f (end_entries o)
    at_end o h = every_parts (λ e. f e.id ≡ e) (entries d.items) (end_entries o) h

    in_items : (es : List Entry) (n : ℕ) → has n (of_items d.items) ≡ true → has n (named (entries d.items ++ es)) ≡ true
    in_items es n m = subst (λ z. has n z ≡ true) (sym (named_join (entries d.items) es)) (has_left n (of_items d.items) (named es) m)

    in_focus : (es : List Entry) (n : ℕ) → has n (named es) ≡ true → has n (named (entries d.items ++ es)) ≡ true
    in_focus es n m = subst (λ z. has n z ≡ true) (sym (named_join (entries d.items) es)) (has_right n (of_items d.items) (named es) m)

    -- a lone sentence, or a lemma, at the end
    plain_behind : (low : (n : ℕ) → has n (named (entries d.items ++ [])) ≡ true → nat_eq n d.next ≡ false)
        → Agrees f (entries d.items ++ []) → Adds f g x d.next [] → Agrees g (entries d.items)
    plain_behind low h w = stays (entries d.items) w (at_end closed h).0 (λ n m. refl) (λ n m. low n (in_items [] n m))

    closing_behind : (r : Bool) (l : Entry) (b : List Entry)
        → ((n : ℕ) → has n (named (entries d.items ++ (l ∷ b))) ≡ true → nat_eq n d.next ≡ false)
        → Distinct (named (entries d.items ++ (l ∷ b))) → Agrees f (entries d.items ++ (l ∷ b)) → Adds f g x d.next (fallen_if r b)
        → Agrees g (entries (d.items ++ (block l (fall r b) (fresh d x) ∷ [])) ++ [])
    closing_behind r l b low u h w =
        let v : Distinct (of_items d.items ++ (l.id ∷ named b)) = subst Distinct (named_join (entries d.items) (l ∷ b)) u in
        let k : Agrees f (entries d.items) × Agrees f (l ∷ b) = at_end (proof l b) h in
        let inside : (n : ℕ) → has n (named b) ≡ true → nat_eq n d.next ≡ false =
        λ n m. low n (in_focus (l ∷ b) n (there n l.id (named b) m)) in
        let front : Agrees g (entries d.items) = stays (entries d.items) w k.0
        (λ n m. away_by r b n (absent_parts n (l.id ∷ []) (named b) (apart (of_items d.items) (l.id ∷ named b) v n m)).1)
        (λ n m. low n (in_items (l ∷ b) n m)) in
        let lemma : g l.id ≡ l = w.kept l.id (away_by r b l.id (distinct_back (of_items d.items) (l.id ∷ named b) v).0)
        (low l.id (in_focus (l ∷ b) l.id (here l.id (named b)))) ∙ k.1.0 in
        every_join (λ e. g e.id ≡ e) (entries (d.items ++ (block l (fall r b) (fresh d x) ∷ []))) []
        (more_items d.items (block l (fall r b) (fresh d x) ∷ []) front (every_join (λ e. g e.id ≡ e)
        (l ∷ (fall r b ++ (fresh d x ∷ []))) []
        (lemma, every_join (λ e. g e.id ≡ e) (fall r b) (fresh d x ∷ []) (falls_by r b w k.1.1 inside) (w.new, tt)) tt)) tt

    -- ---- with a zone

    module _ (l : Entry) (b : List Entry) (c : Entry) (t : List Item) (o : End)
        (u : Distinct (named (entries d.items ++ focus_entries (zone l b c t o))))
        (h : Agrees f (entries d.items ++ focus_entries (zone l b c t o))) where
      abbrev tail : List Entry
      tail = entries t ++ end_entries o

      abbrev rest : List ℕ
      rest = of_items t ++ named (end_entries o)

      v : Distinct (of_items d.items ++ (l.id ∷ (named b ++ (c.id ∷ rest))))
      v = subst Distinct (named_join (entries d.items) (focus_entries (zone l b c t o))
          ∙ ap (λ z. of_items d.items ++ z) (zone_parts l b c t o)) u

      v_zone : Distinct (l.id ∷ (named b ++ (c.id ∷ rest)))
      v_zone = distinct_back (of_items d.items) (l.id ∷ (named b ++ (c.id ∷ rest))) v

      v_kept : Distinct (c.id ∷ rest)
      v_kept = distinct_back (named b) (c.id ∷ rest) v_zone.1

      parts : Agrees f (entries d.items) × Agrees f (l ∷ (b ++ (c ∷ tail)))
      parts = every_parts (λ e. f e.id ≡ e) (entries d.items) (l ∷ (b ++ (c ∷ tail))) h

      inner_parts : Agrees f b × Agrees f (c ∷ tail)
      inner_parts = every_parts (λ e. f e.id ≡ e) b (c ∷ tail) parts.1.1

      tail_named : named tail ≡ rest
      tail_named = named_join (entries t) (end_entries o)

      -- where the ids of each part aren't
      of_front : (n : ℕ) → has n (of_items d.items) ≡ true → (has n (named b) ≡ false) × (has n (c.id ∷ rest) ≡ false)
      of_front n m = absent_parts n (named b) (c.id ∷ rest)
          (absent_parts n (l.id ∷ []) (named b ++ (c.id ∷ rest)) (apart (of_items d.items) (l.id ∷ (named b ++ (c.id ∷ rest))) v n m)).1

      of_lemma : (has l.id (named b) ≡ false) × (has l.id (c.id ∷ rest) ≡ false)
      of_lemma = absent_parts l.id (named b) (c.id ∷ rest) v_zone.0

      of_inside : (n : ℕ) → has n (named b) ≡ true → has n (c.id ∷ rest) ≡ false
      of_inside n m = apart (named b) (c.id ∷ rest) v_zone.1 n m

      of_tail : (n : ℕ) → has n (named tail) ≡ true → has n rest ≡ true
      of_tail n m = subst (λ z. has n z ≡ true) tail_named m

      tail_apart : (n : ℕ) → has n (named tail) ≡ true → nat_eq n c.id ≡ false
      tail_apart n m = not_at c.id n rest (of_tail n m) v_kept.0

      tail_away : (n : ℕ) → has n (named tail) ≡ true → has n (named b) ≡ false
      tail_away n m = apart_back (named b) (c.id ∷ rest) v_zone.1 n (there n c.id rest (of_tail n m))

      kept_away : has c.id (named b) ≡ false
      kept_away = apart_back (named b) (c.id ∷ rest) v_zone.1 c.id (here c.id rest)

      apart_kept : (n : ℕ) → has n (c.id ∷ rest) ≡ false → nat_eq n c.id ≡ false
      apart_kept n m = (not_either (nat_eq n c.id) (has n rest) m).0

      one_absent : (n m : ℕ) → nat_eq n m ≡ false → has n (m ∷ []) ≡ false
      one_absent n m e = ap (λ z. z || false) e

      zone_grown : ((n : ℕ) → has n (named (entries d.items ++ focus_entries (zone l b c t o))) ≡ true → nat_eq n d.next ≡ false)
          → Adds f g x d.next (c.id ∷ [])
          → Agrees g (entries d.items ++ focus_entries (zone l (b ++ (fresh d x ∷ [])) (set (λ u. false) c) t o))
      zone_grown low w =
          let known : (n : ℕ) → has n (l.id ∷ (named b ++ (c.id ∷ rest))) ≡ true → nat_eq n d.next ≡ false =
          λ n m. low n (in_focus (focus_entries (zone l b c t o)) n (subst (λ z. has n z ≡ true) (sym (zone_parts l b c t o)) m)) in
          let front : Agrees g (entries d.items) = stays (entries d.items) w parts.0
          (λ n m. one_absent n c.id (apart_kept n (of_front n m).1)) (λ n m. low n (in_items (focus_entries (zone l b c t o)) n m)) in
          let lemma : g l.id ≡ l = w.kept l.id (one_absent l.id c.id (apart_kept l.id of_lemma.1))
          (known l.id (here l.id (named b ++ (c.id ∷ rest)))) ∙ parts.1.0 in
          let inside : Agrees g b = stays b w inner_parts.0 (λ n m. one_absent n c.id (apart_kept n (of_inside n m)))
          (λ n m. known n (there n l.id (named b ++ (c.id ∷ rest)) (has_left n (named b) (c.id ∷ rest) m))) in
          let closer : g c.id ≡ set (λ u. false) c = w.fallen c.id (here c.id [])
          (known c.id (there c.id l.id (named b ++ (c.id ∷ rest)) (has_right c.id (named b) (c.id ∷ rest) (here c.id rest))))
          ∙ ap (set (λ u. false)) inner_parts.1.0 in
          let behind : Agrees g tail = stays tail w inner_parts.1.1 (λ n m. one_absent n c.id (tail_apart n m))
          (λ n m. known n (there n l.id (named b ++ (c.id ∷ rest)) (has_right n (named b) (c.id ∷ rest) (there n c.id rest (of_tail n m))))) in
          every_join (λ e. g e.id ≡ e) (entries d.items) (l ∷ ((b ++ (fresh d x ∷ [])) ++ (set (λ u. false) c ∷ tail))) front (
            lemma,
            every_join (λ e. g e.id ≡ e) (b ++ (fresh d x ∷ [])) (set (λ u. false) c ∷ tail)
                (every_join (λ e. g e.id ≡ e) b (fresh d x ∷ []) inside (w.new, tt)) (closer, behind),
          )

      zone_closed : Adds f g x c.id (named b) → Agrees g (live (refolded d x l b c t o))
      zone_closed w =
          let front : Agrees g (entries d.items) = stays (entries d.items) w parts.0 (λ n m. (of_front n m).0)
          (λ n m. apart_kept n (of_front n m).1) in
          let lemma : g l.id ≡ l = w.kept l.id of_lemma.0 (apart_kept l.id of_lemma.1) ∙ parts.1.0 in
          let inside : Agrees g (fall true b) = fallen_part f g b inner_parts.0 (λ n m. w.fallen n m (apart_kept n (of_inside n m))) in
          let behind : Agrees g tail = stays tail w inner_parts.1.1 tail_away tail_apart in
          let ends : Agrees g (entries t) × Agrees g (end_entries o) = every_parts (λ e. g e.id ≡ e) (entries t) (end_entries o) behind in
          every_join (λ e. g e.id ≡ e) (entries (d.items ++ (block l (fall true b) (untold c.id x) ∷ t))) (end_entries o)
          (more_items d.items (block l (fall true b) (untold c.id x) ∷ t) front (every_join (λ e. g e.id ≡ e)
          (l ∷ (fall true b ++ (untold c.id x ∷ []))) (entries t)
          (lemma, every_join (λ e. g e.id ≡ e) (fall true b) (untold c.id x ∷ []) inside (w.new, tt)) ends.0)) ends.1

    -- ---- each kind of sentence, and each place of the cursor

    pub added_at : (k : Kind) (F : Focus) → ((n : ℕ) → has n (named (entries d.items ++ focus_entries F)) ≡ true → nat_eq n d.next ≡ false)
        → Distinct (named (entries d.items ++ focus_entries F)) → Agrees f (entries d.items ++ focus_entries F)
        → Adds f g x (id_in d.next k F) (fallen_in x k F) → IfAdded IsBehind (attempt_at d p x k F)
    added_at plain (last closed) low u h w = if_grown IsBehind d p (d.items ++ (lone (fresh d x) ∷ [])) (last closed)
        (every_join (λ e. g e.id ≡ e) (entries (d.items ++ (lone (fresh d x) ∷ []))) []
        (more_items d.items (lone (fresh d x) ∷ []) (plain_behind low h w) (w.new, tt)) tt)
    added_at plain (last (proof l b)) low u h w = tt
    added_at plain (zone l b c t o) low u h w = tt
    added_at begin (last closed) low u h w = if_grown IsBehind d p d.items (last (proof (fresh d x) []))
        (every_join (λ e. g e.id ≡ e) (entries d.items) (fresh d x ∷ []) (plain_behind low h w) (w.new, tt))
    added_at begin (last (proof l b)) low u h w = tt
    added_at begin (zone l b c t o) low u h w = tt
    added_at inner (last closed) low u h w = tt
    added_at inner (last (proof l b)) low u h w =
        let k : Agrees f (entries d.items) × Agrees f (l ∷ b) = at_end (proof l b) h in
        if_grown IsBehind d p d.items (last (proof l (b ++ (fresh d x ∷ []))))
        (every_join (λ e. g e.id ≡ e) (entries d.items) (l ∷ (b ++ (fresh d x ∷ [])))
        (stays (entries d.items) w k.0 (λ n m. refl) (λ n m. low n (in_items (l ∷ b) n m))) (
          w.kept l.id refl (low l.id (in_focus (l ∷ b) l.id (here l.id (named b)))) ∙ k.1.0,
          every_join (λ e. g e.id ≡ e) b (fresh d x ∷ [])
              (stays b w k.1.1 (λ n m. refl) (λ n m. low n (in_focus (l ∷ b) n (there n l.id (named b) m)))) (w.new, tt),
        ))
    added_at inner (zone l b c t o) low u h w = if_grown IsBehind d p d.items (zone l (b ++ (fresh d x ∷ [])) (set (λ u. false) c) t o)
        (zone_grown l b c t o u h low w)
    added_at (close k) (last closed) low u h w = tt
    added_at (close k) (last (proof l b)) low u h w =
        if_grown IsBehind d p (d.items ++ (block l (fall (delegates x.kind) b) (fresh d x) ∷ [])) (last closed)
        (closing_behind (delegates x.kind) l b low u h w)
    added_at (close qed) (zone l b c t o) low u h w = zone_closed l b c t o u h w
    added_at (close admitted) (zone l b c t o) low u h w = zone_closed l b c t o u h w
    added_at (close defined) (zone l b c t o) low u h w = tt
    added_at (close abort) (zone l b c t o) low u h w = tt

-- the entries by id are those of the document that an added sentence leaves
pub attempt_agrees : (f g : ℕ → Entry) (d : Document) (p : ℕ) (x : Sentence) → HasIds d → Agrees f (live d)
    → Adds f g x (id_in d.next x.kind d.focus) (fallen_in x x.kind d.focus) → IfAdded (λ e. Agrees g (live e)) (attempt d p x)
attempt_agrees f g d p x ids h w = added_at f g d p x x.kind d.focus
    (λ n m. other_back n d.next (within (λ n. (2 ≤ n) × (n < d.next)) (line d) ids.bounds n m).1) ids.distinct h w
