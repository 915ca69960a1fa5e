-- A removal takes away at least as many sentences as delegated blocks.
use Rattle.std.proofs.Common.{
  ◌≡◌,
  ◌⊎◌,
  inl,
  inr,
  ℕ,
  suc,
  ◌+◌,
  ◌≤◌,
  List,
  [],
  ◌∷◌,
  ◌++◌,
  length,
  nat_eq,
  Bool,
  true,
  false,
  not,
  if◌then◌else◌,
  refl,
  sym,
  ap,
  ◌∙◌,
  arith,
  length-append,
  append-nil,
}
use Rattle.line_theory.specs.Lists.{Every, has, chosen, Distinct, missing_in}
use Rattle.doc_theory.specs.Lists.{Member}
use Rattle.line_theory.specs.Shapes.{lone, block, closed, proof, last, zone}
use Rattle.doc_theory.specs.Documents.{
  Entry,
  delegates,
  reopens,
  Item,
  entries,
  End,
  end_entries,
  Focus,
  focus_entries,
  Document,
  live,
  set,
  fall,
  body_if,
  item_bodies,
  focus_bodies,
  bodies,
}
use Rattle.doc_theory.specs.Editing.{
  Seat,
  among,
  at_lone,
  at_lemma,
  at_inner,
  at_closer,
  missing,
  open_lemma,
  open_inner,
  behind,
  nowhere,
  seat,
  refocus,
  only,
  unclose,
  reopen,
  reenter,
  lessened,
  shorten,
  remove_at,
  remove,
}
use Rattle.doc_theory.specs.Invariants.{IfChanged}
use Rattle.line_theory.proofs.Lists.{no, has_parts, has_left, has_right, either_true, left_true}
use Rattle.doc_theory.proofs.Lists.{every_of, every_at, chosen_member}
use Rattle.doc_theory.proofs.Works.{bodies_join}
use Rattle.doc_theory.proofs.Removed.{IsFront, IsSeat, seat_is}
use Rattle.doc_theory.proofs.Places.{entries_join}
use Rattle.doc_theory.proofs.Counting.{no_more, distinct_chosen, chosen_pass, none_missing, missing_more}

-- ---- sizes

body_few : (r : Bool) (n : ℕ) (ns : List ℕ) → length (body_if r n ns) ≤ suc (length ns)
body_few true n ns = omega arith
body_few false n ns = omega arith

pub bodies_few : (xs : List Item) → length (item_bodies xs) ≤ length (entries xs)
bodies_few [] = omega arith
bodies_few (lone e ∷ xs) = let h = bodies_few xs in omega (arith, h)
bodies_few (block l b c ∷ xs) =
    let h = bodies_few xs in
    let k = body_few (delegates c.sentence.kind) l.id (item_bodies xs) in
    let m = length-append (b ++ (c ∷ [])) (entries xs) in
    omega (arith, h, k, m)

pub focus_few : (f : Focus) → length (focus_bodies f) ≤ length (focus_entries f)
focus_few (last o) = omega arith
focus_few (zone l b c t o) =
    let h = bodies_few t in
    let k = length-append b (c ∷ (entries t ++ end_entries o)) in
    let m = length-append (entries t) (end_entries o) in
    omega (arith, h, k, m)

pub fall_size : (r : Bool) (b : List Entry) → length (fall r b) ≡ length b
fall_size false b = refl
fall_size true [] = refl
fall_size true (e ∷ b) = ap suc (fall_size true b)

block_size : (l : Entry) (f k : List Entry) (c : Entry) (t : List Item)
    → length (entries (block l (f ++ k) c ∷ t)) ≡ suc (suc (length f + length k + length (entries t)))
block_size l f k c t =
    let a = length-append ((f ++ k) ++ (c ∷ [])) (entries t) in
    let b = length-append (f ++ k) (c ∷ []) in
    let d = length-append f k in
    omega (arith, a, b, d)

zone_size : (l : Entry) (b : List Entry) (c : Entry) (t : List Item) (o : End)
    → length (focus_entries (zone l b c t o)) ≡ suc (suc (length b + (length (entries t) + length (end_entries o))))
zone_size l b c t o =
    let a = length-append b (c ∷ (entries t ++ end_entries o)) in
    let d = length-append (entries t) (end_entries o) in
    omega (arith, a, d)

-- ---- what goes

-- each delegated block of the first document is one of the second, or its lemma is among these, which are no more
-- than the sentences that went
pub record Loses (d e : Document) : Type 0 where
  pub gone : List ℕ
  pub parts : (n : ℕ) → has n (bodies d) ≡ true → (has n (bodies e) ≡ true) ⊎ (has n gone ≡ true)
  pub fewer : length gone + length (live e) ≤ length (live d)
  pub next : e.next ≡ d.next

loses_by : (d : Document) (f : Focus) (a r : List Item) → d.items ≡ a ++ r → (gone : List ℕ)
    → ((n : ℕ) → has n (item_bodies r ++ focus_bodies d.focus) ≡ true → (has n (focus_bodies f) ≡ true) ⊎ (has n gone ≡ true))
    → length gone + length (focus_entries f) ≤ length (entries r) + length (focus_entries d.focus) → Loses d (refocus a f d)
loses_by d f a r e gone parts fewer = record {
  gone = gone;
  parts = λ n h. go n (has_parts n (item_bodies a ++ item_bodies r) (focus_bodies d.focus)
      (ap (λ z. has n (z ++ focus_bodies d.focus)) (sym (ap item_bodies e ∙ bodies_join a r)) ∙ h));
  fewer =
      let x = length-append (entries d.items) (focus_entries d.focus) in
      let y : length (entries d.items) ≡ length (entries a ++ entries r) = ap length (ap entries e ∙ entries_join a r) in
      let z = length-append (entries a) (entries r) in
      let w = length-append (entries a) (focus_entries f) in
      omega (arith, fewer, x, y, z, w);
  next = refl;
}
  where
    rest : (n : ℕ) → has n (item_bodies r ++ focus_bodies d.focus) ≡ true
        → (has n (item_bodies a ++ focus_bodies f) ≡ true) ⊎ (has n gone ≡ true)
    rest n h = at (parts n h)
      where
        at : (has n (focus_bodies f) ≡ true) ⊎ (has n gone ≡ true)
            → (has n (item_bodies a ++ focus_bodies f) ≡ true) ⊎ (has n gone ≡ true)
        at (inl k) = inl (has_right n (item_bodies a) (focus_bodies f) k)
        at (inr k) = inr k

    front : (n : ℕ) → (has n (item_bodies a) ≡ true) ⊎ (has n (item_bodies r) ≡ true)
        → (has n (item_bodies a ++ focus_bodies f) ≡ true) ⊎ (has n gone ≡ true)
    front n (inl k) = inl (has_left n (item_bodies a) (focus_bodies f) k)
    front n (inr k) = rest n (has_left n (item_bodies r) (focus_bodies d.focus) k)

    go : (n : ℕ) → (has n (item_bodies a ++ item_bodies r) ≡ true) ⊎ (has n (focus_bodies d.focus) ≡ true)
        → (has n (item_bodies a ++ focus_bodies f) ≡ true) ⊎ (has n gone ≡ true)
    go n (inl k) = front n (has_parts n (item_bodies a) (item_bodies r) k)
    go n (inr k) = rest n (has_right n (item_bodies r) (focus_bodies d.focus) k)

only_loses : (d : Document) (a r : List Item) → d.items ≡ a ++ r → Loses d (only a d)
only_loses d a r e = loses_by d (last closed) a r e (item_bodies r ++ focus_bodies d.focus) (λ n h. inr h)
    (let h = bodies_few r in let k = focus_few d.focus in let m = length-append (item_bodies r) (focus_bodies d.focus) in
    omega (arith, h, k, m))

unclose_loses : (d : Document) (a t : List Item) (l : Entry) (f k : List Entry) (c : Entry) → d.items ≡ a ++ (block l (f ++ k) c ∷ t)
    → Loses d (unclose a l f c d)
unclose_loses d a t l f k c e = loses_by d (last (proof l (fall (delegates c.sentence.kind) f))) a (block l (f ++ k) c ∷ t) e
    (item_bodies (block l (f ++ k) c ∷ t) ++ focus_bodies d.focus) (λ n h. inr h)
    (let h = bodies_few t in
    let x = body_few (delegates c.sentence.kind) l.id (item_bodies t) in
    let y = focus_few d.focus in
    let m = length-append (item_bodies (block l (f ++ k) c ∷ t)) (focus_bodies d.focus) in
    let s = block_size l f k c t in
    let z = fall_size (delegates c.sentence.kind) f in
    omega (arith, h, x, y, m, s, z))

-- a block of the document, inside of which a sentence goes
module _ (d : Document) (a t : List Item) (l : Entry) (f : List Entry) (e : Entry) (k : List Entry) (c : Entry)
    (q : d.items ≡ a ++ (block l (f ++ (e ∷ k)) c ∷ t)) where
  reopen_loses : (o : End) → d.focus ≡ last o → Loses d (reopen a l f c t o d)
  reopen_loses o g = loses_by d (zone l (fall true f) (set (λ u. false) c) t o) a (block l (f ++ (e ∷ k)) c ∷ t)
      q (l.id ∷ []) parts
      (let s = block_size l f (e ∷ k) c t in
      let z = zone_size l (fall true f) (set (λ u. false) c) t o in
      let y = fall_size true f in
      let w : length (focus_entries d.focus) ≡ length (end_entries o) = ap (λ u. length (focus_entries u)) g in
      omega (arith, s, z, y, w))
    where
      body : (r : Bool) (n : ℕ) → has n (body_if r l.id (item_bodies t)) ≡ true
          → (has n (item_bodies t) ≡ true) ⊎ (has n (l.id ∷ []) ≡ true)
      body false n h = inl h
      body true n h = at (either_true (nat_eq n l.id) (has n (item_bodies t)) h)
        where
          at : (nat_eq n l.id ≡ true) ⊎ (has n (item_bodies t) ≡ true) → (has n (item_bodies t) ≡ true) ⊎ (has n (l.id ∷ []) ≡ true)
          at (inl x) = inr (left_true (nat_eq n l.id) false x)
          at (inr x) = inl x

      none : (n : ℕ) → has n (focus_bodies d.focus) ≡ true → has n (item_bodies t) ≡ true
      none n h = no (sym (ap (λ u. has n (focus_bodies u)) g) ∙ h)

      parts : (n : ℕ) → has n (item_bodies (block l (f ++ (e ∷ k)) c ∷ t) ++ focus_bodies d.focus) ≡ true
          → (has n (item_bodies t) ≡ true) ⊎ (has n (l.id ∷ []) ≡ true)
      parts n h = go (has_parts n (body_if (delegates c.sentence.kind) l.id (item_bodies t)) (focus_bodies d.focus) h)
        where
          go : (has n (body_if (delegates c.sentence.kind) l.id (item_bodies t)) ≡ true) ⊎ (has n (focus_bodies d.focus) ≡ true)
              → (has n (item_bodies t) ≡ true) ⊎ (has n (l.id ∷ []) ≡ true)
          go (inl x) = body (delegates c.sentence.kind) n x
          go (inr x) = inl (none n x)

  reenter_loses : (g : Focus) → d.focus ≡ g → Loses d (reenter g a l f c t d)
  reenter_loses (last o) g = go (reopens c.sentence.kind)
    where
      go : (r : Bool) → Loses d (if r then reopen a l f c t o d else unclose a l f c d)
      go true = reopen_loses o g
      go false = unclose_loses d a t l f (e ∷ k) c q
  reenter_loses (zone m y x u o) g = unclose_loses d a t l f (e ∷ k) c q

shorten_loses : (d : Document) (g : Focus) → d.focus ≡ g → (f k : List Entry) → IsFront g f k
    → Loses d (refocus d.items (shorten g f k) d)
shorten_loses d (last closed) g f k q = loses_by d (last closed) d.items [] (sym (append-nil d.items)) []
    (λ n h. inl (sym (ap (λ u. has n (focus_bodies u)) g) ∙ h)) (omega arith)
shorten_loses d (last (proof l b)) g f k q = loses_by d (last (proof l f)) d.items [] (sym (append-nil d.items)) []
    (λ n h. inl (sym (ap (λ u. has n (focus_bodies u)) g) ∙ h))
    (let w : length (focus_entries d.focus) ≡ suc (length (f ++ k)) = ap (λ u. length (focus_entries u)) g ∙
    ap (λ u. suc (length u)) q in let m = length-append f k in omega (arith, w, m))
shorten_loses d (zone l b c t o) g f k q = loses_by d (zone l f (lessened k c) t o) d.items [] (sym (append-nil d.items)) []
    (λ n h. inl (sym (ap (λ u. has n (focus_bodies u)) g) ∙ h))
    (let w : length (focus_entries d.focus) ≡ length (focus_entries (zone l (f ++ k) c t o)) =
    ap (λ u. length (focus_entries u)) g ∙ ap (λ u. length (focus_entries (zone l u c t o))) q in
    let x = zone_size l (f ++ k) c t o in
    let y = zone_size l f (lessened k c) t o in
    let m = length-append f k in
    omega (arith, w, x, y, m))

seat_loses : (d : Document) (x : Seat) → IsSeat d.items d.focus x → IfChanged (Loses d) (remove_at x d)
seat_loses d (among (at_lone a e t)) h = only_loses d a (lone e ∷ t) h
seat_loses d (among (at_lemma a l b c t)) h = only_loses d a (block l b c ∷ t) h
seat_loses d (among (at_inner a l f e k c t)) h = reenter_loses d a t l f e k c h d.focus refl
seat_loses d (among (at_closer a l b c t)) h = unclose_loses d a t l b [] c (h ∙ ap (λ z. a ++ (block l z c ∷ t)) (sym (append-nil b)))
seat_loses d (among missing) h = tt
seat_loses d (open_lemma l b) h = only_loses d d.items [] (sym (append-nil d.items))
seat_loses d (open_inner l f e k) h = shorten_loses d d.focus refl f (e ∷ k) h
seat_loses d (behind c) h = tt
seat_loses d nowhere h = tt

pub remove_loses : (d : Document) (i : ℕ) → IfChanged (Loses d) (remove d i)
remove_loses d i = seat_loses d (seat i d) (seat_is i d)

-- ---- any change

-- of different lemmas of delegated blocks, those that head none any more are no more than the sentences that went, new ids counted
abbrev pub Shrinks : Document → Document → Type 0
Shrinks d e = (ns : List ℕ) → Distinct ns → Every (λ n. has n (bodies d) ≡ true) ns → length (missing_in (bodies e) ns)
    + (length (live e) + d.next) ≤ length (live d) + e.next

pub loses_shrinks : (d e : Document) → Loses d e → Shrinks d e
loses_shrinks d e l ns u v =
    let k = no_more (missing_in (bodies e) ns) l.gone (distinct_chosen (λ n. not (has n (bodies e))) ns u)
    (every_of (λ n. has n l.gone ≡ true) (missing_in (bodies e) ns)
    (λ n m. at n (chosen_member (λ n. not (has n (bodies e))) ns n m))) in
    let f = l.fewer in
    let x = l.next in
    omega (arith, k, f, x)
  where
    at : (n : ℕ) → Member n ns × (not (has n (bodies e)) ≡ true) → has n l.gone ≡ true
    at n m = go (l.parts n (every_at (λ n. has n (bodies d) ≡ true) ns v n m.0))
      where
        go : (has n (bodies e) ≡ true) ⊎ (has n l.gone ≡ true) → has n l.gone ≡ true
        go (inl x) = no (sym (ap not x) ∙ m.1)
        go (inr x) = x

pub grows_shrinks : (d e : Document) → ((n : ℕ) → has n (bodies d) ≡ true → has n (bodies e) ≡ true)
    → length (live e) + d.next ≡ length (live d) + e.next → Shrinks d e
grows_shrinks d e f c ns u v =
    let k = none_missing (bodies e) ns (every_of (λ n. has n (bodies e) ≡ true) ns
    (λ n m. f n (every_at (λ n. has n (bodies d) ≡ true) ns v n m))) in
    omega (arith, k, c)

pub shrinks_over : (d e f : Document) → Shrinks d e → Shrinks e f → Shrinks d f
shrinks_over d e f s t ns u v =
    let a = s ns u v in
    let b = t (chosen (λ n. has n (bodies e)) ns) (distinct_chosen (λ n. has n (bodies e)) ns u) (chosen_pass (λ n. has n (bodies e)) ns) in
    let c = missing_more (λ n. has n (bodies e)) (λ n. has n (bodies f)) ns in
    omega (arith, a, b, c)
