-- What becomes of a sentence that is added.
use Rattle.std.proofs.Common.{◌≡◌, ◌⊎◌, inl, inr, ℕ, suc, nat_eq, ◌||◌, if◌then◌else◌, List, [], ◌∷◌, ◌++◌, length, Bool, true, false, Option, Some, None, Result, Ok, Err, OnErr, option_map, is_some, refl, sym, ap, ◌∙◌, subst}
use Rattle.line_theory.specs.Lists.{has, IsGrown}
use Rattle.line_theory.specs.Shapes as shapes
use Rattle.line_theory.specs.Shapes.{lone, block, closed, proof, last, zone}
use Rattle.line_theory.specs.Lines.{Line, Closing, AtEnd, InProof, InZone, refolded, zone_in}
use Rattle.line_theory.proofs.Lists.{no, test_equal, has_parts, has_left, has_right, every_join, every_parts}
use Rattle.vern_step.specs.declared.kind.Kind.{Kind as ReadKind}
use Rattle.vern_step.specs.declared.kind.Kind.TheVariants.{Plain, Begin, Inner, Close}
use Rattle.vern_step.specs.Parsed.{kind_in}
use Rattle.vcs_graph.specs.Blocks.{inside_in}
use Rattle.edit_core.specs.Steps.{Allows, stepped, stop_in}
use Rattle.check_theory.specs.Pieces.{sentence_of}
use Rattle.doc_theory.specs.Lists.{Member}
use Rattle.doc_theory.proofs.Lists.{every_map}
use Rattle.doc_theory.specs.Documents.{
  Kind,
  plain,
  begin,
  inner,
  close,
  qed,
  admitted,
  defined,
  abort,
  Sentence,
  Entry,
  delegates,
  Focus,
  Document,
  tip,
  fall,
  untold,
  set,
  live,
}
use Rattle.doc_theory.specs.Editing.{added, is_full, fresh, attempt_at, attempt}
use Rattle.doc_theory.specs.Invariants.{IfAdded}
use Rattle.doc_theory.specs.Line.{line, IsAddedTo, HasNext, HasIds}
use Rattle.doc_theory.specs.Shape.{shape, put}
use Rattle.check_theory.specs.Language.{language}
use Rattle.check_theory.proofs.Lawful.{language_lawful}
use Rattle.doc_theory.proofs.Places.{attempt_line}
use Rattle.doc_theory.proofs.Ids.{attempt_at_next}
use Rattle.doc_theory.proofs.Added.{Grows, attempt_grows}
use Rattle.doc_store.specs.declared.slots.Slot.{Slot}
use Rattle.doc_store.specs.Slots.{at_all, entry_at, fresh_slot, lowered, slot_at, text_at, text_of}
use Rattle.doc_store.specs.Cases.{refusal_by, closes, step_of, fallen, grown_at, refolded_at}
use Rattle.doc_store.specs.Stored.{document_of, Note, notes_by, Held, IsKept, IsQuiet}
use Rattle.doc_store.proofs.Filled.{Agrees, agrees_filled}
use Rattle.doc_store.proofs.Quiet.{attempt_quiet}
use Rattle.doc_store.proofs.Numbered.{absent_above, attempt_ids}
use Rattle.doc_store.proofs.Adding.{Adds, if_grown, id_in, fallen_in, attempt_agrees}
use Rattle.doc_store.proofs.Growing.{at_next, at_other, fallen_same, id_same, line_same, grown_adds, refolded_adds, added_by, refolded_by, Refolds}
use Rattle.doc_store.proofs.Kept.{document_is, TellsLess, fewer}

-- ---- the limit stays

limit_at : (d : Document) (p : ℕ) (x : Sentence) (k : Kind) (f : Focus) → IfAdded (λ e. e.limit ≡ d.limit) (attempt_at d p x k f)
limit_at d p x plain (last closed) = if_grown (λ e. e.limit ≡ d.limit) d p (d.items ++ lone (fresh d x) ∷ []) (last closed) refl
limit_at d p x plain (last (proof l b)) = tt
limit_at d p x plain (zone l b c t o) = tt
limit_at d p x begin (last closed) = if_grown (λ e. e.limit ≡ d.limit) d p d.items (last (proof (fresh d x) [])) refl
limit_at d p x begin (last (proof l b)) = tt
limit_at d p x begin (zone l b c t o) = tt
limit_at d p x inner (last closed) = tt
limit_at d p x inner (last (proof l b)) = if_grown (λ e. e.limit ≡ d.limit) d p d.items (last (proof l (b ++ fresh d x ∷ []))) refl
limit_at d p x inner (zone l b c t o) =
    if_grown (λ e. e.limit ≡ d.limit) d p d.items (zone l (b ++ fresh d x ∷ []) (set (λ u. false) c) t o) refl
limit_at d p x (close k) (last closed) = tt
limit_at d p x (close k) (last (proof l b)) =
    if_grown (λ e. e.limit ≡ d.limit) d p (d.items ++ block l (fall (delegates x.kind) b) (fresh d x) ∷ []) (last closed) refl
limit_at d p x (close qed) (zone l b c t o) = refl
limit_at d p x (close admitted) (zone l b c t o) = refl
limit_at d p x (close defined) (zone l b c t o) = tt
limit_at d p x (close abort) (zone l b c t o) = tt

-- ---- a sentence that was added

-- the store behind it
pub record Behind (d : Document) (x : Sentence) (p : ℕ) (slots : List (Option Slot)) (g : Line) (new : List (Option Slot)) (limit i : ℕ)
    (t : Option ℕ) : Type 0 where
  pub tried : added (document_of g new limit) i t ≡ attempt d p x
  pub kept : IsKept g new (document_of g new limit)
  pub notes : (m : Note) → Member m (notes_by (text_at new) (live (document_of g new limit))) → Member m (notes_by (text_at slots) (live d))

-- nothing changes with the other ids
abbrev Stays : List (Option Slot) → List (Option Slot) → ℕ → List ℕ → Type 0
Stays slots new i gone = (n : ℕ) → has n gone ≡ false → nat_eq n i ≡ false → slot_at new n ≡ slot_at slots n

less : (slots new : List (Option Slot)) (x : Sentence) (d e : Document) (i : ℕ) (gone : List ℕ)
    → Adds (entry_at slots) (entry_at new) x i gone → Stays slots new i gone
    → ((n : ℕ) → has n (line e) ≡ true → nat_eq n i ≡ false → has n (line d) ≡ true)
    → TellsLess (entry_at slots) (text_at slots) (entry_at new) (text_at new) d e
less slots new x d e i gone w stays inside n m told = go (nat_eq n i) refl (has n gone) refl
  where
    is_new : nat_eq n i ≡ true → entry_at new n ≡ untold i x
    is_new q = ap (entry_at new) (test_equal n i q) ∙ w.new

    go : (r : Bool) → nat_eq n i ≡ r → (s : Bool) → has n gone ≡ s
        → (entry_at new n ≡ entry_at slots n) × ((text_at new n ≡ text_at slots n) × (has n (line d) ≡ true))
    go true q s h = no (sym (ap (λ (y : Entry). y.told) (is_new q)) ∙ told)
    go false q true h = no (sym (ap (λ (y : Entry). y.told) (w.fallen n h q)) ∙ told)
    go false q false h = (w.kept n h q, (ap text_of (stays n h q), inside n m q))

module _ (l : Line) (slots : List (Option Slot)) (limit : ℕ) (bytes : List ℕ) (p : ℕ) (K : IsKept l slots (document_of l slots limit))
    (shaped : IfAdded (λ e. shape e ≡ put (sentence_of bytes).kind (length slots) (shape (document_of l slots limit)))
    (attempt (document_of l slots limit) p (sentence_of bytes))) where
  abbrev d : Document
  d = document_of l slots limit

  abbrev x : Sentence
  x = sentence_of bytes

  abbrev f : ℕ → Entry
  f = entry_at slots

  of_added : (P : Document → Type 0) (e : Document) (i : ℕ) (t : Option ℕ) → attempt d p x ≡ added e i t → IfAdded P (attempt d p x) → P e
  of_added P e i t h w = subst (IfAdded P) h w

  behind : (g : Line) (new : List (Option Slot)) (e : Document) (i : ℕ) (t : Option ℕ) (gone : List ℕ) → attempt d p x ≡ added e i t
      → Adds f (entry_at new) x i gone → id_in d.next x.kind d.focus ≡ i → fallen_in x x.kind d.focus ≡ gone → Stays slots new i gone
      → g ≡ put x.kind d.next l → length new ≡ e.next → Held new (line e)
      → ((n : ℕ) → has n (line e) ≡ true → nat_eq n i ≡ false → has n (line d) ≡ true)
      → Behind d x p slots g new limit i t × (document_of g new limit ≡ e)
  behind g new e i t gone is w id falls stays on_line next held inside =
      let agree : Agrees f (live d) = agrees_filled f (λ n. refl) l (length slots) limit in
      let adds : Adds f (entry_at new) x (id_in d.next x.kind d.focus) (fallen_in x x.kind d.focus) =
      subst (λ z. Adds f (entry_at new) x (id_in d.next x.kind d.focus) z) (sym falls)
      (subst (λ z. Adds f (entry_at new) x z gone) (sym id) w) in
      let now : Agrees (entry_at new) (live e) = of_added (λ z. Agrees (entry_at new) (live z)) e i t is
      (attempt_agrees f (entry_at new) d p x K.ids agree adds) in
      let shape_is : shape e ≡ put x.kind d.next (shape d) = of_added (λ z. shape z ≡ put x.kind d.next (shape d)) e i t is
      shaped in
      let line_is : g ≡ shape e = on_line ∙ ap (put x.kind d.next) (sym K.shape) ∙ sym shape_is in
      let same_limit : e.limit ≡ d.limit = of_added (λ z. z.limit ≡ d.limit) e i t is (limit_at d p x x.kind d.focus) in
      let same : document_of g new limit ≡ e = document_is g new limit e now line_is next (sym same_limit) in
      let kept : IsKept g new e = record {
        shape = sym line_is;
        sound = (of_added (Grows language d) e i t is (attempt_grows language language_lawful d p x K.sound)).sound;
        ids = of_added HasIds e i t is (attempt_ids d p x K.ids);
        quiet = of_added IsQuiet e i t is (attempt_quiet d p x K.quiet);
        held = held;
      } in (
        record {
          tried = ap (λ z. added z i t) same ∙ sym is;
          kept = subst (IsKept g new) (sym same) kept;
          notes = λ m k. fewer f (text_at slots) (entry_at new) (text_at new) d e agree now (less slots new x d e i gone w stays inside) m
              (subst (λ z. Member m (notes_by (text_at new) (live z))) same k);
        },
        same,
      )

  -- ---- with the next id

  still : (r : Bool) (s : Option Slot) → is_some s ≡ true → is_some (if r then option_map lowered s else s) ≡ true
  still true (Some s) h = refl
  still true None h = h
  still false s h = h

  grown_line : (e : Document) (t : Option ℕ) → IsAddedTo d (added e (length slots) None) → IsGrown (length slots) (line d) (line e)
  grown_line e t w = w.0

  pub grown : closes (kind_in bytes) (zone_in l.focus) ≡ None → refusal_by (kind_in bytes) l.focus (is_full d) p ≡ None → (g : Line)
      (new : List (Option Slot)) → g ≡ stepped (length slots) (step_of (kind_in bytes)) l
      → ((i : ℕ) → slot_at new i ≡ grown_at (kind_in bytes) l.focus bytes slots i) → length new ≡ suc (length slots)
      → Behind d x p slots g new limit (length slots) None
  grown no_zone allowed g new is each len =
      let k : ReadKind = kind_in bytes in
      let more : (e : Document) × (attempt d p x ≡ added e d.next None) = added_by slots bytes d p l.focus refl k l.focus x allowed no_zone in
      let e : Document = more.0 in
      let inside : IsGrown (length slots) (line d) (line e) =
      (subst (IsAddedTo d) more.1 (attempt_line d p x)).0 in
      let next : e.next ≡ suc d.next = subst (HasNext d) more.1 (attempt_at_next d p x x.kind d.focus) in
      let old : Held slots (inside.front ++ inside.back) = subst (Held slots) inside.was K.held in
      let two : Held slots inside.front × Held slots inside.back =
      every_parts (λ n. is_some (slot_at slots n) ≡ true) inside.front inside.back old in
      (behind g new e (length slots) None (fallen k l.focus) more.1 (grown_adds slots bytes k l.focus new each)
      (id_same slots bytes d.next k l.focus no_zone) (fallen_same slots bytes k l.focus x refl no_zone)
      (λ n m o. each n ∙ ap (λ z. if z then option_map lowered (slot_at (slots ++ Some (fresh_slot bytes) ∷ []) n)
      else slot_at (slots ++ Some (fresh_slot bytes) ∷ []) n) m ∙ at_other slots bytes n o)
      (is ∙ sym (line_same slots bytes (length slots) k l no_zone)) (len ∙ sym next)
      (subst (Held new) (sym inside.is) (every_join (λ n. is_some (slot_at new n) ≡ true) inside.front (length slots ∷ inside.back)
      (every_map (λ n. is_some (slot_at slots n) ≡ true) (λ n. is_some (slot_at new n) ≡ true) inside.front (held_on k) two.0)
      (held_next k, every_map (λ n. is_some (slot_at slots n) ≡ true) (λ n. is_some (slot_at new n) ≡ true) inside.back (held_on k) two.1)))
      (λ n m o. was e inside n m o)).0
    where
      held_next : (k : ReadKind) → is_some (slot_at new (length slots)) ≡ true
      held_next k = ap is_some (each (length slots) ∙ ap (λ z. if has (length slots) (fallen (kind_in bytes) l.focus) then option_map lowered z else z)
          (at_next slots bytes)) ∙ still (has (length slots) (fallen (kind_in bytes) l.focus)) (Some (fresh_slot bytes)) refl

      held_at : (n : ℕ) (r : Bool) → nat_eq n (length slots) ≡ r → is_some (slot_at slots n) ≡ true → is_some (slot_at new n) ≡ true
      held_at n true q h = ap (λ z. is_some (slot_at new z)) (test_equal n (length slots) q) ∙ held_next (kind_in bytes)
      held_at n false q h = ap is_some (each n ∙ ap (λ z. if has n (fallen (kind_in bytes) l.focus) then option_map lowered z else z)
          (at_other slots bytes n q)) ∙ still (has n (fallen (kind_in bytes) l.focus)) (slot_at slots n) h

      held_on : (k : ReadKind) (n : ℕ) → is_some (slot_at slots n) ≡ true → is_some (slot_at new n) ≡ true
      held_on k n h = held_at n (nat_eq n (length slots)) refl h

      was : (e : Document) (w : IsGrown (length slots) (line d) (line e)) (n : ℕ) → has n (line e) ≡ true → nat_eq n (length slots) ≡ false
          → has n (line d) ≡ true
      was e w n m o = subst (λ z. has n z ≡ true) (sym w.was) (in_parts (has_parts n w.front (length slots ∷ w.back)
          (subst (λ z. has n z ≡ true) w.is m)))
        where
          in_parts : (has n w.front ≡ true) ⊎ (has n (length slots ∷ w.back) ≡ true) → has n (w.front ++ w.back) ≡ true
          in_parts (inl h) = has_left n w.front w.back h
          in_parts (inr h) = has_right n w.front w.back (ap (λ z. z || has n w.back) (sym o) ∙ h)

  -- ---- where a zone is closed

  pub closes_zone : (s : ℕ) → closes (kind_in bytes) (zone_in l.focus) ≡ Some s → refusal_by (kind_in bytes) l.focus (is_full d) p ≡ None
      → (g : Line) (new : List (Option Slot)) → g ≡ refolded l → ((i : ℕ) → slot_at new i ≡ refolded_at l.focus bytes slots i)
      → length new ≡ length slots → (t : ℕ) → (shape (document_of g new limit) ≡ g → t ≡ tip (document_of g new limit))
      → Behind d x p slots g new limit s (Some t)
  closes_zone s some allowed g new is each len t tip_is =
      let k : ReadKind = kind_in bytes in
      let r : Refolds slots bytes d p l.focus refl x k l.focus s = refolded_by slots bytes d p l.focus refl k l.focus x s allowed some in
      let e : Document = r.document in
      let same_line : line e ≡ line d = subst (IsAddedTo d) r.is (attempt_line d p x) in
      let next : e.next ≡ d.next = subst (HasNext d) r.is (attempt_at_next d p x x.kind d.focus) in
      let adds : Adds f (entry_at new) x s (inside_in l.focus) =
      subst (λ z. Adds f (entry_at new) x z (inside_in l.focus)) (sym r.stop) (refolded_adds slots bytes l.focus new each) in
      let stays : Stays slots new s (inside_in l.focus) = λ n m o. each n
      ∙ ap (λ z. if z then Some (fresh_slot bytes) else at_all (inside_in l.focus) (option_map lowered) slots n)
      (ap (nat_eq n) (sym r.stop) ∙ o) ∙ ap (λ z. if z then option_map lowered (slot_at slots n) else slot_at slots n) m in
      let b : Behind d x p slots g new limit s (Some (tip e)) × (document_of g new limit ≡ e) = behind g new e s (Some (tip e)) (inside_in l.focus) r.is adds
      (r.id ∙ sym r.stop) r.inside stays (is ∙ sym (r.line l refl)) (len ∙ sym next)
      (subst (Held new) (sym same_line) (every_map (λ n. is_some (slot_at slots n) ≡ true) (λ n. is_some (slot_at new n) ≡ true) (line d)
      held_on K.held)) (λ n m o. subst (λ z. has n z ≡ true) same_line m) in
      subst (λ z. Behind d x p slots g new limit s (Some z)) (sym (tip_is b.0.kept.shape ∙ ap tip b.1)) b.0
    where
      held_by : (n : ℕ) (r : Bool) → is_some (slot_at slots n) ≡ true
          → is_some (if r then Some (fresh_slot bytes) else at_all (inside_in l.focus) (option_map lowered) slots n) ≡ true
      held_by n true h = refl
      held_by n false h = still (has n (inside_in l.focus)) (slot_at slots n) h

      held_on : (n : ℕ) → is_some (slot_at slots n) ≡ true → is_some (slot_at new n) ≡ true
      held_on n h = ap is_some (each n) ∙ held_by n (nat_eq n (stop_in l.focus)) h

-- ---- where the code may go on

pub allowed_step : (k : ReadKind) (l : Line) (full : Bool) (p : ℕ) → refusal_by k l.focus full p ≡ None → closes k (zone_in l.focus) ≡ None
    → Allows (step_of k) l
allowed_step Plain l full p h e = tt
allowed_step Inner l full p h e = tt
allowed_step Begin l full p h e = go l.focus h
  where
    go : (F : shapes.Focus ℕ Closing) → refusal_by Begin F full p ≡ None → AtEnd F
    go (last closed) h = tt
    go (last (proof m b)) h = absurd (cc)
    go (zone m b c t o) h = absurd (cc)
allowed_step (Close k) l full p h e = go l.focus h e
  where
    go : (F : shapes.Focus ℕ Closing) → refusal_by (Close k) F full p ≡ None → closes (Close k) (zone_in F) ≡ None → InProof F
    go (last closed) h e = absurd (cc)
    go (last (proof m b)) h e = tt
    go (zone m b c t o) h e = absurd (cc)

pub in_zone : (k : ReadKind) (l : Line) (s : ℕ) → closes k (zone_in l.focus) ≡ Some s → InZone l.focus
in_zone k l s e = go k l.focus e
  where
    go : (k : ReadKind) (F : shapes.Focus ℕ Closing) → closes k (zone_in F) ≡ Some s → InZone F
    go Plain F e = absurd (cc)
    go Begin F e = absurd (cc)
    go Inner F e = absurd (cc)
    go (Close k) (last o) e = absurd (cc)
    go (Close k) (zone m b c t o) e = tt

-- what holds holds after a refusal
pub on_err : {A B : Type 0} (r : Result A B) (P : Type 0) → P → OnErr r P
on_err (Ok a) P h = tt
on_err (Err b) P h = h

-- the next id is new
pub next_is_new : (d : Document) (n : ℕ) (xs : List ℕ) → n ≡ d.next → xs ≡ line d → HasIds d → has n xs ≡ false
next_is_new d n xs same line_is h = (λ i. has (same i) (line_is i)) ∙ absent_above d.next (line d) h.bounds
