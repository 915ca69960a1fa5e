-- A sentence that comes in, or that closes the zone: what is kept behind it is the document that the rules ask for.
use Rattle.std.proofs.Common.{◌≡◌, ℕ, suc, ◌<◌, ◌≤◌, nat_eq, nat_lt, if◌then◌else◌, List, [], ◌∷◌, ◌++◌, map, length, Bool, true, false, Option, Some, None, option_map, refl, sym, ap, ◌∙◌, subst, length-append, ◌+◌, arith}
use Rattle.std.proofs.Math.ListN.{get_or-append}
use Rattle.std.proofs.Math.Seq.{get_or-append_seam}
use Rattle.std.proofs.lemmas.List.{get_or_past}
use Rattle.std.proofs.lemmas.Bool.Decides.{nat_tests}
use Rattle.line_theory.specs.Lists.{has}
use Rattle.line_theory.specs.Shapes as shapes
use Rattle.line_theory.specs.Shapes.{lone, block, closed, proof, last, zone, map_item, map_end, map_focus}
use Rattle.line_theory.specs.Lines.{Line, Closing, merged, InProof, InZone, refolded, zone_in}
use Rattle.line_theory.specs.Lines as lines
use Rattle.line_theory.proofs.Lists.{test_same}
use Rattle.serapi_ans.specs.declared.line.Exn.TheVariants as exn
use Rattle.vern_parse.specs.declared.raw.Closer.{Closer as Read}
use Rattle.vern_parse.specs.declared.raw.Closer.TheVariants.{Qed, Defined, Admitted, Abort}
use Rattle.vern_step.specs.declared.kind.Kind.{Kind as ReadKind}
use Rattle.vern_step.specs.declared.kind.Kind.TheVariants.{Plain, Begin, Inner, Close}
use Rattle.vern_step.specs.Parsed.{kind_in}
use Rattle.vcs_graph.specs.Blocks.{inside_in, inside_last}
use Rattle.vcs_graph.proofs.Lasts.{inside_push}
use Rattle.edit_core.specs.Steps.{Fits, stepped, stop_in}
use Rattle.check_theory.specs.Pieces.{closer_of, place_in_proofs, sentence_of}
use Rattle.doc_theory.specs.Documents.{close, Sentence, Entry, delegates, reopens, Item, Focus, Document, fall, untold, set, tip}
use Rattle.doc_theory.specs.Editing.{refused, added, is_full, fresh, grown, attempt_at}
use Rattle.doc_theory.specs.Editing.{refolded as refolded_doc}
use Rattle.doc_theory.specs.Shape.{put, closed_in}
use Rattle.doc_theory.proofs.Places.{named}
use Rattle.doc_store.specs.declared.slots.Slot.{Slot}
use Rattle.doc_store.specs.Slots.{at_all, entry_of, entry_at, fresh_slot, lowered, slot_at}
use Rattle.doc_store.specs.Cases.{too_many, refusal_by, closes, step_of, fallen, inside_if, grown_at, refolded_at}
use Rattle.doc_store.proofs.Adding.{fallen_if, fallen_in, id_in, Adds}

-- ---- the code's list of what falls

closed_fallen : (k : Read) (l : Line) (n : ℕ) (q : Bool) → InProof l.focus → delegates (close (closer_of k)) ≡ true
    → inside_last (merged n q l).items ≡ fallen (Close k) l.focus
closed_fallen k l n q h r = go l.focus h
  where
    go : (F : shapes.Focus ℕ Closing) → InProof F
        → inside_last (lines.merged_in (record { id = n; opaque = q }) l.items F).items ≡ fallen (Close k) F
    go (last closed) h = absurd h
    go (last (proof m b)) h = inside_push l.items (block m b (record { id = n; opaque = q })) ∙ sym (ap (λ z. inside_if z b) r)
    go (zone m b c t o) h = absurd h

-- a closer that ends a block that is checked apart
pub grown_closed : (l g : Line) (bytes inside : List ℕ) (slots new : List (Option Slot)) (k : Read) → kind_in bytes ≡ Close k
    → Fits (length slots) (step_of (kind_in bytes)) l → delegates (close (closer_of k)) ≡ true
    → g ≡ stepped (length slots) (step_of (kind_in bytes)) l → inside ≡ inside_last g.items
    → ((i : ℕ) → slot_at new i ≡ at_all inside (option_map lowered) (slots ++ Some (fresh_slot bytes) ∷ []) i)
    → (i : ℕ) → slot_at new i ≡ grown_at (kind_in bytes) l.focus bytes slots i
grown_closed l g bytes inside slots new k kind fits r is from each i =
    let in_proof : InProof l.focus = (subst (λ z. Fits (length slots) (step_of z) l) kind fits).1.1 in
    let whole : inside ≡ fallen (kind_in bytes) l.focus = from ∙ ap (λ z. inside_last z.items) (is ∙ ap (λ z. stepped (length slots) (step_of z) l) kind)
    ∙ closed_fallen k l (length slots) (reopens (close (closer_of k))) in_proof r ∙ ap (λ z. fallen z l.focus) (sym kind) in
    each i ∙ ap (λ z. at_all z (option_map lowered) (slots ++ Some (fresh_slot bytes) ∷ []) i) whole

beyond : (slots : List (Option Slot)) (s : Option Slot) (n : ℕ) → nat_eq n (length slots) ≡ false → nat_lt n (length slots) ≡ false
    → length (slots ++ s ∷ []) ≤ n
beyond slots s n h k = let e : length (slots ++ s ∷ []) ≡ length slots + 1 = length-append slots (s ∷ []) in
    let least : length slots < n = grind (arith, nat_tests, h, k) in omega (arith, e, least)

lowered_entry : (i : ℕ) (s : Option Slot) → entry_of i (option_map lowered s) ≡ set (λ t. false) (entry_of i s)
lowered_entry i None = refl
lowered_entry i (Some s) = refl

-- ---- the same in the document's words

mapped_ids : (f : ℕ → Entry) → ((i : ℕ) → (f i).id ≡ i) → (b : List ℕ) → named (map f b) ≡ b
mapped_ids f own [] = refl
mapped_ids f own (n ∷ ns) = λ i. own n i ∷ mapped_ids f own ns i

abbrev focus_of : (ℕ → Entry) → shapes.Focus ℕ Closing → Focus
focus_of f F = map_focus f (λ c. f c.id) F

module _ (slots : List (Option Slot)) (bytes : List ℕ) where
  abbrev f : ℕ → Entry
  f = entry_at slots

  abbrev x : Sentence
  x = sentence_of bytes

  inside_ids : (r : Bool) (b : List ℕ) → fallen_if r (map f b) ≡ inside_if r b
  inside_ids true b = mapped_ids f (λ i. refl) b
  inside_ids false b = refl

  -- what falls, and the id that the sentence has
  pub fallen_same : (k : ReadKind) (F : shapes.Focus ℕ Closing) (y : Sentence) → y.kind ≡ place_in_proofs k → closes k (zone_in F) ≡ None
      → fallen_in y (place_in_proofs k) (focus_of f F) ≡ fallen k F
  fallen_same Plain F y q e = refl
  fallen_same Begin F y q e = refl
  fallen_same Inner (last o) y q e = refl
  fallen_same Inner (zone l b c t o) y q e = refl
  fallen_same (Close k) (last closed) y q e = refl
  fallen_same (Close k) (last (proof l b)) y q e = ap (λ z. fallen_if (delegates z) (map f b)) q
      ∙ inside_ids (delegates (close (closer_of k))) b
  fallen_same (Close k) (zone l b c t o) y q e = absurd (cc)

  pub id_same : (n : ℕ) (k : ReadKind) (F : shapes.Focus ℕ Closing) → closes k (zone_in F) ≡ None → id_in n (place_in_proofs k) (focus_of f F) ≡ n
  id_same n Plain F e = refl
  id_same n Begin F e = refl
  id_same n Inner F e = refl
  id_same n (Close k) (last o) e = refl
  id_same n (Close k) (zone l b c t o) e = absurd (cc)

  -- the line
  pub line_same : (n : ℕ) (k : ReadKind) (l : Line) → closes k (zone_in l.focus) ≡ None → put (place_in_proofs k) n l ≡ stepped n (step_of k) l
  line_same n Plain l e = refl
  line_same n Begin l e = refl
  line_same n Inner l e = refl
  line_same n (Close k) l e = go l.focus refl e
    where
      go : (F : shapes.Focus ℕ Closing) → l.focus ≡ F → closes (Close k) (zone_in F) ≡ None
          → closed_in n (reopens (close (closer_of k))) l F ≡ merged n (reopens (close (closer_of k))) l
      go (last o) h e = refl
      go (zone m b c t o) h e = absurd (cc)

  -- ---- what is kept

  pub at_next : slot_at (slots ++ Some (fresh_slot bytes) ∷ []) (length slots) ≡ Some (fresh_slot bytes)
  at_next = get_or-append_seam slots (Some (fresh_slot bytes)) [] None

  pub at_other : (n : ℕ) → nat_eq n (length slots) ≡ false → slot_at (slots ++ Some (fresh_slot bytes) ∷ []) n ≡ slot_at slots n
  at_other n h = go (nat_lt n (length slots)) refl
    where
      go : (r : Bool) → nat_lt n (length slots) ≡ r → slot_at (slots ++ Some (fresh_slot bytes) ∷ []) n ≡ slot_at slots n
      go true e = get_or-append slots (Some (fresh_slot bytes) ∷ []) None n (grind (arith, nat_tests, e))
      go false e = get_or_past (slots ++ Some (fresh_slot bytes) ∷ []) n None (beyond slots (Some (fresh_slot bytes)) n h e)
          ∙ sym (get_or_past slots n None (grind (arith, nat_tests, e)))

  new_entry : (r : Bool) → entry_of (length slots) (if r then option_map lowered (Some (fresh_slot bytes)) else Some (fresh_slot bytes))
      ≡ untold (length slots) x
  new_entry true = refl
  new_entry false = refl

  -- the entries by id behind a sentence that came in
  pub grown_adds : (k : ReadKind) (F : shapes.Focus ℕ Closing) (new : List (Option Slot))
      → ((i : ℕ) → slot_at new i ≡ grown_at k F bytes slots i) → Adds f (entry_at new) x (length slots) (fallen k F)
  grown_adds k F new each = record {
    new = ap (entry_of (length slots)) (each (length slots) ∙ ap (λ z. if has (length slots) (fallen k F) then option_map lowered z else z) at_next)
        ∙ new_entry (has (length slots) (fallen k F));
    fallen = λ n m o. ap (entry_of n) (each n ∙ ap (λ z. if z then option_map lowered (slot_at (slots ++ Some (fresh_slot bytes) ∷ []) n)
        else slot_at (slots ++ Some (fresh_slot bytes) ∷ []) n) m ∙ ap (option_map lowered) (at_other n o)) ∙ lowered_entry n (slot_at slots n);
    kept = λ n m o. ap (entry_of n) (each n ∙ ap (λ z. if z then option_map lowered (slot_at (slots ++ Some (fresh_slot bytes) ∷ []) n)
        else slot_at (slots ++ Some (fresh_slot bytes) ∷ []) n) m ∙ at_other n o);
  }

  -- the same behind a closer that closed the zone
  pub refolded_adds : (F : shapes.Focus ℕ Closing) (new : List (Option Slot)) → ((i : ℕ) → slot_at new i ≡ refolded_at F bytes slots i)
      → Adds f (entry_at new) x (stop_in F) (inside_in F)
  refolded_adds F new each = record {
    new = ap (entry_of (stop_in F)) (each (stop_in F) ∙ ap (λ z. if z then Some (fresh_slot bytes)
        else at_all (inside_in F) (option_map lowered) slots (stop_in F)) (test_same (stop_in F)));
    fallen = λ n m o. ap (entry_of n) (each n ∙ ap (λ z. if z then Some (fresh_slot bytes)
        else at_all (inside_in F) (option_map lowered) slots n) o ∙ ap (λ z. if z then option_map lowered (slot_at slots n) else slot_at slots n) m)
        ∙ lowered_entry n (slot_at slots n);
    kept = λ n m o. ap (entry_of n) (each n ∙ ap (λ z. if z then Some (fresh_slot bytes)
        else at_all (inside_in F) (option_map lowered) slots n) o ∙ ap (λ z. if z then option_map lowered (slot_at slots n) else slot_at slots n) m);
  }

  -- ---- what the rules say

  module _ (d : Document) (p : ℕ) (F : shapes.Focus ℕ Closing) (focus : d.focus ≡ focus_of f F) where
    too_many_full : (r : Bool) → too_many r p ≡ None → r ≡ false
    too_many_full true h = absurd (cc)
    too_many_full false h = refl

    stops : (n s : ℕ) → Some n ≡ Some s → s ≡ n
    stops n s q = cc

    -- what a closer makes of a zone
    pub record Refolds (y : Sentence) (k : ReadKind) (G : shapes.Focus ℕ Closing) (s : ℕ) : Type 0 where
      pub document : Document
      pub is : attempt_at d p y (place_in_proofs k) (focus_of f G) ≡ added document s (Some (tip document))
      pub stop : s ≡ stop_in G
      pub in_zone : InZone G
      pub id : id_in d.next (place_in_proofs k) (focus_of f G) ≡ stop_in G
      pub inside : fallen_in y (place_in_proofs k) (focus_of f G) ≡ inside_in G
      pub line : (l : Line) → l.focus ≡ G → put (place_in_proofs k) d.next l ≡ refolded l

    refolds : (k : Read) (l : ℕ) (b : List ℕ) (c : Closing) (t : List (shapes.Item ℕ Closing)) (o : shapes.End ℕ) (y : Sentence) (s : ℕ)
        → s ≡ c.id → (let e : Document = refolded_doc d y (f l) (map f b) (f c.id) (map (map_item f (λ n. f n.id)) t) (map_end f o) in
        attempt_at d p y (place_in_proofs (Close k)) (focus_of f (zone l b c t o)) ≡ added e c.id (Some (tip e)))
        → Refolds y (Close k) (zone l b c t o) s
    refolds k l b c t o y s same is =
        let e : Document = refolded_doc d y (f l) (map f b) (f c.id) (map (map_item f (λ n. f n.id)) t) (map_end f o) in record {
          document = e;
          is = is ∙ ap (λ z. added e z (Some (tip e))) (sym same);
          stop = same;
          in_zone = tt;
          id = refl;
          inside = mapped_ids f (λ i. refl) b;
          line = λ m h. ap (closed_in d.next (reopens (close (closer_of k))) m) h;
        }

    grown_in : (a : List Item) (g : Focus) → is_full d ≡ false → (e : Document) × (grown d p a g ≡ added e d.next None)
    grown_in a g h = let e : Document = record { items = a; focus = g; next = suc d.next; limit = d.limit } in
        (e, ap (λ r. if r then refused (exn.TooMany p) else added e d.next None) h)

    -- a sentence that isn't refused is added: with the next id
    pub added_by : (k : ReadKind) (G : shapes.Focus ℕ Closing) (y : Sentence) → refusal_by k G (is_full d) p ≡ None → closes k (zone_in G) ≡ None
        → (e : Document) × (attempt_at d p y (place_in_proofs k) (focus_of f G) ≡ added e d.next None)
    added_by Plain (last closed) y h e = grown_in (d.items ++ lone (fresh d y) ∷ []) (last closed) (too_many_full (is_full d) h)
    added_by Plain (last (proof l b)) y h e = absurd (cc)
    added_by Plain (zone l b c t o) y h e = absurd (cc)
    added_by Begin (last closed) y h e = grown_in d.items (last (proof (fresh d y) [])) (too_many_full (is_full d) h)
    added_by Begin (last (proof l b)) y h e = absurd (cc)
    added_by Begin (zone l b c t o) y h e = absurd (cc)
    added_by Inner (last closed) y h e = absurd (cc)
    added_by Inner (last (proof l b)) y h e =
        grown_in d.items (last (proof (f l) (map f b ++ fresh d y ∷ []))) (too_many_full (is_full d) h)
    added_by Inner (zone l b c t o) y h e =
        grown_in d.items (zone (f l) (map f b ++ fresh d y ∷ []) (set (λ u. false) (f c.id)) (map (map_item f (λ k. f k.id)) t) (map_end f o))
        (too_many_full (is_full d) h)
    added_by (Close k) (last closed) y h e = absurd (cc)
    added_by (Close k) (last (proof l b)) y h e =
        grown_in (d.items ++ block (f l) (fall (delegates y.kind) (map f b)) (fresh d y) ∷ []) (last closed) (too_many_full (is_full d) h)
    added_by (Close k) (zone l b c t o) y h e = absurd (cc)

    -- a closer that isn't refused closes the zone
    pub refolded_by : (k : ReadKind) (G : shapes.Focus ℕ Closing) (y : Sentence) (s : ℕ) → refusal_by k G (is_full d) p ≡ None
        → closes k (zone_in G) ≡ Some s → Refolds y k G s
    refolded_by Plain G y s h e = absurd (cc)
    refolded_by Begin G y s h e = absurd (cc)
    refolded_by Inner G y s h e = absurd (cc)
    refolded_by (Close k) (last o) y s h e = absurd (cc)
    refolded_by (Close Qed) (zone l b c t o) y s h e = refolds Qed l b c t o y s (stops c.id s e) refl
    refolded_by (Close Admitted) (zone l b c t o) y s h e = refolds Admitted l b c t o y s (stops c.id s e) refl
    refolded_by (Close Defined) (zone l b c t o) y s h e = absurd (cc)
    refolded_by (Close Abort) (zone l b c t o) y s h e = absurd (cc)
