-- How the list changes: where an id stands, edit, the removal of a sentence, and a sentence that is added.
use Rattle.std.specs.Prelude.{
  Option,
  Some,
  None,
  ℕ,
  suc,
  ◌^◌,
  List,
  [],
  ◌∷◌,
  ◌++◌,
  map,
  length,
  Bool,
  true,
  false,
  nat_lt,
  not,
  ◌||◌,
  nat_eq,
  if◌then◌else◌,
}
use Rattle.line_theory.specs.Lists.{has, chosen}
use Rattle.line_theory.specs.Shapes.{lone, block, closed, proof, last, zone}
use Rattle.serapi_ans.specs.declared.line.Exn.{Exn}
use Rattle.serapi_ans.specs.declared.line.Exn.TheVariants as exn
use Rattle.serapi_ans.specs.declared.line.EditLine.{EditLine}
use Rattle.serapi_ans.specs.declared.line.EditLine.TheVariants as told
use Rattle.doc_theory.specs.Documents.{
  untold,
  qed,
  admitted,
  defined,
  abort,
  Kind,
  plain,
  begin,
  inner,
  close,
  Sentence,
  Entry,
  delegates,
  reopens,
  Item,
  End,
  Focus,
  Document,
  item_marks,
  end_marks,
  marks,
  ids,
  tip,
  cursor,
  set,
  fall,
}

-- ---- where an id stands

-- a list of entries around the one with an id
pub data Split : Type 0 where
  found : List Entry → Entry → List Entry → Split
  unfound : Split

abbrev pub after : Entry → Split → Split
after x (found f e k) = found (x ∷ f) e k
after x unfound = unfound

abbrev pub split : ℕ → List Entry → Split
split i [] = unfound
split i (e ∷ es) = if nat_eq i e.id then found [] e es else after e (split i es)

-- the items around the one with an id, and the part that it is
pub data Spot : Type 0 where
  at_lone : List Item → Entry → List Item → Spot
  at_lemma : List Item → Entry → List Entry → Entry → List Item → Spot
  at_inner : List Item → Entry → List Entry → Entry → List Entry → Entry → List Item → Spot
  at_closer : List Item → Entry → List Entry → Entry → List Item → Spot
  missing : Spot

abbrev pub under : Item → Spot → Spot
under x (at_lone a e t) = at_lone (x ∷ a) e t
under x (at_lemma a l b c t) = at_lemma (x ∷ a) l b c t
under x (at_inner a l f e k c t) = at_inner (x ∷ a) l f e k c t
under x (at_closer a l b c t) = at_closer (x ∷ a) l b c t
under x missing = missing

abbrev pub inside : ℕ → Entry → List Entry → Entry → List Item → Split → Spot → Spot
inside i l b c t (found f e k) other = at_inner [] l f e k c t
inside i l b c t unfound other = if nat_eq i c.id then at_closer [] l b c t else other

abbrev pub locate : ℕ → List Item → Spot
locate i [] = missing
locate i (lone e ∷ t) = if nat_eq i e.id then at_lone [] e t else under (lone e) (locate i t)
locate i (block l b c ∷ t) = if nat_eq i l.id then at_lemma [] l b c t else inside i l b c t (split i b) (under (block l b c) (locate i t))

-- where an id stands in a document: among the items, at the lemma or inside of the block that is open at the cursor, at the kept
-- closer or behind it, or nowhere
pub data Seat : Type 0 where
  among : Spot → Seat
  open_lemma : Entry → List Entry → Seat
  open_inner : Entry → List Entry → Entry → List Entry → Seat
  behind : Entry → Seat
  nowhere : Seat

abbrev pub in_inside : Entry → Split → Seat → Seat
in_inside l (found f e k) other = open_inner l f e k
in_inside l unfound other = other

abbrev pub in_proof : ℕ → Entry → List Entry → Seat → Seat
in_proof i l b other = if nat_eq i l.id then open_lemma l b else in_inside l (split i b) other

abbrev pub in_tail : ℕ → Entry → List Item → End → Seat
in_tail i c t o = if has i (c.id ∷ map (λ m. m.id) (item_marks t ++ end_marks o)) then behind c else nowhere

abbrev pub in_focus : ℕ → Focus → Seat
in_focus i (last closed) = nowhere
in_focus i (last (proof l b)) = in_proof i l b nowhere
in_focus i (zone l b c t o) = in_proof i l b (in_tail i c t o)

abbrev pub seat_or : Spot → Seat → Seat
seat_or missing s = s
seat_or (at_lone a e t) s = among (at_lone a e t)
seat_or (at_lemma a l b c t) s = among (at_lemma a l b c t)
seat_or (at_inner a l f e k c t) s = among (at_inner a l f e k c t)
seat_or (at_closer a l b c t) s = among (at_closer a l b c t)

abbrev pub seat : ℕ → Document → Seat
seat i d = seat_or (locate i d.items) (in_focus i d.focus)

-- ---- removing

abbrev pub refocus : List Item → Focus → Document → Document
refocus a f d = record { items = a; focus = f; next = d.next; limit = d.limit }

-- nothing stays but these items
abbrev pub only : List Item → Document → Document
only a d = refocus a (last closed) d

-- nothing stays but these items and the front of a block, which loses its closer
abbrev pub unclose : List Item → Entry → List Entry → Entry → Document → Document
unclose a l f c d = refocus a (last (proof l (fall (delegates c.sentence.kind) f))) d

-- a zone is opened behind the front of a block, whose closer is kept with all that stands behind it
abbrev pub reopen : List Item → Entry → List Entry → Entry → List Item → End → Document → Document
reopen a l f c t o d = refocus a (zone l (fall true f) (set (λ t. false) c) t o) d

-- a block that is edited at the end of its front: a zone where there is none and the closer allows it
abbrev pub reenter : Focus → List Item → Entry → List Entry → Entry → List Item → Document → Document
reenter (last o) a l f c t d = if reopens c.sentence.kind then reopen a l f c t o d else unclose a l f c d
reenter (zone m b k u o) a l f c t d = unclose a l f c d

-- the kept closer's flag falls where something of its zone is removed
abbrev pub lessened : List Entry → Entry → Entry
lessened [] c = c
lessened (e ∷ es) c = set (λ t. false) c

-- of the block that is open at the cursor this front stays, and the rest up to the cursor goes
abbrev pub shorten : Focus → List Entry → List Entry → Focus
shorten (last closed) f gone = last closed
shorten (last (proof l b)) f gone = last (proof l f)
shorten (zone l b c t o) f gone = zone l f (lessened gone c) t o

-- what an edit or a removal comes to: the id isn't there, it stands at or behind this kept closer, or a new document
pub data Edited : Type 0 where
  unknown : Edited
  refused_by : ℕ → Edited
  changed : Document → Edited

-- the document is edited at an id, behind which the next sentence is to come
abbrev pub edit_at : Seat → Document → Edited
edit_at (among (at_lone a e t)) d = changed (only (a ++ lone e ∷ []) d)
edit_at (among (at_lemma a l b c t)) d = changed (reenter d.focus a l [] c t d)
edit_at (among (at_inner a l f e k c t)) d = changed (reenter d.focus a l (f ++ e ∷ []) c t d)
edit_at (among (at_closer a l b c t)) d = changed (only (a ++ block l b c ∷ []) d)
edit_at (among missing) d = unknown
edit_at (open_lemma l b) d = changed (refocus d.items (shorten d.focus [] b) d)
edit_at (open_inner l f e k) d = changed (refocus d.items (shorten d.focus (f ++ e ∷ []) k) d)
edit_at (behind c) d = refused_by c.id
edit_at nowhere d = unknown

abbrev pub edit : Document → ℕ → Edited
edit d i = if nat_eq 1 i then changed (only [] d) else edit_at (seat i d) d

-- the sentence with an id is removed: inside of a block that can be opened, or of a zone, up to the closer, else with all behind it
abbrev pub remove_at : Seat → Document → Edited
remove_at (among (at_lone a e t)) d = changed (only a d)
remove_at (among (at_lemma a l b c t)) d = changed (only a d)
remove_at (among (at_inner a l f e k c t)) d = changed (reenter d.focus a l f c t d)
remove_at (among (at_closer a l b c t)) d = changed (unclose a l b c d)
remove_at (among missing) d = unknown
remove_at (open_lemma l b) d = changed (only d.items d)
remove_at (open_inner l f e k) d = changed (refocus d.items (shorten d.focus f (e ∷ k)) d)
remove_at (behind c) d = refused_by c.id
remove_at nowhere d = unknown

abbrev pub remove : Document → ℕ → Edited
remove d i = remove_at (seat i d) d

-- how an edit is told: the cursor's id, or the zone's lemma, its kept closer and the tip
abbrev pub outcome_in : Focus → Document → EditLine
outcome_in (last o) d = told.NewTip (cursor d)
outcome_in (zone l b c t o) d = told.Focus l.id c.id (tip d)

abbrev pub outcome : Document → EditLine
outcome d = outcome_in d.focus d

-- the ids that were live and aren't any more, in the order of the document
abbrev pub lost : Document → Document → List ℕ
lost d e = chosen (λ i. not (has i (ids e))) (ids d)

-- ---- adding

-- a sentence isn't added, and why; or the new document, the id that the sentence has, and the tip where it closed a zone
pub data Tried : Type 0 where
  refused : Exn → Tried
  added : Document → ℕ → Option ℕ → Tried

-- a new entry
abbrev pub fresh : Document → Sentence → Entry
fresh d x = untold d.next x

-- no new entry fits
abbrev pub is_full : Document → Bool
is_full d = not (nat_lt (length (marks d)) d.limit) || not (nat_lt d.next (2 ^ 62))

-- a new entry makes this of the items and the focus
abbrev pub grown : Document → ℕ → List Item → Focus → Tried
grown d p a f = if is_full d then refused (exn.TooMany p) else added (record {
  items = a;
  focus = f;
  next = suc d.next;
  limit =
      d.limit;
}) d.next None

-- a closer takes the kept closer's place and id
abbrev pub refolded : Document → Sentence → Entry → List Entry → Entry → List Item → End → Document
refolded d x l b c t o = refocus (d.items ++ block l (fall true b) (untold c.id x) ∷ t) (last o) d

abbrev pub rezoned : Document → Sentence → Entry → List Entry → Entry → List Item → End → Tried
rezoned d x l b c t o = added (refolded d x l b c t o) c.id (Some (tip (refolded d x l b c t o)))

abbrev pub attempt_at : Document → ℕ → Sentence → Kind → Focus → Tried
attempt_at d p x plain (last closed) = grown d p (d.items ++ lone (fresh d x) ∷ []) (last closed)
attempt_at d p x plain (last (proof l b)) = refused (exn.ProofOpen p l.id)
attempt_at d p x plain (zone l b c t o) = refused (exn.ProofOpen p l.id)
attempt_at d p x begin (last closed) = grown d p d.items (last (proof (fresh d x) []))
attempt_at d p x begin (last (proof l b)) = refused (exn.ProofOpen p l.id)
attempt_at d p x begin (zone l b c t o) = refused (exn.ProofOpen p l.id)
attempt_at d p x inner (last closed) = refused (exn.NoOpenProof p)
attempt_at d p x inner (last (proof l b)) = grown d p d.items (last (proof l (b ++ fresh d x ∷ [])))
attempt_at d p x inner (zone l b c t o) = grown d p d.items (zone l (b ++ fresh d x ∷ []) (set (λ t. false) c) t o)
attempt_at d p x (close k) (last closed) = refused (exn.NoOpenProof p)
attempt_at d p x (close k) (last (proof l b)) = grown d p (d.items ++ block l (fall (delegates x.kind) b) (fresh d x) ∷ []) (last closed)
attempt_at d p x (close qed) (zone l b c t o) = rezoned d x l b c t o
attempt_at d p x (close admitted) (zone l b c t o) = rezoned d x l b c t o
attempt_at d p x (close defined) (zone l b c t o) = refused (exn.BadCloser p c.id)
attempt_at d p x (close abort) (zone l b c t o) = refused (exn.BadCloser p c.id)

-- a sentence that begins at this offset of its text is added behind the cursor
abbrev pub attempt : Document → ℕ → Sentence → Tried
attempt d p x = attempt_at d p x x.kind d.focus
