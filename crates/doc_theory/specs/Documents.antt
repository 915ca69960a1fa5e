-- Documents: sentences outside of proofs, closed blocks, and where the cursor stands among them.
use Rattle.std.specs.Prelude.{ℕ, List, [], ◌∷◌, ◌++◌, map, Bool, true, false, not, ◌||◌, nat_eq}
use Rattle.line_theory.specs.Lists.{has, last_or}
use Rattle.line_theory.specs.Shapes as shapes
use Rattle.line_theory.specs.Shapes.{lone, block, closed, proof, last, zone}

-- ---- sentences

-- how a proof is closed
pub data Closer : Type 0 where
  qed admitted defined abort : Closer

-- what a sentence does: it stands outside of proofs, begins one, stands inside, or closes one
pub data Kind : Type 0 where
  plain begin inner : Kind
  close : Closer → Kind

pub record Sentence : Type 0 where
  pub text : List ℕ
  pub kind : Kind

-- an entry of a document: its id, its sentence, and whether its verdict was told
pub record Entry : Type 0 where
  pub id : ℕ
  pub sentence : Sentence
  pub told : Bool

-- whether a block with such a closer is checked apart
abbrev pub delegates : Kind → Bool
delegates (close qed) = true
delegates (close admitted) = true
delegates (close abort) = true
delegates other = false

-- whether a block with such a closer can be opened again
abbrev pub reopens : Kind → Bool
reopens (close qed) = true
reopens (close admitted) = true
reopens other = false

-- ---- documents

-- an entry outside of proofs, or a block: its lemma, what is inside, its closer; what is open behind the items; and where the cursor stands
abbrev pub Item : Type 0
Item = shapes.Item Entry Entry

abbrev pub End : Type 0
End = shapes.End Entry

abbrev pub Focus : Type 0
Focus = shapes.Focus Entry Entry

pub record Document : Type 0 where
  pub items : List Item
  pub focus : Focus
  pub next : ℕ
  pub limit : ℕ

-- the document without sentences
abbrev pub empty : ℕ → Document
empty limit = record { items = []; focus = last closed; next = 2; limit = limit }

-- ---- the flat list

abbrev pub entries_of : Item → List Entry
entries_of (lone e) = e ∷ []
entries_of (block l b c) = l ∷ (b ++ (c ∷ []))

abbrev pub entries : List Item → List Entry
entries [] = []
entries (i ∷ is) = entries_of i ++ entries is

abbrev pub end_entries : End → List Entry
end_entries closed = []
end_entries (proof l b) = l ∷ b

abbrev pub focus_entries : Focus → List Entry
focus_entries (last o) = end_entries o
focus_entries (zone l b c t o) = l ∷ (b ++ (c ∷ (entries t ++ end_entries o)))

-- all entries in the order of the document
abbrev pub live : Document → List Entry
live d = entries d.items ++ focus_entries d.focus

-- ---- what a command sees of it

-- where a sentence stands: in the inside or at the end of the delegated block with this lemma, or anywhere else
pub data Home : Type 0 where
  outside : Home
  body_of : ℕ → Home

-- a live sentence, where it stands, and whether an Exec still has to tell it
pub record Mark : Type 0 where
  pub id : ℕ
  pub sentence : Sentence
  pub home : Home
  pub due : Bool

abbrev pub is_body : Home → Bool
is_body outside = false
is_body (body_of n) = true

abbrev pub is_due : Home → Bool → Bool
is_due outside told = not told
is_due (body_of n) told = false

abbrev pub mark : Home → Entry → Mark
mark h e = record { id = e.id; sentence = e.sentence; home = h; due = is_due h e.told }

abbrev pub home : Bool → ℕ → Home
home true n = body_of n
home false n = outside

abbrev pub marks_of : Item → List Mark
marks_of (lone e) = mark outside e ∷ []
marks_of (block l b c) = mark outside l ∷ (map (mark (home (delegates c.sentence.kind) l.id)) b
    ++ (mark (home (delegates c.sentence.kind) l.id) c ∷ []))

abbrev pub item_marks : List Item → List Mark
item_marks [] = []
item_marks (i ∷ is) = marks_of i ++ item_marks is

abbrev pub end_marks : End → List Mark
end_marks closed = []
end_marks (proof l b) = mark outside l ∷ map (mark outside) b

abbrev pub focus_marks : Focus → List Mark
focus_marks (last o) = end_marks o
focus_marks (zone l b c t o) = mark outside l ∷ (map (mark outside) b ++ (mark outside c ∷ (item_marks t ++ end_marks o)))

abbrev pub marks : Document → List Mark
marks d = item_marks d.items ++ focus_marks d.focus

abbrev pub ids : Document → List ℕ
ids d = map (λ m. m.id) (marks d)

-- the last live id, or 1
abbrev pub tip : Document → ℕ
tip d = last_or 1 (ids d)

-- the id before the cursor, or 1
abbrev pub cursor_in : ℕ → Focus → ℕ
cursor_in n (last closed) = n
cursor_in n (last (proof l b)) = last_or l.id (map (λ e. e.id) b)
cursor_in n (zone l b c t o) = last_or l.id (map (λ e. e.id) b)

abbrev pub cursor : Document → ℕ
cursor d = cursor_in (last_or 1 (map (λ m. m.id) (item_marks d.items))) d.focus

-- an id that commands may name as a state
abbrev pub is_state : ℕ → Document → Bool
is_state i d = nat_eq 1 i || has i (ids d)

-- ---- flags

abbrev pub set : (Bool → Bool) → Entry → Entry
set f e = record { id = e.id; sentence = e.sentence; told = f e.told }

-- an entry that isn't told
abbrev pub untold : ℕ → Sentence → Entry
untold i x = record { id = i; sentence = x; told = false }

-- a flag that falls, where it does
abbrev pub falls : Bool → Bool → Bool
falls true told = false
falls false told = told

abbrev pub fall : Bool → List Entry → List Entry
fall true b = map (set (λ t. false)) b
fall false b = b

-- each flag changes by a rule that looks at where the entry stands, at its id and at the flag
abbrev pub flag : (Home → ℕ → Bool → Bool) → Home → Entry → Entry
flag rule h e = set (rule h e.id) e

abbrev pub flag_item : (Home → ℕ → Bool → Bool) → Item → Item
flag_item rule (lone e) = lone (flag rule outside e)
flag_item rule (block l b c) =
    block (flag rule outside l) (map (flag rule (home (delegates c.sentence.kind) l.id)) b)
    (flag rule (home (delegates c.sentence.kind) l.id) c)

abbrev pub flag_end : (Home → ℕ → Bool → Bool) → End → End
flag_end rule closed = closed
flag_end rule (proof l b) = proof (flag rule outside l) (map (flag rule outside) b)

abbrev pub flag_focus : (Home → ℕ → Bool → Bool) → Focus → Focus
flag_focus rule (last o) = last (flag_end rule o)
flag_focus rule (zone l b c t o) = zone (flag rule outside l) (map (flag rule outside) b) (flag rule outside c)
    (map (flag_item rule) t) (flag_end rule o)

abbrev pub flagged : (Home → ℕ → Bool → Bool) → Document → Document
flagged rule d = record { items = map (flag_item rule) d.items; focus = flag_focus rule d.focus; next = d.next; limit = d.limit }

-- an Exec tells the ids that it names, outside of the bodies of delegated blocks
abbrev pub telling : List ℕ → Home → ℕ → Bool → Bool
telling ns outside i told = told || has i ns
telling ns (body_of n) i told = told

abbrev pub tell : List ℕ → Document → Document
tell ns d = flagged (telling ns) d

-- a result tells the inside and the closer of the delegated block with this lemma
abbrev pub reporting : ℕ → Home → ℕ → Bool → Bool
reporting n outside i told = told
reporting n (body_of m) i told = told || nat_eq n m

abbrev pub report : ℕ → Document → Document
report n d = flagged (reporting n) d

-- ---- the delegated blocks

abbrev pub body_if : Bool → ℕ → List ℕ → List ℕ
body_if true n ns = n ∷ ns
body_if false n ns = ns

abbrev pub item_bodies : List Item → List ℕ
item_bodies [] = []
item_bodies (lone e ∷ t) = item_bodies t
item_bodies (block l b c ∷ t) = body_if (delegates c.sentence.kind) l.id (item_bodies t)

abbrev pub focus_bodies : Focus → List ℕ
focus_bodies (last o) = []
focus_bodies (zone l b c t o) = item_bodies t

-- the lemmas of the delegated blocks, in order
abbrev pub bodies : Document → List ℕ
bodies d = item_bodies d.items ++ focus_bodies d.focus
