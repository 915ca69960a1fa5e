-- What a document needs of the check of sentences: states, the verdict of a sentence, and what a closed proof leaves.
use Rattle.std.specs.Prelude.{◌≡◌, ℕ, List, [], ◌∷◌, ◌++◌, map, Bool, true, false, ◌&&◌, nat_eq, if◌then◌else◌, Option, Some, None}
use Rattle.line_theory.specs.Shapes.{lone, block, last, zone}
use Rattle.serapi_cmd.specs.declared.command.QueryKind.{QueryKind}
use Rattle.doc_theory.specs.Documents.{
  Closer,
  qed,
  admitted,
  Kind,
  inner,
  close,
  Sentence,
  Entry,
  delegates,
  Item,
  entries,
  entries_of,
  Focus,
  Document,
  Mark,
  is_body,
  marks,
}

-- what is cut from a text: a sentence, with the offsets of its first byte and of the byte behind it; or the offset where it can't be
-- read, behind which nothing is cut
pub data Piece : Type 0 where
  piece : ℕ → ℕ → Sentence → Piece
  unread : ℕ → Piece

-- a sentence is right, or not, with the text that says so
pub data Verdict : Type 0 where
  good : Verdict
  wrong : List ℕ → Verdict

-- the text of a verdict, where it isn't good
abbrev pub text_of : Verdict → Option (List ℕ)
text_of good = None
text_of (wrong t) = Some t

-- the texts that a question is answered with, or the name that is unknown
pub data Found : Type 0 where
  texts : List (List ℕ) → Found
  unknown_name : List ℕ → Found

-- what a sentence is given, and what it leaves
pub record Checked (State : Type 0) : Type 0 where
  pub verdict : Verdict
  pub state : State

-- a check over its states: what is cut from a text; the first state; `one`, what a sentence with an id is given and leaves in a state;
-- `skip`, what a closer leaves of the state of an open proof, whatever stands inside; and what is known in a state
pub record Check (State : Type 0) : Type 0 where
  pub pieces : List ℕ → List Piece
  pub start : State
  pub one : State → ℕ → Sentence → Checked State
  pub skip : State → Closer → State
  pub ask : State → QueryKind → Found

abbrev pub verdict : {State : Type 0} → Check State → State → ℕ → Sentence → Verdict
verdict L s i x = (L.one s i x).verdict

abbrev pub leaves : {State : Type 0} → Check State → State → ℕ → Sentence → State
leaves L s i x = (L.one s i x).state

-- what is asked of it: a sentence inside of a proof changes nothing of what a closer leaves, a closer other than Defined leaves what
-- `skip` says, and Qed and Admitted leave the same
pub record Laws {State : Type 0} (L : Check State) : Type 0 where
  pub inside : (s : State) (i : ℕ) (x : Sentence) (c : Closer) → x.kind ≡ inner → L.skip (leaves L s i x) c ≡ L.skip s c
  pub closing : (s : State) (i : ℕ) (x : Sentence) (c : Closer) → x.kind ≡ close c → delegates (close c) ≡ true →
      leaves L s i x ≡ L.skip s c
  pub alike : (s : State) → L.skip s admitted ≡ L.skip s qed

-- ---- checking in order

-- the state behind entries
abbrev pub through : {State : Type 0} → Check State → State → List Entry → State
through L s [] = s
through L s (e ∷ es) = through L (leaves L s e.id e.sentence) es

-- a live sentence with its verdict, and the state behind it
pub record Judged (State : Type 0) : Type 0 where
  pub mark : Mark
  pub verdict : Verdict
  pub state : State

abbrev pub judged_from : {State : Type 0} → Check State → State → List Mark → List (Judged State)
judged_from L s [] = []
judged_from L s (m ∷ ms) = record { mark = m; verdict = verdict L s m.id m.sentence; state = leaves L s m.id m.sentence }
    ∷ judged_from L (leaves L s m.id m.sentence) ms

abbrev pub judged : {State : Type 0} → Check State → Document → List (Judged State)
judged L d = judged_from L L.start (marks d)

-- the sentences up to an id
abbrev pub up_to : {State : Type 0} → ℕ → List (Judged State) → List (Judged State)
up_to i [] = []
up_to i (j ∷ js) = if nat_eq i j.mark.id then j ∷ [] else j ∷ up_to i js

-- those up to the state that an id names
abbrev pub before : {State : Type 0} → ℕ → List (Judged State) → List (Judged State)
before i js = if nat_eq 1 i then [] else up_to i js

-- whether what stands here goes on to the closer of its block
abbrev pub goes_on : Kind → Bool → Bool
goes_on inner more = more
goes_on (close c) more = true
goes_on other more = false

abbrev pub is_ended : {State : Type 0} → List (Judged State) → Bool
is_ended [] = false
is_ended (j ∷ js) = goes_on j.mark.sentence.kind (is_ended js)

-- the path: without the inside and the closer of delegated blocks that end here
abbrev pub path : {State : Type 0} → List (Judged State) → List (Judged State)
path [] = []
path (j ∷ js) = if is_body j.mark.home && is_ended (j ∷ js) then path js else j ∷ path js

-- ---- what is checked apart

-- the work of a delegated block: the state behind its lemma, which is made of the environment before it, its statement and its id;
-- its lemma's id, the ids and sentences inside, and its closer
pub record Named : Type 0 where
  pub id : ℕ
  pub sentence : Sentence

pub record Work (State : Type 0) : Type 0 where
  pub opened : State
  pub lemma : ℕ
  pub inside : List Named
  pub closer : Named

abbrev pub named : Entry → Named
named e = record { id = e.id; sentence = e.sentence }

abbrev pub work_if : {State : Type 0} → Check State → Bool → State → Entry → List Entry → Entry → List (Work State)
work_if L true s l b c = record { opened = leaves L s l.id l.sentence; lemma = l.id; inside = map named b; closer = named c } ∷ []
work_if L false s l b c = []

abbrev pub works_of : {State : Type 0} → Check State → State → Item → List (Work State)
works_of L s (lone e) = []
works_of L s (block l b c) = work_if L (delegates c.sentence.kind) s l b c

abbrev pub item_works : {State : Type 0} → Check State → State → List Item → List (Work State)
item_works L s [] = []
item_works L s (i ∷ is) = works_of L s i ++ item_works L (through L s (entries_of i)) is

abbrev pub focus_works : {State : Type 0} → Check State → State → Focus → List (Work State)
focus_works L s (last o) = []
focus_works L s (zone l b c t o) = item_works L (through L s (l ∷ (b ++ (c ∷ [])))) t

-- the delegated blocks of a document in order, each with what its check depends on
abbrev pub works : {State : Type 0} → Check State → Document → List (Work State)
works L d = item_works L L.start d.items ++ focus_works L (through L L.start (entries d.items)) d.focus

-- a checked block: each sentence inside and the closer, with its verdict
pub record Told : Type 0 where
  pub id : ℕ
  pub verdict : Verdict

abbrev pub checked_from : {State : Type 0} → Check State → State → List Named → List Told
checked_from L s [] = []
checked_from L s (n ∷ ns) = record { id = n.id; verdict = verdict L s n.id n.sentence } ∷ checked_from L (leaves L s n.id n.sentence) ns

abbrev pub checked : {State : Type 0} → Check State → Work State → List Told
checked L w = checked_from L w.opened (w.inside ++ (w.closer ∷ []))
