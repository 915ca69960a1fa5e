-- What the one-thread document answers to requests, in the lines of the protocol.
use Rattle.std.specs.Prelude.{
  ℕ,
  suc,
  List,
  [],
  ◌∷◌,
  ◌++◌,
  map,
  length,
  take,
  Bool,
  true,
  false,
  nat_eq,
  if◌then◌else◌,
  Option,
  Some,
  None,
  codes,
}
use Rattle.line_theory.specs.Lists.{chosen}
use Rattle.serapi_cmd.specs.declared.command.Command.{Command}
use Rattle.serapi_cmd.specs.declared.command.Command.TheVariants as cmd
use Rattle.serapi_cmd.specs.declared.command.QueryKind.{QueryKind}
use Rattle.serapi_cmd.specs.declared.command.QueryKind.TheVariants.{Ast}
use Rattle.serapi_cmd.specs.declared.request.Request.{Request}
use Rattle.serapi_cmd.specs.declared.request.Request.TheVariants.{Do, Bad}
use Rattle.serapi_cmd.specs.declared.request.InputFault.{InputFault}
use Rattle.serapi_cmd.specs.declared.request.InputFault.TheVariants as input
use Rattle.serapi_ans.specs.declared.line.Line.{Line}
use Rattle.serapi_ans.specs.declared.line.Line.TheVariants.{
  Ack,
  Added,
  Canceled,
  EditAt,
  ObjList,
  Joined,
  CoqExn,
  OutOfMemory,
  Completed,
  Feedback,
  BadInput,
}
use Rattle.serapi_ans.specs.declared.line.Exn.{Exn}
use Rattle.serapi_ans.specs.declared.line.Exn.TheVariants as exn
use Rattle.serapi_ans.specs.declared.line.BadText.{BadText}
use Rattle.serapi_ans.specs.declared.line.BadText.TheVariants.{Word, BadField}
use Rattle.doc_theory.specs.Documents.{Sentence, Document, empty, marks, cursor, is_state, tell}
use Rattle.doc_theory.specs.Editing.{Edited, unknown, refused_by, changed, remove, outcome, lost, Tried, refused, added, attempt}
use Rattle.doc_theory.specs.Checks.{
  Piece,
  piece,
  unread,
  Verdict,
  good,
  wrong,
  text_of,
  Found,
  texts,
  unknown_name,
  Check,
  Judged,
  judged,
  before,
  path,
}

-- ---- cuts

-- a command was done whole, or its first steps alone
pub data Cut : Type 0 where
  whole : Cut
  after : ℕ → Cut

-- the steps that are done
abbrev pub cut_to : {A : Type 0} → Cut → List A → List A
cut_to whole xs = xs
cut_to (after n) xs = take n xs

-- a refusal is told where the command isn't cut
abbrev pub refused_line : List ℕ → Option Exn → List Line
refused_line tag None = []
refused_line tag (Some e) = CoqExn tag e ∷ []

abbrev pub told_of : Cut → List ℕ → Option Exn → List Line
told_of whole tag e = refused_line tag e
told_of (after n) tag e = []

-- ---- Add

-- a run of steps: the document behind it, its lines, and what stopped it
pub record Ran : Type 0 where
  pub document : Document
  pub lines : List Line
  pub stop : Option Exn

abbrev pub stopped : Document → Option Exn → Ran
stopped d e = record { document = d; lines = []; stop = e }

abbrev pub put_line : Line → Ran → Ran
put_line l r = record { document = r.document; lines = l ∷ r.lines; stop = r.stop }

abbrev pub add_step : List ℕ → ℕ → ℕ → Document → Tried → (Document → Ran) → Ran
add_step tag p q d (refused e) more = stopped d (Some e)
add_step tag p q d (added e i t) more = put_line (Added tag i p q t) (more e)

-- the pieces are added one after the other, up to the first refusal
abbrev pub add_all : List ℕ → List Piece → Document → Ran
add_all tag [] d = stopped d None
add_all tag (unread p ∷ ps) d = stopped d (Some (exn.Parse p))
add_all tag (piece p q x ∷ ps) d = add_step tag p q d (attempt d p x) (add_all tag ps)

abbrev pub limited : Option ℕ → List Piece → List Piece
limited None ps = ps
limited (Some n) ps = take n ps

-- whether a sentence may be added where the client thinks it goes
abbrev pub is_on_top : Option ℕ → Document → Bool
is_on_top None d = true
is_on_top (Some n) d = nat_eq (cursor d) n

-- ---- Cancel

-- a run of removals: the document behind it, the lines, the ids removed, how many ids were treated, and what stopped it
pub record Removed : Type 0 where
  pub document : Document
  pub lines : List Line
  pub gone : List ℕ
  pub treated : ℕ
  pub stop : Option Exn

abbrev pub treat : Removed → Removed
treat r = record { document = r.document; lines = r.lines; gone = r.gone; treated = suc r.treated; stop = r.stop }

abbrev pub put_edit : Line → List ℕ → Removed → Removed
put_edit l is r = record { document = r.document; lines = l ∷ r.lines; gone = is ++ r.gone; treated = suc r.treated; stop = r.stop }

abbrev pub cancel_step : List ℕ → ℕ → Document → Edited → (Document → Removed) → Removed
cancel_step tag i d unknown more = treat (more d)
cancel_step tag i d (refused_by k) more = record { document = d; lines = []; gone = []; treated = 0; stop = Some (exn.ZoneOpen i k) }
cancel_step tag i d (changed e) more = put_edit (EditAt tag (outcome e)) (lost d e) (more e)

-- the ids are removed one after the other, each from the document that the ones before it left
abbrev pub cancel_all : List ℕ → List ℕ → Document → Removed
cancel_all tag [] d = record { document = d; lines = []; gone = []; treated = 0; stop = None }
cancel_all tag (i ∷ is) d = cancel_step tag i d (remove d i) (cancel_all tag is)

-- ---- Exec, Query

-- what an Exec of an id has to tell
abbrev pub due : {State : Type 0} → Check State → Document → ℕ → List (Judged State)
due L d i = chosen (λ j. j.mark.due) (before i (judged L d))

-- what a Join has to tell: as an Exec of the tip, whose path has all live sentences
abbrev pub all_due : {State : Type 0} → Check State → Document → List (Judged State)
all_due L d = chosen (λ j. j.mark.due) (judged L d)

abbrev pub feedbacks : {State : Type 0} → ℕ → List (Judged State) → List Line
feedbacks r js = map (λ j. Feedback j.mark.id r (text_of j.verdict)) js

abbrev pub check_of : ℕ → Verdict → Option Exn → Option Exn
check_of i good other = other
check_of i (wrong t) other = Some (exn.Check i t)

-- the first sentence of a path that isn't right
abbrev pub first_wrong : {State : Type 0} → List (Judged State) → Option Exn
first_wrong [] = None
first_wrong (j ∷ js) = check_of j.mark.id j.verdict (first_wrong js)

abbrev pub found_line : List ℕ → Found → Line
found_line tag (texts ts) = ObjList tag ts
found_line tag (unknown_name n) = CoqExn tag (exn.UnknownName n)

-- the last sentence and the state behind it answer; the state 1 has no sentence
abbrev pub asked_at : {State : Type 0} → Check State → List ℕ → QueryKind → State → Option Sentence → List (Judged State) → Line
asked_at L tag Ast s None [] = ObjList tag []
asked_at L tag Ast s (Some x) [] = ObjList tag (x.text ∷ [])
asked_at L tag q s x [] = found_line tag (L.ask s q)
asked_at L tag q s x (j ∷ js) = asked_at L tag q j.state (Some j.mark.sentence) js

-- the id that a Query speaks of
abbrev pub sid_of : Option ℕ → Document → ℕ
sid_of None d = cursor d
sid_of (Some i) d = i

-- ---- the answer to a request

-- the new document and the lines
pub record Answer : Type 0 where
  pub document : Document
  pub lines : List Line

abbrev pub answered : Document → List Line → Answer
answered d ls = record { document = d; lines = ls }

abbrev pub told_to : {State : Type 0} → List (Judged State) → Document → Document
told_to js d = tell (map (λ j. j.mark.id) js) d

-- the lines between the first and the last ones
abbrev pub perform : {State : Type 0} → Check State → Document → List ℕ → Command → Cut → Answer
perform L d tag (cmd.Add opts text) cut =
    if is_on_top opts.ontop d
    then (let r : Ran = add_all tag (cut_to cut (limited opts.lim (L.pieces text))) d in
    answered r.document (r.lines ++ told_of cut tag r.stop))
    else answered d (told_of cut tag (Some (exn.NotTip (cursor d))))
perform L d tag (cmd.Cancel is) cut =
    let r : Removed = cancel_all tag (cut_to cut is) d in answered r.document (r.lines ++ Canceled tag r.gone ∷ told_of cut tag r.stop)
perform L d tag (cmd.Exec i) cut =
    if is_state i d
    then answered (told_to (cut_to cut (due L d i)) d) (feedbacks 0 (cut_to cut (due L d i)) ++ told_of cut tag
    (first_wrong (path (before i (judged L d)))))
    else answered d (told_of cut tag (Some (exn.NoSuchState i)))
perform L d tag (cmd.Query opts q) whole =
    if is_state (sid_of opts.sid d) d
    then answered d (asked_at L tag q L.start None (before (sid_of opts.sid d) (judged L d)) ∷ [])
    else answered d (CoqExn tag (exn.NoSuchState (sid_of opts.sid d)) ∷ [])
perform L d tag (cmd.Query opts q) (after n) = answered d []
perform L d tag cmd.Join cut = answered (told_to (cut_to cut (all_due L d)) d) (feedbacks 0 (cut_to cut (all_due L d)))
perform L d tag cmd.Quit cut = answered d []

-- a whole Join goes on: what ends it writes the last line
abbrev pub last_lines : List ℕ → Command → Cut → List Line
last_lines tag cmd.Join whole = []
last_lines tag c whole = Completed tag ∷ []
last_lines tag c (after n) = OutOfMemory tag ∷ Completed tag ∷ []

-- how a line tells why an item is no command
abbrev pub bad_text : InputFault → BadText
bad_text input.StrayClose = Word (codes "StrayClose")
bad_text input.BadEscape = Word (codes "BadEscape")
bad_text input.TooDeep = Word (codes "TooDeep")
bad_text input.TooLong = Word (codes "TooLong")
bad_text input.HashBar = Word (codes "HashBar")
bad_text input.UnknownCommand = Word (codes "UnknownCommand")
bad_text (input.BadField name) = BadField name
bad_text input.BadNumber = Word (codes "BadNumber")

abbrev pub answer : {State : Type 0} → Check State → Document → Request → Cut → Answer
answer L d (Do t) cut =
    let a : Answer = perform L d t.tag t.command cut in answered a.document (Ack t.tag ∷ a.lines ++ last_lines t.tag t.command cut)
answer L d (Bad b) cut = answered d (BadInput b.number (bad_text b.kind) b.offset ∷ [])

-- how many steps a command has: sentences added, ids treated, entries told
abbrev pub steps : {State : Type 0} → Check State → Document → Command → ℕ
steps L d (cmd.Add opts text) = if is_on_top opts.ontop d then length (add_all [] (limited opts.lim (L.pieces text)) d).lines else 0
steps L d (cmd.Cancel is) = (cancel_all [] is d).treated
steps L d (cmd.Exec i) = if is_state i d then length (due L d i) else 0
steps L d (cmd.Query opts q) = 0
steps L d cmd.Join = length (all_due L d)
steps L d cmd.Quit = 0

-- ---- Joined

abbrev pub faults_with : ℕ → Verdict → List (ℕ × List ℕ) → List (ℕ × List ℕ)
faults_with i good rest = rest
faults_with i (wrong t) rest = (i, t) ∷ rest

-- the ids whose verdict isn't good, each with its text, in order
abbrev pub faults : {State : Type 0} → List (Judged State) → List (ℕ × List ℕ)
faults [] = []
faults (j ∷ js) = faults_with j.mark.id j.verdict (faults js)

abbrev pub is_wrong : Verdict → Bool
is_wrong good = false
is_wrong (wrong t) = true

-- how many sentences live, and in order those that aren't right
abbrev pub joined : {State : Type 0} → Check State → Document → List ℕ → Line
joined L d tag = Joined tag (length (marks d)) (faults (judged L d))

-- ---- the one-thread document

-- how a whole Join went on
pub data Fate : Type 0 where
  ended halted left : Fate

pub record Outcomes : Type 0 where
  pub cut : Cut
  pub fate : Fate

-- what ends a Join
abbrev pub ending : {State : Type 0} → Check State → Document → List ℕ → Fate → List Line
ending L d tag ended = joined L d tag ∷ Completed tag ∷ []
ending L d tag halted = OutOfMemory tag ∷ Completed tag ∷ []
ending L d tag left = []

abbrev pub closing_of : {State : Type 0} → Check State → Document → List ℕ → Command → Cut → Fate → List Line
closing_of L d tag cmd.Join whole f = ending L d tag f
closing_of L d tag c cut f = []

abbrev pub closing : {State : Type 0} → Check State → Document → Request → Outcomes → List Line
closing L d (Do t) o = closing_of L d t.tag t.command o.cut o.fate
closing L d (Bad b) o = []

-- what is written for requests with these outcomes, from a document on
abbrev pub answers_from : {State : Type 0} → Check State → Document → List Request → List Outcomes → List Line
answers_from L d [] os = []
answers_from L d (q ∷ qs) [] = []
answers_from L d (q ∷ qs) (o ∷ os) =
    (answer L d q o.cut).lines ++ (closing L (answer L d q o.cut).document q o ++ answers_from L (answer L d q o.cut).document qs os)

abbrev pub answers : {State : Type 0} → Check State → ℕ → List Request → List Outcomes → List Line
answers L limit qs os = answers_from L (empty limit) qs os
