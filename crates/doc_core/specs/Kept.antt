-- What calls leave, and what a document keeps.
use Rattle.std.specs.Prelude.{◌≡◌, ℕ, ◌≤◌, ◌<◌, List, [], ◌∷◌, ◌++◌, map, length, take, Bool, false, Option, Some, None}
use Rattle.std.specs.Prelude.{Result, Ok, Err, if◌then◌else◌}
use Rattle.base_core.specs.declared.no_memory.NoMemory.{NoMemory}
use Rattle.stm_base.specs.Output.{Output, IsPut}
use Rattle.serapi_cmd.specs.declared.command.Command.{Command}
use Rattle.serapi_cmd.specs.declared.request.Request.{Request}
use Rattle.serapi_cmd.specs.Requests.{is_quit}
use Rattle.serapi_ans.specs.Lines.{lines_text}
use Rattle.serapi_ans.specs.declared.line.Line.{Line}
use Rattle.serapi_ans.specs.declared.line.Line.TheVariants.{Ack, Added, OutOfMemory, Completed}
use Rattle.serapi_ans.specs.declared.line.Exn.{Exn}
use Rattle.serapi_ans.specs.declared.line.Exn.TheVariants as exn
use Rattle.vern_lex.specs.declared.span.Span.{Span}
use Rattle.vern_lex.specs.declared.sentences.CutFault.{CutFault}
use Rattle.vern_lex.specs.Sentences.{place_of}
use Rattle.vern_parse.specs.declared.fault.ParseFault.{ParseFault}
use Rattle.vern_parse.specs.declared.fault.ParseFault.TheVariants as fault
use Rattle.hist_core.specs.declared.entry.Cut.{Cut as Reached}
use Rattle.hist_core.specs.declared.entry.Cut.TheVariants as reached
use Rattle.line_theory.specs.Shapes as shapes
use Rattle.doc_theory.specs.Documents.{untold, Entry, Item, Document}
use Rattle.doc_theory.specs.Editing.{refused, added}
use Rattle.doc_theory.specs.Checks.{Piece, piece, unread}
use Rattle.doc_theory.specs.Answers.{Cut, whole, after, Ran, answered, refused_line}
use Rattle.doc_theory.specs.Histories.{Event}
use Rattle.doc_core.specs.Pieces.{sentence_of, begin_of, end_of}
use Rattle.doc_core.specs.Answers.{tried, add_all, perform, answer, MayBe, CommandMayBe}
use Rattle.doc_core.specs.Histories.{Standing, Legal, standing, asked}
use Rattle.doc_core.specs.declared.document.Done.{Done}
use Rattle.doc_core.specs.declared.document.Done.TheVariants as done
use Rattle.doc_core.specs.declared.reply.Opened.{Opened}
use Rattle.doc_core.specs.declared.script.Placed.{Placed}

-- ---- the document

-- the entry that a sentence with its id is: so far none is told
abbrev pub entry_of : Placed → Entry
entry_of e = untold e.id (sentence_of e.sentence)

abbrev pub item_of : Placed → Item
item_of e = shapes.lone (entry_of e)

-- the document of these sentences, outside of proofs
abbrev pub document_of : List Placed → ℕ → ℕ → Document
document_of es next limit = record { items = map item_of es; focus = shapes.last shapes.closed; next = next; limit = limit }

-- ---- what an Add leaves

-- the bytes of a span were read: a sentence, or a fault by its offset in the text; or memory was wanting
abbrev pub IsReadAs : Result (List ℕ) ParseFault → Piece → Span → Type 0
IsReadAs (Ok s) c span = c ≡ piece span.from span.to (sentence_of s)
IsReadAs (Err (fault.At p)) c span = c ≡ unread p
IsReadAs (Err fault.NoMemory) c span = Unit {0}

-- what a piece makes of a document and of the lines so far: it is added, and its line comes behind them; it is refused; or memory was
-- wanting, and both stay
abbrev pub AddsOne : Result (Option Exn) NoMemory → List ℕ → Document → Piece → List Line → Document → List Line → Type 0
AddsOne (Ok None) tag d c ls e ms = (i : ℕ) × (t : Option ℕ) × (tried d c ≡ added e i t)
    × (ms ≡ ls ++ Added tag i (begin_of c) (end_of c) t ∷ [])
AddsOne (Ok (Some x)) tag d c ls e ms = (tried d c ≡ refused x) × (e ≡ d) × (ms ≡ ls)
AddsOne (Err short) tag d c ls e ms = (e ≡ d) × (ms ≡ ls)

-- a run that stopped so
abbrev pub ran : Document → List Line → Option Exn → Ran
ran d ls x = record { document = d; lines = ls; stop = x }

-- how it is refused that a text can't be cut further
abbrev pub refusal_of : Option CutFault → Option Exn
refusal_of None = None
refusal_of (Some fault) = Some (exn.Parse (place_of fault))

-- the pieces are added up to the first refusal; or memory was wanting behind the first of them, one for each line
abbrev pub Adds : Result (Option Exn) NoMemory → List ℕ → List Piece → Document → List Line → Document → List Line → Type 0
Adds (Ok x) tag cs d ls e ms = (ks : List Line) × (ms ≡ ls ++ ks) × (add_all tag cs d ≡ ran e ks x)
Adds (Err short) tag cs d ls e ms = (ks : List Line) × (ms ≡ ls ++ ks) × (add_all tag (take (length ks) cs) d ≡ ran e ks None)
    × (length ks ≤ length (add_all tag cs d).lines)

-- the same of a command, whose refusal isn't among the lines
abbrev pub Performs : Result (Option Exn) NoMemory → List ℕ → Command → Document → List Line → Document → List Line → Type 0
Performs (Ok x) tag c d ls e ms = (ks : List Line) × (ms ≡ ls ++ ks) × (perform d tag c whole ≡ answered e (ks ++ refused_line tag x))
Performs (Err short) tag c d ls e ms = (ks : List Line) × (ms ≡ ls ++ ks) × (perform d tag c (after (length ks)) ≡ answered e ks)
    × CommandMayBe d c (after (length ks))

-- the lines that end what a command is answered, with its refusal or want of memory
abbrev pub ending : List ℕ → Result (Option Exn) NoMemory → List Line
ending tag (Ok x) = refused_line tag x ++ Completed tag ∷ []
ending tag (Err short) = OutOfMemory tag ∷ Completed tag ∷ []

-- how far a command went that did so many steps
abbrev pub cut_by : Result (Option Exn) NoMemory → ℕ → Reached
cut_by (Ok x) n = reached.Whole
cut_by (Err short) n = reached.After n

-- a command's lines so far are the first, there is room for two more, and each of them has its share of the tag
pub record IsOpened (tag : List ℕ) (o : Opened) : Type 0 where
  pub first : o.lines.items ≡ Ack tag ∷ []
  pub room : 2 ≤ o.lines.spare
  pub stopped : o.stopped ≡ tag
  pub completed : o.completed ≡ tag

-- ---- what a request leaves

-- a request went so far: its lines, and the document behind it
pub record IsAnswered (d : Document) (q : Request) (cut : Cut) (ls : List Line) (e : Document) : Type 0 where
  pub may : MayBe d q cut
  pub lines : ls ≡ (answer d q cut).lines
  pub document : e ≡ (answer d q cut).document

-- ---- a document and its history

-- a document as contracts see it: its history with the spare, and its limit of sentences
pub record Held : Type 0 where
  pub history : List Event
  pub spare : ℕ
  pub limit : ℕ

-- where a document stands
abbrev pub at : Held → Standing
at d = standing d.limit d.history

-- a document has room for an entry and for its end, and for one more for each claim that is out; so far none is
abbrev pub IsReserved : Held → Type 0
IsReserved d = 2 ≤ d.spare

-- what a request comes to
abbrev pub done_by : Request → Done
done_by q = if is_quit q then done.Quitting else done.Answered

-- what a document keeps: a legal history, the document and the end that it has led to, and room for that end
pub record IsKept (h : List Event) (spare : ℕ) (script : Document) (is_closed : Bool) : Type 0 where
  pub legal : Legal script.limit h
  pub document : script ≡ (standing script.limit h).document
  pub closed : is_closed ≡ (standing script.limit h).closed
  pub room : is_closed ≡ false → 0 < spare

-- a request is answered so far as some cut says: its event comes behind the history, and its lines are put
pub record Takes (d e : Held) (q : Request) (o p : Output) : Type 0 where
  pub cut : Cut
  pub history : e.history ≡ d.history ++ asked (at d) q cut ∷ []
  pub put : IsPut o (lines_text (answer (at d).document q cut).lines) p
