-- What the document answers to requests, as far as it is built. The rules are doc_theory's, with one refusal more, Unsupported, which goes
-- when all of them are built.
use Rattle.std.specs.Prelude.{◌≡◌, ℕ, ◌≤◌, List, [], ◌∷◌, ◌++◌, length, Bool, true, false, not, ◌&&◌, if◌then◌else◌, Some, None, is_some}
use Rattle.serapi_cmd.specs.declared.command.AddOpts.{AddOpts}
use Rattle.serapi_cmd.specs.declared.command.Command.{Command}
use Rattle.serapi_cmd.specs.declared.command.Command.TheVariants as cmd
use Rattle.serapi_cmd.specs.declared.request.Request.{Request}
use Rattle.serapi_cmd.specs.declared.request.Request.TheVariants.{Do, Bad}
use Rattle.serapi_ans.specs.declared.line.Line.{Line}
use Rattle.serapi_ans.specs.declared.line.Line.TheVariants.{Ack, OutOfMemory, Completed, BadInput}
use Rattle.serapi_ans.specs.declared.line.Exn.TheVariants as exn
use Rattle.doc_theory.specs.Documents.{Kind, plain, Document, empty}
use Rattle.doc_theory.specs.Editing.{Tried, refused, attempt}
use Rattle.doc_theory.specs.Checks.{Piece, piece, unread}
use Rattle.doc_theory.specs.Answers.{
  Cut,
  whole,
  after,
  cut_to,
  told_of,
  Ran,
  stopped,
  add_step,
  bad_text,
  Answer,
  answered,
  Outcomes,
}
use Rattle.doc_core.specs.Pieces.{pieces_of, begin_of, end_of}

-- ---- what is built

-- a declaration or a definition
abbrev pub is_plain : Kind → Bool
is_plain plain = true
is_plain other = false

-- neither `ontop` nor `lim` is given
abbrev pub is_simple : AddOpts → Bool
is_simple opts = not (is_some opts.ontop) && not (is_some opts.lim)

-- ---- Add

-- what becomes of a piece: a text that can't be read is refused by its offset; then a sentence that isn't built; the others are added by
-- the rules of the document
abbrev pub tried : Document → Piece → Tried
tried d (unread p) = refused (exn.Parse p)
tried d (piece p q x) = if is_plain x.kind then attempt d p x else refused exn.Unsupported

-- the pieces are added one after the other, up to the first refusal
abbrev pub add_all : List ℕ → List Piece → Document → Ran
add_all tag [] d = stopped d None
add_all tag (c ∷ cs) d = add_step tag (begin_of c) (end_of c) d (tried d c) (add_all tag cs)

-- a run, with a refusal where the command isn't cut
abbrev pub told : List ℕ → Cut → Ran → Answer
told tag cut r = answered r.document (r.lines ++ told_of cut tag r.stop)

-- ---- the answer to a request

-- the lines between the first and the last ones
abbrev pub perform : Document → List ℕ → Command → Cut → Answer
perform d tag (cmd.Add opts text) cut =
    if is_simple opts then told tag cut (add_all tag (cut_to cut (pieces_of text)) d) else told tag cut (stopped d (Some exn.Unsupported))
perform d tag cmd.Quit cut = answered d []
perform d tag other cut = told tag cut (stopped d (Some exn.Unsupported))

-- the lines that end what a command is answered
abbrev pub last_lines : List ℕ → Cut → List Line
last_lines tag whole = Completed tag ∷ []
last_lines tag (after n) = OutOfMemory tag ∷ Completed tag ∷ []

-- the new document and all lines
abbrev pub answer : Document → Request → Cut → Answer
answer d (Do t) cut =
    let a : Answer = perform d t.tag t.command cut in answered a.document (Ack t.tag ∷ a.lines ++ last_lines t.tag cut)
answer d (Bad b) cut = answered d (BadInput b.number (bad_text b.kind) b.offset ∷ [])

-- ---- cuts

-- how many steps a command has: the sentences that an Add adds
abbrev pub steps : Document → Command → ℕ
steps d (cmd.Add opts text) = if is_simple opts then length (add_all [] (pieces_of text) d).lines else 0
steps d other = 0

-- a cut command has done no more than its steps; Quit and a bad item are never cut
abbrev pub CommandMayBe : Document → Command → Cut → Type 0
CommandMayBe d c whole = Unit {0}
CommandMayBe d cmd.Quit (after n) = ⊥
CommandMayBe d c (after n) = n ≤ steps d c

-- the same of a request
abbrev pub MayBe : Document → Request → Cut → Type 0
MayBe d (Do t) cut = CommandMayBe d t.command cut
MayBe d (Bad b) whole = Unit {0}
MayBe d (Bad b) (after n) = ⊥

-- ---- what needs no Unsupported

-- declarations and definitions, up to where the text can't be read
abbrev pub AreBuilt : List Piece → Type 0
AreBuilt [] = Unit {0}
AreBuilt (unread p ∷ cs) = Unit {0}
AreBuilt (piece p q x ∷ cs) = (is_plain x.kind ≡ true) × AreBuilt cs

-- a command that is built
abbrev pub IsBuiltCommand : Command → Type 0
IsBuiltCommand (cmd.Add opts text) = (is_simple opts ≡ true) × AreBuilt (pieces_of text)
IsBuiltCommand cmd.Quit = Unit {0}
IsBuiltCommand other = ⊥

-- the same of a request; a bad item asks for nothing
abbrev pub IsBuilt : Request → Type 0
IsBuilt (Do t) = IsBuiltCommand t.command
IsBuilt (Bad b) = Unit {0}

-- ---- the one-thread document

-- what is written for requests with these outcomes, from a document on
abbrev pub answers_from : Document → List Request → List Outcomes → List Line
answers_from d [] os = []
answers_from d (q ∷ qs) [] = []
answers_from d (q ∷ qs) (o ∷ os) = (answer d q o.cut).lines ++ answers_from (answer d q o.cut).document qs os

-- what is written for requests with these outcomes by the document that holds at most so many sentences
abbrev pub answers : ℕ → List Request → List Outcomes → List Line
answers limit qs os = answers_from (empty limit) qs os
