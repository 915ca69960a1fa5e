-- The value that each line is written as, and its text.
use Rattle.std.specs.Prelude.{ℕ, List, [], ◌∷◌, ◌++◌, map, codes, Bool, true, false, Option, Some, None}
use Rattle.std.specs.Fmt.{decimal}
use Rattle.sexp_theory.specs.Values.{Value, atom, list, values, HasBytes}
use Rattle.sexp_theory.specs.Writing.{text}
use Rattle.serapi_ans.specs.declared.line.Line.{Line}
use Rattle.serapi_ans.specs.declared.line.Line.TheVariants.{Ack, Added, Canceled, EditAt, ObjList, Joined, CoqExn, OutOfMemory, Completed}
use Rattle.serapi_ans.specs.declared.line.Line.TheVariants.{Feedback, BadInput}
use Rattle.serapi_ans.specs.declared.line.EditLine.{EditLine}
use Rattle.serapi_ans.specs.declared.line.EditLine.TheVariants.{NewTip, Focus}
use Rattle.serapi_ans.specs.declared.line.BadText.{BadText}
use Rattle.serapi_ans.specs.declared.line.BadText.TheVariants.{Word, BadField}
use Rattle.serapi_ans.specs.declared.line.Exn.{Exn}
use Rattle.serapi_ans.specs.declared.line.Exn.TheVariants.{Parse, NoOpenProof, ProofOpen, BadCloser, NotTip, NoSuchState, ZoneOpen}
use Rattle.serapi_ans.specs.declared.line.Exn.TheVariants.{TooMany, Check, UnknownName, Unsupported}

-- ---- parts

-- the list of these values
abbrev pub list_of : List Value → Value
list_of vs = list (values vs)

-- a number, in decimal
abbrev pub number : ℕ → Value
number n = atom (decimal n)

-- a list of a word and a value, or of two
abbrev pub pair : List ℕ → Value → Value
pair word v = list_of (atom word ∷ v ∷ [])

-- a list of a word and two values
abbrev pub triple : List ℕ → Value → Value → Value
triple word v w = list_of (atom word ∷ v ∷ w ∷ [])

-- the tip behind an Add: `NewTip`, or where a zone was closed the sentence that is the tip
abbrev pub tip_value : Option ℕ → Value
tip_value None = atom (codes "NewTip")
tip_value (Some tip) = pair (codes "Unfocus") (number tip)

-- the offsets of a sentence's first byte and of the byte behind it
abbrev pub range_value : ℕ → ℕ → Value
range_value from to = list_of (pair (codes "bp") (number from) ∷ pair (codes "ep") (number to) ∷ [])

-- a sentence was added: its id, its offsets, the tip
abbrev pub added_value : ℕ → ℕ → ℕ → Option ℕ → Value
added_value id from to tip = list_of (atom (codes "Added") ∷ number id ∷ range_value from to ∷ tip_value tip ∷ [])

-- a sentence was reopened inside a block
abbrev pub focus_value : ℕ → ℕ → ℕ → Value
focus_value start stop tip =
    pair (codes "Focus") (list_of (pair (codes "start") (number start) ∷ pair (codes "stop") (number stop) ∷ pair (codes "tip")
    (number tip) ∷ []))

-- where the cursor stands after a reopening
abbrev pub edit_value : EditLine → Value
edit_value (NewTip id) = pair (codes "NewTip") (number id)
edit_value (Focus start stop tip) = focus_value start stop tip

-- a text that a Query asked for
abbrev pub string_value : List ℕ → Value
string_value bytes = pair (codes "CoqString") (atom bytes)

-- a fault of a Join: the id of a sentence and the text of its verdict
abbrev pub fault_value : ℕ × List ℕ → Value
fault_value (id, text) = list_of (number id ∷ atom text ∷ [])

-- why a command is refused
abbrev pub exn_value : Exn → Value
exn_value (Parse offset) = pair (codes "Parse") (number offset)
exn_value (NoOpenProof offset) = pair (codes "NoOpenProof") (number offset)
exn_value (ProofOpen offset lemma) = triple (codes "ProofOpen") (number offset) (number lemma)
exn_value (BadCloser offset closer) = triple (codes "BadCloser") (number offset) (number closer)
exn_value (NotTip id) = pair (codes "NotTip") (number id)
exn_value (NoSuchState id) = pair (codes "NoSuchState") (number id)
exn_value (ZoneOpen id closer) = triple (codes "ZoneOpen") (number id) (number closer)
exn_value (TooMany offset) = pair (codes "TooMany") (number offset)
exn_value (Check id text) = triple (codes "Check") (number id) (atom text)
exn_value (UnknownName name) = pair (codes "UnknownName") (atom name)
exn_value Unsupported = atom (codes "Unsupported")

-- a verdict that isn't Good
abbrev pub message_value : List ℕ → Value
message_value text = pair (codes "Message") (list_of (pair (codes "level") (atom (codes "Error")) ∷ pair (codes "text") (atom text) ∷ []))

-- what is told of a sentence: that it was processed, or the text of its verdict
abbrev pub verdict_value : Option (List ℕ) → Value
verdict_value None = atom (codes "Processed")
verdict_value (Some text) = message_value text

-- why an item is no command
abbrev pub bad_value : BadText → Value
bad_value (Word word) = atom word
bad_value (BadField name) = pair (codes "BadField") (atom name)

-- ---- lines

-- what answers the command with a tag
abbrev pub answer_value : List ℕ → Value → Value
answer_value tag v = triple (codes "Answer") (atom tag) v

-- the value that a line is written as
abbrev pub line_value : Line → Value
line_value (Ack tag) = answer_value tag (atom (codes "Ack"))
line_value (Added tag id from to tip) = answer_value tag (added_value id from to tip)
line_value (Canceled tag ids) = answer_value tag (pair (codes "Canceled") (list_of (map number ids)))
line_value (EditAt tag edit) = answer_value tag (pair (codes "EditAt") (edit_value edit))
line_value (ObjList tag texts) = answer_value tag (pair (codes "ObjList") (list_of (map string_value texts)))
line_value (Joined tag sentences faults) =
    answer_value tag (triple (codes "Joined") (pair (codes "sentences") (number sentences))
    (pair (codes "faults") (list_of (map fault_value faults))))
line_value (CoqExn tag exn) = answer_value tag (pair (codes "CoqExn") (exn_value exn))
line_value (OutOfMemory tag) = answer_value tag (atom (codes "OutOfMemory"))
line_value (Completed tag) = answer_value tag (atom (codes "Completed"))
line_value (Feedback id route verdict) =
    pair (codes "Feedback")
    (list_of (pair (codes "doc_id") (number 0) ∷ pair (codes "span_id") (number id) ∷ pair (codes "route") (number route) ∷ pair
    (codes "contents") (verdict_value verdict) ∷ []))
line_value (BadInput n kind offset) = list_of (atom (codes "BadInput") ∷ number n ∷ bad_value kind ∷ number offset ∷ [])

-- the text of a line: its value, written, and the byte 10
abbrev pub line_text : Line → List ℕ
line_text line = text (line_value line) ++ 10 ∷ []

-- the texts of lines, one behind the other
abbrev pub lines_text : List Line → List ℕ
lines_text [] = []
lines_text (line ∷ lines) = line_text line ++ lines_text lines

-- the lines that end what a command is answered: that memory was short, where it was, and the last line
abbrev pub last_lines : List ℕ → Bool → List Line
last_lines tag true = OutOfMemory tag ∷ Completed tag ∷ []
last_lines tag false = Completed tag ∷ []

-- the atoms of the line's value are lists of bytes
abbrev pub IsOfBytes : Line → Type 0
IsOfBytes line = HasBytes (line_value line)
