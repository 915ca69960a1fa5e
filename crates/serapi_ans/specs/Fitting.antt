-- Lines whose numbers and texts are those of Rust's: each number is below 2 ^ 64, each text is of bytes.
use Rattle.std.specs.Prelude.{ℕ, ◌<◌, ◌^◌, List, [], ◌∷◌, Option, Some, None}
use Rattle.std.specs.List.{All}
use Rattle.serapi_ans.specs.Lines.{IsOfBytes}
use Rattle.serapi_ans.specs.declared.line.Line.{Line}
use Rattle.serapi_ans.specs.declared.line.Line.TheVariants.{Ack, Added, Canceled, EditAt, ObjList, Joined, CoqExn, OutOfMemory, Completed}
use Rattle.serapi_ans.specs.declared.line.Line.TheVariants.{Feedback, BadInput}
use Rattle.serapi_ans.specs.declared.line.EditLine.{EditLine}
use Rattle.serapi_ans.specs.declared.line.EditLine.TheVariants.{NewTip, Focus}
use Rattle.serapi_ans.specs.declared.line.BadText.TheVariants.{Word, BadField}
use Rattle.serapi_ans.specs.declared.line.Exn.{Exn}
use Rattle.serapi_ans.specs.declared.line.Exn.TheVariants.{Parse, NoOpenProof, ProofOpen, BadCloser, NotTip, NoSuchState, ZoneOpen}
use Rattle.serapi_ans.specs.declared.line.Exn.TheVariants.{TooMany, Check, UnknownName, Unsupported}

-- the number is below 2 ^ 64
abbrev pub IsSmall : ℕ → Type 0
IsSmall n = n < 2 ^ 64

-- each number is
abbrev pub AreSmall : List ℕ → Type 0
AreSmall [] = Unit {0}
AreSmall (n ∷ ns) = IsSmall n × AreSmall ns

-- the id of the tip is, where there is one
abbrev pub FitsTip : Option ℕ → Type 0
FitsTip None = Unit {0}
FitsTip (Some tip) = IsSmall tip

-- the numbers of what a reopening tells are
abbrev pub FitsEdit : EditLine → Type 0
FitsEdit (NewTip id) = IsSmall id
FitsEdit (Focus start stop tip) = IsSmall start × IsSmall stop × IsSmall tip

-- the id of each fault is
abbrev pub FitsFaults : List (ℕ × List ℕ) → Type 0
FitsFaults [] = Unit {0}
FitsFaults ((id, text) ∷ faults) = IsSmall id × FitsFaults faults

-- the numbers of a refusal are
abbrev pub FitsExn : Exn → Type 0
FitsExn (Parse offset) = IsSmall offset
FitsExn (NoOpenProof offset) = IsSmall offset
FitsExn (ProofOpen offset lemma) = IsSmall offset × IsSmall lemma
FitsExn (BadCloser offset closer) = IsSmall offset × IsSmall closer
FitsExn (NotTip id) = IsSmall id
FitsExn (NoSuchState id) = IsSmall id
FitsExn (ZoneOpen id closer) = IsSmall id × IsSmall closer
FitsExn (TooMany offset) = IsSmall offset
FitsExn (Check id text) = IsSmall id
FitsExn (UnknownName name) = Unit {0}
FitsExn Unsupported = Unit {0}

-- the numbers of a line are
abbrev pub Fits : Line → Type 0
Fits (Ack tag) = Unit {0}
Fits (Added tag id from to tip) = IsSmall id × IsSmall from × IsSmall to × FitsTip tip
Fits (Canceled tag ids) = AreSmall ids
Fits (EditAt tag edit) = FitsEdit edit
Fits (ObjList tag texts) = Unit {0}
Fits (Joined tag sentences faults) = IsSmall sentences × FitsFaults faults
Fits (CoqExn tag exn) = FitsExn exn
Fits (OutOfMemory tag) = Unit {0}
Fits (Completed tag) = Unit {0}
Fits (Feedback id route verdict) = IsSmall id × IsSmall route
Fits (BadInput item kind offset) = IsSmall item × IsSmall offset

-- ---- texts

-- the text is of bytes
abbrev pub IsText : List ℕ → Type 0
IsText bytes = All (λ b. b < 256) bytes

-- each text is
abbrev pub AreTexts : List (List ℕ) → Type 0
AreTexts [] = Unit {0}
AreTexts (text ∷ texts) = IsText text × AreTexts texts

-- the text of each fault is
abbrev pub HaveTexts : List (ℕ × List ℕ) → Type 0
HaveTexts [] = Unit {0}
HaveTexts ((id, text) ∷ faults) = IsText text × HaveTexts faults

-- the text of a refusal is, where it has one
abbrev pub HasExnTexts : Exn → Type 0
HasExnTexts (Check id text) = IsText text
HasExnTexts (UnknownName name) = IsText name
HasExnTexts other = Unit {0}

-- each text that stands in the line is of bytes
abbrev pub HasTexts : Line → Type 0
HasTexts (Ack tag) = IsText tag
HasTexts (Added tag id from to tip) = IsText tag
HasTexts (Canceled tag ids) = IsText tag
HasTexts (EditAt tag edit) = IsText tag
HasTexts (ObjList tag texts) = IsText tag × AreTexts texts
HasTexts (Joined tag sentences faults) = IsText tag × HaveTexts faults
HasTexts (CoqExn tag exn) = IsText tag × HasExnTexts exn
HasTexts (OutOfMemory tag) = IsText tag
HasTexts (Completed tag) = IsText tag
HasTexts (Feedback id route None) = Unit {0}
HasTexts (Feedback id route (Some text)) = IsText text
HasTexts (BadInput item (Word word) offset) = IsText word
HasTexts (BadInput item (BadField name) offset) = IsText name

-- a line that Rust may have: of bytes, and with numbers below 2 ^ 64
abbrev pub IsLine : Line → Type 0
IsLine line = IsOfBytes line × Fits line

-- each is a line whose numbers and texts are those of Rust
abbrev pub AreLines : List Line → Type 0
AreLines [] = Unit {0}
AreLines (line ∷ lines) = IsLine line × AreLines lines
