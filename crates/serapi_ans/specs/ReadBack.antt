-- A value, read as a line: the line whose value it is, if it is one's, else any line.
use Rattle.std.specs.Prelude.{◌≡◌, ◌≢◌, ℕ, ◌+◌, ◌*◌, ◌&&◌, List, [], ◌∷◌, codes, Bool, nat_lt, nat_eq, Option, Some, None, Result, Ok}
use Rattle.std.specs.Prelude.{Err, if◌then◌else◌}
use Rattle.std.specs.Cmp.Lexicographic.{pointwise}
use Rattle.std.specs.Char.{digit_value}
use Rattle.std.specs.Borrow.{Bor}
use Rattle.sexp_theory.specs.Values.{Value, atom, list, Values, nil, cons}
use Rattle.sexp_theory.specs.Signs.{is_decimal}
use Rattle.sexp_theory.specs.Writing.{text}
use Rattle.sexp_core.specs.declared.sexp.Sexp.{Sexp}
use Rattle.sexp_core.specs.Sexp.{meaning}
use Rattle.serapi_ans.specs.Lines.{line_value}
use Rattle.serapi_ans.specs.Fitting.{IsLine}
use Rattle.serapi_ans.specs.declared.read.LineFault.{LineFault}
use Rattle.serapi_ans.specs.declared.read.LineFault.TheVariants.{NotALine, NoMemory}
use Rattle.serapi_ans.specs.declared.line.Line.{Line}
use Rattle.serapi_ans.specs.declared.line.Line.TheVariants.{Ack, Added, Canceled, EditAt, ObjList, Joined, CoqExn, OutOfMemory, Completed}
use Rattle.serapi_ans.specs.declared.line.Line.TheVariants.{Feedback, BadInput}
use Rattle.serapi_ans.specs.declared.line.EditLine.{EditLine}
use Rattle.serapi_ans.specs.declared.line.EditLine.TheVariants.{NewTip, Focus}
use Rattle.serapi_ans.specs.declared.line.BadText.{BadText}
use Rattle.serapi_ans.specs.declared.line.BadText.TheVariants.{Word, BadField}
use Rattle.serapi_ans.specs.declared.line.Exn.{Exn}
use Rattle.serapi_ans.specs.declared.line.Exn.TheVariants.{Parse, NoOpenProof, ProofOpen, BadCloser, NotTip, NoSuchState, ZoneOpen}
use Rattle.serapi_ans.specs.declared.line.Exn.TheVariants.{TooMany, Check, UnknownName, Unsupported}

-- what a text is read as: the line whose text it is, and no line exactly where it is no line's
abbrev pub IsRead : List ℕ → Result Line LineFault → Type 0
IsRead bytes (Ok line) = text (line_value line) ≡ bytes
IsRead bytes (Err NotALine) = (line : Line) → IsLine line → text (line_value line) ≢ bytes
IsRead bytes (Err NoMemory) = Unit {0}

-- the line is read, or memory was wanting
abbrev pub Reads : Line → Result Line LineFault → Type 0
Reads line (Ok read) = read ≡ line
Reads line (Err NotALine) = ⊥
Reads line (Err NoMemory) = Unit {0}

-- each line whose text this is, is read
abbrev pub ReadsEach : List ℕ → Result Line LineFault → Type 0
ReadsEach bytes result = (line : Line) → IsLine line → text (line_value line) ≡ bytes → Reads line result

-- ---- parts of a value; what has none has nothing in its place

-- the value of a part; nothing has the empty atom
abbrev pub value_in : Option (Bor Sexp) → Value
value_in None = atom []
value_in (Some sexp) = meaning sexp.now

-- the bytes of an atom; a list has none
abbrev pub text_in : Value → List ℕ
text_in (atom bytes) = bytes
text_in (list vs) = []

-- the number with one digit more, or 0 where that is no digit or the number is too large
abbrev pub with_digit : ℕ → ℕ → ℕ
with_digit n b = if is_decimal b && nat_lt (n * 10 + digit_value b) 18446744073709551616 then n * 10 + digit_value b else 0

-- the number that digits spell behind one that was read
abbrev pub number_from : ℕ → List ℕ → ℕ
number_from n [] = n
number_from n (b ∷ bs) = number_from (with_digit n b) bs

-- the number that an atom spells
abbrev pub number_in : Value → ℕ
number_in v = number_from 0 (text_in v)

-- all values but the first
abbrev pub rest_of : Values → Values
rest_of nil = nil
rest_of (cons v vs) = vs

-- the first of values
abbrev pub first_of : Values → Value
first_of nil = atom []
first_of (cons v vs) = v

-- the values of a list; an atom has none
abbrev pub all_of : Value → Values
all_of (atom bytes) = nil
all_of (list vs) = vs

-- the first value of a list
abbrev pub at0 : Value → Value
at0 v = first_of (all_of v)

-- the second value of a list
abbrev pub at1 : Value → Value
at1 v = first_of (rest_of (all_of v))

-- the third value of a list
abbrev pub at2 : Value → Value
at2 v = first_of (rest_of (rest_of (all_of v)))

-- the fourth value of a list
abbrev pub at3 : Value → Value
at3 v = first_of (rest_of (rest_of (rest_of (all_of v))))

-- the list begins with this word
abbrev pub has_word : Value → List ℕ → Bool
has_word v word = pointwise nat_eq (text_in (at0 v)) word

-- the numbers that values spell
abbrev pub numbers_in : Values → List ℕ
numbers_in nil = []
numbers_in (cons v vs) = number_in v ∷ numbers_in vs

-- the texts of strings
abbrev pub strings_in : Values → List (List ℕ)
strings_in nil = []
strings_in (cons v vs) = text_in (at1 v) ∷ strings_in vs

-- the faults of a Join
abbrev pub faults_in : Values → List (ℕ × List ℕ)
faults_in nil = []
faults_in (cons v vs) = (number_in (at0 v), text_in (at1 v)) ∷ faults_in vs

-- the tip behind an Add
abbrev pub tip_of : Value → Option ℕ
tip_of (atom word) = None
tip_of (list vs) = Some (number_in (at1 (list vs)))

-- where the cursor stands after a reopening
abbrev pub edit_of : Value → EditLine
edit_of v =
    if has_word v (codes "NewTip") then NewTip (number_in (at1 v))
    else Focus (number_in (at1 (at0 (at1 v)))) (number_in (at1 (at1 (at1 v)))) (number_in (at1 (at2 (at1 v))))

-- the refusal that has numbers alone
abbrev pub numbered_exn_of : Value → ℕ → ℕ → Exn
numbered_exn_of v n m =
    if has_word v (codes "Parse") then Parse n
    else (if has_word v (codes "NoOpenProof") then NoOpenProof n
    else (if has_word v (codes "ProofOpen") then ProofOpen n m
    else (if has_word v (codes "BadCloser") then BadCloser n m
    else (if has_word v (codes "NotTip") then NotTip n
    else (if has_word v (codes "NoSuchState") then NoSuchState n
    else (if has_word v (codes "ZoneOpen") then ZoneOpen n m
    else TooMany n))))))

-- the refusal that a list tells
abbrev pub list_exn_of : Value → Exn
list_exn_of v =
    if has_word v (codes "Check") then Check (number_in (at1 v)) (text_in (at2 v))
    else (if has_word v (codes "UnknownName") then UnknownName (text_in (at1 v))
    else numbered_exn_of v (number_in (at1 v)) (number_in (at2 v)))

-- the refusal that a value tells
abbrev pub exn_of : Value → Exn
exn_of (atom word) = Unsupported
exn_of (list vs) = list_exn_of (list vs)

-- the text of a verdict, where it isn't Good
abbrev pub verdict_of : Value → Option (List ℕ)
verdict_of (atom word) = None
verdict_of (list vs) = Some (text_in (at1 (at1 (at1 (list vs)))))

-- why an item is no command
abbrev pub kind_of : Value → BadText
kind_of (atom word) = Word word
kind_of (list vs) = BadField (text_in (at1 (list vs)))

-- the line that answers by a word
abbrev pub plain_of : List ℕ → List ℕ → Line
plain_of tag word =
    if pointwise nat_eq word (codes "Ack") then Ack tag
    else (if pointwise nat_eq word (codes "OutOfMemory") then OutOfMemory tag else Completed tag)

-- the line of a sentence that was added
abbrev pub added_of : List ℕ → Value → Line
added_of tag v = Added tag (number_in (at1 v)) (number_in (at1 (at0 (at2 v)))) (number_in (at1 (at1 (at2 v)))) (tip_of (at3 v))

-- the line that answers by a list
abbrev pub list_answer_of : List ℕ → Value → Line
list_answer_of tag v =
    if has_word v (codes "Added") then added_of tag v
    else (if has_word v (codes "Canceled") then Canceled tag (numbers_in (all_of (at1 v)))
    else (if has_word v (codes "EditAt") then EditAt tag (edit_of (at1 v))
    else (if has_word v (codes "ObjList") then ObjList tag (strings_in (all_of (at1 v)))
    else (if has_word v (codes "Joined") then Joined tag (number_in (at1 (at1 v))) (faults_in (all_of (at1 (at2 v))))
    else CoqExn tag (exn_of (at1 v))))))

-- the line that answers the command with a tag
abbrev pub answer_of : List ℕ → Value → Line
answer_of tag (atom word) = plain_of tag word
answer_of tag (list vs) = list_answer_of tag (list vs)

-- the line of a verdict
abbrev pub feedback_of : Value → Line
feedback_of v = Feedback (number_in (at1 (at1 v))) (number_in (at1 (at2 v))) (verdict_of (at1 (at3 v)))

-- the line whose value this is
abbrev pub line_of : Value → Line
line_of v =
    if has_word v (codes "Answer") then answer_of (text_in (at1 v)) (at2 v)
    else (if has_word v (codes "Feedback") then feedback_of (at1 v)
    else BadInput (number_in (at1 v)) (kind_of (at2 v)) (number_in (at3 v)))
