-- Lines whose texts are of bytes, and their values.
use Rattle.std.proofs.Common.{◌≡◌, ℕ, ◌+◌, ◌<◌, ◌≤◌, ◌/◌, ◌%◌, ◌&&◌, List, [], ◌∷◌, ◌++◌, map, codes, true, Option, Some, None, refl, ◌∙◌}
use Rattle.std.proofs.Common.{arith}
use Rattle.std.specs.List.{list_all}
use Rattle.std.specs.Fmt.{decimal}
use Rattle.std.proofs.lemmas.Fmt.{decimal_by_steps}
use Rattle.std.proofs.lemmas.List.Folds.{list_all-append}
use Rattle.std.proofs.lemmas.Bool.{agree_below_at, and_from}
use Rattle.sexp_theory.specs.Values.{Value, atom, values, HasBytes, HaveBytes}
use Rattle.sexp_theory.proofs.AtomTexts.{is_byte, below_all}
use Rattle.serapi_ans.specs.Lines.{number, pair, triple, list_of, answer_value, range_value, tip_value, added_value, edit_value}
use Rattle.serapi_ans.specs.Lines.{string_value, fault_value, exn_value, verdict_value, bad_value, IsOfBytes}
use Rattle.serapi_ans.specs.Fitting.{IsSmall, AreSmall, FitsTip, FitsEdit, FitsFaults, FitsExn, Fits, IsText, AreTexts, HaveTexts}
use Rattle.serapi_ans.specs.Fitting.{HasExnTexts, HasTexts, IsLine}
use Rattle.serapi_ans.specs.declared.line.Line.{Line}
use Rattle.serapi_ans.specs.declared.line.Line.TheVariants.{Ack, Added, Canceled, EditAt, ObjList, Joined, CoqExn, OutOfMemory, Completed}
use Rattle.serapi_ans.specs.declared.line.Line.TheVariants.{Feedback, BadInput}
use Rattle.serapi_ans.specs.declared.line.EditLine.{EditLine}
use Rattle.serapi_ans.specs.declared.line.EditLine.TheVariants.{NewTip, Focus}
use Rattle.serapi_ans.specs.declared.line.BadText.TheVariants.{Word, BadField}
use Rattle.serapi_ans.specs.declared.line.Exn.{Exn}
use Rattle.serapi_ans.specs.declared.line.Exn.TheVariants.{Parse, NoOpenProof, ProofOpen, BadCloser, NotTip, NoSuchState, ZoneOpen}
use Rattle.serapi_ans.specs.declared.line.Exn.TheVariants.{TooMany, Check, UnknownName, Unsupported}

-- ---- numbers

byte_digit : (d : ℕ) → d < 10 → is_byte (48 + d) ≡ true
byte_digit d h = agree_below_at (λ d. is_byte (48 + d)) (λ _. true) 10 d refl h

abbrev AreDigits : ℕ → List ℕ → Type 0
AreDigits n ds = list_all is_byte ds ≡ true

one_digit : (n : ℕ) → n < 10 → AreDigits n ((48 + n) ∷ [])
one_digit n h = and_from (is_byte (48 + n)) true (byte_digit n h) refl

more_digits : (n : ℕ) (ds : List ℕ) → 10 ≤ n → AreDigits (n / 10) ds → AreDigits n (ds ++ ((48 + n % 10) ∷ []))
more_digits n ds h w =
    list_all-append is_byte ds ((48 + n % 10) ∷ []) ∙ and_from (list_all is_byte ds) (is_byte (48 + n % 10) && true) w
    (and_from (is_byte (48 + n % 10)) true (byte_digit (n % 10) (omega arith)) refl)

number_bytes : (n : ℕ) → IsSmall n → HasBytes (number n)
number_bytes n h = below_all (decimal n) (decimal_by_steps AreDigits one_digit more_digits n h)

-- ---- lists of a word and values

pair_bytes : (word : List ℕ) (v : Value) → list_all is_byte word ≡ true → HasBytes v → HasBytes (pair word v)
pair_bytes word v e h = (below_all word e, (h, tt))

triple_bytes : (word : List ℕ) (v w : Value) → list_all is_byte word ≡ true → HasBytes v → HasBytes w → HasBytes (triple word v w)
triple_bytes word v w e h k = (below_all word e, (h, (k, tt)))

answer_bytes : (tag : List ℕ) (v : Value) → IsText tag → HasBytes v → HasBytes (answer_value tag v)
answer_bytes tag v h k = triple_bytes (codes "Answer") (atom tag) v refl h k

range_bytes : (from to : ℕ) → IsSmall from → IsSmall to → HasBytes (range_value from to)
range_bytes from to h k = (
  pair_bytes (codes "bp") (number from) refl (number_bytes from h),
  (pair_bytes (codes "ep") (number to) refl (number_bytes to k), tt),
)

tip_bytes : (tip : Option ℕ) → FitsTip tip → HasBytes (tip_value tip)
tip_bytes None h = below_all (codes "NewTip") refl
tip_bytes (Some tip) h = pair_bytes (codes "Unfocus") (number tip) refl (number_bytes tip h)

edit_bytes : (edit : EditLine) → FitsEdit edit → HasBytes (edit_value edit)
edit_bytes (NewTip id) h = pair_bytes (codes "NewTip") (number id) refl (number_bytes id h)
edit_bytes (Focus start stop tip) h = (
  below_all (codes "Focus") refl,
  (
    (
      pair_bytes (codes "start") (number start) refl (number_bytes start h.0),
      (
        pair_bytes (codes "stop") (number stop) refl (number_bytes stop h.1),
        (pair_bytes (codes "tip") (number tip) refl (number_bytes tip h.2), tt),
      ),
    ),
    tt,
  ),
)

numbers_bytes : (ns : List ℕ) → AreSmall ns → HaveBytes (values (map number ns))
numbers_bytes [] h = tt
numbers_bytes (n ∷ ns) h = (number_bytes n h.0, numbers_bytes ns h.1)

strings_bytes : (ts : List (List ℕ)) → AreTexts ts → HaveBytes (values (map string_value ts))
strings_bytes [] h = tt
strings_bytes (t ∷ ts) h = (pair_bytes (codes "CoqString") (atom t) refl h.0, strings_bytes ts h.1)

faults_bytes : (fs : List (ℕ × List ℕ)) → FitsFaults fs → HaveTexts fs → HaveBytes (values (map fault_value fs))
faults_bytes [] h k = tt
faults_bytes ((id, text) ∷ fs) h k = ((number_bytes id h.0, (k.0, tt)), faults_bytes fs h.1 k.1)

exn_bytes : (exn : Exn) → FitsExn exn → HasExnTexts exn → HasBytes (exn_value exn)
exn_bytes (Parse offset) h k = pair_bytes (codes "Parse") (number offset) refl (number_bytes offset h)
exn_bytes (NoOpenProof offset) h k = pair_bytes (codes "NoOpenProof") (number offset) refl (number_bytes offset h)
exn_bytes (ProofOpen offset lemma) h k = triple_bytes (codes "ProofOpen") (number offset) (number lemma) refl (number_bytes offset h.0)
    (number_bytes lemma h.1)
exn_bytes (BadCloser offset closer) h k = triple_bytes (codes "BadCloser") (number offset) (number closer) refl (number_bytes offset h.0)
    (number_bytes closer h.1)
exn_bytes (NotTip id) h k = pair_bytes (codes "NotTip") (number id) refl (number_bytes id h)
exn_bytes (NoSuchState id) h k = pair_bytes (codes "NoSuchState") (number id) refl (number_bytes id h)
exn_bytes (ZoneOpen id closer) h k = triple_bytes (codes "ZoneOpen") (number id) (number closer) refl (number_bytes id h.0)
    (number_bytes closer h.1)
exn_bytes (TooMany offset) h k = pair_bytes (codes "TooMany") (number offset) refl (number_bytes offset h)
exn_bytes (Check id text) h k = triple_bytes (codes "Check") (number id) (atom text) refl (number_bytes id h) k
exn_bytes (UnknownName name) h k = pair_bytes (codes "UnknownName") (atom name) refl k
exn_bytes Unsupported h k = below_all (codes "Unsupported") refl

message_bytes : (text : List ℕ) → IsText text → HasBytes (verdict_value (Some text))
message_bytes text h = (
  below_all (codes "Message") refl,
  (
    (
      pair_bytes (codes "level") (atom (codes "Error")) refl (below_all (codes "Error") refl),
      (pair_bytes (codes "text") (atom text) refl h, tt),
    ),
    tt,
  ),
)

feedback_bytes : (id route : ℕ) (v : Value) → IsSmall id → IsSmall route → HasBytes v
    → HaveBytes (values (pair (codes "doc_id") (number 0) ∷ pair (codes "span_id") (number id) ∷ pair (codes "route") (number route) ∷
    pair (codes "contents") v ∷ []))
feedback_bytes id route v h k w = (
  pair_bytes (codes "doc_id") (number 0) refl (number_bytes 0 (omega arith)),
  (
    pair_bytes (codes "span_id") (number id) refl (number_bytes id h),
    (pair_bytes (codes "route") (number route) refl (number_bytes route k), (pair_bytes (codes "contents") v refl w, tt)),
  ),
)

bad_bytes : (item offset : ℕ) (v : Value) → IsSmall item → IsSmall offset → HasBytes v
    → HaveBytes (values (atom (codes "BadInput") ∷ number item ∷ v ∷ number offset ∷ []))
bad_bytes item offset v h k w = (below_all (codes "BadInput") refl, (number_bytes item h, (w, (number_bytes offset k, tt))))

-- ---- lines

of_bytes : (line : Line) → Fits line → HasTexts line → IsOfBytes line
of_bytes (Ack tag) h k = answer_bytes tag (atom (codes "Ack")) k (below_all (codes "Ack") refl)
of_bytes (Added tag id from to tip) h k =
    answer_bytes tag (added_value id from to tip) k
    (below_all (codes "Added") refl, (number_bytes id h.0, (range_bytes from to h.1 h.2, (tip_bytes tip h.3, tt))))
of_bytes (Canceled tag ids) h k = answer_bytes tag (pair (codes "Canceled") (list_of (map number ids))) k
    (pair_bytes (codes "Canceled") (list_of (map number ids)) refl (numbers_bytes ids h))
of_bytes (EditAt tag edit) h k = answer_bytes tag (pair (codes "EditAt") (edit_value edit)) k
    (pair_bytes (codes "EditAt") (edit_value edit) refl (edit_bytes edit h))
of_bytes (ObjList tag texts) h k =
    answer_bytes tag (pair (codes "ObjList") (list_of (map string_value texts))) k.0
    (pair_bytes (codes "ObjList") (list_of (map string_value texts)) refl (strings_bytes texts k.1))
of_bytes (Joined tag sentences faults) h k =
    let all : Value = list_of (map fault_value faults) in
    answer_bytes tag (triple (codes "Joined") (pair (codes "sentences") (number sentences)) (pair (codes "faults") all)) k.0
    (triple_bytes (codes "Joined") (pair (codes "sentences") (number sentences)) (pair (codes "faults") all) refl
    (pair_bytes (codes "sentences") (number sentences) refl (number_bytes sentences h.0))
    (pair_bytes (codes "faults") all refl (faults_bytes faults h.1 k.1)))
of_bytes (CoqExn tag exn) h k = answer_bytes tag (pair (codes "CoqExn") (exn_value exn)) k.0
    (pair_bytes (codes "CoqExn") (exn_value exn) refl (exn_bytes exn h k.1))
of_bytes (OutOfMemory tag) h k = answer_bytes tag (atom (codes "OutOfMemory")) k (below_all (codes "OutOfMemory") refl)
of_bytes (Completed tag) h k = answer_bytes tag (atom (codes "Completed")) k (below_all (codes "Completed") refl)
of_bytes (Feedback id route None) h k = (
  below_all (codes "Feedback") refl,
  (feedback_bytes id route (atom (codes "Processed")) h.0 h.1 (below_all (codes "Processed") refl), tt),
)
of_bytes (Feedback id route (Some text)) h k =
    (below_all (codes "Feedback") refl, (feedback_bytes id route (verdict_value (Some text)) h.0 h.1 (message_bytes text k), tt))
of_bytes (BadInput item (Word word) offset) h k = bad_bytes item offset (atom word) h.0 h.1 k
of_bytes (BadInput item (BadField name) offset) h k =
    bad_bytes item offset (bad_value (BadField name)) h.0 h.1 (pair_bytes (codes "BadField") (atom name) refl k)

pub is_line : (line : Line) → Fits line → HasTexts line → IsLine line
is_line line h k = (of_bytes line h k, h)
