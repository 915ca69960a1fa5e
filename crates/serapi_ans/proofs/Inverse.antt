-- A line, found again from its value.
use Rattle.std.proofs.Common.{◌≡◌, ℕ, ◌<◌, ◌≤◌, ◌^◌, ◌+◌, ◌*◌, ◌/◌, ◌%◌, ◌&&◌, nat_lt, arith, List, [], ◌∷◌, ◌++◌, map, true, Option}
use Rattle.std.proofs.Common.{Some, None, if◌then◌else◌, refl, sym, ap, ◌∙◌}
use Rattle.std.specs.Prelude.{nat_eq}
use Rattle.std.specs.Char.{digit_value}
use Rattle.std.proofs.lemmas.Fmt.{decimal_by_steps}
use Rattle.std.proofs.lemmas.Bool.{agree_below_at, lt-ltb, eqb-true}
use Rattle.sexp_theory.specs.Values.{values}
use Rattle.serapi_ans.specs.Lines.{number, string_value, fault_value, exn_value, bad_value, edit_value, verdict_value, tip_value}
use Rattle.serapi_ans.specs.Lines.{line_value}
use Rattle.sexp_theory.specs.Signs.{is_decimal}
use Rattle.serapi_ans.specs.ReadBack.{with_digit, number_from, number_in, numbers_in, strings_in, faults_in, tip_of, edit_of, exn_of}
use Rattle.serapi_ans.specs.ReadBack.{verdict_of, kind_of, line_of}
use Rattle.serapi_ans.specs.Fitting.{IsSmall, AreSmall, FitsTip, FitsEdit, FitsFaults, FitsExn, Fits}
use Rattle.serapi_ans.specs.declared.line.Line.{Line}
use Rattle.serapi_ans.specs.declared.line.Line.TheVariants.{Ack, Added, Canceled, EditAt, ObjList, Joined, CoqExn, OutOfMemory, Completed}
use Rattle.serapi_ans.specs.declared.line.Line.TheVariants.{Feedback, BadInput}
use Rattle.serapi_ans.specs.declared.line.EditLine.{EditLine}
use Rattle.serapi_ans.specs.declared.line.EditLine.TheVariants.{NewTip, Focus}
use Rattle.serapi_ans.specs.declared.line.BadText.{BadText}
use Rattle.serapi_ans.specs.declared.line.BadText.TheVariants.{Word, BadField}
use Rattle.serapi_ans.specs.declared.line.Exn.{Exn}
use Rattle.serapi_ans.specs.declared.line.Exn.TheVariants.{Parse, NoOpenProof, ProofOpen, BadCloser, NotTip, NoSuchState, ZoneOpen}
use Rattle.serapi_ans.specs.declared.line.Exn.TheVariants.{TooMany, Check, UnknownName, Unsupported}

-- ---- what is found again

with_is : (m b n : ℕ) → is_decimal b ≡ true → m * 10 + digit_value b ≡ n → n < 2 ^ 64 → with_digit m b ≡ n
with_is m b n d e h =
    ap (λ t. if t && nat_lt (m * 10 + digit_value b) 18446744073709551616 then m * 10 + digit_value b else 0) d
    ∙ ap (λ k. if nat_lt k 18446744073709551616 then k else 0) e ∙ ap (λ t. if t then n else 0) (lt-ltb n 18446744073709551616 h)

digit_test : (d : ℕ) → d < 10 → is_decimal (48 + d) ≡ true
digit_test d h = agree_below_at (λ d. is_decimal (48 + d)) (λ _. true) 10 d refl h

digit_is : (d : ℕ) → d < 10 → digit_value (48 + d) ≡ d
digit_is d h = eqb-true _ _ (agree_below_at (λ d. nat_eq (digit_value (48 + d)) d) (λ _. true) 10 d refl h)

from_append : (m : ℕ) (xs ys : List ℕ) → number_from m (xs ++ ys) ≡ number_from (number_from m xs) ys
from_append m [] ys = refl
from_append m (x ∷ xs) ys = from_append (with_digit m x) xs ys

abbrev IsReadAs : ℕ → List ℕ → Type 0
IsReadAs n ds = n < 2 ^ 64 → number_from 0 ds ≡ n

one_digit : (n : ℕ) → n < 10 → IsReadAs n ((48 + n) ∷ [])
one_digit n h small = with_is 0 (48 + n) n (digit_test n h) (omega (arith, digit_is n h)) small

more_digits : (n : ℕ) (ds : List ℕ) → 10 ≤ n → IsReadAs (n / 10) ds → IsReadAs n (ds ++ ((48 + n % 10) ∷ []))
more_digits n ds h w small =
    from_append 0 ds ((48 + n % 10) ∷ []) ∙ ap (λ m. with_digit m (48 + n % 10)) (w (omega (arith, small)))
    ∙ with_is (n / 10) (48 + n % 10) n (digit_test (n % 10) (omega arith)) (omega (arith, digit_is (n % 10) (omega arith))) small

number_back : (n : ℕ) → IsSmall n → number_in (number n) ≡ n
number_back n h = decimal_by_steps IsReadAs one_digit more_digits n h h

numbers_back : (ns : List ℕ) → AreSmall ns → numbers_in (values (map number ns)) ≡ ns
numbers_back [] h = refl
numbers_back (n ∷ ns) h = ap (λ m. m ∷ numbers_in (values (map number ns))) (number_back n h.0) ∙ ap (λ ms. n ∷ ms) (numbers_back ns h.1)

strings_back : (ts : List (List ℕ)) → strings_in (values (map string_value ts)) ≡ ts
strings_back [] = refl
strings_back (t ∷ ts) = ap (λ us. t ∷ us) (strings_back ts)

faults_back : (fs : List (ℕ × List ℕ)) → FitsFaults fs → faults_in (values (map fault_value fs)) ≡ fs
faults_back [] h = refl
faults_back ((n, t) ∷ fs) h = ap (λ m. (m, t) ∷ faults_in (values (map fault_value fs))) (number_back n h.0)
    ∙ ap (λ gs. (n, t) ∷ gs) (faults_back fs h.1)

tip_back : (tip : Option ℕ) → FitsTip tip → tip_of (tip_value tip) ≡ tip
tip_back None h = refl
tip_back (Some n) h = ap Some (number_back n h)

edit_back : (edit : EditLine) → FitsEdit edit → edit_of (edit_value edit) ≡ edit
edit_back (NewTip id) h = ap NewTip (number_back id h)
edit_back (Focus start stop tip) h =
    ap (λ n. Focus n (number_in (number stop)) (number_in (number tip))) (number_back start h.0)
    ∙ ap (λ n. Focus start n (number_in (number tip))) (number_back stop h.1) ∙ ap (Focus start stop) (number_back tip h.2)

exn_back : (exn : Exn) → FitsExn exn → exn_of (exn_value exn) ≡ exn
exn_back (Parse p) h = ap Parse (number_back p h)
exn_back (NoOpenProof p) h = ap NoOpenProof (number_back p h)
exn_back (ProofOpen p id) h = ap (λ n. ProofOpen n (number_in (number id))) (number_back p h.0) ∙ ap (ProofOpen p) (number_back id h.1)
exn_back (BadCloser p id) h = ap (λ n. BadCloser n (number_in (number id))) (number_back p h.0) ∙ ap (BadCloser p) (number_back id h.1)
exn_back (NotTip id) h = ap NotTip (number_back id h)
exn_back (NoSuchState id) h = ap NoSuchState (number_back id h)
exn_back (ZoneOpen i id) h = ap (λ n. ZoneOpen n (number_in (number id))) (number_back i h.0) ∙ ap (ZoneOpen i) (number_back id h.1)
exn_back (TooMany p) h = ap TooMany (number_back p h)
exn_back (Check id t) h = ap (λ n. Check n t) (number_back id h)
exn_back (UnknownName name) h = refl
exn_back Unsupported h = refl

verdict_back : (verdict : Option (List ℕ)) → verdict_of (verdict_value verdict) ≡ verdict
verdict_back None = refl
verdict_back (Some t) = refl

kind_back : (kind : BadText) → kind_of (bad_value kind) ≡ kind
kind_back (Word w) = refl
kind_back (BadField name) = refl

pub line_back : (l : Line) → Fits l → line_of (line_value l) ≡ l
line_back (Ack tag) h = refl
line_back (Added tag id from to tip) h =
    ap (λ n. Added tag n (number_in (number from)) (number_in (number to)) (tip_of (tip_value tip))) (number_back id h.0)
    ∙ ap (λ n. Added tag id n (number_in (number to)) (tip_of (tip_value tip))) (number_back from h.1)
    ∙ ap (λ n. Added tag id from n (tip_of (tip_value tip))) (number_back to h.2)
    ∙ ap (Added tag id from to) (tip_back tip h.3)
line_back (Canceled tag ids) h = ap (Canceled tag) (numbers_back ids h)
line_back (EditAt tag edit) h = ap (EditAt tag) (edit_back edit h)
line_back (ObjList tag texts) h = ap (ObjList tag) (strings_back texts)
line_back (Joined tag n faults) h =
    ap (λ m. Joined tag m (faults_in (values (map fault_value faults)))) (number_back n h.0) ∙ ap (Joined tag n) (faults_back faults h.1)
line_back (CoqExn tag exn) h = ap (CoqExn tag) (exn_back exn h)
line_back (OutOfMemory tag) h = refl
line_back (Completed tag) h = refl
line_back (Feedback id route verdict) h =
    ap (λ n. Feedback n (number_in (number route)) (verdict_of (verdict_value verdict))) (number_back id h.0)
    ∙ ap (λ n. Feedback id n (verdict_of (verdict_value verdict))) (number_back route h.1) ∙ ap (Feedback id route) (verdict_back verdict)
line_back (BadInput item kind offset) h =
    ap (λ n. BadInput n (kind_of (bad_value kind)) (number_in (number offset))) (number_back item h.0)
    ∙ ap (λ k. BadInput item k (number_in (number offset))) (kind_back kind) ∙ ap (BadInput item kind) (number_back offset h.1)

-- no two lines have one value
pub same_line : (l m : Line) → Fits l → Fits m → line_value l ≡ line_value m → l ≡ m
same_line l m h k e = sym (line_back l h) ∙ ap line_of e ∙ line_back m k
