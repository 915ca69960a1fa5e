-- What a text is read as.
use Rattle.std.proofs.Common.{◌≡◌, ◌≢◌, ℕ, ◌+◌, ◌≤◌, ◌↔◌, IsTrue, Bool, false, max, length, length-append, List, [], ◌∷◌, ◌++◌, map}
use Rattle.std.proofs.Common.{codes, Some, None, refl, sym, ap, ◌∙◌, arith}
use Rattle.std.proofs.lemmas.Bool.{leb-true, false≢true}
use Rattle.sexp_theory.specs.Values.{Value, list, Values, values, nesting, nesting_of_all}
use Rattle.sexp_theory.specs.Writing.{text}
use Rattle.sexp_theory.specs.Written.{IsTextOf}
use Rattle.sexp_theory.proofs.Texts.{one_text}
use Rattle.serapi_ans.specs.Lines.{number, pair, list_of, answer_value, string_value, fault_value, exn_value, line_value}
use Rattle.serapi_ans.specs.Fitting.{IsLine}
use Rattle.serapi_ans.specs.ReadBack.{line_of}
use Rattle.serapi_ans.proofs.Inverse.{line_back, same_line}
use Rattle.serapi_ans.proofs.Told.{heads}
use Rattle.serapi_ans.specs.declared.line.Line.{Line}
use Rattle.serapi_ans.specs.declared.line.Line.TheVariants.{Ack, Added, Canceled, EditAt, ObjList, Joined, CoqExn, OutOfMemory, Completed}
use Rattle.serapi_ans.specs.declared.line.Line.TheVariants.{Feedback, BadInput}
use Rattle.serapi_ans.specs.declared.line.EditLine.TheVariants.{NewTip, Focus}
use Rattle.serapi_ans.specs.declared.line.BadText.TheVariants.{Word, BadField}
use Rattle.serapi_ans.specs.declared.line.Exn.{Exn}
use Rattle.serapi_ans.specs.declared.line.Exn.TheVariants.{Parse, NoOpenProof, ProofOpen, BadCloser, NotTip, NoSuchState, ZoneOpen}
use Rattle.serapi_ans.specs.declared.line.Exn.TheVariants.{TooMany, Check, UnknownName, Unsupported}

-- ---- how deep lines are

numbers_flat : (ns : List ℕ) → nesting_of_all (values (map number ns)) ≤ 0
numbers_flat [] = omega arith
numbers_flat (n ∷ ns) =
    let one : nesting_of_all (values (map number (n ∷ ns))) ≡ max 0 (nesting_of_all (values (map number ns))) = refl in
    omega (arith, one, numbers_flat ns)

strings_flat : (ts : List (List ℕ)) → nesting_of_all (values (map string_value ts)) ≤ 1
strings_flat [] = omega arith
strings_flat (t ∷ ts) =
    let one : nesting_of_all (values (map string_value (t ∷ ts))) ≡ max 1 (nesting_of_all (values (map string_value ts))) = refl in
    omega (arith, one, strings_flat ts)

faults_flat : (fs : List (ℕ × List ℕ)) → nesting_of_all (values (map fault_value fs)) ≤ 1
faults_flat [] = omega arith
faults_flat (f ∷ fs) =
    let one : nesting_of_all (values (map fault_value (f ∷ fs))) ≡ max 1 (nesting_of_all (values (map fault_value fs))) = refl in
    omega (arith, one, faults_flat fs)

exn_flat : (exn : Exn) → nesting (exn_value exn) ≤ 1
exn_flat (Parse p) = leb-true _ _ refl
exn_flat (NoOpenProof p) = leb-true _ _ refl
exn_flat (ProofOpen p id) = leb-true _ _ refl
exn_flat (BadCloser p id) = leb-true _ _ refl
exn_flat (NotTip id) = leb-true _ _ refl
exn_flat (NoSuchState id) = leb-true _ _ refl
exn_flat (ZoneOpen i id) = leb-true _ _ refl
exn_flat (TooMany p) = leb-true _ _ refl
exn_flat (Check id t) = leb-true _ _ refl
exn_flat (UnknownName name) = leb-true _ _ refl
exn_flat Unsupported = leb-true _ _ refl

pair_deep : (word : List ℕ) (v : Value) (n : ℕ) → nesting v ≤ n → nesting (pair word v) ≤ n + 1
pair_deep word v n h =
    let one : nesting (pair word v) ≡ max 0 (max (nesting v) 0) + 1 = refl in
    omega (arith, one, h)

answer_deep : (tag : List ℕ) (v : Value) → nesting v ≤ 255 → nesting (answer_value tag v) ≤ 256
answer_deep tag v h =
    let one : nesting (answer_value tag v) ≡ max 0 (max 0 (max (nesting v) 0)) + 1 = refl in
    omega (arith, one, h)

list_deep : (vs : Values) (n : ℕ) → nesting_of_all vs ≤ n → nesting (list vs) ≤ n + 1
list_deep vs n h =
    let one : nesting (list vs) ≡ nesting_of_all vs + 1 = refl in
    omega (arith, one, h)

shallow : (l : Line) → nesting (line_value l) ≤ 256
shallow (Ack tag) = leb-true _ _ refl
shallow (Added tag id from to None) = leb-true _ _ refl
shallow (Added tag id from to (Some tip)) = leb-true _ _ refl
shallow (Canceled tag ids) =
    answer_deep tag (pair (codes "Canceled") (list_of (map number ids)))
    (omega (
      arith,
      pair_deep (codes "Canceled") (list_of (map number ids)) 1
          (list_deep (values (map number ids)) 0 (numbers_flat ids)),
    ))
shallow (EditAt tag (NewTip id)) = leb-true _ _ refl
shallow (EditAt tag (Focus start stop tip)) = leb-true _ _ refl
shallow (ObjList tag texts) =
    answer_deep tag (pair (codes "ObjList") (list_of (map string_value texts)))
    (omega (
      arith,
      pair_deep (codes "ObjList") (list_of (map string_value texts)) 2
          (list_deep (values (map string_value texts)) 1 (strings_flat texts)),
    ))
shallow (Joined tag n faults) =
    let inner = pair (codes "faults") (list_of (map fault_value faults)) in
    let deep : nesting inner ≤ 3 = pair_deep (codes "faults") (list_of (map fault_value faults)) 2
    (list_deep (values (map fault_value faults)) 1 (faults_flat faults)) in
    let one : nesting (line_value (Joined tag n faults)) ≡ max 0 (max 0 (max (max 0 (max 1 (max (nesting inner) 0)) + 1) 0)) + 1 = refl in
    omega (arith, one, deep)
shallow (CoqExn tag exn) = answer_deep tag (pair (codes "CoqExn") (exn_value exn))
    (omega (arith, pair_deep (codes "CoqExn") (exn_value exn) 1 (exn_flat exn)))
shallow (OutOfMemory tag) = leb-true _ _ refl
shallow (Completed tag) = leb-true _ _ refl
shallow (Feedback id route None) = leb-true _ _ refl
shallow (Feedback id route (Some t)) = leb-true _ _ refl
shallow (BadInput item (Word w) offset) = leb-true _ _ refl
shallow (BadInput item (BadField name) offset) = leb-true _ _ refl

-- ---- the answer

pub no_value : (bytes : List ℕ) → ((v : Value) → IsTextOf bytes v → ⊥) → (l : Line) → IsLine l → text (line_value l) ≢ bytes
no_value bytes none l h e = none (line_value l) (record { of_bytes = h.0; shallow = shallow l; written = e })

pub other_line : (bytes : List ℕ) (v : Value) (found : Line) → IsTextOf bytes v → found ≡ line_of v
    → (text (line_value found) ≡ bytes → ⊥) → (l : Line) → IsLine l → text (line_value l) ≢ bytes
other_line bytes v found w f unlike l h e =
    let same : line_value l ≡ v = one_text (line_value l) v h.0 w.of_bytes (e ∙ sym w.written) in
    unlike (ap (λ m. text (line_value m)) (f ∙ ap line_of (sym same) ∙ line_back l h.1) ∙ e)

pub only_line : (bytes : List ℕ) (read line : Line) → text (line_value read) ≡ bytes → IsLine read → IsLine line
    → text (line_value line) ≡ bytes → read ≡ line
only_line bytes read line e h k f = same_line read line h.1 k.1 (one_text (line_value read) (line_value line) h.0 k.0 (e ∙ sym f))

-- ---- the byte 10 at the end

pub before_end : (xs ys : List ℕ) → xs ++ 10 ∷ [] ≡ ys ++ 10 ∷ [] → xs ≡ ys
before_end [] [] e = refl
before_end [] (y ∷ ys) e =
    let long : length {A = ℕ} (10 ∷ []) ≡ length ((y ∷ ys) ++ 10 ∷ []) = ap length e in
    absurd (omega (arith, long, length-append (y ∷ ys) (10 ∷ [])))
before_end (x ∷ xs) [] e =
    let long : length ((x ∷ xs) ++ 10 ∷ []) ≡ length {A = ℕ} (10 ∷ []) = ap length e in
    absurd (omega (arith, long, length-append (x ∷ xs) (10 ∷ [])))
before_end (x ∷ xs) (y ∷ ys) e =
    let parts = heads x y (xs ++ 10 ∷ []) (ys ++ 10 ∷ []) e in
    ap (λ z. z ∷ xs) parts.0 ∙ ap (λ zs. y ∷ zs) (before_end xs ys parts.1)

-- whether the front is the same, where the last byte is 10
pub with_end : (line front bytes : List ℕ) (last : ℕ) (same : Bool) → line ≡ front ++ last ∷ [] → last ≡ 10
    → (IsTrue same ↔ (front ≡ bytes)) → IsTrue same ↔ (line ≡ bytes ++ 10 ∷ [])
with_end line front bytes last same e f w =
    let ends : line ≡ front ++ 10 ∷ [] = e ∙ ap (λ b. front ++ b ∷ []) f in
    ((λ t. ends ∙ ap (λ xs. xs ++ 10 ∷ []) (w.0 t)), (λ g. w.1 (before_end front bytes (sym ends ∙ g))))

pub not_same : (same : Bool) (A : Type 0) → same ≡ false → (IsTrue same ↔ A) → A → ⊥
not_same same A e w a = false≢true (sym e ∙ w.1 a)
