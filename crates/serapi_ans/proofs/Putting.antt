-- Lists of values, put piece by piece.
use Rattle.std.proofs.Common.{◌≡◌, ℕ, ◌+◌, ◌<◌, ◌≤◌, suc, length, drop, get_or, drop-cons, add-one, List, [], ◌∷◌, ◌++◌, map, codes}
use Rattle.std.proofs.Common.{append_assoc, append-nil, refl, sym, ap, ◌∙◌, subst, arith, Option, Some, None}
use Rattle.stm_base.specs.Output.{Output, IsPut}
use Rattle.stm_base.proofs.Puts.{IsPut-both, IsPut-none}
use Rattle.sexp_theory.specs.Values.{Value, atom, list, Values, values}
use Rattle.sexp_theory.specs.Writing.{atom_text, between, text, texts, texts_behind}
use Rattle.sexp_core.proofs.Putting.{IsPutBut}
use Rattle.serapi_ans.specs.Lines.{number, pair, triple, list_of, answer_value, fault_value, tip_value, added_value, range_value}
use Rattle.serapi_ans.specs.Lines.{focus_value, string_value, message_value, verdict_value, bad_value, line_text}
use Rattle.serapi_ans.specs.Pieces.{opened, answer_head, answer_end, tip_text, numbers_behind, string_texts}
use Rattle.serapi_ans.specs.Joined.{joined_head, fault_texts, joined_end}
use Rattle.serapi_ans.specs.declared.line.Line.TheVariants as lines
use Rattle.serapi_ans.specs.declared.line.BadText.{BadText}
use Rattle.serapi_ans.specs.declared.line.BadText.TheVariants.{Word, BadField}
use Rattle.std.proofs.lemmas.Fmt.{decimal_digit}
use Rattle.std.proofs.lemmas.List.{drop_all}

pub put_three : {a b c d : Output} {xs ys zs : List ℕ} → IsPut a xs b → IsPut b ys c → IsPut c zs d → IsPut a (xs ++ (ys ++ zs)) d
put_three {a} {b} {c} {d} {xs} {ys} {zs} p q r = IsPut-both a b d xs (ys ++ zs) p (IsPut-both b c d ys zs q r)

pub put_as : {a b : Output} {xs ys : List ℕ} → IsPut a xs b → xs ≡ ys → IsPut a ys b
put_as {a} {b} p e = subst (λ zs. IsPut a zs b) e p

-- two puts in a row
pub both : {a b c : Output} {xs ys : List ℕ} → IsPut a xs b → IsPut b ys c → IsPut a (xs ++ ys) c
both {a} {b} {c} {xs} {ys} p q = IsPut-both a b c xs ys p q

pair_row : (x y : List ℕ) → 40 ∷ ((x ++ 32 ∷ []) ++ (y ++ 41 ∷ [])) ≡ 40 ∷ ((x ++ (32 ∷ (y ++ []))) ++ 41 ∷ [])
pair_row x y = simp (append_assoc, append-nil)

-- a list of a word and a value is put
pub put_pair : {a b c d : Output} (word : List ℕ) (v : Value) → IsPut a (opened word) b → IsPut b (text v) c → IsPut c (41 ∷ []) d
    → IsPut a (text (pair word v)) d
put_pair word v p q r = put_as (put_three p q r)
    (pair_row (atom_text word) (text v))

triple_row : (x y z : List ℕ) → 40 ∷ ((x ++ 32 ∷ []) ++ (y ++ (32 ∷ (z ++ 41 ∷ []))))
    ≡ 40 ∷ ((x ++ (32 ∷ (y ++ (32 ∷ (z ++ []))))) ++ 41 ∷ [])
triple_row x y z = simp (append_assoc, append-nil)

-- a list of a word, an atom and a value is put
pub put_triple : {a b c d e f : Output} (word bytes : List ℕ) (v : Value) → IsPut a (opened word) b → IsPut b (text (atom bytes)) c
    → IsPut c (32 ∷ []) d → IsPut d (text v) e → IsPut e (41 ∷ []) f
    → IsPut a (text (triple word (atom bytes) v)) f
put_triple word bytes v p q r s t =
    put_as (both p (both q (both r (both s t))))
    (triple_row (atom_text word) (atom_text bytes) (text v))

-- a list of two atoms is put
pub put_fault : {a b c d e f : Output} (id verdict : List ℕ) → IsPut a (40 ∷ []) b → IsPut b (text (atom id)) c → IsPut c (32 ∷ []) d
    → IsPut d (text (atom verdict)) e → IsPut e (41 ∷ []) f
    → IsPut a (text (list_of (atom id ∷ atom verdict ∷ []))) f
put_fault id verdict p q r s t =
    put_as (both p (both q (both r (both s t))))
    (fault_row (atom_text id) (atom_text verdict))
  where
    fault_row : (x y : List ℕ) → 40 ∷ (x ++ (32 ∷ (y ++ 41 ∷ []))) ≡ 40 ∷ ((x ++ (32 ∷ (y ++ []))) ++ 41 ∷ [])
    fault_row x y = simp (append_assoc, append-nil)

-- a list of two lists is put
pub put_two_lists : {a b c d e : Output} (vs ws : Values) → IsPut a (40 ∷ []) b → IsPut b (text (list vs)) c → IsPut c (text (list ws)) d
    → IsPut d (41 ∷ []) e
    → IsPut a (text (list_of (list vs ∷ list ws ∷ []))) e
put_two_lists vs ws p q r s = put_as (both p (both q (both r s)))
    (row (text (list vs)) (text (list ws)))
  where
    row : (x y : List ℕ) → 40 ∷ (x ++ (y ++ 41 ∷ [])) ≡ 40 ∷ ((x ++ (y ++ [])) ++ 41 ∷ [])
    row x y = simp (append_assoc, append-nil)

-- an answer is put
pub put_answer : {a b c d : Output} (tag : List ℕ) (v : Value) → IsPut a (answer_head tag) b → IsPut b (text v) c → IsPut c answer_end d
    → IsPut a (text (answer_value tag v) ++ 10 ∷ []) d
put_answer tag v p q r =
    put_as (both p (both q r)) (ap (λ l. codes "(Answer " ++ l) (row (atom_text tag) (text v)))
  where
    row : (x y : List ℕ) → (x ++ 32 ∷ []) ++ (y ++ 41 ∷ 10 ∷ []) ≡ ((x ++ (32 ∷ (y ++ []))) ++ 41 ∷ []) ++ 10 ∷ []
    row x y = simp (append_assoc, append-nil)

tip_between : (from to : ℕ) (tip : Option ℕ) → tip_text tip ≡ between (range_value from to) (tip_value tip) ++ text (tip_value tip)
tip_between from to None = refl
tip_between from to (Some tip) = refl

pub put_added_value : {a b : Output} (id from to : ℕ) (tip : Option ℕ)
    → IsPut a (opened (codes "Added") ++ (text (number id) ++ ((32 ∷ []) ++ (text (range_value from to) ++ (tip_text tip ++ 41 ∷ []))))) b
    → IsPut a (text (added_value id from to tip)) b
put_added_value id from to tip p =
    put_as p
    (ap (λ l. codes "(Added " ++ l) (row (text (number id)) (text (range_value from to)) (tip_text tip)
    (between (range_value from to) (tip_value tip)) (text (tip_value tip)) (tip_between from to tip)))
  where
    row : (x y z k l : List ℕ) → z ≡ k ++ l → x ++ (32 ∷ (y ++ (z ++ 41 ∷ []))) ≡ (x ++ (32 ∷ (y ++ (k ++ (l ++ []))))) ++ 41 ∷ []
    row x y z k l e = ap (λ m. x ++ (32 ∷ (y ++ (m ++ 41 ∷ [])))) e ∙ simp (append_assoc, append-nil)

tip_row : (x y z : List ℕ) → x ++ (y ++ (z ++ 41 ∷ 41 ∷ [])) ≡ (((x ++ (y ++ (z ++ []))) ++ 41 ∷ []) ++ []) ++ 41 ∷ []
tip_row x y z = simp (append_assoc, append-nil)

pub put_focus_value : {a b c d e f : Output} (start stop tip : ℕ)
    → IsPut a (codes "(Focus (") b → IsPut b (text (pair (codes "start") (number start))) c
    → IsPut c (text (pair (codes "stop") (number stop))) d
    → IsPut d (text (pair (codes "tip") (number tip))) e → IsPut e (41 ∷ 41 ∷ []) f → IsPut a (text (focus_value start stop tip)) f
put_focus_value start stop tip p q r s t =
    put_as (both p (both q (both r (both s t))))
    (ap (λ l. codes "(Focus (" ++ l) (tip_row (text (pair (codes "start") (number start))) (text (pair (codes "stop") (number stop)))
    (text (pair (codes "tip") (number tip)))))

-- ---- lists of any length

pub behind_is : (n : ℕ) (ns : List ℕ) → texts_behind (number n) (values (map number ns)) ≡ numbers_behind ns
behind_is n [] = refl
behind_is n (m ∷ ns) = ap (λ l. 32 ∷ (text (number m) ++ l)) (behind_is m ns)

pub put_no_number : {a : Output} (ids : List ℕ) → length ids ≡ 0 → IsPut a (texts (values (map number ids))) a
put_no_number {a} [] e = IsPut-none a
put_no_number (id ∷ ids) e = absurd (omega (arith, e))

pub put_some_numbers : {a b c : Output} (ids : List ℕ) (first : ℕ) (behind : List ℕ) → ids ≡ first ∷ behind
    → IsPut a (text (number first)) b → IsPut b (numbers_behind behind) c
    → IsPut a (texts (values (map number ids))) c
put_some_numbers ids first behind e p q =
    put_as (both p q)
    (ap (λ l. text (number first) ++ l) (sym (behind_is first behind)) ∙ ap (λ ns. texts (values (map number ns))) (sym e))

-- the element at an index, and those behind it
pub element_at : {X : Type 0} (xs : List X) (i : ℕ) (x : X) → i < length xs → x ≡ get_or xs i x → drop i xs ≡ x ∷ drop (i + 1) xs
element_at xs i x h e = drop-cons xs i x h ∙ ap (λ y. y ∷ drop (suc i) xs) (sym e) ∙ ap (λ k. x ∷ drop k xs) (sym (add-one i))

pub number_at : (xs : List ℕ) (i : ℕ) → i < length xs → drop i xs ≡ get_or xs i 0 ∷ drop (i + 1) xs
number_at xs i h = drop-cons xs i 0 h ∙ ap (λ k. get_or xs i 0 ∷ drop k xs) (sym (add-one i))

-- nothing is left to be put
put_all : {a b : Output} (whole : List ℕ) → IsPutBut a whole [] b → IsPut a whole b
put_all {a} {b} whole p = subst (λ xs. IsPut a xs b) (sym (append-nil p.front) ∙ p.is_whole) p.put

-- nothing is left behind the end
pub all_put : {X : Type 0} {a b : Output} (texts_of : List X → List ℕ) (whole : List ℕ) (xs : List X) (i : ℕ) → texts_of [] ≡ []
    → length xs ≤ i → IsPutBut a whole (texts_of (drop i xs)) b → IsPut a whole b
all_put {a = a} {b = b} texts_of whole xs i e h p = put_all whole (subst (λ l. IsPutBut a whole l b) (ap texts_of (drop_all i xs h) ∙ e) p)

strings_are : (before : List ℕ) (ts : List (List ℕ)) → texts_behind (string_value before) (values (map string_value ts)) ≡ string_texts ts
strings_are before [] = refl
strings_are before (t ∷ ts) = ap (λ l. text (string_value t) ++ l) (strings_are t ts)

all_strings_are : (ts : List (List ℕ)) → texts (values (map string_value ts)) ≡ string_texts ts
all_strings_are [] = refl
all_strings_are (t ∷ ts) = ap (λ l. text (string_value t) ++ l) (strings_are t ts)

pub put_object_list : {a b c d : Output} (ts : List (List ℕ))
    → IsPut a (codes "(ObjList (") b → IsPut b (string_texts ts) c → IsPut c (41 ∷ 41 ∷ []) d
    → IsPut a (text (pair (codes "ObjList") (list_of (map string_value ts)))) d
put_object_list ts p q r =
    put_as (both p (both q r))
    (ap (λ l. codes "(ObjList (" ++ l) (ap (λ l. l ++ 41 ∷ 41 ∷ []) (sym (all_strings_are ts))
    ∙ row (texts (values (map string_value ts)))))
  where
    row : (x : List ℕ) → x ++ 41 ∷ 41 ∷ [] ≡ ((x ++ 41 ∷ []) ++ []) ++ 41 ∷ []
    row x = simp (append_assoc, append-nil)

faults_are : (before : ℕ × List ℕ) (fs : List (ℕ × List ℕ))
    → texts_behind (fault_value before) (values (map fault_value fs)) ≡ fault_texts fs
faults_are before [] = refl
faults_are before (f ∷ fs) = ap (λ l. text (fault_value f) ++ l) (faults_are f fs)

all_faults_are : (fs : List (ℕ × List ℕ)) → texts (values (map fault_value fs)) ≡ fault_texts fs
all_faults_are [] = refl
all_faults_are (f ∷ fs) = ap (λ l. text (fault_value f) ++ l) (faults_are f fs)

joined_row : (x a y b z : List ℕ) → (x ++ (a ++ (y ++ b))) ++ (z ++ 41 ∷ 41 ∷ 41 ∷ 41 ∷ 10 ∷ [])
    ≡ ((x ++ ((a ++ ((y ++ ((b ++ (((z ++ 41 ∷ []) ++ []) ++ 41 ∷ [])) ++ [])) ++ 41 ∷ [])) ++ [])) ++ 41 ∷ []) ++ 10 ∷ []
joined_row x a y b z = simp (append_assoc, append-nil)

-- the front, the faults in order and the end are the text of the line
pub joined_text : (tag : List ℕ) (sentences : ℕ) (faults : List (ℕ × List ℕ))
    → joined_head tag sentences ++ (fault_texts faults ++ joined_end) ≡ line_text (lines.Joined tag sentences faults)
joined_text tag sentences faults =
    let among : List ℕ = texts (values (map fault_value faults)) in
    ap (λ l. joined_head tag sentences ++ (l ++ joined_end)) (sym (all_faults_are faults))
    ∙ ap (λ l. codes "(Answer " ++ l) (joined_row (atom_text tag)
    (codes " (Joined ") (text (pair (codes "sentences") (number sentences))) (codes "(faults (") among)

pub put_joined : {a b c d : Output} (tag : List ℕ) (sentences : ℕ) (faults : List (ℕ × List ℕ)) → IsPut a (joined_head tag sentences) b
    → IsPut b (fault_texts faults) c → IsPut c joined_end d
    → IsPut a (line_text (lines.Joined tag sentences faults)) d
put_joined tag sentences faults p q r =
    put_as (both p (both q r)) (joined_text tag sentences faults)

-- ---- verdicts and bad items

pub put_message_value : {a b c d : Output} (bytes : List ℕ)
    → IsPut a (codes "(Message ((level Error)") b → IsPut b (text (pair (codes "text") (atom bytes))) c → IsPut c (41 ∷ 41 ∷ []) d
    → IsPut a (text (message_value bytes)) d
put_message_value bytes p q r =
    put_as (both p (both q r))
    (ap (λ l. codes "(Message ((level Error)" ++ l) (row (text (pair (codes "text") (atom bytes)))))
  where
    row : (x : List ℕ) → x ++ 41 ∷ 41 ∷ [] ≡ (((x ++ []) ++ 41 ∷ []) ++ []) ++ 41 ∷ []
    row x = simp (append_assoc, append-nil)

document_text : text (pair (codes "doc_id") (number 0)) ≡ codes "(doc_id 0)"
document_text = ap (λ d. text (pair (codes "doc_id") (atom d))) (decimal_digit 0 (omega arith))

pub put_feedback : {a b c d e f : Output} (id route : ℕ) (verdict : Option (List ℕ))
    → IsPut a (codes "(Feedback ((doc_id 0)") b → IsPut b (text (pair (codes "span_id") (number id))) c
    → IsPut c (text (pair (codes "route") (number route))) d → IsPut d (text (pair (codes "contents") (verdict_value verdict))) e
    → IsPut e (41 ∷ 41 ∷ 10 ∷ []) f
    → IsPut a (line_text (lines.Feedback id route verdict)) f
put_feedback id route verdict p q r s t =
    put_as (both p (both q (both r (both s t))))
    (ap (λ l. codes "(Feedback (" ++ l) (row (text (pair (codes "doc_id") (number 0))) (text (pair (codes "span_id") (number id)))
    (text (pair (codes "route") (number route))) (text (pair (codes "contents") (verdict_value verdict))) document_text))
  where
    row : (w x y z : List ℕ) → w ≡ codes "(doc_id 0)"
        → codes "(doc_id 0)" ++ (x ++ (y ++ (z ++ 41 ∷ 41 ∷ 10 ∷ [])))
        ≡ ((((w ++ (x ++ (y ++ (z ++ [])))) ++ 41 ∷ []) ++ []) ++ 41 ∷ []) ++ 10 ∷ []
    row w x y z e = ap (λ v. v ++ (x ++ (y ++ (z ++ 41 ∷ 41 ∷ 10 ∷ [])))) (sym e) ∙ more w x y z
      where
        more : (w x y z : List ℕ) → w ++ (x ++ (y ++ (z ++ 41 ∷ 41 ∷ 10 ∷ [])))
            ≡ ((((w ++ (x ++ (y ++ (z ++ [])))) ++ 41 ∷ []) ++ []) ++ 41 ∷ []) ++ 10 ∷ []
        more w x y z = simp (append_assoc, append-nil)

behind_kind : (kind : BadText) (offset : ℕ) → between (bad_value kind) (number offset) ≡ 32 ∷ []
behind_kind (Word word) offset = refl
behind_kind (BadField name) offset = refl

pub put_bad_input : {a b : Output} (item : ℕ) (kind : BadText) (offset : ℕ)
    → IsPut a (opened (codes "BadInput")
    ++ (text (number item) ++ ((32 ∷ []) ++ (text (bad_value kind) ++ ((32 ∷ []) ++ (text (number offset) ++ 41 ∷ 10 ∷ [])))))) b
    → IsPut a (line_text (lines.BadInput item kind offset)) b
put_bad_input item kind offset p =
    put_as p
    (ap (λ l. codes "(BadInput " ++ l) (row (text (number item)) (text (bad_value kind)) (between (bad_value kind) (number offset))
    (text (number offset)) (behind_kind kind offset)))
  where
    row : (x y k z : List ℕ) → k ≡ 32 ∷ [] → x ++ (32 ∷ (y ++ (32 ∷ (z ++ 41 ∷ 10 ∷ []))))
        ≡ ((x ++ (32 ∷ (y ++ (k ++ (z ++ []))))) ++ 41 ∷ []) ++ 10 ∷ []
    row x y k z e = sym (ap (λ m. ((x ++ (32 ∷ (y ++ (m ++ (z ++ []))))) ++ 41 ∷ []) ++ 10 ∷ []) e ∙ sym (more x y z))
      where
        more : (x y z : List ℕ) → x ++ (32 ∷ (y ++ (32 ∷ (z ++ 41 ∷ 10 ∷ []))))
            ≡ ((x ++ (32 ∷ (y ++ (32 ∷ (z ++ []))))) ++ 41 ∷ []) ++ 10 ∷ []
        more x y z = simp (append_assoc, append-nil)
