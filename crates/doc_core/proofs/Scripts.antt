-- The sentences of a document outside of proofs.
use Rattle.std.proofs.Common.{◌≡◌, ℕ, suc, ◌^◌, List, [], ◌∷◌, ◌++◌, length, Bool, true, not, ◌||◌, nat_lt, if◌then◌else◌}
use Rattle.std.proofs.Common.{◌≤◌, ◌<◌, refl, sym, ap, ◌∙◌, None}
use Rattle.std.proofs.lemmas.Bool.{le-ltb, lt-ltb}
use Rattle.serapi_ans.specs.declared.line.Exn.TheVariants as exn
use Rattle.line_theory.specs.Shapes.{lone, closed, last}
use Rattle.doc_theory.specs.Documents.{Document, Sentence, plain, marks}
use Rattle.doc_theory.specs.Editing.{Tried, added, attempt, attempt_at, fresh, is_full, refused}
use Rattle.doc_core.specs.Kept.{document_of}
use Rattle.doc_core.specs.declared.script.Placed.{Placed}

-- there are as many as are kept
pub count : (es : List Placed) (next limit : ℕ) → length (marks (document_of es next limit)) ≡ length es
count [] next limit = refl
count (e ∷ es) next limit = ap suc (count es next limit)

-- what a sentence outside of proofs comes to, by whether the document is full
abbrev by_room : Document → ℕ → Sentence → Bool → Tried
by_room d p x full = if full then refused (exn.TooMany p) else added (record {
  items = d.items ++ lone (fresh d x) ∷ [];
  focus = last closed;
  next = suc d.next;
  limit = d.limit;
}) d.next None

attempt_is : (es : List Placed) (next limit p : ℕ) (x : Sentence) (full : Bool) → is_full (document_of es next limit) ≡ full
    → x.kind ≡ plain
    → attempt (document_of es next limit) p x ≡ by_room (document_of es next limit) p x full
attempt_is es next limit p x full room kind =
    ap (λ k. attempt_at (document_of es next limit) p x k (last closed)) kind ∙ ap (by_room (document_of es next limit) p x) room

-- it is refused where none goes in
pub refuses : (es : List Placed) (next limit p : ℕ) (x : Sentence) → is_full (document_of es next limit) ≡ true → x.kind ≡ plain
    → attempt (document_of es next limit) p x ≡ refused (exn.TooMany p)
refuses es next limit p x full kind = attempt_is es next limit p x true full kind

-- whether it is full, by its two tests
full_is : (es : List Placed) (next limit n : ℕ) → n ≡ length es
    → is_full (document_of es next limit) ≡ (not (nat_lt n limit) || not (nat_lt next (2 ^ 62)))
full_is es next limit n at =
    ap (λ k. not (nat_lt k limit) || not (nat_lt next (2 ^ 62))) (count es next limit ∙ sym at)

pub full-by-room : (es : List Placed) (next limit n : ℕ) → n ≡ length es → limit ≤ n → is_full (document_of es next limit) ≡ true
full-by-room es next limit n at h =
    full_is es next limit n at ∙ ap (λ b. not b || not (nat_lt next (2 ^ 62))) (le-ltb n limit h)

pub full-by-id : (es : List Placed) (next limit n : ℕ) → n ≡ length es → n < limit
    → is_full (document_of es next limit) ≡ not (nat_lt next (2 ^ 62))
full-by-id es next limit n at h =
    full_is es next limit n at ∙ ap (λ b. not b || not (nat_lt next (2 ^ 62))) (lt-ltb n limit h)
