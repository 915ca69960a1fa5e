-- The end of a line.
use Rattle.std.proofs.Common.{◌≡◌, ℕ, ◌+◌, ◌-◌, ◌<◌, ◌≤◌, ◌==◌, zero, suc, List, [], ◌∷◌, length, drop, get_or, Bool, true, false, refl}
use Rattle.std.proofs.Common.{sym, ap, ◌∙◌, arith, length-drop}
use Rattle.std.specs.Prelude.{if◌then◌else◌, Some, None, cond}
use Rattle.std.specs.List.{position, position_or_len}
use Rattle.std.proofs.Common.{ltb}
use Rattle.std.proofs.lemmas.Bool.{ltb-false}
use Rattle.std.proofs.lemmas.List.{drop-drop, drop_all}
use Rattle.std.proofs.lemmas.List.Quantifiers.{position-Some}
use Rattle.std.proofs.lemmas.List.Sums.{fails_before_first}
use Rattle.sexp_theory.specs.Items.{behind_rest_of_line}
use Rattle.sexp_core.specs.Progress.{unread_of}

pub rest-found : (bytes : List ℕ) (at i : ℕ) → i < length bytes → (get_or bytes i 0 == 10) ≡ true
    → ((k : ℕ) → k < i → (get_or bytes k 0 == 10) ≡ false)
    → behind_rest_of_line at bytes ≡ unread_of (drop (i + 1) bytes) (at + i + 1) false
rest-found [] at i lt e f = absurd (omega arith)
rest-found (b ∷ bs) at zero lt e f =
    let g : at + 1 ≡ at + 0 + 1 = omega arith in
    ap (λ t. if t then unread_of bs (at + 1) false else behind_rest_of_line (at + 1) bs) e ∙ ap (λ k. unread_of bs k false) g
rest-found (b ∷ bs) at (suc i) lt e f =
    let first : (b == 10) ≡ false = f 0 (omega arith) in
    let lt' : i < length bs = omega arith in
    let g : at + 1 + i + 1 ≡ at + suc i + 1 = omega arith in
    let h : suc (i + 1) ≡ suc i + 1 = omega arith in
    ap (λ t. if t then unread_of bs (at + 1) false else behind_rest_of_line (at + 1) bs) first
    ∙ rest-found bs (at + 1) i lt' e (λ k lt. f (suc k) (omega arith)) ∙ ap (λ k. unread_of (drop (i + 1) bs) k false) g
    ∙ ap (λ k. unread_of (drop k (b ∷ bs)) (at + suc i + 1) false) h

pub rest-none : (bytes : List ℕ) (at : ℕ) → ((k : ℕ) → k < length bytes → (get_or bytes k 0 == 10) ≡ false)
    → behind_rest_of_line at bytes ≡ unread_of [] (at + length bytes) true
rest-none [] at f =
    let g : at ≡ at + 0 = omega arith in ap (λ k. unread_of [] k true) g
rest-none (b ∷ bs) at f =
    let first : (b == 10) ≡ false = f 0 (omega arith) in
    let g : at + 1 + length bs ≡ at + suc (length bs) = omega arith in
    ap (λ t. if t then unread_of bs (at + 1) false else behind_rest_of_line (at + 1) bs) first
    ∙ rest-none bs (at + 1) (λ k lt. f (suc k) (omega arith)) ∙ ap (λ k. unread_of [] k true) g

none-test : (t : Bool) (k : ℕ) → cond t (Some k) None ≡ None → t ≡ false
none-test true k e = cc
none-test false k e = refl

none-before : (bytes : List ℕ) → position (λ b. b == 10) bytes ≡ None → (k : ℕ) → k < length bytes → (get_or bytes k 0 == 10) ≡ false
none-before bytes e k lt =
    let first : ℕ = position_or_len (λ b. b == 10) bytes in
    let past : length bytes ≤ first = ltb-false first (length bytes) (none-test (ltb first (length bytes)) first e) in
    fails_before_first (λ b. b == 10) bytes k 0 (omega arith)

-- behind the line of a bad place, where it ends and where it doesn't
pub behind_line-found : (bytes : List ℕ) (start offset i : ℕ) → position (λ b. b == 10) (drop start bytes) ≡ Some i
    → unread_of (drop (start + i + 1) bytes) (offset + i + 1) false ≡ behind_rest_of_line offset (drop start bytes)
behind_line-found bytes start offset i e =
    let f = position-Some (λ b. b == 10) (drop start bytes) i 0 e in
    let g : start + i + 1 ≡ start + (i + 1) = omega arith in
    ap (λ k. unread_of (drop k bytes) (offset + i + 1) false) g
    ∙ ap (λ xs. unread_of xs (offset + i + 1) false) (sym (drop-drop (i + 1) start bytes))
    ∙ sym (rest-found (drop start bytes) offset i f.0 f.1 f.2)

pub behind_line-none : (bytes : List ℕ) (start offset : ℕ) → position (λ b. b == 10) (drop start bytes) ≡ None
    → unread_of (drop (length bytes) bytes) (offset + (length bytes - start)) true ≡ behind_rest_of_line offset (drop start bytes)
behind_line-none bytes start offset e =
    let le : length bytes ≤ length bytes = omega arith in
    ap (λ xs. unread_of xs (offset + (length bytes - start)) true) (drop_all (length bytes) bytes le)
    ∙ ap (λ n. unread_of [] (offset + n) true) (sym (length-drop start bytes))
    ∙ sym (rest-none (drop start bytes) offset (none-before (drop start bytes) e))
