-- Lines, found again from their texts.
use Rattle.std.proofs.Common.{◌≡◌, ℕ, List, [], ◌∷◌, ◌++◌, ◌&&◌, Bool, true, false, subst, length, length-append, append_assoc, refl, sym}
use Rattle.std.proofs.Common.{ap, ◌∙◌, arith}
use Rattle.std.proofs.lemmas.Bool.{false≢true}
use Rattle.std.specs.List.{list_all}
use Rattle.std.proofs.lemmas.List.Sums.{list_all-from_AllPass}
use Rattle.sexp_theory.specs.Writing.{text, is_of_text}
use Rattle.sexp_theory.proofs.Texts.{one_text, text_bytes}
use Rattle.serapi_ans.specs.Lines.{line_value, line_text, lines_text, IsOfBytes}
use Rattle.serapi_ans.specs.Fitting.{IsLine, AreLines}
use Rattle.serapi_ans.proofs.Inverse.{same_line}
use Rattle.serapi_ans.specs.declared.line.Line.{Line}

and_second : (a b : Bool) → (a && b) ≡ true → b ≡ true
and_second true b e = e
and_second false b e = absurd (false≢true e)

no_line_end : (b : ℕ) (bs : List ℕ) → 10 ≡ b → list_all is_of_text (b ∷ bs) ≡ true → ⊥
no_line_end b bs e h = false≢true (subst (λ c. (is_of_text c && list_all is_of_text bs) ≡ true) (sym e) h)

pub heads : (x y : ℕ) (xs ys : List ℕ) → x ∷ xs ≡ y ∷ ys → (x ≡ y) × (xs ≡ ys)
heads x y xs ys e = (cc, cc)

-- what stands before the first byte 10, and what stands behind it
same_front : (xs ys behind more : List ℕ) → list_all is_of_text xs ≡ true → list_all is_of_text ys ≡ true
    → xs ++ 10 ∷ behind ≡ ys ++ 10 ∷ more → (xs ≡ ys) × (behind ≡ more)
same_front [] [] behind more p q e = (refl, (heads 10 10 behind more e).1)
same_front [] (y ∷ ys) behind more p q e = absurd (no_line_end y ys (heads 10 y behind (ys ++ 10 ∷ more) e).0 q)
same_front (x ∷ xs) [] behind more p q e = absurd (no_line_end x xs (sym (heads x 10 (xs ++ 10 ∷ behind) more e).0) p)
same_front (x ∷ xs) (y ∷ ys) behind more p q e =
    let parts = heads x y (xs ++ 10 ∷ behind) (ys ++ 10 ∷ more) e in
    let rest = same_front xs ys behind more (and_second (is_of_text x) (list_all is_of_text xs) p)
    (and_second (is_of_text y) (list_all is_of_text ys) q) parts.1 in
    (ap (λ z. z ∷ xs) parts.0 ∙ ap (λ zs. y ∷ zs) rest.0, rest.1)

pub one_line : (l m : Line) (behind more : List ℕ) → IsOfBytes l → IsOfBytes m → line_text l ++ behind ≡ line_text m ++ more
    → (line_value l ≡ line_value m) × (behind ≡ more)
one_line l m behind more h k e =
    let v = line_value l in
    let w = line_value m in
    let both = same_front (text v) (text w) behind more (list_all-from_AllPass is_of_text (text v) (text_bytes v h))
    (list_all-from_AllPass is_of_text (text w) (text_bytes w k))
    (sym (append_assoc (text v) (10 ∷ []) behind) ∙ e ∙ append_assoc (text w) (10 ∷ []) more) in
    (one_text v w h k both.0, both.1)

pub same_lines : (l m : Line) (behind more : List ℕ) → IsLine l → IsLine m → line_text l ++ behind ≡ line_text m ++ more → (l ≡ m)
    × (behind ≡ more)
same_lines l m behind more h k e =
    let both = one_line l m behind more h.0 k.0 e in
    (same_line l m h.1 k.1 both.0, both.1)

no_empty : (l : Line) (behind : List ℕ) → [] ≡ line_text l ++ behind → ⊥
no_empty l behind e =
    let long : length {A = ℕ} [] ≡ length (line_text l ++ behind) = ap length e in
    omega (arith, long, length-append (line_text l) behind, length-append (text (line_value l)) (10 ∷ []))

pub all_lines : (ls ms : List Line) → AreLines ls → AreLines ms → lines_text ls ≡ lines_text ms → ls ≡ ms
all_lines [] [] h k e = refl
all_lines [] (m ∷ ms) h k e = absurd (no_empty m (lines_text ms) e)
all_lines (l ∷ ls) [] h k e = absurd (no_empty l (lines_text ls) (sym e))
all_lines (l ∷ ls) (m ∷ ms) h k e =
    let both = same_lines l m (lines_text ls) (lines_text ms) h.0 k.0 e in
    ap (λ x. x ∷ ls) both.0 ∙ ap (λ xs. m ∷ xs) (all_lines ls ms h.1 k.1 both.1)
