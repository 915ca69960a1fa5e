-- What stands before sentences and tokens.
use Rattle.std.proofs.Common.{◌≡◌, ℕ, zero, suc, ◌+◌, ◌-◌, ◌<◌, ◌≤◌, ◌||◌, ◌==◌, List, [], ◌∷◌, ◌++◌, length, take, drop, Bool, true, false}
use Rattle.std.proofs.Common.{not, if◌then◌else◌, append-nil, refl, sym, ap, ◌∙◌, subst, arith}
use Rattle.std.specs.List.{All}
use Rattle.std.proofs.lemmas.Bool.{false≢true, eq-eqb, ne_eqb}
use Rattle.std.proofs.lemmas.List.{length-append, drop_at, take-append-drop}
use Rattle.std.proofs.lemmas.List.Elements.{All-head, All-tail, All-drop}
use Rattle.std.proofs.Math.Seq.{take-append-add}
use Rattle.vern_lex.specs.Comments.{IsGap, is_blank, is_gap, begins, first_place, comment_length, outside, part}
use Rattle.vern_lex.specs.Comments.IsGap.{nothing, blank, comment}
use Rattle.vern_lex.proofs.Outsides.{comment-first, outside-byte, first_place-comment}
use Rattle.vern_lex.proofs.Cuts.{begins-covered}
use Rattle.vern_lex.proofs.Parts.{comment_of}

one_more : (p : ℕ) → 1 + p ≡ suc p
one_more p = omega arith

-- up to where a sentence or a token may begin
pub gap-front : (most : ℕ) (text : List ℕ) → length text ≤ most → All (λ b. b < 256) text
    → IsGap (take (first_place begins (outside text)) text)
gap-front most [] h bytes = nothing
gap-front zero (b ∷ rest) h bytes = absurd (omega (arith, h))
gap-front (suc most) (b ∷ rest) h bytes = by (gap-front most) (comment_length (b ∷ rest)) refl
  where
    below : b ≡ 256 → b < 256 → ⊥
    below e h = absurd (omega (arith, e, h))

    byte : (b == 256) ≡ false
    byte = ne_eqb b 256 (λ e. below e (All-head (λ b. b < 256) b rest bytes))

    at_byte : IsGap (take (first_place begins (outside rest)) rest) → (t : Bool) → is_blank b ≡ t
        → IsGap (take (if not (t || b == 256) then 0 else 1 + first_place begins (outside rest)) (b ∷ rest))
    at_byte tail true t = subst (λ n. IsGap (take n (b ∷ rest))) (sym (one_more (first_place begins (outside rest))))
        (blank b (take (first_place begins (outside rest)) rest) t tail)
    at_byte tail false t = subst (λ s. IsGap (take (if not s then 0 else 1 + first_place begins (outside rest)) (b ∷ rest)))
        (sym byte) nothing

    by : ((xs : List ℕ) → length xs ≤ most → All (λ b. b < 256) xs → IsGap (take (first_place begins (outside xs)) xs)) → (c : ℕ)
        → comment_length (b ∷ rest) ≡ c → IsGap (take (first_place begins (outside (b ∷ rest))) (b ∷ rest))
    by more zero e =
        subst (λ xs. IsGap (take (first_place begins xs) (b ∷ rest))) (sym (outside-byte b rest e))
        (at_byte (more rest (omega (arith, h)) (All-tail (λ b. b < 256) b rest bytes)) (is_blank b) refl)
    by more (suc c) e =
        let i = comment_of (b ∷ rest) (omega (arith, e)) in
        let behind : drop (comment_length (b ∷ rest)) (b ∷ rest) ≡ i.after = ap (drop (comment_length (b ∷ rest))) i.is
        ∙ drop_at i.front i.after (comment_length (b ∷ rest)) i.long in
        let place : first_place begins (outside (b ∷ rest)) ≡ length i.front + first_place begins (outside i.after) =
        first_place-comment begins begins-covered (b ∷ rest) ∙ ap (λ xs. comment_length (b ∷ rest) + first_place begins (outside xs)) behind
        ∙ ap (λ n. n + first_place begins (outside i.after)) (sym i.long) in
        let front : take (first_place begins (outside (b ∷ rest))) (b ∷ rest)
        ≡ i.front ++ take (first_place begins (outside i.after)) i.after =
        ap (λ n. take n (b ∷ rest)) place ∙ ap (take (length i.front + first_place begins (outside i.after))) i.is
        ∙ take-append-add i.front i.after (first_place begins (outside i.after)) in
        let alone : comment_length i.front ≡ length i.front = ap comment_length (sym (append-nil i.front)) ∙ i.always [] in
        let count : length (b ∷ rest) ≡ length i.front + length i.after = ap length i.is ∙ length-append i.front i.after in
        let left = more i.after (omega (arith, count, i.long, e, h))
        (subst (All (λ b. b < 256)) behind (All-drop (λ b. b < 256) (comment_length (b ∷ rest)) (b ∷ rest) bytes)) in
        subst IsGap (sym front) (comment i.front (take (first_place begins (outside i.after)) i.after) (
          omega (arith, alone, i.long, e),
          alone,
        ) left)

-- a text without a place where a sentence or a token may begin
pub gap-whole : (text : List ℕ) → All (λ b. b < 256) text → drop (first_place begins (outside text)) text ≡ [] → IsGap text
gap-whole text bytes e =
    let whole : take (first_place begins (outside text)) text ≡ text =
    sym (append-nil (take (first_place begins (outside text)) text)) ∙ ap (λ l. take (first_place begins (outside text)) text ++ l) (sym e)
    ∙ take-append-drop (first_place begins (outside text)) text in
    subst IsGap whole (gap-front (length text) text (omega arith) bytes)

-- what stands before such a place
pub gap-before : (text : List ℕ) (at place : ℕ) → All (λ b. b < 256) text → place ≡ at + first_place begins (outside (drop at text))
    → IsGap (part at place text)
gap-before text at place bytes e =
    let count : place - at ≡ first_place begins (outside (drop at text)) = omega (arith, e) in
    subst (λ n. IsGap (take n (drop at text))) (sym count)
    (gap-front (length (drop at text)) (drop at text) (omega arith) (All-drop (λ b. b < 256) at text bytes))

-- a byte that is no blank and begins no comment
pub begun-byte : (b : ℕ) (rest : List ℕ) → is_gap b ≡ false → (b == 40) ≡ false → begins (outside (b ∷ rest)) ≡ true
begun-byte b rest no_gap other = by (comment_length (b ∷ rest)) refl
  where
    by : (c : ℕ) → comment_length (b ∷ rest) ≡ c → begins (outside (b ∷ rest)) ≡ true
    by zero e = ap begins (outside-byte b rest e) ∙ ap not no_gap
    by (suc c) e = absurd (false≢true (sym other ∙ eq-eqb b 40 (comment-first b rest (omega (arith, e)))))
