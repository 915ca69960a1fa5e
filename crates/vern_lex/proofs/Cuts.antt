-- Where sentences begin and end.
use Rattle.std.proofs.Common.{◌≡◌, ℕ, ◌+◌, ◌<◌, ◌≤◌, ◌==◌, List, [], ◌∷◌, length, drop, get_or, true, false, Result, Ok, Err, if◌then◌else◌}
use Rattle.std.proofs.Common.{get_or-drop, refl, sym, ap, ◌∙◌, subst, arith}
use Rattle.std.specs.List.{prefix_len}
use Rattle.std.proofs.lemmas.Bool.{false≢true, ne_eqb}
use Rattle.std.proofs.lemmas.List.{drop_more, drop_all}
use Rattle.vern_lex.specs.Comments.{comment_length, outside, first_place, begins}
use Rattle.vern_lex.specs.Sentences.{is_brace, is_bullet, stops, length_to_full_stop, sentence_length, sentence_at, next_sentence}
use Rattle.vern_lex.specs.declared.sentences.CutFault.{CutFault}
use Rattle.vern_lex.specs.declared.sentences.CutFault.TheVariants.{Unclosed}
use Rattle.vern_lex.proofs.Outsides.{IsPlain, found_plain, plain_byte, length-outside, outside-byte, prefix_len-outside}

pub begins-covered : (ys : List ℕ) → begins (256 ∷ ys) ≡ false
begins-covered ys = refl

pub stops-covered : (ys : List ℕ) → stops (256 ∷ ys) ≡ false
stops-covered [] = refl
stops-covered (y ∷ ys) = refl

-- ---- the end of a sentence

pub to_full_stop-end : (at : ℕ) (text : List ℕ) (place : ℕ) → place ≡ first_place stops (outside text) → length text ≤ place
    → Err (Unclosed at) ≡ length_to_full_stop at (first_place stops (outside text)) (drop (first_place stops (outside text)) (outside text))
to_full_stop-end at text place e h =
    let nothing = drop_all place (outside text) (omega (arith, h, length-outside text)) in
    sym (ap (length_to_full_stop at place) nothing) ∙ ap (λ p. length_to_full_stop at p (drop p (outside text))) e

to_full_stop-here : (at : ℕ) (text rest : List ℕ) (place : ℕ) → place ≡ first_place stops (outside text) → place < length text
    → rest ≡ drop place text
    → length_to_full_stop at place (get_or rest 0 0 ∷ drop (place + 1) (outside text))
    ≡ length_to_full_stop at (first_place stops (outside text)) (drop (first_place stops (outside text)) (outside text))
to_full_stop-here at text rest place e h r =
    let plain = subst (IsPlain text 0) (sym e) (found_plain stops stops-covered text) in
    let none : place + 0 ≡ place = omega arith in
    let byte : get_or rest 0 0 ≡ get_or (outside text) place 0 = ap (λ xs. get_or xs 0 0) r ∙ get_or-drop place text 0 0
    ∙ ap (λ k. get_or text k 0) none ∙ sym (plain_byte text place h plain) in
    ap (λ b. length_to_full_stop at place (b ∷ drop (place + 1) (outside text))) byte
    ∙ ap (length_to_full_stop at place) (sym (drop_more (outside text) place 0 (omega (arith, h, length-outside text))))
    ∙ ap (λ p. length_to_full_stop at p (drop p (outside text))) e

pub to_full_stop-found : (at : ℕ) (text rest : List ℕ) (place : ℕ) → place ≡ first_place stops (outside text) → place < length text
    → rest ≡ drop place text → get_or rest 0 0 ≡ 46
    → Ok (place + 1) ≡ length_to_full_stop at (first_place stops (outside text)) (drop (first_place stops (outside text)) (outside text))
to_full_stop-found at text rest place e h r stop = sym (ap (λ b. length_to_full_stop at place (b ∷ drop (place + 1) (outside text))) stop)
    ∙ to_full_stop-here at text rest place e h r

pub to_full_stop-comment : (at : ℕ) (text rest : List ℕ) (place : ℕ) → place ≡ first_place stops (outside text) → place < length text
    → rest ≡ drop place text → (get_or rest 0 0 == 46) ≡ false
    → Err (Unclosed (at + place)) ≡ length_to_full_stop at (first_place stops (outside text))
    (drop (first_place stops (outside text)) (outside text))
to_full_stop-comment at text rest place e h r other =
    sym (ap (λ t. if t then Ok (place + 1) else Err (Unclosed (at + place))) other) ∙ to_full_stop-here at text rest place e h r

pub no_bullet : (k b : ℕ) → is_bullet k ≡ false → is_bullet b ≡ true → (k == b) ≡ false
no_bullet k b n y = ne_eqb k b (λ e. false≢true (sym n ∙ ap is_bullet e ∙ y))

-- the length by the first byte
abbrev by_first : (at b : ℕ) (xs : List ℕ) → Result ℕ CutFault
by_first at b xs = if is_brace b then Ok 1 else (if is_bullet b then Ok (prefix_len (λ c. c == b) xs) else length_to_full_stop at
    (first_place stops xs) (drop (first_place stops xs) xs))

length-by_first : (at : ℕ) (text : List ℕ) → comment_length text ≡ 0
    → sentence_length at (outside text) ≡ by_first at (get_or text 0 0) (outside text)
length-by_first at [] e = refl
length-by_first at (b ∷ rest) e = ap (sentence_length at) (outside-byte b rest e) ∙ sym (ap (by_first at b) (outside-byte b rest e))

pub bullet-length : (at n : ℕ) (text : List ℕ) → comment_length text ≡ 0 → is_brace (get_or text 0 0) ≡ false
    → is_bullet (get_or text 0 0) ≡ true → n ≡ prefix_len (λ c. c == get_or text 0 0) text → Ok n ≡ sentence_length at (outside text)
bullet-length at n text none brace bullet e =
    ap Ok (e ∙ sym (prefix_len-outside (λ c. c == get_or text 0 0) (no_bullet 40 (get_or text 0 0) refl bullet)
    (no_bullet 256 (get_or text 0 0) refl bullet) text))
    ∙ sym (length-by_first at text none
    ∙ ap (λ t. if t then Ok 1 else (if is_bullet (get_or text 0 0) then Ok
    (prefix_len (λ c. c == get_or text 0 0) (outside text)) else length_to_full_stop at (first_place stops (outside text))
    (drop (first_place stops (outside text)) (outside text)))) brace
    ∙ ap (λ t. if t then Ok (prefix_len (λ c. c == get_or text 0 0) (outside text)) else length_to_full_stop at
    (first_place stops (outside text)) (drop (first_place stops (outside text)) (outside text))) bullet)

-- ---- the beginning of a sentence

pub begun : (text rest : List ℕ) (gap : ℕ) → gap ≡ first_place begins (outside text) → rest ≡ drop gap text → comment_length rest ≡ 0
begun text rest gap e r = ap comment_length (r ∙ ap (λ k. drop k text) e) ∙ (found_plain begins begins-covered text).no_comment

pub next_is : (at : ℕ) (text rest : List ℕ) (gap : ℕ) → gap ≡ first_place begins (outside text) → rest ≡ drop gap text
    → sentence_at (at + gap) (outside rest) ≡ next_sentence at (outside text)
next_is at text rest gap e r =
    ap (λ k. sentence_at (at + k) (outside rest)) e
    ∙ ap (sentence_at (at + first_place begins (outside text))) (ap outside (r ∙ ap (λ k. drop k text) e)
    ∙ sym (found_plain begins begins-covered text).rest)
