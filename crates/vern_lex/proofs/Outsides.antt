-- What stands outside of the comments of a text, place by place.
use Rattle.std.proofs.Common.{◌≡◌, ℕ, zero, suc, ◌+◌, ◌-◌, ◌<◌, ◌≤◌, ◌⊎◌, inl, inr, ◌&&◌, ◌==◌, List, [], ◌∷◌, ◌++◌, length, drop}
use Rattle.std.proofs.Common.{replicate, get_or, Bool, true, false, cond, Option, Some, None, if◌then◌else◌, get_or-drop, refl, sym, ap}
use Rattle.std.proofs.Common.{◌∙◌, arith}
use Rattle.std.proofs.lemmas.Bool.{false≢true, cases_lt, and_parts, eqb-true}
use Rattle.std.specs.List.{prefix_len}
use Rattle.std.proofs.Math.Dec.{eqb-suc-zero}
use Rattle.std.proofs.lemmas.List.{drop_more, drop_all, drop-drop}
use Rattle.vern_lex.specs.Comments.{opens_comment, closes_comment, behind, comment_length, outside_from, outside, first_place}

-- one list is the end of another
pub record IsEnd (xs ys : List ℕ) : Type 0 where
  pub before : ℕ
  pub within : before ≤ length xs
  pub is : ys ≡ drop before xs

end_more : (b : ℕ) (xs ys : List ℕ) → IsEnd xs ys → IsEnd (b ∷ xs) ys
end_more b xs ys e = record { before = suc e.before; within = omega (arith, e.within); is = e.is }

pub behind_end : (deep : ℕ) (text after : List ℕ) → behind deep text ≡ Some after → IsEnd text after
behind_end zero text after e = record { before = 0; within = omega arith; is = cc }
behind_end (suc d) [] after e = absurd (cc)
behind_end (suc d) (a ∷ []) after e = absurd (cc)
behind_end (suc d) (a ∷ b ∷ rest) after e =
    by (a == 40 && b == 42) (a == 42 && b == 41) (behind_end (suc (suc d)) rest after) (behind_end d rest after)
    (behind_end (suc d) (b ∷ rest) after) e
  where
    by : (s t : Bool) → (behind (suc (suc d)) rest ≡ Some after → IsEnd rest after) → (behind d rest ≡ Some after → IsEnd rest after)
        → (behind (suc d) (b ∷ rest) ≡ Some after → IsEnd (b ∷ rest) after)
        → elim s [ true ↦ behind (suc (suc d)) rest | false ↦ elim t [ true ↦ behind d rest | false ↦ behind (suc d) (b ∷ rest) ] ]
        ≡ Some after → IsEnd (a ∷ b ∷ rest) after
    by true t f g h e = end_more a (b ∷ rest) after (end_more b rest after (f e))
    by false true f g h e = end_more a (b ∷ rest) after (end_more b rest after (g e))
    by false false f g h e = end_more a (b ∷ rest) after (h e)

-- a comment is within its text
pub comment-within : (text : List ℕ) → comment_length text ≤ length text
comment-within [] = omega arith
comment-within (a ∷ []) = omega arith
comment-within (a ∷ b ∷ rest) = by (a == 40 && b == 42) (behind 1 rest)
  where
    by : (s : Bool) (o : Option (List ℕ)) → (if s then elim o
        [ None ↦ 0 | Some after ↦ length (a ∷ b ∷ rest) - length after ] else 0) ≤ length (a ∷ b ∷ rest)
    by true None = omega arith
    by true (Some after) = omega arith
    by false o = omega arith

pub outside_from-drop : (k : ℕ) (text : List ℕ) → k ≤ length text → outside_from k text ≡ replicate k 256 ++ outside (drop k text)
outside_from-drop zero text h = refl
outside_from-drop (suc k) [] h = absurd (omega (arith, h))
outside_from-drop (suc k) (b ∷ rest) h = ap (λ xs. 256 ∷ xs) (outside_from-drop k rest (omega (arith, h)))

-- the bytes of a comment are passed over
pub outside-comment : (text : List ℕ) → 0 < comment_length text
    → outside text ≡ replicate (comment_length text) 256 ++ outside (drop (comment_length text) text)
outside-comment [] h = absurd (omega (arith, h))
outside-comment (b ∷ rest) h = by (comment_length (b ∷ rest)) h (comment-within (b ∷ rest))
  where
    by : (n : ℕ) → 0 < n → n ≤ length (b ∷ rest) → (if n == 0 then b else 256) ∷ outside_from (n - 1) rest
        ≡ replicate n 256 ++ outside (drop n (b ∷ rest))
    by zero h w = absurd (omega (arith, h))
    by (suc n) h w =
        let one_less : suc n - 1 ≡ n = omega arith in
        ap (λ t. (if t then b else 256) ∷ outside_from (suc n - 1) rest) (eqb-suc-zero n)
        ∙ ap (λ xs. 256 ∷ xs) (ap (λ k. outside_from k rest) one_less ∙ outside_from-drop n rest (omega (arith, w)))

-- any other byte stands there
pub outside-byte : (b : ℕ) (rest : List ℕ) → comment_length (b ∷ rest) ≡ 0 → outside (b ∷ rest) ≡ b ∷ outside rest
outside-byte b rest e = ap (λ n. (if n == 0 then b else 256) ∷ outside_from (n - 1) rest) e

pub length-outside_from : (k : ℕ) (text : List ℕ) → length (outside_from k text) ≡ length text
length-outside_from k [] = refl
length-outside_from zero (b ∷ rest) = ap suc (length-outside_from (comment_length (b ∷ rest) - 1) rest)
length-outside_from (suc k) (b ∷ rest) = ap suc (length-outside_from k rest)

pub length-outside : (text : List ℕ) → length (outside text) ≡ length text
length-outside text = length-outside_from 0 text

-- a test that no byte of a comment passes is looked for behind the comment
pub first_place-pass : (test : List ℕ → Bool) → ((ys : List ℕ) → test (256 ∷ ys) ≡ false) → (n : ℕ) (xs : List ℕ)
    → first_place test (replicate n 256 ++ xs) ≡ n + first_place test xs
first_place-pass test never zero xs = omega arith
first_place-pass test never (suc n) xs =
    ap (λ t. if t then 0 else 1 + first_place test (replicate n 256 ++ xs)) (never (replicate n 256 ++ xs))
    ∙ omega (arith, first_place-pass test never n xs)

-- a place that isn't of a comment
pub record IsPlain (text : List ℕ) (k i : ℕ) : Type 0 where
  pub no_comment : comment_length (drop i text) ≡ 0
  pub rest : drop i (outside_from k text) ≡ outside (drop i text)

pub plain_place : (k : ℕ) (text : List ℕ) (i : ℕ) → i < length text → (get_or (outside_from k text) i 0 ≡ 256 → ⊥) → IsPlain text k i
plain_place k [] i h never = absurd (omega (arith, h))
plain_place zero (b ∷ rest) zero h never = by (comment_length (b ∷ rest)) refl never
  where
    by : (n : ℕ) → comment_length (b ∷ rest) ≡ n → ((if n == 0 then b else 256) ≡ 256 → ⊥) → IsPlain (b ∷ rest) 0 0
    by zero e never = record { no_comment = e; rest = refl }
    by (suc n) e never = absurd (never (ap (λ t. if t then b else 256) (eqb-suc-zero n)))
plain_place zero (b ∷ rest) (suc i) h never =
    let p = plain_place (comment_length (b ∷ rest) - 1) rest i (omega (arith, h)) never in
    record { no_comment = p.no_comment; rest = p.rest }
plain_place (suc k) (b ∷ rest) zero h never = absurd (never refl)
plain_place (suc k) (b ∷ rest) (suc i) h never =
    let p = plain_place k rest i (omega (arith, h)) never in
    record { no_comment = p.no_comment; rest = p.rest }

-- where no comment begins, a byte stands outside of comments
pub plain-first : (text : List ℕ) → comment_length text ≡ 0 → get_or (outside text) 0 0 ≡ get_or text 0 0
plain-first [] e = refl
plain-first (b ∷ rest) e = ap (λ xs. get_or xs 0 0) (outside-byte b rest e)

-- ---- the comments that are open

pub behind_opens : (d : ℕ) (text : List ℕ) → 0 < d → opens_comment text ≡ true → behind (d + 1) (drop 2 text) ≡ behind d text
behind_opens zero text h e = absurd (omega (arith, h))
behind_opens (suc d) [] h e = absurd (cc)
behind_opens (suc d) (a ∷ []) h e = absurd (cc)
behind_opens (suc d) (a ∷ b ∷ rest) h e =
    let more : suc d + 1 ≡ suc (suc d) = omega arith in
    ap (λ n. behind n rest) more ∙ sym (ap (λ s. elim s [
      | true ↦ behind (suc (suc d)) rest
      | false ↦ elim (a == 42 && b == 41)
          [ true ↦ behind d rest | false ↦ behind (suc d) (b ∷ rest) ]
    ]) e)

pub behind_closes : (d : ℕ) (text : List ℕ) → 0 < d → opens_comment text ≡ false → closes_comment text ≡ true
    → behind (d - 1) (drop 2 text) ≡ behind d text
behind_closes zero text h o e = absurd (omega (arith, h))
behind_closes (suc d) [] h o e = absurd (cc)
behind_closes (suc d) (a ∷ []) h o e = absurd (cc)
behind_closes (suc d) (a ∷ b ∷ rest) h o e =
    let less : suc d - 1 ≡ d = omega arith in
    ap (λ n. behind n rest) less
    ∙ sym (ap (λ s. elim s [
      | true ↦ behind (suc (suc d)) rest
      | false ↦ elim (a == 42 && b == 41)
          [ true ↦ behind d rest | false ↦ behind (suc d) (b ∷ rest) ]
    ]) o
    ∙ ap (λ s. elim s [ true ↦ behind d rest | false ↦ behind (suc d) (b ∷ rest) ]) e)

pub behind_byte : (d : ℕ) (text : List ℕ) → 0 < d → opens_comment text ≡ false → closes_comment text ≡ false
    → behind d (drop 1 text) ≡ behind d text
behind_byte zero text h o e = absurd (omega (arith, h))
behind_byte (suc d) [] h o e = refl
behind_byte (suc d) (a ∷ []) h o e = refl
behind_byte (suc d) (a ∷ b ∷ rest) h o e =
    sym (ap (λ s. elim s [
      | true ↦ behind (suc (suc d)) rest
      | false ↦ elim (a == 42 && b == 41)
          [ true ↦ behind d rest | false ↦ behind (suc d) (b ∷ rest) ]
    ]) o
    ∙ ap (λ s. elim s [ true ↦ behind d rest | false ↦ behind (suc d) (b ∷ rest) ]) e)

-- ---- places that a test finds

pub first_place-within : (test : List ℕ → Bool) (xs : List ℕ) → first_place test xs ≤ length xs
first_place-within test [] = omega arith
first_place-within test (x ∷ xs) = by (test (x ∷ xs)) (first_place-within test xs)
  where
    by : (t : Bool) → first_place test xs ≤ length xs → (if t then 0 else 1 + first_place test xs) ≤ length (x ∷ xs)
    by true h = omega arith
    by false h = omega (arith, h)

pub first_place-found : (test : List ℕ → Bool) (xs : List ℕ) → first_place test xs < length xs → test (drop (first_place test xs) xs) ≡ true
first_place-found test [] h = absurd (omega (arith, h))
first_place-found test (x ∷ xs) h = by (test (x ∷ xs)) refl (first_place-found test xs) h
  where
    by : (t : Bool) → test (x ∷ xs) ≡ t → (first_place test xs < length xs → test (drop (first_place test xs) xs) ≡ true)
        → (if t then 0 else 1 + first_place test xs) < length (x ∷ xs)
        → test (drop (if t then 0 else 1 + first_place test xs) (x ∷ xs)) ≡ true
    by true e more h = e
    by false e more h =
        let next : 1 + first_place test xs ≡ suc (first_place test xs) = omega arith in
        ap (λ n. test (drop n (x ∷ xs))) next ∙ more (omega (arith, h))

-- a comment is passed over, if there is one
pub first_place-comment : (test : List ℕ → Bool) → ((ys : List ℕ) → test (256 ∷ ys) ≡ false) → (text : List ℕ)
    → first_place test (outside text) ≡ comment_length text + first_place test (outside (drop (comment_length text) text))
first_place-comment test never text = by (comment_length text) refl
  where
    by : (n : ℕ) → comment_length text ≡ n → first_place test (outside text) ≡ n + first_place test (outside (drop n text))
    by zero e = omega arith
    by (suc n) e =
        let some : 0 < comment_length text = omega (arith, e) in
        ap (first_place test) (outside-comment text some)
        ∙ first_place-pass test never (comment_length text) (outside (drop (comment_length text) text))
        ∙ ap (λ k. k + first_place test (outside (drop k text))) e

pub comment_passed : (test : List ℕ → Bool) → ((ys : List ℕ) → test (256 ∷ ys) ≡ false) → (text : List ℕ) (n : ℕ) → n ≡ comment_length text
    → first_place test (outside text) ≡ n + first_place test (outside (drop n text))
comment_passed test never text n e = first_place-comment test never text ∙ ap (λ k. k + first_place test (outside (drop k text))) (sym e)

-- a test that no byte of a comment passes finds a place that isn't of a comment
pub found_plain : (test : List ℕ → Bool) → ((ys : List ℕ) → test (256 ∷ ys) ≡ false) → (text : List ℕ)
    → IsPlain text 0 (first_place test (outside text))
found_plain test never text = by (cases_lt (first_place test (outside text)) (length text))
  where
    place : ℕ
    place = first_place test (outside text)

    by : (place < length text) ⊎ (length text ≤ place) → IsPlain text 0 place
    by (inl h) = plain_place 0 text place h (λ e. false≢true (sym (never (drop (place + 1) (outside text)))
        ∙ ap (λ b. test (b ∷ drop (place + 1) (outside text))) (sym e)
        ∙ sym (ap test (drop_more (outside text) place 0 (omega (arith, h, length-outside text))))
        ∙ first_place-found test (outside text) (omega (arith, h, length-outside text))))
    by (inr h) =
        let nothing = drop_all place text h in
        record {
          no_comment = ap comment_length nothing;
          rest = drop_all place (outside text) (omega (arith, h, length-outside text))
              ∙ sym (ap outside nothing);
        }

-- behind a place that isn't of a comment
pub plain_next : (text : List ℕ) (i : ℕ) → i < length text → IsPlain text 0 i → drop (i + 1) (outside text) ≡ outside (drop (i + 1) text)
plain_next text i h p =
    let here = drop_more text i 0 h in
    sym (drop-drop 1 i (outside text)) ∙ ap (drop 1) (p.rest ∙ ap outside here
    ∙ outside-byte (get_or text i 0) (drop (i + 1) text) (ap comment_length (sym here) ∙ p.no_comment))

-- the byte at a place that isn't of a comment
pub plain_byte : (text : List ℕ) (i : ℕ) → i < length text → IsPlain text 0 i → get_or (outside text) i 0 ≡ get_or text i 0
plain_byte text i h p =
    let here : i + 0 ≡ i = omega arith in
    let whole : get_or (drop i (outside text)) 0 0 ≡ get_or (outside text) i 0 = get_or-drop i (outside text) 0 0
    ∙ ap (λ k. get_or (outside text) k 0) here in
    let bare : get_or (drop i text) 0 0 ≡ get_or text i 0 = get_or-drop i text 0 0 ∙ ap (λ k. get_or text k 0) here in
    sym whole ∙ ap (λ xs. get_or xs 0 0) p.rest ∙ plain-first (drop i text) p.no_comment ∙ bare

-- ---- runs of a byte

pub comment-first : (b : ℕ) (rest : List ℕ) → 0 < comment_length (b ∷ rest) → b ≡ 40
comment-first b [] h = absurd (omega (arith, h))
comment-first b (c ∷ rest) h = by (b == 40 && c == 42) refl h
  where
    by : (s : Bool) → (b == 40 && c == 42) ≡ s → 0 <
        (if s then elim (behind 1 rest) [ None ↦ 0 | Some after ↦ length (b ∷ c ∷ rest) - length after ] else 0) → b ≡ 40
    by true e h = eqb-true b 40 (and_parts (b == 40) (c == 42) e).0
    by false e h = absurd (omega (arith, h))

-- a run of a byte that begins no comment
pub prefix_len-outside : (p : ℕ → Bool) → p 40 ≡ false → p 256 ≡ false → (text : List ℕ) → prefix_len p (outside text) ≡ prefix_len p text
prefix_len-outside p q r [] = refl
prefix_len-outside p q r (b ∷ rest) = by (comment_length (b ∷ rest)) refl (prefix_len-outside p q r rest)
  where
    by : (n : ℕ) → comment_length (b ∷ rest) ≡ n → prefix_len p (outside rest) ≡ prefix_len p rest
        → prefix_len p (outside (b ∷ rest)) ≡ prefix_len p (b ∷ rest)
    by zero e h = ap (prefix_len p) (outside-byte b rest e) ∙ ap (λ n. cond (p b) (1 + n) 0) h
    by (suc n) e h =
        let some : 0 < comment_length (b ∷ rest) = omega (arith, e) in
        let first = comment-first b rest some in
        let covered : (if comment_length (b ∷ rest) == 0 then b else 256) ≡ 256 = ap (λ k. if k == 0 then b else 256) e
        ∙ ap (λ t. if t then b else 256) (eqb-suc-zero n) in
        ap (λ x. cond (p x) (1 + prefix_len p (outside_from (comment_length (b ∷ rest) - 1) rest)) 0) covered
        ∙ ap (λ t. cond t (1 + prefix_len p (outside_from (comment_length (b ∷ rest) - 1) rest)) 0) r
        ∙ sym (ap (λ t. cond t (1 + prefix_len p rest) 0) (ap p first ∙ q))
