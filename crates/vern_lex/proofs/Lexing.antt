-- The tokens of a sentence, one after the other.
use Rattle.std.proofs.Common.{◌≡◌, ℕ, zero, suc, ◌+◌, ◌-◌, ◌<◌, ◌≤◌, ◌⊎◌, inl, inr, ◌&&◌, ◌||◌, ◌==◌, List, [], ◌∷◌, ◌++◌, length, drop}
use Rattle.std.proofs.Common.{get_or, Bool, true, false, Option, Some, None, if◌then◌else◌, length-drop, append_assoc, append-nil, refl}
use Rattle.std.proofs.Common.{sym, ap, ◌∙◌, subst, arith}
use Rattle.std.specs.List.{All, list_all, prefix_len, take_while}
use Rattle.std.proofs.lemmas.Bool.{cases_lt, and_parts, eqb-true}
use Rattle.std.proofs.lemmas.List.{drop_all, drop-drop, length-take-le}
use Rattle.std.proofs.lemmas.List.Sums.{prefix_len-le-length}
use Rattle.std.proofs.lemmas.List.Elements.{All-nil, All-cons, All-drop}
use Rattle.vern_lex.specs.Comments.{IsGap, outside, first_place, begins, is_gap}
use Rattle.vern_lex.specs.Comments.IsGap.{nothing}
use Rattle.vern_lex.specs.Tokens.{HasOnlyGaps, IsTokenOf, TokensRise, begins_name, continues_name, first_name, word_kind, pair_kind}
use Rattle.vern_lex.specs.Tokens.{single_kind, token_of, sign_of, sign_at, token_at, next_token, tokens_behind, lone_kind, tokens_of}
use Rattle.vern_lex.specs.declared.token.Token.{Token}
use Rattle.vern_lex.specs.declared.token.TokenKind.{TokenKind}
use Rattle.vern_lex.specs.declared.token.TokenKind.TheVariants.{Iff, FullStop, Bullet, LeftBrace, RightBrace}
use Rattle.vern_lex.proofs.Outsides.{length-outside, first_place-within, first_place-found, found_plain}
use Rattle.vern_lex.proofs.Cuts.{begins-covered}
use Rattle.vern_lex.proofs.Gaps.{gap-whole, gap-before, begun-byte}

-- a token within a text that begins at an offset
pub record IsWithin (at : ℕ) (xs : List ℕ) (t : Token) : Type 0 where
  pub behind : at ≤ t.span.from
  pub some : t.span.from < t.span.to
  pub within : t.span.to ≤ at + length xs

token_within : (at : ℕ) (k : TokenKind) (n : ℕ) (xs : List ℕ) → 0 < n → n ≤ length xs → IsWithin at xs (token_of at k n)
token_within at k n xs h w = record { behind = omega arith; some = omega (arith, h); within = omega (arith, w) }

third_there : (rest : List ℕ) → (get_or rest 1 0 == 62) ≡ true → 2 ≤ length rest
third_there [] e = absurd (cc)
third_there (x ∷ []) e = absurd (cc)
third_there (x ∷ y ∷ ys) e = omega arith

second_there : (a : ℕ) (rest : List ℕ) (k : TokenKind) → pair_kind a (get_or rest 0 0) ≡ Some k → 1 ≤ length rest
second_there a [] k e = absurd (cc)
second_there a (x ∷ xs) k e = omega arith

sign_within : (at a : ℕ) (rest : List ℕ) → IsWithin at (a ∷ rest) (sign_at at a rest)
sign_within at a rest = stop (a == 46 && length rest == 0)
  where
    pair : (o : Option TokenKind) → pair_kind a (get_or rest 0 0) ≡ o
        → IsWithin at (a ∷ rest) (elim o [ Some kind ↦ token_of at kind 2 | None ↦ token_of at (single_kind a) 1 ])
    pair (Some k) e = token_within at k 2 (a ∷ rest) (omega arith) (omega (arith, second_there a rest k e))
    pair None e = token_within at (single_kind a) 1 (a ∷ rest) (omega arith) (omega arith)

    three : (t : Bool) → (get_or rest 1 0 == 62 && get_or rest 0 0 == 45 && a == 60) ≡ t
        → IsWithin at (a ∷ rest) (if t then token_of at Iff 3 else elim (pair_kind a (get_or rest 0 0))
        [ Some kind ↦ token_of at kind 2 | None ↦ token_of at (single_kind a) 1 ])
    three true e =
        let parts = and_parts (get_or rest 1 0 == 62 && get_or rest 0 0 == 45) (a == 60) e in
        let third = (and_parts (get_or rest 1 0 == 62) (get_or rest 0 0 == 45) parts.0).0 in
        token_within at Iff 3 (a ∷ rest) (omega arith) (omega (arith, third_there rest third))
    three false e = pair (pair_kind a (get_or rest 0 0)) refl

    stop : (t : Bool) → IsWithin at (a ∷ rest) (if t then token_of at FullStop 1 else sign_of at a (get_or rest 0 0) (get_or rest 1 0))
    stop true = token_within at FullStop 1 (a ∷ rest) (omega arith) (omega arith)
    stop false = three (get_or rest 1 0 == 62 && get_or rest 0 0 == 45 && a == 60) refl

name_length : (b : ℕ) (rest : List ℕ) → begins_name b ≡ true
    → (0 < length (first_name (b ∷ rest))) × (length (first_name (b ∷ rest)) ≤ length (b ∷ rest))
name_length b rest e =
    let name : first_name (b ∷ rest) ≡ b ∷ take_while continues_name rest =
    ap (λ t. if t then b ∷ take_while continues_name rest else []) e in
    let count : length (first_name (b ∷ rest)) ≡ suc (length (take_while continues_name rest)) = ap length name in
    let fits = prefix_len-le-length continues_name rest in
    let tail : length (take_while continues_name rest) ≡ prefix_len continues_name rest =
    length-take-le (prefix_len continues_name rest) rest fits in
    (omega (arith, count), omega (arith, count, tail, fits))

token_at_within : (at : ℕ) (xs : List ℕ) (t : Token) → token_at at xs ≡ Some t → IsWithin at xs t
token_at_within at [] t e = absurd (cc)
token_at_within at (b ∷ rest) t e = by (begins_name b) refl e
  where
    by : (s : Bool) → begins_name b ≡ s → Some (if s then token_of at (word_kind (first_name (b ∷ rest)))
        (length (first_name (b ∷ rest))) else sign_at at b rest) ≡ Some t → IsWithin at (b ∷ rest) t
    by true s e =
        let is : token_of at (word_kind (first_name (b ∷ rest))) (length (first_name (b ∷ rest))) ≡ t = cc in
        let name = name_length b rest s in
        subst (IsWithin at (b ∷ rest)) is (token_within at (word_kind (first_name (b ∷ rest))) (length (first_name (b ∷ rest)))
        (b ∷ rest) name.0 name.1)
    by false s e =
        let is : sign_at at b rest ≡ t = cc in
        subst (IsWithin at (b ∷ rest)) is (sign_within at b rest)

pub next_within : (at : ℕ) (xs : List ℕ) (t : Token) → next_token at xs ≡ Some t → IsWithin at xs t
next_within at xs t e =
    by (first_place begins (outside xs)) (omega (arith, first_place-within begins (outside xs), length-outside xs))
    (token_at_within (at + first_place begins (outside xs)) (drop (first_place begins (outside xs)) xs) t e)
  where
    by : (gap : ℕ) → gap ≤ length xs → IsWithin (at + gap) (drop gap xs) t → IsWithin at xs t
    by gap h i = record { behind = omega (arith, i.behind); some = i.some; within = omega (arith, i.within, h, length-drop gap xs) }

pub next_token_is : (at : ℕ) (text rest : List ℕ) (gap : ℕ) → gap ≡ first_place begins (outside text) → rest ≡ drop gap text
    → token_at (at + gap) rest ≡ next_token at text
next_token_is at text rest gap e r = ap (token_at (at + gap)) r ∙ ap (λ k. token_at (at + k) (drop k text)) e

nothing_next : (at : ℕ) (xs : List ℕ) → length xs ≤ at → next_token at (drop at xs) ≡ None
nothing_next at xs h = ap (next_token at) (drop_all at xs h)

-- ---- how many tokens are asked for doesn't matter, where they are enough

abbrev pub step : ℕ → List ℕ → Option Token → List Token
step most xs found = elim found [ None ↦ [] | Some token ↦ token ∷ tokens_behind most xs token.span.to ]

enough : (m n : ℕ) (xs : List ℕ) (at : ℕ) → length xs - at ≤ m → length xs - at ≤ n → tokens_behind m xs at ≡ tokens_behind n xs at
enough zero zero xs at h k = refl
enough zero (suc n) xs at h k =
    let past : length xs ≤ at = omega (arith, h) in
    sym (ap (step n xs) (nothing_next at xs past))
enough (suc m) zero xs at h k =
    let past : length xs ≤ at = omega (arith, k) in
    ap (step m xs) (nothing_next at xs past)
enough (suc m) (suc n) xs at h k = by (next_token at (drop at xs)) refl (enough m n xs)
  where
    by : (o : Option Token) → next_token at (drop at xs) ≡ o
        → ((p : ℕ) → length xs - p ≤ m → length xs - p ≤ n → tokens_behind m xs p ≡ tokens_behind n xs p) → step m xs o ≡ step n xs o
    by None e more = refl
    by (Some t) e more =
        let i = next_within at (drop at xs) t e in
        ap (λ ts. t ∷ ts) (more t.span.to (omega (arith, i.behind, i.some, i.within, h, length-drop at xs))
        (omega (arith, i.behind, i.some, i.within, k, length-drop at xs)))

-- what stands behind an offset, with all its tokens
abbrev pub tokens_left : List ℕ → ℕ → List Token
tokens_left xs at = tokens_behind (length xs - at) xs at

left_is : (xs : List ℕ) (at : ℕ) → at < length xs → tokens_left xs at ≡ step (length xs - at - 1) xs (next_token at (drop at xs))
left_is xs at h =
    let one : length xs - at ≡ suc (length xs - at - 1) = omega (arith, h) in
    ap (λ n. tokens_behind n xs at) one

left_none : (xs : List ℕ) (at : ℕ) → next_token at (drop at xs) ≡ None → tokens_left xs at ≡ []
left_none xs at e = by (cases_lt at (length xs))
  where
    by : (at < length xs) ⊎ (length xs ≤ at) → tokens_left xs at ≡ []
    by (inl h) = left_is xs at h ∙ ap (step (length xs - at - 1) xs) e
    by (inr h) = let zero_left : length xs - at ≡ 0 = omega (arith, h) in ap (λ n. tokens_behind n xs at) zero_left

pub within_since : (xs : List ℕ) (at : ℕ) (t : Token) → next_token at (drop at xs) ≡ Some t → at < length xs
within_since xs at t e = by (cases_lt at (length xs))
  where
    by : (at < length xs) ⊎ (length xs ≤ at) → at < length xs
    by (inl h) = h
    by (inr h) = let none = nothing_next at xs h in absurd (cc)

-- what the loop keeps
pub record IsRead (text : List ℕ) (found : List Token) (at : ℕ) : Type 0 where
  pub within : at ≤ length text
  pub read : found ++ tokens_left text at ≡ tokens_behind (length text) text 0

pub read-grown : (text rest : List ℕ) (found : List Token) (at : ℕ) (t : Token) → IsRead text found at → rest ≡ drop at text
    → next_token at rest ≡ Some t → IsRead text (found ++ t ∷ []) t.span.to × (at < t.span.to)
read-grown text rest found at t i r n =
    let e : next_token at (drop at text) ≡ Some t = ap (next_token at) (sym r) ∙ n in
    let h = within_since text at t e in
    let w = next_within at (drop at text) t e in
    let fuel = enough (length text - at - 1) (length text - t.span.to) text t.span.to (omega (arith, w.behind, w.some)) (omega arith) in
    let more : tokens_left text at ≡ t ∷ tokens_left text t.span.to = left_is text at h ∙ ap (step (length text - at - 1) text) e
    ∙ ap (λ ts. t ∷ ts) fuel in (
      record {
        within = omega (arith, w.within, h, length-drop at text);
        read = append_assoc found (t ∷ []) (tokens_left text t.span.to) ∙ ap (λ ts. found ++ ts) (sym more) ∙ i.read;
      },
      omega (arith, w.behind, w.some),
    )

pub read-done : (text rest : List ℕ) (found : List Token) (at : ℕ) → IsRead text found at → rest ≡ drop at text → next_token at rest ≡ None
    → found ≡ tokens_behind (length text) text 0
read-done text rest found at i r n =
    let e : next_token at (drop at text) ≡ None = ap (next_token at) (sym r) ∙ n in
    sym (append-nil found) ∙ ap (λ ts. found ++ ts) (sym (left_none text at e)) ∙ i.read

pub read-other : (text : List ℕ) → lone_kind text ≡ None → tokens_behind (length text) text 0 ≡ tokens_of text
read-other text l = sym (ap (λ o. elim o [ Some kind ↦ token_of 0 kind (length text) ∷ [] | None ↦ tokens_behind (length text) text 0 ]) l)

-- ---- what the tokens are

rise : (most : ℕ) (xs : List ℕ) (at : ℕ) → TokensRise at (tokens_behind most xs at)
rise zero xs at = tt
rise (suc most) xs at = by (next_token at (drop at xs)) refl (rise most xs)
  where
    by : (o : Option Token) → next_token at (drop at xs) ≡ o → ((p : ℕ) → TokensRise p (tokens_behind most xs p))
        → TokensRise at (step most xs o)
    by None e more = tt
    by (Some t) e more = ((next_within at (drop at xs) t e).behind, more t.span.to)

abbrev IsFrom : ℕ → Token → Type 0
IsFrom at t = t.span.from ≡ at

sign_from : (at a : ℕ) (rest : List ℕ) → IsFrom at (sign_at at a rest)
sign_from at a rest = stop (a == 46 && length rest == 0)
  where
    pair : (o : Option TokenKind) → IsFrom at (elim o [ Some kind ↦ token_of at kind 2 | None ↦ token_of at (single_kind a) 1 ])
    pair (Some k) = refl
    pair None = refl

    three : (t : Bool) → IsFrom at (if t then token_of at Iff 3 else elim (pair_kind a (get_or rest 0 0))
        [ Some kind ↦ token_of at kind 2 | None ↦ token_of at (single_kind a) 1 ])
    three true = refl
    three false = pair (pair_kind a (get_or rest 0 0))

    stop : (t : Bool) → IsFrom at (if t then token_of at FullStop 1 else sign_of at a (get_or rest 0 0) (get_or rest 1 0))
    stop true = refl
    stop false = three (get_or rest 1 0 == 62 && get_or rest 0 0 == 45 && a == 60)

token_from : (at : ℕ) (xs : List ℕ) (t : Token) → token_at at xs ≡ Some t → (t.span.from ≡ at) × (0 < length xs)
token_from at [] t e = absurd (cc)
token_from at (b ∷ rest) t e = (by (begins_name b) e, omega arith)
  where
    by : (s : Bool) → Some (if s then token_of at (word_kind (first_name (b ∷ rest)))
        (length (first_name (b ∷ rest))) else sign_at at b rest) ≡ Some t → t.span.from ≡ at
    by true e = let is : token_of at (word_kind (first_name (b ∷ rest))) (length (first_name (b ∷ rest))) ≡ t = cc in
        sym (ap (λ x. x.span.from) is)
    by false e = let is : sign_at at b rest ≡ t = cc in sym (ap (λ x. x.span.from) is) ∙ sign_from at b rest

token_none : (at : ℕ) (xs : List ℕ) → token_at at xs ≡ None → xs ≡ []
token_none at [] e = refl
token_none at (b ∷ rest) e = absurd (cc)

token_begun : (at : ℕ) (xs : List ℕ) (t : Token) → next_token at (drop at xs) ≡ Some t → begins (outside (drop t.span.from xs)) ≡ true
token_begun at xs t e =
    let found = token_from (at + first_place begins (outside (drop at xs)))
    (drop (first_place begins (outside (drop at xs))) (drop at xs)) t e in
    let below : first_place begins (outside (drop at xs)) < length (outside (drop at xs)) =
    omega (arith, found.1, length-drop (first_place begins (outside (drop at xs))) (drop at xs), length-outside (drop at xs)) in
    ap (λ k. begins (outside (drop k xs))) found.0
    ∙ ap (λ l. begins (outside l)) (sym (drop-drop (first_place begins (outside (drop at xs))) at xs))
    ∙ ap begins (sym (found_plain begins begins-covered (drop at xs)).rest) ∙ first_place-found begins (outside (drop at xs)) below

each : (most : ℕ) (xs : List ℕ) (at : ℕ) → All (IsTokenOf xs) (tokens_behind most xs at)
each zero xs at = All-nil (IsTokenOf xs)
each (suc most) xs at = by (next_token at (drop at xs)) refl (each most xs)
  where
    by : (o : Option Token) → next_token at (drop at xs) ≡ o → ((p : ℕ) → All (IsTokenOf xs) (tokens_behind most xs p))
        → All (IsTokenOf xs) (step most xs o)
    by None e more = All-nil (IsTokenOf xs)
    by (Some t) e more =
        let i = next_within at (drop at xs) t e in
        let below = within_since xs at t e in
        All-cons (IsTokenOf xs) t (tokens_behind most xs t.span.to)
        (record { begun = token_begun at xs t e; some = i.some; within = omega (arith, i.within, below, length-drop at xs) })
        (more t.span.to)

lone_some : (xs : List ℕ) (k : TokenKind) → lone_kind xs ≡ Some k → 0 < length xs
lone_some [] k e = absurd (cc)
lone_some (x ∷ xs) k e = omega arith

lone_begun : (xs : List ℕ) (k : TokenKind) → lone_kind xs ≡ Some k → begins (outside xs) ≡ true
lone_begun [] k e = absurd (cc)
lone_begun (b ∷ rest) k e = by refl refl refl refl refl
  where
    is : (c : ℕ) → is_gap c ≡ false → (c == 40) ≡ false → (b == c) ≡ true → begins (outside (b ∷ rest)) ≡ true
    is c gap other e =
        let same : b ≡ c = eqb-true b c e in
        begun-byte b rest (ap is_gap same ∙ gap) (ap (λ x. x == 40) same ∙ other)

    none : (b == 45 || b == 43 || b == 42) ≡ false → (b == 123) ≡ false → (b == 125) ≡ false → lone_kind (b ∷ rest) ≡ None
    none u v w =
        ap (λ t. if t && list_all (λ c. c == b) rest then Some Bullet else
        (if b == 123 && length rest == 0 then Some LeftBrace else (if b == 125 && length rest == 0 then Some RightBrace else None))) u
        ∙ ap (λ t. if t && length rest == 0 then Some LeftBrace else (if b == 125 && length rest == 0 then Some RightBrace else None)) v
        ∙ ap (λ t. if t && length rest == 0 then Some RightBrace else None) w

    by : {s t u v w : Bool} → (b == 45) ≡ s → (b == 43) ≡ t → (b == 42) ≡ u → (b == 123) ≡ v → (b == 125) ≡ w
        → begins (outside (b ∷ rest)) ≡ true
    by {s = true} s p q x y = is 45 refl refl s
    by {s = false} {t = true} s p q x y = is 43 refl refl p
    by {s = false} {t = false} {u = true} s p q x y = is 42 refl refl q
    by {s = false} {t = false} {u = false} {v = true} s p q x y = is 123 refl refl x
    by {s = false} {t = false} {u = false} {v = false} {w = true} s p q x y = is 125 refl refl y
    by {s = false} {t = false} {u = false} {v = false} {w = false} s p q x y =
        let no_bullet : (b == 45 || b == 43 || b == 42) ≡ false = ap (λ t. t || b == 43 || b == 42) s ∙ ap (λ t. t || b == 42) p ∙ q in
        let nothing = none no_bullet x y in
        absurd (cc)

only_gaps : (most : ℕ) (xs : List ℕ) (at : ℕ) → length xs - at ≤ most → All (λ b. b < 256) xs → HasOnlyGaps xs at (tokens_behind most xs at)
only_gaps zero xs at h bytes = let past : length xs ≤ at = omega (arith, h) in subst IsGap (sym (drop_all at xs past)) nothing
only_gaps (suc most) xs at h bytes = by (next_token at (drop at xs)) refl (only_gaps most xs)
  where
    by : (o : Option Token) → next_token at (drop at xs) ≡ o
        → ((p : ℕ) → length xs - p ≤ most → All (λ b. b < 256) xs → HasOnlyGaps xs p (tokens_behind most xs p))
        → HasOnlyGaps xs at (step most xs o)
    by None e more =
        gap-whole (drop at xs) (All-drop (λ b. b < 256) at xs bytes)
        (token_none (at + first_place begins (outside (drop at xs))) (drop (first_place begins (outside (drop at xs))) (drop at xs)) e)
    by (Some t) e more =
        let i = next_within at (drop at xs) t e in
        let found = token_from (at + first_place begins (outside (drop at xs)))
        (drop (first_place begins (outside (drop at xs))) (drop at xs)) t e in
        (gap-before xs at t.span.from bytes found.0, more t.span.to (omega (arith, i.behind, i.some, i.within, h, length-drop at xs)) bytes)

pub tokens_rise : (sentence : List ℕ) → TokensRise 0 (tokens_of sentence)
tokens_rise sentence = by (lone_kind sentence)
  where
    by : (o : Option TokenKind) → TokensRise 0 (elim o
        [ Some kind ↦ token_of 0 kind (length sentence) ∷ [] | None ↦ tokens_behind (length sentence) sentence 0 ])
    by None = rise (length sentence) sentence 0
    by (Some k) = (omega arith, tt)

pub tokens_each : (sentence : List ℕ) → All (IsTokenOf sentence) (tokens_of sentence)
tokens_each sentence = by (lone_kind sentence) refl
  where
    by : (o : Option TokenKind) → lone_kind sentence ≡ o
        → All (IsTokenOf sentence) (elim o [
          | Some kind ↦ token_of 0 kind (length sentence) ∷ []
          | None ↦ tokens_behind
              (length sentence) sentence 0
        ])
    by None e = each (length sentence) sentence 0
    by (Some k) e =
        let i = lone_some sentence k e in
        All-cons (IsTokenOf sentence) (token_of 0 k (length sentence)) []
        (record { begun = lone_begun sentence k e; some = omega (arith, i); within = omega arith }) (All-nil (IsTokenOf sentence))

pub tokens_only_gaps : (sentence : List ℕ) → All (λ b. b < 256) sentence → HasOnlyGaps sentence 0 (tokens_of sentence)
tokens_only_gaps sentence bytes = by (lone_kind sentence)
  where
    by : (o : Option TokenKind) → HasOnlyGaps sentence 0
        (elim o [ Some kind ↦ token_of 0 kind (length sentence) ∷ [] | None ↦ tokens_behind (length sentence) sentence 0 ])
    by None = only_gaps (length sentence) sentence 0 (omega arith) bytes
    by (Some k) = (nothing, subst IsGap (sym (drop_all (0 + length sentence) sentence (omega arith))) nothing)
