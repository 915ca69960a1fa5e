-- What the bytes of a token say of its kind.
use Rattle.std.proofs.Common.{◌≡◌, ℕ, zero, suc, ◌+◌, ◌-◌, ◌<◌, ◌≤◌, ◌&&◌, ◌==◌, List, [], ◌∷◌, length, take, drop, get_or, Bool, true}
use Rattle.std.proofs.Common.{false, Option, Some, None, if◌then◌else◌, cond, length-drop, refl, sym, ap, ◌∙◌, subst, arith}
use Rattle.std.specs.List.{All, list_all, prefix_len, take_while}
use Rattle.std.proofs.lemmas.Bool.{false≢true, and_parts, eqb-true, eq-eqb}
use Rattle.std.proofs.lemmas.List.{drop-drop, length-take-le}
use Rattle.std.proofs.lemmas.List.Sums.{take_while-cons, prefix_len_stops, prefix_len-le-length}
use Rattle.std.proofs.lemmas.List.Folds.{list_all_more}
use Rattle.std.proofs.lemmas.List.Elements.{All-nil, All-cons}
use Rattle.vern_lex.specs.Comments.{outside, first_place, begins, part}
use Rattle.vern_lex.specs.Tokens.{IsSpelled, begins_name, continues_name, first_name, word_kind, pair_kind, single_kind, sign_kind}
use Rattle.vern_lex.specs.Tokens.{spelled_kind, token_of, sign_of, sign_at, token_at, next_token, tokens_behind, lone_kind, tokens_of}
use Rattle.vern_lex.specs.Tokens.IsSpelled.{lone, full_stop, other}
use Rattle.vern_lex.specs.declared.token.Token.{Token}
use Rattle.vern_lex.specs.declared.token.TokenKind.{TokenKind}
use Rattle.vern_lex.specs.declared.token.TokenKind.TheVariants.{Iff, FullStop}
use Rattle.vern_lex.proofs.Lexing.{step, next_within, within_since}

-- the first bytes of a text, so many, are the closing full stop, or they spell the kind and no more do
data IsFront (xs : List ℕ) (n : ℕ) (k : TokenKind) : Type 0 where
  closing : k ≡ FullStop → take n xs ≡ 46 ∷ [] → n ≡ length xs → IsFront xs n k
  spelled : (take n xs ≡ 46 ∷ [] → n < length xs) → spelled_kind (take n xs) ≡ Some k
      → (n < length xs → spelled_kind (take (n + 1) xs) ≡ None) → IsFront xs n k

-- a token that begins at the offset `at`, at the front of a text
record IsFirst (at : ℕ) (xs : List ℕ) (t : Token) : Type 0 where
  long : ℕ
  from : t.span.from ≡ at
  to : t.span.to ≡ at + long
  front : IsFront xs long t.kind

first_of : (at : ℕ) (xs : List ℕ) (k : TokenKind) (n : ℕ) → IsFront xs n k → IsFirst at xs (token_of at k n)
first_of at xs k n f = record { long = n; from = refl; to = refl; front = f }

-- ---- signs

module _ (a : ℕ) (no_name : begins_name a ≡ false) where
  is_sign : (bs : List ℕ) → spelled_kind (a ∷ bs) ≡ sign_kind (a ∷ bs)
  is_sign bs = ap (λ t. if t then (if list_all continues_name bs then Some (word_kind (a ∷ bs)) else None) else sign_kind (a ∷ bs)) no_name

  three_front : (rest : List ℕ) → (get_or rest 1 0 == 62 && get_or rest 0 0 == 45 && a == 60) ≡ true → IsFront (a ∷ rest) 3 Iff
  three_front [] e = absurd (cc)
  three_front (x ∷ []) e = absurd (cc)
  three_front (x ∷ y ∷ zs) e = spelled (λ q. absurd (cc)) (is_sign (x ∷ y ∷ []) ∙ ap (λ t. if t then Some Iff else None) e) (longest zs)
    where
      longest : (zs : List ℕ) → 3 < length (a ∷ x ∷ y ∷ zs) → spelled_kind (take 4 (a ∷ x ∷ y ∷ zs)) ≡ None
      longest [] h = absurd (omega (arith, h))
      longest (z ∷ zs) h = is_sign (x ∷ y ∷ z ∷ [])

  two_front : (rest : List ℕ) (k : TokenKind) → (get_or rest 1 0 == 62 && get_or rest 0 0 == 45 && a == 60) ≡ false
      → pair_kind a (get_or rest 0 0) ≡ Some k → IsFront (a ∷ rest) 2 k
  two_front [] k n e = absurd (cc)
  two_front (x ∷ zs) k n e = spelled (λ q. absurd (cc)) (is_sign (x ∷ []) ∙ e) (longest zs n)
    where
      longest : (zs : List ℕ) → (get_or (x ∷ zs) 1 0 == 62 && x == 45 && a == 60) ≡ false → 2 < length (a ∷ x ∷ zs)
          → spelled_kind (take 3 (a ∷ x ∷ zs)) ≡ None
      longest [] n h = absurd (omega (arith, h))
      longest (z ∷ zs) n h = is_sign (x ∷ z ∷ []) ∙ ap (λ t. if t then Some Iff else None) n

  one_front : (rest : List ℕ) → (a == 46 && length rest == 0) ≡ false → pair_kind a (get_or rest 0 0) ≡ None
      → IsFront (a ∷ rest) 1 (single_kind a)
  one_front [] s e = spelled (λ q. let is : a ≡ 46 = cc in
      absurd (false≢true (sym s ∙ ap (λ t. t && 0 == 0) (eq-eqb a 46 is)))) (is_sign []) (λ h. absurd (omega (arith, h)))
  one_front (x ∷ zs) s e = spelled (λ q. omega arith) (is_sign []) (λ h. is_sign (x ∷ []) ∙ e)

  closing_front : (rest : List ℕ) → (a == 46 && length rest == 0) ≡ true → IsFront (a ∷ rest) 1 FullStop
  closing_front [] e = closing refl (ap (λ b. b ∷ []) (eqb-true a 46 (and_parts (a == 46) (0 == 0) e).0)) refl
  closing_front (x ∷ zs) e = let none : length (x ∷ zs) ≡ 0 =
      eqb-true (length (x ∷ zs)) 0 (and_parts (a == 46) (length (x ∷ zs) == 0) e).1 in absurd (omega (arith, none))

  sign_first : (at : ℕ) (rest : List ℕ) → IsFirst at (a ∷ rest) (sign_at at a rest)
  sign_first at rest = stop (a == 46 && length rest == 0) refl
    where
      pair : (get_or rest 1 0 == 62 && get_or rest 0 0 == 45 && a == 60) ≡ false → (a == 46 && length rest == 0) ≡ false
          → (o : Option TokenKind) → pair_kind a (get_or rest 0 0) ≡ o
          → IsFirst at (a ∷ rest) (elim o [ Some kind ↦ token_of at kind 2 | None ↦ token_of at (single_kind a) 1 ])
      pair n s (Some k) e = first_of at (a ∷ rest) k 2 (two_front rest k n e)
      pair n s None e = first_of at (a ∷ rest) (single_kind a) 1 (one_front rest s e)

      three : (a == 46 && length rest == 0) ≡ false → (t : Bool) → (get_or rest 1 0 == 62 && get_or rest 0 0 == 45 && a == 60) ≡ t
          → IsFirst at (a ∷ rest) (if t then token_of at Iff 3 else elim (pair_kind a (get_or rest 0 0))
          [ Some kind ↦ token_of at kind 2 | None ↦ token_of at (single_kind a) 1 ])
      three s true e = first_of at (a ∷ rest) Iff 3 (three_front rest e)
      three s false e = pair e s (pair_kind a (get_or rest 0 0)) refl

      stop : (t : Bool) → (a == 46 && length rest == 0) ≡ t
          → IsFirst at (a ∷ rest) (if t then token_of at FullStop 1 else sign_of at a (get_or rest 0 0) (get_or rest 1 0))
      stop true e = first_of at (a ∷ rest) FullStop 1 (closing_front rest e)
      stop false e = three e (get_or rest 1 0 == 62 && get_or rest 0 0 == 45 && a == 60) refl

-- ---- words

run_passes : (p : ℕ → Bool) (xs : List ℕ) → list_all p (take_while p xs) ≡ true
run_passes p [] = refl
run_passes p (x ∷ xs) = ap (list_all p) (take_while-cons p x xs) ∙ by (p x) refl (run_passes p xs)
  where
    by : (t : Bool) → p x ≡ t → list_all p (take_while p xs) ≡ true → list_all p (cond t (x ∷ take_while p xs) []) ≡ true
    by true e more = ap (λ t. t && list_all p (take_while p xs)) e ∙ more
    by false e more = refl

run_stops : (p : ℕ → Bool) (xs : List ℕ) → prefix_len p xs < length xs → list_all p (take (prefix_len p xs + 1) xs) ≡ false
run_stops p xs h = list_all_more p xs (prefix_len p xs) 0 h ∙ ap (λ t. t && p (get_or xs (prefix_len p xs) 0)) (run_passes p xs)
    ∙ prefix_len_stops p xs 0 h

module _ (b : ℕ) (name : begins_name b ≡ true) where
  is_word : (bs : List ℕ) (t : Bool) → list_all continues_name bs ≡ t
      → spelled_kind (b ∷ bs) ≡ (if t then Some (word_kind (b ∷ bs)) else None)
  is_word bs t e =
      ap (λ s. if s then (if list_all continues_name bs then Some (word_kind (b ∷ bs)) else None) else sign_kind (b ∷ bs)) name
      ∙ ap (λ s. if s then Some (word_kind (b ∷ bs)) else None) e

  no_full_stop : (bs : List ℕ) → b ∷ bs ≡ 46 ∷ [] → ⊥
  no_full_stop bs q = let is : b ≡ 46 = cc in false≢true (ap begins_name (sym is) ∙ name)

  word_front : (rest : List ℕ) → IsFront (b ∷ rest) (suc (prefix_len continues_name rest)) (word_kind (b ∷ take_while continues_name rest))
  word_front rest = spelled (λ q. absurd (no_full_stop (take_while continues_name rest) q))
      (is_word (take_while continues_name rest) true (run_passes continues_name rest)) longest
    where
      longest : suc (prefix_len continues_name rest) < length (b ∷ rest)
          → spelled_kind (take (suc (prefix_len continues_name rest) + 1) (b ∷ rest)) ≡ None
      longest h =
          let one : suc (prefix_len continues_name rest) + 1 ≡ suc (prefix_len continues_name rest + 1) = omega arith in
          ap (λ n. spelled_kind (take n (b ∷ rest))) one
          ∙ is_word (take (prefix_len continues_name rest + 1) rest) false (run_stops continues_name rest (omega (arith, h)))

  word_first : (at : ℕ) (rest : List ℕ) → IsFirst at (b ∷ rest)
      (token_of at (word_kind (first_name (b ∷ rest))) (length (first_name (b ∷ rest))))
  word_first at rest =
      let is : b ∷ take_while continues_name rest ≡ first_name (b ∷ rest) =
      sym (ap (λ t. if t then b ∷ take_while continues_name rest else []) name) in
      let tail : length (take_while continues_name rest) ≡ prefix_len continues_name rest =
      length-take-le (prefix_len continues_name rest) rest (prefix_len-le-length continues_name rest) in
      let count : suc (prefix_len continues_name rest) ≡ length (b ∷ take_while continues_name rest) = omega (arith, tail) in
      subst (λ w. IsFirst at (b ∷ rest) (token_of at (word_kind w) (length w))) is
      (subst (λ n. IsFirst at (b ∷ rest) (token_of at (word_kind (b ∷ take_while continues_name rest)) n)) count
      (first_of at (b ∷ rest) (word_kind (b ∷ take_while continues_name rest)) (suc (prefix_len continues_name rest)) (word_front rest)))

-- ---- tokens

token_first : (at : ℕ) (xs : List ℕ) (t : Token) → token_at at xs ≡ Some t → IsFirst at xs t
token_first at [] t e = absurd (cc)
token_first at (b ∷ rest) t e = by (begins_name b) refl e
  where
    by : (s : Bool) → begins_name b ≡ s → Some (if s then token_of at (word_kind (first_name (b ∷ rest)))
        (length (first_name (b ∷ rest))) else sign_at at b rest) ≡ Some t → IsFirst at (b ∷ rest) t
    by true s e =
        let is : token_of at (word_kind (first_name (b ∷ rest))) (length (first_name (b ∷ rest))) ≡ t = cc in
        subst (IsFirst at (b ∷ rest)) is (word_first b s at rest)
    by false s e =
        let is : sign_at at b rest ≡ t = cc in
        subst (IsFirst at (b ∷ rest)) is (sign_first b s at rest)

module _ (sentence : List ℕ) (alone : lone_kind sentence ≡ None) where
  from_front : (t : Token) (n : ℕ) → t.span.from ≤ length sentence → t.span.to ≡ t.span.from + n
      → IsFront (drop t.span.from sentence) n t.kind → IsSpelled sentence t
  from_front t n within to front = by front
    where
      count : t.span.to - t.span.from ≡ n
      count = omega (arith, to)

      more : t.span.to + 1 - t.span.from ≡ n + 1
      more = omega (arith, to)

      bytes : part t.span.from t.span.to sentence ≡ take n (drop t.span.from sentence)
      bytes = ap (λ k. take k (drop t.span.from sentence)) count

      left : length (drop t.span.from sentence) ≡ length sentence - t.span.from
      left = length-drop t.span.from sentence

      by : IsFront (drop t.span.from sentence) n t.kind → IsSpelled sentence t
      by (closing k b e) = full_stop alone k (bytes ∙ b) (omega (arith, to, left, e, within))
      by (spelled f k l) =
          other alone (λ q. omega (arith, to, left, within, f (sym bytes ∙ q))) (ap spelled_kind bytes ∙ k)
          (λ h. ap (λ j. spelled_kind (take j (drop t.span.from sentence))) more ∙ l (omega (arith, to, left, within, h)))

  from_first : (at gap : ℕ) (t : Token) → at + gap ≤ length sentence → IsFirst (at + gap) (drop gap (drop at sentence)) t
      → IsSpelled sentence t
  from_first at gap t within i =
      let there : drop gap (drop at sentence) ≡ drop t.span.from sentence = drop-drop gap at sentence
      ∙ ap (λ k. drop k sentence) (sym i.from) in
      from_front t i.long (omega (arith, i.from, within)) (i.to
      ∙ ap (λ k. k + i.long) (sym i.from)) (subst (λ l. IsFront l i.long t.kind) there i.front)

  each : (most at : ℕ) → All (IsSpelled sentence) (tokens_behind most sentence at)
  each zero at = All-nil (IsSpelled sentence)
  each (suc most) at = by (next_token at (drop at sentence)) refl (each most)
    where
      by : (o : Option Token) → next_token at (drop at sentence) ≡ o → ((p : ℕ) → All (IsSpelled sentence) (tokens_behind most sentence p))
          → All (IsSpelled sentence) (step most sentence o)
      by None e more = All-nil (IsSpelled sentence)
      by (Some t) e more =
          let i = token_first (at + first_place begins (outside (drop at sentence)))
          (drop (first_place begins (outside (drop at sentence))) (drop at sentence)) t e in
          let w = next_within at (drop at sentence) t e in
          let below = within_since sentence at t e in
          All-cons (IsSpelled sentence) t (tokens_behind most sentence t.span.to)
          (from_first at (first_place begins (outside (drop at sentence))) t
          (omega (arith, w.some, w.within, i.from, below, length-drop at sentence)) i) (more t.span.to)

pub tokens_spelled : (sentence : List ℕ) → All (IsSpelled sentence) (tokens_of sentence)
tokens_spelled sentence = by (lone_kind sentence) refl
  where
    by : (o : Option TokenKind) → lone_kind sentence ≡ o
        → All (IsSpelled sentence) (elim o [
          | Some kind ↦ token_of 0 kind (length sentence) ∷ []
          | None ↦ tokens_behind
              (length sentence) sentence 0
        ])
    by None e = each sentence e (length sentence) 0
    by (Some k) e = let whole : 0 + length sentence ≡ length sentence = omega arith in
        All-cons (IsSpelled sentence) (token_of 0 k (length sentence)) [] (lone e refl whole) (All-nil (IsSpelled sentence))
