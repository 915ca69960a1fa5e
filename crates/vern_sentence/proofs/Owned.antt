-- A token of the kind Name is a whole name, and no reserved word.
use Rattle.std.proofs.Common.{◌≡◌, ℕ, zero, suc, ◌+◌, ◌-◌, ◌<◌, ◌&&◌, ◌==◌, List, [], ◌∷◌, length, take, drop, get_or, Bool, true, false}
use Rattle.std.proofs.Common.{cond, Option, Some, None, if◌then◌else◌, refl, sym, ap, ◌∙◌, subst, arith}
use Rattle.std.specs.List.{All, list_all, prefix_len, take_while}
use Rattle.std.proofs.lemmas.List.{drop-drop, length-take-le}
use Rattle.std.proofs.lemmas.List.Sums.{prefix_len-le-length}
use Rattle.std.proofs.lemmas.List.Elements.{All-nil, All-cons}
use Rattle.vern_lex.specs.Comments.{outside, first_place, begins}
use Rattle.vern_lex.specs.Sentences.{is_bullet}
use Rattle.vern_lex.specs.Tokens.{begins_name, continues_name, first_name, word_kind, pair_kind, single_kind, token_of, sign_of, sign_at}
use Rattle.vern_lex.specs.Tokens.{token_at, next_token, tokens_behind, lone_kind, tokens_of}
use Rattle.vern_lex.specs.declared.token.Token.{Token}
use Rattle.vern_lex.specs.declared.token.TokenKind.{TokenKind}
use Rattle.vern_lex.specs.declared.token.TokenKind.TheVariants as token
use Rattle.vern_grammar.specs.Kinds.{slice}
use Rattle.vern_sentence.specs.Names.{IsFreeName}

-- ---- signs are no names

abbrev NotName : TokenKind → Type 0
NotName token.Name = ⊥
NotName _ = Unit {0}

abbrev NoneOrNot : Option TokenKind → Type 0
NoneOrNot None = Unit {0}
NoneOrNot (Some k) = NotName k

pair_by : (a b c d e f : Bool) → NoneOrNot (if a then Some token.Define else
    (if b then Some token.Arrow else (if c then Some token.BackArrow else
    (if d then Some token.NotEqual else (if e then Some token.And else (if f then Some token.Or else None))))))
pair_by true b c d e f = tt
pair_by false true c d e f = tt
pair_by false false true d e f = tt
pair_by false false false true e f = tt
pair_by false false false false true f = tt
pair_by false false false false false true = tt
pair_by false false false false false false = tt

pair_no_name : (a b : ℕ) → NoneOrNot (pair_kind a b)
pair_no_name a b = pair_by (b == 61 && a == 58) (b == 62 && a == 45) (b == 45 && a == 60) (b == 62 && a == 60) (b == 92 && a == 47)
    (b == 47 && a == 92)

mark_by : (e f g h i : Bool) → NotName (if e then token.Colon else
    (if f then token.Comma else (if g then token.Not else (if h then token.Equal else (if i then token.Bar else token.Stray)))))
mark_by true f g h i = tt
mark_by false true g h i = tt
mark_by false false true h i = tt
mark_by false false false true i = tt
mark_by false false false false true = tt
mark_by false false false false false = tt

single_by : (a b c d : Bool) (k : TokenKind) → NotName k → NotName (if a then token.LeftParenthesis else
    (if b then token.RightParenthesis else (if c then token.LeftBracket else (if d then token.RightBracket else k))))
single_by true b c d k h = tt
single_by false true c d k h = tt
single_by false false true d k h = tt
single_by false false false true k h = tt
single_by false false false false k h = h

single_no_name : (a : ℕ) → NotName (single_kind a)
single_no_name a = single_by (a == 40) (a == 41) (a == 91) (a == 93) _ (mark_by (a == 58) (a == 44) (a == 126) (a == 61) (a == 124))

abbrev sign_by : ℕ → ℕ → Option TokenKind → Token
sign_by at a o = elim o [ Some kind ↦ token_of at kind 2 | None ↦ token_of at (single_kind a) 1 ]

sign_no_name : (at a : ℕ) (rest : List ℕ) → NotName (sign_at at a rest).kind
sign_no_name at a rest = stop (a == 46 && length rest == 0)
  where
    pair : (o : Option TokenKind) → NoneOrNot o → NotName (sign_by at a o).kind
    pair (Some k) h = h
    pair None h = single_no_name a

    three : (t : Bool) → NotName (if t then token_of at token.Iff 3 else sign_by at a (pair_kind a (get_or rest 0 0))).kind
    three true = tt
    three false = pair (pair_kind a (get_or rest 0 0)) (pair_no_name a (get_or rest 0 0))

    stop : (t : Bool) → NotName (if t then token_of at token.FullStop 1 else sign_of at a (get_or rest 0 0) (get_or rest 1 0)).kind
    stop true = tt
    stop false = three (get_or rest 1 0 == 62 && get_or rest 0 0 == 45 && a == 60)

lone_by : (xs : List ℕ) (a b c : Bool) → NoneOrNot
    (if a then Some token.Bullet else (if b then Some token.LeftBrace else (if c then Some token.RightBrace else None)))
lone_by xs true b c = tt
lone_by xs false true c = tt
lone_by xs false false true = tt
lone_by xs false false false = tt

-- ---- words

one_more : (n : ℕ) → 1 + n ≡ suc n
one_more n = omega arith

taken_some : (p : ℕ → Bool) (x : ℕ) (xs : List ℕ) → p x ≡ true → take_while p (x ∷ xs) ≡ x ∷ take_while p xs
taken_some p x xs h = ap (λ b. take (cond b (1 + prefix_len p xs) 0) (x ∷ xs)) h ∙ ap (λ n. take n (x ∷ xs)) (one_more (prefix_len p xs))

taken_none : (p : ℕ → Bool) (x : ℕ) (xs : List ℕ) → p x ≡ false → take_while p (x ∷ xs) ≡ []
taken_none p x xs h = ap (λ b. take (cond b (1 + prefix_len p xs) 0) (x ∷ xs)) h

twice_by : (p : ℕ → Bool) (x : ℕ) (xs : List ℕ) (b : Bool) → p x ≡ b → take_while p (take_while p xs) ≡ take_while p xs
    → take_while p (take_while p (x ∷ xs)) ≡ take_while p (x ∷ xs)
twice_by p x xs true h e = ap (take_while p) (taken_some p x xs h) ∙ taken_some p x (take_while p xs) h ∙ ap (λ l. x ∷ l) e
    ∙ sym (taken_some p x xs h)
twice_by p x xs false h e = ap (take_while p) (taken_none p x xs h) ∙ sym (taken_none p x xs h)

taken_twice : (p : ℕ → Bool) (xs : List ℕ) → take_while p (take_while p xs) ≡ take_while p xs
taken_twice p [] = refl
taken_twice p (x ∷ xs) = twice_by p x xs (p x) refl (taken_twice p xs)

named_first : (b : ℕ) (rest : List ℕ) → begins_name b ≡ true → first_name (b ∷ rest) ≡ b ∷ take_while continues_name rest
named_first b rest e = ap (λ t. if t then b ∷ take_while continues_name rest else []) e

-- the first name of a text is the front of it of that length, and a whole name
named_taken : (b : ℕ) (rest : List ℕ) → begins_name b ≡ true → take (length (first_name (b ∷ rest))) (b ∷ rest) ≡ first_name (b ∷ rest)
named_taken b rest e =
    let long : length (take_while continues_name rest) ≡ prefix_len continues_name rest =
    length-take-le (prefix_len continues_name rest) rest (prefix_len-le-length continues_name rest) in
    let n : length (first_name (b ∷ rest)) ≡ suc (length (take_while continues_name rest)) = ap length (named_first b rest e) in
    ap (λ k. take k (b ∷ rest)) (n ∙ ap suc long) ∙ sym (named_first b rest e)

named_whole : (b : ℕ) (rest : List ℕ) → begins_name b ≡ true → first_name (first_name (b ∷ rest)) ≡ first_name (b ∷ rest)
named_whole b rest e =
    ap first_name (named_first b rest e) ∙ named_first b (take_while continues_name rest) e
    ∙ ap (λ l. b ∷ l) (taken_twice continues_name rest) ∙ sym (named_first b rest e)

-- ---- tokens

abbrev pub IsOwned : List ℕ → Token → Type 0
IsOwned text t = t.kind ≡ token.Name → IsFreeName (slice text t.span)

no_name : {A : Type 0} (k : TokenKind) → NotName k → k ≡ token.Name → A
no_name k h e = absurd (subst NotName e h)

named_owned : (text : List ℕ) (at b : ℕ) (rest : List ℕ) → drop at text ≡ b ∷ rest → begins_name b ≡ true
    → IsOwned text (token_of at (word_kind (first_name (b ∷ rest))) (length (first_name (b ∷ rest))))
named_owned text at b rest d e h =
    let n = length (first_name (b ∷ rest)) in
    let less : at + n - at ≡ n = omega arith in
    let is : take (at + n - at) (drop at text) ≡ first_name (b ∷ rest) = ap (λ k. take k (drop at text)) less ∙ ap (take n) d
    ∙ named_taken b rest e in
    let some : 0 < length (first_name (b ∷ rest)) = subst (λ l. 0 < length l) (sym (named_first b rest e)) (omega arith) in
    subst IsFreeName (sym is) (some, named_whole b rest e, h)

token_owned : (text : List ℕ) (at : ℕ) (xs : List ℕ) (t : Token) → drop at text ≡ xs → token_at at xs ≡ Some t → IsOwned text t
token_owned text at [] t d e = cc
token_owned text at (b ∷ rest) t d e = by (begins_name b) refl e
  where
    by : (s : Bool) → begins_name b ≡ s → Some (if s then token_of at (word_kind (first_name (b ∷ rest)))
        (length (first_name (b ∷ rest))) else sign_at at b rest) ≡ Some t → IsOwned text t
    by true s e = let is : token_of at (word_kind (first_name (b ∷ rest))) (length (first_name (b ∷ rest))) ≡ t = cc in
        subst (IsOwned text) is (named_owned text at b rest d s)
    by false s e = let is : sign_at at b rest ≡ t = cc in
        subst (IsOwned text) is (no_name (sign_at at b rest).kind (sign_no_name at b rest))

abbrev step : ℕ → List ℕ → Option Token → List Token
step most xs found = elim found [ None ↦ [] | Some t ↦ t ∷ tokens_behind most xs t.span.to ]

behind_owned : (most : ℕ) (text : List ℕ) (at : ℕ) → All (IsOwned text) (tokens_behind most text at)
behind_owned zero text at = All-nil (IsOwned text)
behind_owned (suc most) text at = by (next_token at (drop at text)) refl (behind_owned most text)
  where
    by : (o : Option Token) → next_token at (drop at text) ≡ o → ((p : ℕ) → All (IsOwned text) (tokens_behind most text p))
        → All (IsOwned text) (step most text o)
    by None e more = All-nil (IsOwned text)
    by (Some t) e more =
        All-cons (IsOwned text) t (tokens_behind most text t.span.to)
        (token_owned text (at + first_place begins (outside (drop at text)))
        (drop (first_place begins (outside (drop at text))) (drop at text)) t
        (sym (drop-drop (first_place begins (outside (drop at text))) at text)) e) (more t.span.to)

lone_no_name : (text : List ℕ) → NoneOrNot (lone_kind text)
lone_no_name [] = tt
lone_no_name (b ∷ rest) = lone_by rest (is_bullet b && list_all (λ c. c == b) rest) (b == 123 && length rest == 0)
    (b == 125 && length rest == 0)

pub tokens_owned : (text : List ℕ) → All (IsOwned text) (tokens_of text)
tokens_owned text = by (lone_kind text) (lone_no_name text)
  where
    by : (o : Option TokenKind) → NoneOrNot o → All (IsOwned text)
        (elim o [ Some kind ↦ token_of 0 kind (length text) ∷ [] | None ↦ tokens_behind (length text) text 0 ])
    by None h = behind_owned (length text) text 0
    by (Some k) h = All-cons (IsOwned text) (token_of 0 k (length text)) [] (no_name k h) (All-nil (IsOwned text))
