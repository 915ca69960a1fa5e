-- The tokens of a sentence.
use Rattle.std.specs.Prelude.{◌≡◌, ℕ, zero, suc, ◌+◌, ◌<◌, ◌≤◌, ◌&&◌, ◌||◌, ◌==◌, List, [], ◌∷◌, length, drop, slice_index, Bool, nat_eq}
use Rattle.std.specs.Prelude.{true, nat_le, take_while, codes, Option, Some, None, if◌then◌else◌}
use Rattle.std.specs.List.{list_all}
use Rattle.std.specs.Cmp.Lexicographic.{pointwise}
use Rattle.vern_lex.specs.Comments.{IsGap, outside, first_place, begins, part}
use Rattle.vern_lex.specs.Sentences.{is_bullet}
use Rattle.vern_lex.specs.declared.token.Token.{Token}
use Rattle.vern_lex.specs.declared.token.TokenKind.{TokenKind}
use Rattle.vern_lex.specs.declared.token.TokenKind.TheVariants.{Name, Forall, Exists, Prop, Set, True, False, As, In, Iff, Define, Arrow}
use Rattle.vern_lex.specs.declared.token.TokenKind.TheVariants.{BackArrow, NotEqual, And, Or, LeftParenthesis, RightParenthesis}
use Rattle.vern_lex.specs.declared.token.TokenKind.TheVariants.{LeftBracket, RightBracket, Colon, Comma, Not, Equal, Bar, FullStop, Bullet}
use Rattle.vern_lex.specs.declared.token.TokenKind.TheVariants.{LeftBrace, RightBrace, Stray}

-- ---- words

-- an ASCII letter or _
abbrev pub begins_name : ℕ → Bool
begins_name b = (nat_le 65 b && nat_le b 90) || (nat_le 97 b && nat_le b 122) || b == 95

-- a letter, a digit, _ or '
abbrev pub continues_name : ℕ → Bool
continues_name b = begins_name b || (nat_le 48 b && nat_le b 57) || b == 39

-- the longest name that begins a text, or nothing where none does
abbrev pub first_name : List ℕ → List ℕ
first_name [] = []
first_name (b ∷ bs) = if begins_name b then b ∷ take_while continues_name bs else []

-- a reserved word is never a name
abbrev pub word_kind : List ℕ → TokenKind
word_kind word =
    if pointwise nat_eq word (codes "forall") then Forall
    else (if pointwise nat_eq word (codes "exists") then Exists
    else (if pointwise nat_eq word (codes "Prop") then Prop
    else (if pointwise nat_eq word (codes "Set") then Set
    else (if pointwise nat_eq word (codes "True") then True
    else (if pointwise nat_eq word (codes "False") then False
    else (if pointwise nat_eq word (codes "as") then As
    else (if pointwise nat_eq word (codes "in") then In
    else Name)))))))

-- ---- signs

-- the signs of two bytes: `:=` `->` `<-` `<>` `/\` `\/`
abbrev pub pair_kind : ℕ → ℕ → Option TokenKind
pair_kind a b =
    if b == 61 && a == 58 then Some Define
    else (if b == 62 && a == 45 then Some Arrow
    else (if b == 45 && a == 60 then Some BackArrow
    else (if b == 62 && a == 60 then Some NotEqual
    else (if b == 92 && a == 47 then Some And
    else (if b == 47 && a == 92 then Some Or
    else None)))))

-- the signs of one byte: `(` `)` `[` `]` `:` `,` `~` `=` and the bar; any other byte is stray
abbrev pub single_kind : ℕ → TokenKind
single_kind a =
    if a == 40 then LeftParenthesis
    else (if a == 41 then RightParenthesis
    else (if a == 91 then LeftBracket
    else (if a == 93 then RightBracket
    else (if a == 58 then Colon
    else (if a == 44 then Comma
    else (if a == 126 then Not
    else (if a == 61 then Equal
    else (if a == 124 then Bar
    else Stray))))))))

-- ---- tokens

-- a token of a kind and so many bytes, from an offset
abbrev pub token_of : ℕ → TokenKind → ℕ → Token
token_of at kind n = record { kind = kind; span = record { from = at; to = at + n } }

-- the longest sign that begins with the bytes a, b and c; the only one of three bytes is `<->`
abbrev pub sign_of : ℕ → ℕ → ℕ → ℕ → Token
sign_of at a b c = if c == 62 && b == 45 && a == 60 then token_of at Iff 3 else elim (pair_kind a b)
    [ Some kind ↦ token_of at kind 2 | None ↦ token_of at (single_kind a) 1 ]

-- a sign whose first byte is given, and what stands behind that byte, with 0 for what isn't there; a `.` closes a sentence only as its last
-- byte
abbrev pub sign_at : ℕ → ℕ → List ℕ → Token
sign_at at a rest = if a == 46 && length rest == 0 then token_of at FullStop 1 else sign_of at a (slice_index rest 0) (slice_index rest 1)

-- the longest token that begins a text, which begins at the offset `at`
abbrev pub token_at : ℕ → List ℕ → Option Token
token_at at [] = None
token_at at (b ∷ rest) = Some (if begins_name b then token_of at (word_kind (first_name (b ∷ rest)))
    (length (first_name (b ∷ rest))) else sign_at at b rest)

-- the first token of a text that begins at the offset `at`, behind blanks and whole comments
abbrev pub next_token : ℕ → List ℕ → Option Token
next_token at text = token_at (at + first_place begins (outside text)) (drop (first_place begins (outside text)) text)

-- the tokens of a text behind the offset `at`, at most so many
abbrev pub tokens_behind : ℕ → List ℕ → ℕ → List Token
tokens_behind zero text at = []
tokens_behind (suc most) text at = elim (next_token at (drop at text))
    [ None ↦ [] | Some token ↦ token ∷ tokens_behind most text token.span.to ]

-- the kind of a brace or a bullet that is a sentence alone
abbrev pub lone_kind : List ℕ → Option TokenKind
lone_kind [] = None
lone_kind (b ∷ rest) =
    if is_bullet b && list_all (λ c. c == b) rest then Some Bullet
    else (if b == 123 && length rest == 0 then Some LeftBrace
    else (if b == 125 && length rest == 0 then Some RightBrace
    else None))

-- the tokens of a sentence
abbrev pub tokens_of : List ℕ → List Token
tokens_of sentence = elim (lone_kind sentence) [
  | Some kind ↦ token_of 0 kind (length sentence) ∷ []
  | None ↦ tokens_behind
      (length sentence) sentence 0
]

-- ---- what tokens are

-- a token of a sentence has a byte at least, is a slice of the sentence, and begins with neither a blank nor a comment
pub record IsTokenOf (sentence : List ℕ) (token : Token) : Type 0 where
  pub begun : begins (outside (drop token.span.from sentence)) ≡ true
  pub some : token.span.from < token.span.to
  pub within : token.span.to ≤ length sentence

-- the kind of a sign by its bytes: `<->`, a sign of two bytes, or one byte, which may be stray
abbrev pub sign_kind : List ℕ → Option TokenKind
sign_kind [] = None
sign_kind (a ∷ []) = Some (single_kind a)
sign_kind (a ∷ b ∷ []) = pair_kind a b
sign_kind (a ∷ b ∷ c ∷ []) = if c == 62 && b == 45 && a == 60 then Some Iff else None
sign_kind (a ∷ b ∷ c ∷ d ∷ rest) = None

-- the kind that bytes have as a word or a sign, or none where they are neither
abbrev pub spelled_kind : List ℕ → Option TokenKind
spelled_kind [] = None
spelled_kind (b ∷ rest) =
    if begins_name b then (if list_all continues_name rest then Some (word_kind (b ∷ rest)) else None)
    else sign_kind (b ∷ rest)

-- A token is a brace or a bullet that is a sentence alone; or the full stop that is the sentence's last byte; or else a word or a sign,
-- which
-- with the byte behind it, if there is one, is neither.
pub data IsSpelled (sentence : List ℕ) (token : Token) : Type 0 where
  lone : lone_kind sentence ≡ Some token.kind → token.span.from ≡ 0 → token.span.to ≡ length sentence → IsSpelled sentence token
  full_stop :
      lone_kind sentence ≡ None → token.kind ≡ FullStop → part token.span.from token.span.to sentence ≡ 46 ∷ []
      → token.span.to ≡ length sentence →
      IsSpelled sentence token
  other :
      lone_kind sentence ≡ None → (part token.span.from token.span.to sentence ≡ 46 ∷ [] → token.span.to < length sentence) →
      spelled_kind (part token.span.from token.span.to sentence) ≡ Some token.kind →
      (token.span.to < length sentence → spelled_kind (part token.span.from (token.span.to + 1) sentence) ≡ None) →
      IsSpelled sentence token

-- each token begins where the one before it ends, or behind, and the first at the offset `at`, or behind
abbrev pub TokensRise : ℕ → List Token → Type 0
TokensRise at [] = Unit {0}
TokensRise at (token ∷ tokens) = (at ≤ token.span.from) × TokensRise token.span.to tokens

-- only blanks and whole comments stand before each token, from the offset `at` or the end of the token before it on, and behind the last
abbrev pub HasOnlyGaps : List ℕ → ℕ → List Token → Type 0
HasOnlyGaps sentence at [] = IsGap (drop at sentence)
HasOnlyGaps sentence at (token ∷ tokens) = IsGap (part at token.span.from sentence) × HasOnlyGaps sentence token.span.to tokens
