-- A sentence with tokens of it, and what the parser answers of it, seen against vern_sentence's `reading`. No public clause speaks of this.
use Rattle.std.specs.Prelude.{◌≡◌, ℕ, List, [], ◌∷◌, length, drop, Option, Some, None, Result, Ok, Err}
use Rattle.vern_lex.specs.declared.span.Span.{Span}
use Rattle.vern_lex.specs.declared.token.Token.{Token}
use Rattle.vern_grammar.specs.Kinds.{Lexeme, lexemes}
use Rattle.vern_parse.specs.declared.fault.ParseFault.{ParseFault}
use Rattle.vern_parse.specs.declared.fault.ParseFault.TheVariants as fault

-- tokens, and the bytes of the sentence that they are of
abbrev pub Tokenized : Type 0
Tokenized = List Token × List ℕ

-- the tokens from that of a number on
abbrev pub rest : Tokenized → ℕ → List Lexeme
rest s n = lexemes s.1 (drop n s.0)

-- the offset of the first of some tokens, or the sentence's length where there is none
abbrev pub first_offset : List ℕ → List Lexeme → ℕ
first_offset text [] = length text
first_offset text (k ∷ ks) = k.span.from

-- what is read, or the tokens from the one on that can't follow
abbrev pub Wanted : Type 0 → Type 0
Wanted X = Result X (List Lexeme)

-- the offset of the first token that can't follow, if there is one
abbrev pub refused : {X : Type 0} → List ℕ → Wanted X → Option ℕ
refused text (Ok x) = None
refused text (Err ks) = Some (first_offset text ks)

-- The answer is what is wanted, seen through `f`, or want of memory.
abbrev pub Gives : {X Y : Type 0} → (X → Y) → Tokenized → Result X ParseFault → Wanted Y → Type 0
Gives f s (Ok x) wanted = wanted ≡ Ok (f x)
Gives f s (Err (fault.At p)) wanted = refused s.1 wanted ≡ Some p
Gives f s (Err fault.NoMemory) wanted = Unit {0}

-- what was read, and the tokens that are left, of which the answer has the number of the first
abbrev pub with_rest : {X Y : Type 0} → (X → Y) → Tokenized → X × ℕ → Y × List Lexeme
with_rest f s (x, n) = (f x, rest s n)

-- any span: no sentence but a bullet depends on that of its first token
abbrev pub no_span : Span
no_span = record { from = 0; to = 0 }
