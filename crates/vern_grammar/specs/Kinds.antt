-- The tokens that the grammar is about: a token's kind as the grammar sees it, with a name's text.
use Rattle.std.specs.Prelude.{ℕ, Bool, true, false, List, [], ◌∷◌, map, take, drop, ◌-◌}
use Rattle.vern_lex.specs.declared.span.Span.{Span}
use Rattle.vern_lex.specs.declared.token.Token.{Token}
use Rattle.vern_lex.specs.declared.token.TokenKind.{TokenKind}
use Rattle.vern_lex.specs.declared.token.TokenKind.TheVariants as token
use Rattle.vern_grammar.specs.Trees.{Operator, implication, equivalence, disjunction, conjunction, equation, inequation}

-- `other` has the kinds that no expression and no shape has
pub data Kind : Type 0 where
  name : List ℕ → Kind
  constant : Bool → Kind
  sign : Operator → Kind
  quantifier : Bool → Kind
  tilde opening closing colon comma set prop : Kind
  other : TokenKind → Kind

-- a token as the grammar sees it: its kind and its span
pub record Lexeme : Type 0 where
  pub kind : Kind
  pub span : Span

-- the kind of a token whose bytes are given
abbrev pub kind_of : TokenKind → List ℕ → Kind
kind_of token.Name text = name text
kind_of token.True text = constant true
kind_of token.False text = constant false
kind_of token.Arrow text = sign implication
kind_of token.Iff text = sign equivalence
kind_of token.Or text = sign disjunction
kind_of token.And text = sign conjunction
kind_of token.Equal text = sign equation
kind_of token.NotEqual text = sign inequation
kind_of token.Forall text = quantifier true
kind_of token.Exists text = quantifier false
kind_of token.Not text = tilde
kind_of token.LeftParenthesis text = opening
kind_of token.RightParenthesis text = closing
kind_of token.Colon text = colon
kind_of token.Comma text = comma
kind_of token.Set text = set
kind_of token.Prop text = prop
kind_of k text = other k

-- the bytes of a span
abbrev pub slice : List ℕ → Span → List ℕ
slice sentence span = take (span.to - span.from) (drop span.from sentence)

-- a token of a text as the grammar sees it
abbrev pub lexeme : List ℕ → Token → Lexeme
lexeme sentence t = record { kind = kind_of t.kind (slice sentence t.span); span = t.span }

-- the tokens of a sentence as the grammar sees them
abbrev pub lexemes : List ℕ → List Token → List Lexeme
lexemes sentence tokens = map (lexeme sentence) tokens
