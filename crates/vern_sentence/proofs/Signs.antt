-- A token that passes a test is the one that is tested for.
use Rattle.std.proofs.Common.{◌≡◌, ℕ, Bool, true, false, ◌⊎◌, inl, inr, List, [], ◌∷◌, ◌++◌, nat_eq, Option, Some, None, refl, sym, ap, ◌∙◌}
use Rattle.std.proofs.Common.{if◌then◌else◌}
use Rattle.std.specs.Cmp.Lexicographic.{pointwise, same_text}
use Rattle.vern_lex.specs.declared.span.Span.{Span}
use Rattle.vern_lex.specs.declared.token.TokenKind.{TokenKind}
use Rattle.vern_lex.specs.declared.token.TokenKind.TheVariants as token
use Rattle.vern_grammar.specs.Trees.{Name, implication, equivalence, disjunction, conjunction, equation, inequation}
use Rattle.vern_grammar.specs.Kinds.{Kind, Lexeme, kind_of}
use Rattle.vern_grammar.specs.Kinds as kind
use Rattle.vern_grammar.specs.Grammar.{tok, named}
use Rattle.vern_sentence.specs.Sentences.{spelled}
use Rattle.vern_sentence.specs.Words.{Word, exists, bullet, brace_in, brace_out, named_words, spelling, leading, word_among, word_of, Sign}
use Rattle.vern_sentence.specs.Words.{full_stop, define, as_word, in_word, left_bracket, right_bracket, bar, back_arrow, arrow, colon}
use Rattle.vern_sentence.specs.Words.{opening, prop_word, sign_token, sign_kind, is_other, is_sign}
use Rattle.vern_sentence.specs.Slots.{name_in, name_of}

pub some_out : {A : Type 0} (x y : A) → Some x ≡ Some y → x ≡ y
some_out x y e = cc

-- ---- signs

other_is : (s : Sign) (t : TokenKind) → is_other s t ≡ true → kind.other t ≡ sign_kind s
other_is full_stop token.FullStop e = refl
other_is define token.Define e = refl
other_is as_word token.As e = refl
other_is in_word token.In e = refl
other_is left_bracket token.LeftBracket e = refl
other_is right_bracket token.RightBracket e = refl
other_is bar token.Bar e = refl
other_is back_arrow token.BackArrow e = refl
other_is _ _ e = cc

kind_is : (s : Sign) (k : Kind) → is_sign s k ≡ true → k ≡ sign_kind s
kind_is arrow (kind.sign implication) e = refl
kind_is colon kind.colon e = refl
kind_is opening kind.opening e = refl
kind_is prop_word kind.prop e = refl
kind_is s (kind.other t) e = other_is s t e
kind_is _ _ e = cc

pub sign_is : (s : Sign) (k : Lexeme) → is_sign s k.kind ≡ true → k ≡ tok (sign_kind s) k.span
sign_is s k e = ap (λ x. tok x k.span) (kind_is s k.kind e)

-- ---- names

name_at : (d : Kind) (c : Span) (x : Name) → name_in d (tok d c) ≡ Some x → tok d c ≡ spelled x
name_at (kind.name w) c x e = ap spelled (some_out (named w c) x e)
name_at _ c x e = cc

pub name_is : (k : Lexeme) (x : Name) → name_of k ≡ Some x → k ≡ spelled x
name_is k x e = name_at k.kind k.span x e

-- ---- words

named_or_empty : (w : Word) → (leading w ≡ kind.name (spelling w)) ⊎ (spelling w ≡ [])
named_or_empty exists = inr refl
named_or_empty bullet = inr refl
named_or_empty brace_in = inr refl
named_or_empty brace_out = inr refl
named_or_empty _ = inl refl

among_by : (x : List ℕ) (v w : Word) (ws : List Word) (b : Bool) → pointwise nat_eq x (spelling v) ≡ b
    → (if b then Some v else word_among x ws) ≡ Some w → (word_among x ws ≡ Some w → x ≡ spelling w) → x ≡ spelling w
among_by x v w ws true h p f = same_text x (spelling v) (sym h) ∙ ap spelling (some_out v w p)
among_by x v w ws false h p f = f p

among : (x : List ℕ) (ws : List Word) (w : Word) → word_among x ws ≡ Some w → x ≡ spelling w
among x [] w e = cc
among x (v ∷ ws) w e = among_by x v w ws (pointwise nat_eq x (spelling v)) refl e (λ p. among x ws w p)

-- a word that is looked up in two lists
abbrev pub or_word : Option Word → Option Word → Option Word
or_word None m = m
or_word (Some w) m = Some w

among_both : (x : List ℕ) (v : Word) (ws vs : List Word) (b : Bool)
    → word_among x (ws ++ vs) ≡ or_word (word_among x ws) (word_among x vs) →
    (if b then Some v else word_among x (ws ++ vs)) ≡ or_word (if b then Some v else word_among x ws) (word_among x vs)
among_both x v ws vs true e = refl
among_both x v ws vs false e = e

pub among_append : (x : List ℕ) (ws vs : List Word) → word_among x (ws ++ vs) ≡ or_word (word_among x ws) (word_among x vs)
among_append x [] vs = refl
among_append x (v ∷ ws) vs = among_both x v ws vs (pointwise nat_eq x (spelling v)) (among_append x ws vs)

no_empty : (x : List ℕ) (w : Word) → x ≡ [] → word_among x named_words ≡ Some w → ⊥
no_empty [] w h e = cc
no_empty (a ∷ x) w h e = cc

word_at : (d : Kind) (w : Word) → word_of d ≡ Some w → d ≡ leading w
word_at (kind.name x) w e = by_name (named_or_empty w)
  where
    by_name : (leading w ≡ kind.name (spelling w)) ⊎ (spelling w ≡ []) → kind.name x ≡ leading w
    by_name (inl h) = ap kind.name (among x named_words w e) ∙ sym h
    by_name (inr h) = absurd (no_empty x w (among x named_words w e ∙ h) e)
word_at (kind.quantifier false) w e = ap leading (some_out exists w e)
word_at (kind.other token.Bullet) w e = ap leading (some_out bullet w e)
word_at (kind.other token.LeftBrace) w e = ap leading (some_out brace_in w e)
word_at (kind.other token.RightBrace) w e = ap leading (some_out brace_out w e)
word_at _ w e = cc

pub word_is : (k : Lexeme) (w : Word) → word_of k.kind ≡ Some w → k ≡ tok (leading w) k.span
word_is k w e = ap (λ x. tok x k.span) (word_at k.kind w e)
