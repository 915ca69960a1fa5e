-- What it is that a text reads back.
use Rattle.std.specs.Prelude.{◌≡◌, ◌≤◌, List, ◌++◌, length, ℕ, codes}
use Rattle.std.specs.List.{All}
use Rattle.vern_lex.specs.Tokens.{tokens_of}
use Rattle.vern_lex.specs.declared.span.Span.{Span}
use Rattle.vern_grammar.specs.Trees.{Expression, Shape}
use Rattle.vern_grammar.specs.Kinds.{lexemes}
use Rattle.vern_grammar.specs.Levels.{limit}
use Rattle.vern_grammar.specs.Grammar.{IsExpression, named}
use Rattle.vern_sentence.specs.Names.{IsFreeName}
use Rattle.vern_sentence.specs.Trees.{begin, declare}
use Rattle.vern_sentence.specs.Sentences.{IsSentence}
use Rattle.fol_theory.specs.Syntax.{Term, Formula}
use Rattle.print_theory.specs.Printing.{IsPrintable, IsPrintableTerm, formula_openings, term_openings, quantifier_level}
use Rattle.print_theory.specs.Trees.{spanless, spanless_shape}

-- the tokens of the text are an expression, whose tree is this one but for its spans
abbrev pub ReadsAs : List ℕ → Expression → Type 0
ReadsAs text r = (t : Expression) × IsExpression (lexemes text (tokens_of text)) t × (spanless t ≡ r)

-- `WORD x : TEXT.`
abbrev pub sentence_of : List ℕ → List ℕ → List ℕ → List ℕ
sentence_of w x text = w ++ (codes " " ++ (x ++ (codes " : " ++ (text ++ codes "."))))

-- the text is the sentence that begins a proof of this name and this tree, but for its spans
abbrev pub BeginsWith : List ℕ → List ℕ → Expression → Type 0
BeginsWith text x r = (t : Expression) × (c : Span) × IsSentence text (lexemes text (tokens_of text)) (begin (named x c) t)
    × (spanless t ≡ r)

-- the text is the sentence that declares this name with this shape, but for its spans
abbrev pub DeclaresAs : List ℕ → List ℕ → Shape → Type 0
DeclaresAs text x q =
    (s : Shape) × (c : Span) × IsSentence text (lexemes text (tokens_of text)) (declare (named x c) s) × (spanless_shape s ≡ q)

-- What is asked of a formula that is read back: each name is free, each variable is bound or has one of the names, and no token of
-- the text has more openings open than may be.
pub record IsShown (names : List (List ℕ)) (a : Formula) : Type 0 where
  pub free : All IsFreeName names
  pub printable : IsPrintable (length names) a
  pub openings : formula_openings quantifier_level a ≤ limit

-- the same of a term
pub record IsShownTerm (names : List (List ℕ)) (t : Term) : Type 0 where
  pub free : All IsFreeName names
  pub printable : IsPrintableTerm (length names) t
  pub openings : term_openings quantifier_level t ≤ limit
