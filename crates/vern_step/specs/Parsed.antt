-- What the bytes of a sentence are by the grammar: their tree, or where they are at fault.
use Rattle.std.specs.Prelude.{◌≡◌, ℕ, ◌≤◌, List, [], ◌∷◌, length, Option, Some, None, Result, Ok, Err}
use Rattle.vern_lex.specs.Tokens.{tokens_of}
use Rattle.vern_grammar.specs.Kinds.{Lexeme, lexemes}
use Rattle.vern_sentence.specs.Trees.{Sentence}
use Rattle.vern_sentence.specs.Trees as made
use Rattle.vern_sentence.specs.Reading.{sentence_reading}
use Rattle.vern_parse.specs.declared.fault.ParseFault.{ParseFault}
use Rattle.vern_parse.specs.declared.fault.ParseFault.TheVariants as fault
use Rattle.vern_parse.specs.declared.raw.Closer.{Closer}
use Rattle.vern_parse.specs.declared.raw.Closer.TheVariants as closer
use Rattle.vern_step.specs.declared.kind.Kind.{Kind}
use Rattle.vern_step.specs.declared.kind.Kind.TheVariants.{Plain, Begin, Inner, Close}

-- the tokens of a sentence's bytes, as the grammar sees them
abbrev pub words : List ℕ → List Lexeme
words bytes = lexemes bytes (tokens_of bytes)

-- where the first of these tokens begins, or the sentence's length where none is left
abbrev pub place : List ℕ → List Lexeme → ℕ
place bytes [] = length bytes
place bytes (k ∷ ks) = k.span.from

-- the tree, or the place of the first of the tokens that are left
abbrev pub placed : List ℕ → Result Sentence (List Lexeme) → Result Sentence ℕ
placed bytes (Ok tree) = Ok tree
placed bytes (Err rest) = Err (place bytes rest)

-- the tree of a sentence's bytes, or the offset of the first token with which they begin no sentence: their length, where all of
-- them begin one and are none
abbrev pub parsed : List ℕ → Result Sentence ℕ
parsed bytes = placed bytes (sentence_reading bytes (words bytes))

-- bytes that are a sentence, of which this is the tree; there are at most 65,536
pub record IsWhole (bytes : List ℕ) (tree : Sentence) : Type 0 where
  pub tree_is : parsed bytes ≡ Ok tree
  pub limit : length bytes ≤ 65536

-- bytes that are a sentence
abbrev pub HasTree : List ℕ → Type 0
HasTree bytes = (tree : Sentence) × (parsed bytes ≡ Ok tree)

-- the bytes were read: they are a sentence; or their fault was told, or want of memory
abbrev pub IsReading : Result (List ℕ) ParseFault → List ℕ → Type 0
IsReading (Ok s) bytes = (s ≡ bytes) × HasTree bytes
IsReading (Err (fault.At p)) bytes = parsed bytes ≡ Err p
IsReading (Err fault.NoMemory) bytes = Unit {0}

-- the offset of a fault that isn't want of memory
abbrev pub place_of_fault : ParseFault → Option ℕ
place_of_fault (fault.At p) = Some p
place_of_fault fault.NoMemory = None

-- how a proof is closed
abbrev pub closing : made.Closer → Closer
closing made.qed = closer.Qed
closing made.defined = closer.Defined
closing made.admitted = closer.Admitted
closing made.abort = closer.Abort

-- where a sentence stands: a declaration or definition outside of proofs; a lemma begins a proof; `Proof.`, refinements, bullets
-- and braces stand inside of one; a closer ends it
abbrev pub kind_of : Sentence → Kind
kind_of (made.declare x s) = Plain
kind_of (made.define x gs sort t) = Plain
kind_of (made.begin x t) = Begin
kind_of made.proof_word = Inner
kind_of (made.refinement r) = Inner
kind_of (made.bullet byte count) = Inner
kind_of made.brace_in = Inner
kind_of made.brace_out = Inner
kind_of (made.close c) = Close (closing c)

-- the same of what was parsed; what is no sentence is told as the first kind
abbrev pub kind_read : Result Sentence ℕ → Kind
kind_read (Ok tree) = kind_of tree
kind_read (Err p) = Plain

-- where the sentence of these bytes stands
abbrev pub kind_in : List ℕ → Kind
kind_in bytes = kind_read (parsed bytes)
