-- What is cut from a text: sentences, and where the text can't be read.
use Rattle.std.specs.Prelude.{ℕ, ◌+◌, List, [], ◌∷◌, ◌++◌, map, Option, Some, None, Result, Ok, Err}
use Rattle.vern_lex.specs.declared.span.Span.{Span}
use Rattle.vern_lex.specs.declared.sentences.CutFault.{CutFault}
use Rattle.vern_lex.specs.declared.sentences.SentenceCut.{SentenceCut}
use Rattle.vern_lex.specs.Sentences.{place_of, sentences_of}
use Rattle.vern_grammar.specs.Kinds.{slice}
use Rattle.vern_sentence.specs.Trees as made
use Rattle.vern_parse.specs.declared.raw.Closer.{Closer as ParsedCloser}
use Rattle.vern_parse.specs.declared.raw.Closer.TheVariants as closer
use Rattle.vern_step.specs.declared.kind.Kind.{Kind as ParsedKind}
use Rattle.vern_step.specs.declared.kind.Kind.TheVariants as parsed_kind
use Rattle.vern_step.specs.Parsed.{parsed, kind_in}
use Rattle.doc_theory.specs.Documents.{Closer, qed, admitted, defined, abort, Kind, plain, begin, inner, close, Sentence}
use Rattle.doc_theory.specs.Checks.{Piece, piece, unread}

-- how a proof is closed
abbrev pub closer_of : ParsedCloser → Closer
closer_of closer.Qed = qed
closer_of closer.Defined = defined
closer_of closer.Admitted = admitted
closer_of closer.Abort = abort

-- where a sentence stands
abbrev pub place_in_proofs : ParsedKind → Kind
place_in_proofs parsed_kind.Plain = plain
place_in_proofs parsed_kind.Begin = begin
place_in_proofs parsed_kind.Inner = inner
place_in_proofs (parsed_kind.Close c) = close (closer_of c)

-- the document's sentence with these bytes
abbrev pub sentence_of : List ℕ → Sentence
sentence_of bytes = record { text = bytes; kind = place_in_proofs (kind_in bytes) }

-- the piece of these bytes, which stand in a span: a sentence, or where they are no sentence
abbrev pub piece_with : List ℕ → Span → Result made.Sentence ℕ → Piece
piece_with bytes span (Ok tree) = piece span.from span.to (sentence_of bytes)
piece_with bytes span (Err p) = unread (span.from + p)

-- the piece that a span of a text is
abbrev pub piece_of : List ℕ → Span → Piece
piece_of text span = piece_with (slice text span) span (parsed (slice text span))

-- a text that can't be cut further is unread from there on
abbrev pub unread_from : Option CutFault → List Piece
unread_from None = []
unread_from (Some fault) = unread (place_of fault) ∷ []

-- the pieces of what was cut
abbrev pub pieces_with : List ℕ → SentenceCut → List Piece
pieces_with text cut = map (piece_of text) cut.spans ++ unread_from cut.fault

-- the pieces of a text
abbrev pub pieces_of : List ℕ → List Piece
pieces_of text = pieces_with text (sentences_of text)

-- where a piece begins, and the offset behind it
abbrev pub begin_of : Piece → ℕ
begin_of (piece p q x) = p
begin_of (unread p) = p

abbrev pub end_of : Piece → ℕ
end_of (piece p q x) = q
end_of (unread p) = p
