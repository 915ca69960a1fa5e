-- What is cut from a text was read.
use Rattle.std.proofs.Common.{◌≡◌, ℕ, List, [], ◌∷◌, map, Option, Some, None, Result, Ok, Err, refl}
use Rattle.line_theory.specs.Lists.{Every}
use Rattle.line_theory.proofs.Lists.{every_join}
use Rattle.vern_lex.specs.declared.span.Span.{Span}
use Rattle.vern_lex.specs.declared.sentences.CutFault.{CutFault}
use Rattle.vern_lex.specs.Sentences.{sentences_of}
use Rattle.vern_grammar.specs.Kinds.{slice}
use Rattle.vern_sentence.specs.Trees as made
use Rattle.vern_step.specs.Parsed.{parsed}
use Rattle.check_theory.specs.Pieces.{piece_with, piece_of, unread_from, pieces_of}
use Rattle.check_theory.specs.Read.{IsReadPiece}

piece_read : (bytes : List ℕ) (span : Span) (r : Result made.Sentence ℕ) → parsed bytes ≡ r → IsReadPiece (piece_with bytes span r)
piece_read bytes span (Ok t) e = ((t, e), refl)
piece_read bytes span (Err p) e = tt

spans_read : (text : List ℕ) (spans : List Span) → Every IsReadPiece (map (piece_of text) spans)
spans_read text [] = tt
spans_read text (x ∷ xs) = (piece_read (slice text x) x (parsed (slice text x)) refl, spans_read text xs)

fault_read : (f : Option CutFault) → Every IsReadPiece (unread_from f)
fault_read None = tt
fault_read (Some f) = (tt, tt)

pub pieces_read : (text : List ℕ) → Every IsReadPiece (pieces_of text)
pieces_read text =
    every_join IsReadPiece (map (piece_of text) (sentences_of text).spans) (unread_from (sentences_of text).fault)
    (spans_read text (sentences_of text).spans) (fault_read (sentences_of text).fault)
