-- The sentences of a batch: each was parsed, and stands where its kind belongs.
use Rattle.std.proofs.Common.{◌≡◌, ℕ, ◌+◌, List, [], ◌∷◌, ◌++◌, map, Bool, false, Option, Some, None, Result, Ok, Err, refl}
use Rattle.vern_lex.specs.declared.span.Span.{Span}
use Rattle.vern_lex.specs.declared.sentences.CutFault.{CutFault}
use Rattle.vern_lex.specs.Sentences.{sentences_of}
use Rattle.vern_grammar.specs.Kinds.{slice}
use Rattle.vern_sentence.specs.Trees.{Sentence}
use Rattle.vern_step.specs.Parsed.{parsed, kind_of}
use Rattle.step_theory.specs.Laws.{IsParsed}
use Rattle.step_core.specs.Standing.{is_within}
use Rattle.batch_check.specs.Numbers.{FIRST_ID}
use Rattle.batch_check.specs.declared.stop.StopKind.{StopKind}
use Rattle.batch_check.specs.Batch.{Piece, piece, unread, piece_with, piece_of, unread_from, pieces_of, opens, refusal_of, taken_with, batch_from, batch}
use Rattle.batch_check.proofs.Taking.{placed}

-- the sentence of a piece was parsed, if it is one
abbrev pub PieceParsed : Piece → Type 0
PieceParsed (piece p x) = IsParsed x
PieceParsed (unread p) = Unit {0}

abbrev pub PiecesParsed : List Piece → Type 0
PiecesParsed [] = Unit {0}
PiecesParsed (p ∷ ps) = PieceParsed p × PiecesParsed ps

span_parsed : (span : Span) (bytes : List ℕ) (r : Result Sentence ℕ) → parsed bytes ≡ r → PieceParsed (piece_with span r)
span_parsed span bytes (Ok x) e = (bytes, e)
span_parsed span bytes (Err p) e = tt

cut_parsed : (text : List ℕ) (spans : List Span) (fault : Option CutFault) → PiecesParsed (map (piece_of text) spans ++ unread_from fault)
cut_parsed text [] None = tt
cut_parsed text [] (Some fault) = (tt, tt)
cut_parsed text (span ∷ spans) fault =
    (span_parsed span (slice text span) (parsed (slice text span)) refl, cut_parsed text spans fault)

-- each was parsed, and is inside a proof or ends one exactly where a proof is open
abbrev pub Stands : Bool → List (ℕ × Sentence) → Type 0
Stands b [] = Unit {0}
Stands b (w ∷ ws) = IsParsed w.1 × (b ≡ is_within (kind_of w.1)) × Stands (opens (kind_of w.1)) ws

batch_stands : (ps : List Piece) (count : ℕ) (b : Bool) → PiecesParsed ps → Stands b (batch_from count b ps).sentences
batch_stands [] count b h = tt
batch_stands (unread p ∷ ps) count b h = tt
batch_stands (piece p x ∷ ps) count b h =
    go (refusal_of b (kind_of x) count) refl (batch_stands ps (count + 1) (opens (kind_of x)) h.1)
  where
    go : (r : Option StopKind) → refusal_of b (kind_of x) count ≡ r
        → Stands (opens (kind_of x)) (batch_from (count + 1) (opens (kind_of x)) ps).sentences
        → Stands b (taken_with r p (FIRST_ID + count) x (batch_from (count + 1) (opens (kind_of x)) ps)).sentences
    go (Some k) e rest = tt
    go None e rest = (h.0, placed b (is_within (kind_of x)) count e, rest)

-- so do those of a text's batch
pub stands : (text : List ℕ) → Stands false (batch text).sentences
stands text = batch_stands (pieces_of text) 0 false (cut_parsed text (sentences_of text).spans (sentences_of text).fault)
