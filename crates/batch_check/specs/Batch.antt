-- What checking a text finds: its sentences with their ids up to the first that is refused, the state behind them, and their verdicts.
use Rattle.std.specs.Prelude.{ℕ, ◌+◌, List, [], ◌∷◌, ◌++◌, map, Bool, true, false, nat_le, Option, Some, None, Result, Ok, Err, if◌then◌else◌}
use Rattle.vern_lex.specs.declared.span.Span.{Span}
use Rattle.vern_lex.specs.declared.sentences.CutFault.{CutFault}
use Rattle.vern_lex.specs.Sentences.{place_of, sentences_of}
use Rattle.vern_grammar.specs.Kinds.{slice}
use Rattle.vern_sentence.specs.Trees.{Sentence}
use Rattle.vern_step.specs.declared.kind.Kind.{Kind}
use Rattle.vern_step.specs.declared.kind.Kind.TheVariants.{Plain, Begin, Inner, Close}
use Rattle.vern_step.specs.Parsed.{parsed, kind_of}
use Rattle.script_theory.specs.Sentences.{Verdict, Script, empty, state_behind, verdicts}
use Rattle.step_core.specs.Standing.{is_within}
use Rattle.step_core.specs.Steps.{is_good}
use Rattle.batch_check.specs.Numbers.{FIRST_ID, SENTENCE_LIMIT}
use Rattle.batch_check.specs.declared.stop.Stop.{Stop}
use Rattle.batch_check.specs.declared.stop.StopKind.{StopKind}
use Rattle.batch_check.specs.declared.stop.StopKind.TheVariants.{Parse, NoOpenProof, ProofOpen, TooMany}

-- ---- pieces

-- a sentence, by the offset of its first byte and its tree; or the offset from which on a text isn't read
pub data Piece : Type 0 where
  piece : ℕ → Sentence → Piece
  unread : ℕ → Piece

-- the piece that a span is, by what was parsed of its bytes
abbrev pub piece_with : Span → Result Sentence ℕ → Piece
piece_with span (Ok x) = piece span.from x
piece_with span (Err p) = unread (span.from + p)

-- the piece that a span of a text is
abbrev pub piece_of : List ℕ → Span → Piece
piece_of text span = piece_with span (parsed (slice text span))

-- a text that can't be cut further is unread from the fault on
abbrev pub unread_from : Option CutFault → List Piece
unread_from None = []
unread_from (Some fault) = unread (place_of fault) ∷ []

-- the pieces of a text
abbrev pub pieces_of : List ℕ → List Piece
pieces_of text = map (piece_of text) (sentences_of text).spans ++ unread_from (sentences_of text).fault

-- ---- which sentences are checked

-- behind a sentence of this kind a proof is open
abbrev pub opens : Kind → Bool
opens Plain = false
opens Begin = true
opens Inner = true
opens (Close c) = false

-- where a proof is open only a sentence within it or its end may stand, and where none is open neither may; and behind so many sentences
-- no more may
abbrev pub refusal_at : Bool → Bool → ℕ → Option StopKind
refusal_at true false count = Some ProofOpen
refusal_at false true count = Some NoOpenProof
refusal_at proof_open within count = if nat_le SENTENCE_LIMIT count then Some TooMany else None

-- why a sentence of this kind is refused, behind so many sentences
abbrev pub refusal_of : Bool → Kind → ℕ → Option StopKind
refusal_of proof_open kind count = refusal_at proof_open (is_within kind) count

-- the sentences of a text that are checked, with their ids, and where and why checking stopped, if it did
pub record Batch : Type 0 where
  pub sentences : List (ℕ × Sentence)
  pub stop : Option Stop

-- no sentence more
abbrev pub ended : Option Stop → Batch
ended stop = record { sentences = []; stop = stop }

-- a stop at an offset
abbrev pub stop_at : ℕ → StopKind → Stop
stop_at p kind = record { at = p; kind = kind }

-- the stop that it is that a text can't be cut further
abbrev pub stop_of : Option CutFault → Option Stop
stop_of None = None
stop_of (Some fault) = Some (stop_at (place_of fault) Parse)

-- one sentence before those of a batch
abbrev pub with_sentence : ℕ → Sentence → Batch → Batch
with_sentence id x b = record { sentences = (id, x) ∷ b.sentences; stop = b.stop }

-- a sentence with this id, unless it is refused, and what stands behind it
abbrev pub taken_with : Option StopKind → ℕ → ℕ → Sentence → Batch → Batch
taken_with (Some kind) p id x rest = ended (Some (stop_at p kind))
taken_with None p id x rest = with_sentence id x rest

-- the batch of pieces behind so many sentences, where a proof is open or not
abbrev pub batch_from : ℕ → Bool → List Piece → Batch
batch_from count proof_open [] = ended None
batch_from count proof_open (unread p ∷ ps) = ended (Some (stop_at p Parse))
batch_from count proof_open (piece p x ∷ ps) =
    taken_with (refusal_of proof_open (kind_of x) count) p (FIRST_ID + count) x (batch_from (count + 1) (opens (kind_of x)) ps)

-- the batch of a text
abbrev pub batch : List ℕ → Batch
batch text = batch_from 0 false (pieces_of text)

-- ---- what is found

-- one verdict before others, unless it is good
abbrev pub with_verdict : ℕ → Verdict → List (ℕ × Verdict) → List (ℕ × Verdict)
with_verdict id v vs = if is_good v then vs else (id, v) ∷ vs

-- the verdicts that aren't good
abbrev pub bad_ones : List (ℕ × Verdict) → List (ℕ × Verdict)
bad_ones [] = []
bad_ones (w ∷ ws) = with_verdict w.0 w.1 (bad_ones ws)

-- the state behind the sentences of a batch
abbrev pub state_at_end : Batch → Script
state_at_end b = state_behind b.sentences empty

-- their faults: each verdict that isn't good, with the id of its sentence
abbrev pub faults_of : Batch → List (ℕ × Verdict)
faults_of b = bad_ones (verdicts b.sentences empty)

-- there are no faults and no stop
abbrev pub is_clean_with : List (ℕ × Verdict) → Option Stop → Bool
is_clean_with [] None = true
is_clean_with vs s = false

-- a batch without a fault that didn't stop
abbrev pub is_clean : Batch → Bool
is_clean b = is_clean_with (faults_of b) b.stop
