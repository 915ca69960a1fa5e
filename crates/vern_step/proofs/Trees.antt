-- Parsing of bytes is by the grammar.
use Rattle.std.proofs.Common.{◌≡◌, ◌≤◌, ℕ, zero, suc, List, [], ◌∷◌, map, drop, length, Result, Ok, Err, IfOk, IfErr, IfSome, All}
use Rattle.std.proofs.Common.{refl, sym, ap, ◌∙◌, arith}
use Rattle.std.proofs.lemmas.List.Elements.{All-head, All-tail}
use Rattle.base_core.specs.Answers.{Answers}
use Rattle.vern_lex.specs.declared.token.Token.{Token}
use Rattle.vern_lex.specs.Tokens.{IsTokenOf, tokens_of}
use Rattle.vern_lex.proofs.Lexing.{tokens_each}
use Rattle.vern_grammar.specs.Kinds.{Lexeme, lexeme, lexemes}
use Rattle.vern_grammar.specs.Grammar.{IsFault}
use Rattle.vern_sentence.specs.Trees.{Sentence}
use Rattle.vern_sentence.specs.Sentences.{IsSentence}
use Rattle.vern_sentence.specs.Reading.{sentence_reading}
use Rattle.vern_sentence.proofs.Laws as grammar
use Rattle.vern_parse.specs.declared.fault.ParseFault.{ParseFault}
use Rattle.vern_parse.specs.declared.fault.ParseFault.TheVariants as told
use Rattle.vern_parse.specs.declared.raw.Closer.{Closer}
use Rattle.vern_parse.specs.declared.raw.Closer.TheVariants as closer
use Rattle.vern_parse.specs.declared.raw.Raw.{Raw}
use Rattle.vern_parse.specs.declared.raw.Raw.TheVariants as raw
use Rattle.vern_parse.specs.Answers.{IsFaultOf, offset}
use Rattle.vern_parse.specs.Sentences.{sentence as sentence_of}
use Rattle.vern_step.specs.declared.kind.Kind.TheVariants as kind
use Rattle.vern_step.specs.Parsed.{kind_of, parsed, place, place_of_fault, placed, words}

-- the tokens from a number on begin where the token of that number does
place_of : (bytes : List ℕ) (ts : List Token) (i : ℕ) → place bytes (drop i (lexemes bytes ts)) ≡ offset bytes ts i
place_of bytes [] zero = refl
place_of bytes [] (suc i) = refl
place_of bytes (t ∷ ts) zero = refl
place_of bytes (t ∷ ts) (suc i) = place_of bytes ts i

pub read : (bytes : List ℕ) (t : Sentence) → IsSentence bytes (words bytes) t → parsed bytes ≡ Ok t
read bytes t w = ap (placed bytes) (grammar.accepted bytes (words bytes) t w)

pub refused : (bytes : List ℕ) (i : ℕ) → IsFault (IsSentence bytes) (words bytes) i → parsed bytes ≡ Err (offset bytes (tokens_of bytes) i)
refused bytes i f = ap (placed bytes) (grammar.found bytes (words bytes) i f) ∙ ap (λ p. Err p) (place_of bytes (tokens_of bytes) i)

tree_by : (bytes : List ℕ) (t : Sentence) (m : Result Sentence (List Lexeme)) → placed bytes m ≡ Ok t → m ≡ Ok t
tree_by bytes t (Ok u) e = cc
tree_by bytes t (Err rest) e = cc

pub tree : (bytes : List ℕ) (t : Sentence) → parsed bytes ≡ Ok t → IsSentence bytes (words bytes) t
tree bytes t e = grammar.given bytes (words bytes) t (tree_by bytes t (sentence_reading bytes (words bytes)) e)

fault_by : (bytes : List ℕ) (p : ℕ) (m : Result Sentence (List Lexeme)) → sentence_reading bytes (words bytes) ≡ m → placed bytes m ≡ Err p
    → (i : ℕ) × IsFault (IsSentence bytes) (words bytes) i × (p ≡ offset bytes (tokens_of bytes) i)
fault_by bytes p (Ok u) h e = cc
fault_by bytes p (Err rest) h e =
    let f = grammar.faulty bytes (words bytes) rest h in
    let at : p ≡ place bytes rest = cc in
    (f.0, f.1, at ∙ ap (place bytes) f.2 ∙ place_of bytes (tokens_of bytes) f.0)

pub faulty : (bytes : List ℕ) (p : ℕ) → parsed bytes ≡ Err p
    → (i : ℕ) × IsFault (IsSentence bytes) (words bytes) i × (p ≡ offset bytes (tokens_of bytes) i)
faulty bytes p e = fault_by bytes p (sentence_reading bytes (words bytes)) refl e

-- a fault is within the bytes or at their end
offset_within : (bytes : List ℕ) (ts : List Token) (i : ℕ) → All (IsTokenOf bytes) ts → offset bytes ts i ≤ length bytes
offset_within bytes [] i h = omega arith
offset_within bytes (t ∷ ts) zero h =
    let x : IsTokenOf bytes t = All-head (IsTokenOf bytes) t ts h in
    omega (arith, x.some, x.within)
offset_within bytes (t ∷ ts) (suc i) h = offset_within bytes ts i (All-tail (IsTokenOf bytes) t ts h)

within : (bytes : List ℕ) (p : ℕ) → parsed bytes ≡ Err p → p ≤ length bytes
within bytes p e =
    let f = faulty bytes p e in
    rw f.2 (offset_within bytes (tokens_of bytes) f.0 (tokens_each bytes))

pub place_within : {X : Type 0} (meaning : X → Sentence) (bytes : List ℕ) (result : Result X ParseFault)
    → Answers meaning place_of_fault result (parsed bytes) → IfErr result (λ e. IfSome (place_of_fault e) (λ p. p ≤ length bytes))
place_within meaning bytes (Ok x) h = tt
place_within meaning bytes (Err (told.At p)) h = within bytes p h
place_within meaning bytes (Err told.NoMemory) h = tt

-- what the parser answers is what parsing gives
pub answers : (bytes : List ℕ) (result : Result Raw ParseFault) → IfOk result (λ r. IsSentence bytes (words bytes) (sentence_of r))
    → IfErr result (λ e. IsFaultOf (IsSentence bytes) bytes (tokens_of bytes) e) → Answers sentence_of place_of_fault result (parsed bytes)
answers bytes (Ok r) h g = read bytes (sentence_of r) h
answers bytes (Err (told.At p)) h g = refused bytes g.0 g.1 ∙ ap (λ q. Err q) (sym g.2)
answers bytes (Err told.NoMemory) h g = tt

-- a closer's kind has the closer of the sentence
pub closer_kind : (c : Closer) → kind.Close c ≡ kind_of (sentence_of (raw.Close c))
closer_kind closer.Qed = refl
closer_kind closer.Defined = refl
closer_kind closer.Admitted = refl
closer_kind closer.Abort = refl
