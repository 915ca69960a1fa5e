-- What reading a sentence from left to right says of the grammar.
use Rattle.std.proofs.Common.{◌≡◌, ℕ, zero, suc, List, [], ◌∷◌, drop, Some, None, Result, Ok, Err, IfOk, IfErr, All, refl, sym, ap, subst}
use Rattle.std.proofs.Common.{◌∙◌}
use Rattle.vern_lex.specs.declared.token.Token.{Token}
use Rattle.vern_lex.specs.Tokens.{tokens_of}
use Rattle.vern_grammar.specs.Kinds.{Lexeme, lexemes}
use Rattle.vern_grammar.specs.Grammar.{IsFault}
use Rattle.vern_grammar.proofs.Laws.{not_both, one_fault}
use Rattle.vern_sentence.specs.Trees.{Sentence}
use Rattle.vern_sentence.specs.Sentences.{IsSentence}
use Rattle.vern_sentence.specs.Names.{IsFreeName, names_of_sentence}
use Rattle.vern_sentence.specs.Reading.{sentence_reading}
use Rattle.vern_sentence.proofs.Laws.{accepted, given, faulty}
use Rattle.vern_sentence.proofs.Named.{free_names}
use Rattle.vern_parse.specs.declared.raw.Raw.{Raw}
use Rattle.vern_parse.specs.declared.fault.ParseFault.{ParseFault}
use Rattle.vern_parse.specs.declared.fault.ParseFault.TheVariants as fault
use Rattle.vern_parse.specs.Sentences.{sentence}
use Rattle.vern_parse.specs.Answers.{IsFaultOf, IsRead, IsRefused, offset}
use Rattle.vern_parse.specs.Sources.{Wanted, Gives, first_offset, refused}

offset_is_first : (text : List ℕ) (tokens : List Token) (i : ℕ) → offset text tokens i ≡ first_offset text (drop i (lexemes text tokens))
offset_is_first text [] zero = refl
offset_is_first text [] (suc i) = refl
offset_is_first text (t ∷ ts) zero = refl
offset_is_first text (t ∷ ts) (suc i) = offset_is_first text ts i

some_out : (a b : ℕ) → Some a ≡ Some b → a ≡ b
some_out a b e = cc

none_some : (a : ℕ) → None ≡ Some a → ⊥
none_some a e = cc

err_ok : (m : Wanted Sentence) (ks : List Lexeme) (t : Sentence) → m ≡ Err ks → m ≡ Ok t → ⊥
err_ok m ks t e f = cc

ok_out : (m : Wanted Sentence) (t u : Sentence) → m ≡ Ok t → m ≡ Ok u → t ≡ u
ok_out m t u e f = cc

module _ (text : List ℕ) (tokens : List Token) where
  abbrev all : List Lexeme
  all = lexemes text tokens

  abbrev Given : Result Raw ParseFault → Type 0
  Given r = Gives sentence (tokens, text) r (sentence_reading text all)

  parsed : (r : Raw) → sentence_reading text all ≡ Ok (sentence r) → IsSentence text all (sentence r)
  parsed r e = given text all (sentence r) e

  faulted_at : (p : ℕ) (m : Wanted Sentence) → sentence_reading text all ≡ m → refused text m ≡ Some p
      → (i : ℕ) × IsFault (IsSentence text) all i × (p ≡ offset text tokens i)
  faulted_at p (Ok t) e h = absurd (none_some p h)
  faulted_at p (Err rest) e h =
      let (i, f, q) = faulty text all rest e in
      (i, f, sym (some_out (first_offset text rest) p h) ∙ ap (first_offset text) q ∙ sym (offset_is_first text tokens i))

  pub tree : (r : Result Raw ParseFault) → Given r → IfOk r (λ t. IsSentence text all (sentence t))
  tree (Ok r) e = parsed r e
  tree (Err f) e = tt

  pub free : (r : Result Raw ParseFault) → Given r → tokens ≡ tokens_of text
      → IfOk r (λ t. All (λ x. IsFreeName x.text) (names_of_sentence (sentence t)))
  free (Ok r) e h = free_names text (sentence r) (subst (λ l. IsSentence text (lexemes text l) (sentence r)) h (parsed r e))
  free (Err f) e h = tt

  pub fault_is : (r : Result Raw ParseFault) → Given r → IfErr r (λ e. IsFaultOf (IsSentence text) text tokens e)
  fault_is (Ok r) e = tt
  fault_is (Err (fault.At p)) e = faulted_at p (sentence_reading text all) refl e
  fault_is (Err fault.NoMemory) e = tt

  read_by : (p : ℕ) (t : Sentence) (m : Wanted Sentence) → sentence_reading text all ≡ m → refused text m ≡ Some p → IsSentence text all t
      → ⊥
  read_by p t (Ok u) e h w = none_some p h
  read_by p t (Err rest) e h w = err_ok (sentence_reading text all) rest t e (accepted text all t w)

  pub is_read : (r : Result Raw ParseFault) → Given r → (t : Sentence) → IsSentence text all t → IsRead sentence r t
  is_read (Ok r) e t w = ok_out (sentence_reading text all) (sentence r) t e (accepted text all t w)
  is_read (Err (fault.At p)) e t w = read_by p t (sentence_reading text all) refl e w
  is_read (Err fault.NoMemory) e t w = tt

  pub is_refused : (r : Result Raw ParseFault) → Given r → (i : ℕ) → IsFault (IsSentence text) all i → IsRefused r (offset text tokens i)
  is_refused (Ok r) e i f = not_both (IsSentence text) all i (sentence r) f (parsed r e)
  is_refused (Err (fault.At p)) e i f =
      let (j, g, q) = faulted_at p (sentence_reading text all) refl e in
      q ∙ ap (offset text tokens) (one_fault (IsSentence text) all j i g f)
  is_refused (Err fault.NoMemory) e i f = tt
