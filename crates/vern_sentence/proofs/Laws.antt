-- The function reads the grammar: one tree, exact faults.
use Rattle.std.proofs.Common.{◌≡◌, ℕ, ◌+◌, ◌<◌, ◌⊎◌, inl, inr, List, [], ◌∷◌, ◌++◌, length, take, drop, Option, Some, None, refl, sym, ap}
use Rattle.std.proofs.Common.{subst, ◌∙◌, arith, append_assoc, length-append, Result, Ok, Err}
use Rattle.std.proofs.Math.Seq.{take-append_seam, take-append-add, drop-append_seam}
use Rattle.vern_grammar.specs.Kinds.{Lexeme}
use Rattle.vern_grammar.specs.Grammar.{span, Begins, IsFault}
use Rattle.vern_grammar.proofs.Laws.{not_both, one_fault}
use Rattle.vern_sentence.specs.Trees.{Sentence}
use Rattle.vern_sentence.specs.Trees as made
use Rattle.vern_sentence.specs.Sentences.{IsSentence, proof}
use Rattle.vern_sentence.specs.Words.{Word, word_of}
use Rattle.vern_sentence.specs.Reading.{following, behind_word, sentence_reading}
use Rattle.vern_sentence.proofs.Signs.{word_is}
use Rattle.vern_sentence.proofs.Readings.{left_with, sound}
use Rattle.vern_sentence.proofs.Stops.{Stuck, stops}
use Rattle.vern_sentence.proofs.Rows as of_rows

pub accepted : (text : List ℕ) (ts : List Lexeme) (t : Sentence) → IsSentence text ts t → sentence_reading text ts ≡ Ok t
accepted text ts t w = of_rows.accepted w

given_by : (text : List ℕ) (k : Lexeme) (ks : List Lexeme) (m : Option Word) (t : Sentence) → word_of k.kind ≡ m
    → behind_word text k ks m ≡ Ok t → IsSentence text (k ∷ ks) t
given_by text k ks None t h e = cc
given_by text k ks (Some w) t h e = subst (λ j. IsSentence text (j ∷ ks) t) (sym (word_is k w h))
    (of_rows.rows text k.span w (sound (following text k.span w) ks t e))

pub given : (text : List ℕ) (ts : List Lexeme) (t : Sentence) → sentence_reading text ts ≡ Ok t → IsSentence text ts t
given text [] t e = cc
given text (k ∷ ks) t e = given_by text k ks (word_of k.kind) t refl e

same_tree : (t u : Sentence) (m : Result Sentence (List Lexeme)) → m ≡ Ok t → m ≡ Ok u → t ≡ u
same_tree t u m a b = cc

pub one_tree : (text : List ℕ) (ts : List Lexeme) (t u : Sentence) → IsSentence text ts t → IsSentence text ts u → t ≡ u
one_tree text ts t u v w = same_tree t u (sentence_reading text ts) (accepted text ts t v) (accepted text ts u w)

-- ---- where the function stops

record Halts (text : List ℕ) (ts rest : List Lexeme) : Type 0 where
  front : List Lexeme
  split : ts ≡ front ++ rest
  words : List Lexeme
  tree : Sentence
  begun : IsSentence text (front ++ words) tree
  stays : (k : Lexeme) (ks ls : List Lexeme) → rest ≡ k ∷ ks → sentence_reading text (front ++ (k ∷ ls)) ≡ Err (k ∷ ls)

stuck_out : (a b : List Lexeme) → left_with a ≡ Err b → a ≡ b
stuck_out a b e = cc

at_first : (text : List ℕ) (ts rest : List Lexeme) → left_with ts ≡ Err rest
    → ((k : Lexeme) (ks ls : List Lexeme) → ts ≡ k ∷ ks → sentence_reading text (k ∷ ls) ≡ Err (k ∷ ls)) → Halts text ts rest
at_first text ts rest e f = record {
  front = [];
  split = stuck_out ts rest e;
  words = _;
  tree = made.proof_word;
  begun = proof (span 0 0) (span 0 0);
  stays = λ k ks ls h. f k ks ls (stuck_out ts rest e ∙ h);
}

same_head : (k j : Lexeme) (ks js : List Lexeme) → k ∷ ks ≡ j ∷ js → k ≡ j
same_head k j ks js e = cc

further : (text : List ℕ) (k : Lexeme) (ks rest : List Lexeme) (w : Word) → word_of k.kind ≡ Some w
    → Stuck (following text k.span w) ks rest → Halts text (k ∷ ks) rest
further text k ks rest w h x = record {
  front = k ∷ x.front;
  split = ap (λ l. k ∷ l) x.split;
  words = x.words;
  tree = x.tree;
  begun = subst (λ j. IsSentence text (j ∷ (x.front ++ x.words)) x.tree) (sym (word_is k w h)) (of_rows.rows text k.span w x.begun);
  stays = λ j js ls e. ap (behind_word text k (x.front ++ (j ∷ ls))) h ∙ x.stays j js ls e;
}

halts_by : (text : List ℕ) (k : Lexeme) (ks rest : List Lexeme) (m : Option Word) → word_of k.kind ≡ m → behind_word text k ks m ≡ Err rest
    → Halts text (k ∷ ks) rest
halts_by text k ks rest None h e =
    at_first text (k ∷ ks) rest e (λ j js ls g. ap (behind_word text j ls) (subst (λ i. word_of i.kind ≡ None) (same_head k j ks js g) h))
halts_by text k ks rest (Some w) h e = further text k ks rest w h (stops (following text k.span w) ks rest e)

halts : (text : List ℕ) (ts rest : List Lexeme) → sentence_reading text ts ≡ Err rest → Halts text ts rest
halts text [] rest e = at_first text [] rest e (λ j js ls g. cc)
halts text (k ∷ ks) rest e = halts_by text k ks rest (word_of k.kind) refl e

-- ---- faults

read_or_stuck : (t : Sentence) (a : List Lexeme) (m : Result Sentence (List Lexeme)) → m ≡ Ok t → m ≡ Err a → ⊥
read_or_stuck t a m p q = cc

refused_at : (text : List ℕ) (front : List Lexeme) (k : Lexeme) (ks : List Lexeme)
    → ((ls : List Lexeme) → sentence_reading text (front ++ (k ∷ ls)) ≡ Err (k ∷ ls))
    → Begins (IsSentence text) (take (length front + 1) (front ++ (k ∷ ks))) → ⊥
refused_at text front k ks f (us, t, w) =
    let e : take (length front + 1) (front ++ (k ∷ ks)) ≡ front ++ (k ∷ []) = take-append-add front (k ∷ ks) 1 in
    read_or_stuck t (k ∷ us) (sentence_reading text (front ++ (k ∷ us)))
    (accepted text (front ++ (k ∷ us)) t (subst (λ l. IsSentence text l t) (ap (λ l. l ++ us) e ∙ append_assoc front (k ∷ []) us) w))
    (f us)

refused_by : (text : List ℕ) (front rest : List Lexeme)
    → ((k : Lexeme) (ks ls : List Lexeme) → rest ≡ k ∷ ks → sentence_reading text (front ++ (k ∷ ls)) ≡ Err (k ∷ ls)) →
    length front < length (front ++ rest) → Begins (IsSentence text) (take (length front + 1) (front ++ rest)) → ⊥
refused_by text front [] f h b = absurd (omega (arith, length-append front []))
refused_by text front (k ∷ ks) f h b = refused_at text front k ks (λ ls. f k ks ls refl) b

fault_by : (text : List ℕ) (front rest : List Lexeme) (words : List Lexeme) (tree : Sentence) → IsSentence text (front ++ words) tree →
    ((k : Lexeme) (ks ls : List Lexeme) → rest ≡ k ∷ ks → sentence_reading text (front ++ (k ∷ ls)) ≡ Err (k ∷ ls))
    → sentence_reading text (front ++ rest) ≡ Err rest →
    IsFault (IsSentence text) (front ++ rest) (length front)
fault_by text front rest words tree w f e = record {
  within = omega (arith, length-append front rest);
  begun = (words, tree, subst (λ l. IsSentence text (l ++ words) tree) (sym (take-append_seam front rest)) w);
  refused = λ h b. refused_by text front rest f h b;
  unfinished = λ h t v. read_or_stuck t rest (sentence_reading text (front ++ rest)) (accepted text (front ++ rest) t v) e;
}

pub faulty : (text : List ℕ) (ts rest : List Lexeme) → sentence_reading text ts ≡ Err rest
    → (p : ℕ) × IsFault (IsSentence text) ts p × (rest ≡ drop p ts)
faulty text ts rest e = by (halts text ts rest e)
  where
    by : Halts text ts rest → (p : ℕ) × IsFault (IsSentence text) ts p × (rest ≡ drop p ts)
    by x =
        let f : IsFault (IsSentence text) (x.front ++ rest) (length x.front) =
        fault_by text x.front rest x.words x.tree x.begun x.stays (ap (sentence_reading text) (sym x.split) ∙ e) in (
          length x.front,
          subst (λ l. IsFault (IsSentence text) l (length x.front)) (sym x.split) f,
          sym (drop-append_seam x.front rest)
              ∙ ap (drop (length x.front)) (sym x.split),
        )

by_outcome : (text : List ℕ) (ts : List Lexeme) (m : Result Sentence (List Lexeme)) → sentence_reading text ts ≡ m
    → ((t : Sentence) × IsSentence text ts t) ⊎ ((p : ℕ) × IsFault (IsSentence text) ts p)
by_outcome text ts (Ok t) e = inl (t, given text ts t e)
by_outcome text ts (Err rest) e = let (p, f, h) = faulty text ts rest e in inr (p, f)

pub tree_or_fault : (text : List ℕ) (ts : List Lexeme)
    → ((t : Sentence) × IsSentence text ts t) ⊎ ((p : ℕ) × IsFault (IsSentence text) ts p)
tree_or_fault text ts = by_outcome text ts (sentence_reading text ts) refl

found_by : (text : List ℕ) (ts : List Lexeme) (p : ℕ) (m : Result Sentence (List Lexeme)) → sentence_reading text ts ≡ m
    → IsFault (IsSentence text) ts p → m ≡ Err (drop p ts)
found_by text ts p (Ok t) e f = absurd (not_both (IsSentence text) ts p t f (given text ts t e))
found_by text ts p (Err rest) e f = let (q, g, h) = faulty text ts rest e in
    ap Err (h ∙ ap (λ n. drop n ts) (one_fault (IsSentence text) ts q p g f))

pub found : (text : List ℕ) (ts : List Lexeme) (p : ℕ) → IsFault (IsSentence text) ts p → sentence_reading text ts ≡ Err (drop p ts)
found text ts p f = found_by text ts p (sentence_reading text ts) refl f

pub not_two : (text : List ℕ) (ts : List Lexeme) (p : ℕ) (t : Sentence) → IsFault (IsSentence text) ts p → IsSentence text ts t → ⊥
not_two text ts p t f w = not_both (IsSentence text) ts p t f w

pub single_fault : (text : List ℕ) (ts : List Lexeme) (p q : ℕ) → IsFault (IsSentence text) ts p → IsFault (IsSentence text) ts q → p ≡ q
single_fault text ts p q f g = one_fault (IsSentence text) ts p q f g
