-- What follows the first token of each kind of sentence.
use Rattle.std.specs.Prelude.{ℕ, true, false, List, [], ◌∷◌, Option, Some, None, Result, Err}
use Rattle.vern_lex.specs.declared.span.Span.{Span}
use Rattle.vern_grammar.specs.Trees.{Name, Group, Expression}
use Rattle.vern_grammar.specs.Kinds.{Lexeme}
use Rattle.vern_sentence.specs.Trees.{Sentence, Refinement}
use Rattle.vern_sentence.specs.Trees as made
use Rattle.vern_sentence.specs.Sentences.{bullet_at}
use Rattle.vern_sentence.specs.Words.{Word, word_of, full_stop, define, as_word, in_word, left_bracket, right_bracket, bar, back_arrow}
use Rattle.vern_sentence.specs.Words.{arrow, colon, opening, prop_word}
use Rattle.vern_sentence.specs.Words as word
use Rattle.vern_sentence.specs.Slots.{expression, enclosed, shape, evidence, names, groups}
use Rattle.vern_sentence.specs.Patterns.{Pattern, done, fixed, name, slot, option, reading}

-- the full stop, and nothing more
abbrev pub ends_as : Sentence → Pattern
ends_as t = fixed full_stop (done t)

-- the same for a refinement
abbrev pub refines : Refinement → Pattern
refines r = ends_as (made.refinement r)

-- name ":" shape "."
abbrev pub declaring : Pattern
declaring = name (λ x. fixed colon (slot shape (λ s. ends_as (made.declare x s))))

-- ":=" expr "."
abbrev pub defining : Name → List Group → Option Name → Pattern
defining x gs sort = fixed define (slot expression (λ t. ends_as (made.define x gs sort t)))

-- name ":" expr "."
abbrev pub stating : Pattern
stating = name (λ x. fixed colon (slot expression (λ t. ends_as (made.begin x t))))

-- name "]" "."
abbrev pub second_name : (Name → Refinement) → Pattern
second_name f = name (λ y. fixed right_bracket (refines (f y)))

-- "[" name name "]" "." | "[" name "|" name "]" "."
abbrev pub two_names : Expression → Pattern
two_names t = fixed left_bracket (name (λ x. option bar (second_name (made.destruct_either t x)) (second_name (made.destruct_both t x))))

-- ev "."
abbrev pub arguing : (Expression → Refinement) → Pattern
arguing f = slot evidence (λ t. refines (f t))

-- what follows the first token, of which the word and the span are given
abbrev pub following : List ℕ → Span → Word → Pattern
following text c word.parameter = declaring
following text c word.axiom_word = declaring
following text c word.definition = name (λ x. slot groups
    (λ gs. fixed colon (option prop_word (defining x gs None) (name (λ sort. defining x gs (Some sort))))))
following text c word.lemma = stating
following text c word.theorem = stating
following text c word.proof = ends_as made.proof_word
following text c word.qed = ends_as (made.close made.qed)
following text c word.defined = ends_as (made.close made.defined)
following text c word.admitted = ends_as (made.close made.admitted)
following text c word.abort = ends_as (made.close made.abort)
following text c word.intro = option full_stop (done (made.refinement (made.intro None))) (name (λ x. refines (made.intro (Some x))))
following text c word.intros = slot names (λ xs. refines (made.intros xs))
following text c word.exact = arguing made.exact
following text c word.by_hypothesis = refines made.by_hypothesis
following text c word.apply = arguing made.apply
following text c word.split = refines made.split
following text c word.left = refines made.left
following text c word.right = refines made.right
following text c word.exists = slot expression (λ t. refines (made.exists t))
following text c word.destruct = slot evidence (λ t. option as_word (two_names t) (refines (made.destruct_none t)))
following text c word.exfalso = refines made.exfalso
following text c word.assert = fixed opening (name (λ x. fixed colon (slot enclosed (λ t. refines (made.assert x t)))))
following text c word.clear = name (λ x. refines (made.clear x))
following text c word.reflexivity = refines made.reflexivity
following text c word.symmetry = refines made.symmetry
following text c word.rewrite = option arrow (arguing (λ t. made.rewrite t false))
    (option back_arrow (arguing (λ t. made.rewrite t true)) (arguing (λ t. made.rewrite t false)))
following text c word.unfold_word = name (λ x. option in_word (name (λ y. refines (made.unfold_in x (Some y))))
    (refines (made.unfold_in x None)))
following text c word.bullet = done (bullet_at text c)
following text c word.brace_in = done made.brace_in
following text c word.brace_out = done made.brace_out

-- the tree of a sentence of a word, which its first token is, if it is one
abbrev pub behind_word : List ℕ → Lexeme → List Lexeme → Option Word → Result Sentence (List Lexeme)
behind_word text k ks None = Err (k ∷ ks)
behind_word text k ks (Some w) = reading (following text k.span w) ks

-- the tree of the tokens, or the tokens from the faulty one on
abbrev pub sentence_reading : List ℕ → List Lexeme → Result Sentence (List Lexeme)
sentence_reading text [] = Err []
sentence_reading text (k ∷ ks) = behind_word text k ks (word_of k.kind)
