-- Sentences worked by the function.
use Rattle.std.proofs.Common.{◌≡◌, ℕ, zero, suc, List, [], ◌∷◌, codes, Some, true, refl, Ok, Err}
use Rattle.vern_lex.specs.declared.token.TokenKind.TheVariants as token
use Rattle.vern_grammar.specs.Trees.{implication, Expression}
use Rattle.vern_grammar.specs.Trees as tree
use Rattle.vern_grammar.specs.Kinds.{Kind, Lexeme}
use Rattle.vern_grammar.specs.Kinds as kind
use Rattle.vern_grammar.specs.Grammar.{tok, span, single, named, group}
use Rattle.vern_grammar.specs.Machine.{close, whole, chain}
use Rattle.vern_sentence.specs.Trees as made
use Rattle.vern_sentence.specs.Reading.{sentence_reading}

-- all tokens at the byte 0
abbrev tokens : List Kind → List Lexeme
tokens [] = []
tokens (k ∷ ks) = tok k (span 0 0) ∷ tokens ks

abbrev word : List ℕ → Kind
word w = kind.name w

abbrev dot : Kind
dot = kind.other token.FullStop

abbrev a : Kind
a = kind.name (97 ∷ [])

abbrev name : tree.Name
name = named (97 ∷ []) (span 0 0)

abbrev lone : Expression
lone = single (97 ∷ []) (span 0 0)

-- Lemma a : a.
row_lemma : sentence_reading [] (tokens (word (codes "Lemma") ∷ a ∷ kind.colon ∷ a ∷ dot ∷ [])) ≡ Ok (made.begin name lone)
unfolding whole
row_lemma = refl

-- Definition a (a a : a) : a := a.
row_definition : sentence_reading [] (tokens (word
    (codes "Definition") ∷ a ∷ kind.opening ∷ a ∷ a ∷ kind.colon ∷ a ∷ kind.closing ∷ kind.colon ∷ a ∷ kind.other token.Define ∷ a ∷ dot ∷
    []))
    ≡ Ok (made.define name (group (name ∷ name ∷ []) name ∷ []) (Some name) lone)
unfolding whole
row_definition = refl

-- assert (a : (a)).
row_assert : sentence_reading [] (tokens (word (codes "assert") ∷ kind.opening ∷ a ∷ kind.colon ∷ kind.opening ∷ a ∷ kind.closing ∷
    kind.closing ∷ dot ∷ [])) ≡ Ok (made.refinement (made.assert name lone))
unfolding whole close
row_assert = refl

-- assert (a : a) -> a.
row_assert_more : sentence_reading [] (tokens (word
    (codes "assert") ∷ kind.opening ∷ a ∷ kind.colon ∷ a ∷ kind.closing ∷ kind.sign implication ∷ a ∷ dot ∷ []))
    ≡ Err (tokens (kind.sign implication ∷ a ∷ dot ∷ []))
unfolding whole close
row_assert_more = refl

-- destruct a as [a | a].
row_destruct : sentence_reading [] (tokens (word (codes "destruct") ∷ a ∷ kind.other token.As ∷ kind.other token.LeftBracket ∷ a ∷
    kind.other token.Bar ∷ a ∷ kind.other token.RightBracket ∷ dot ∷ []))
    ≡ Ok (made.refinement (made.destruct_either lone name name))
unfolding whole
row_destruct = refl

-- rewrite <- a.
row_rewrite : sentence_reading [] (tokens (word (codes "rewrite") ∷ kind.other token.BackArrow ∷ a ∷ dot ∷ []))
    ≡ Ok (made.refinement (made.rewrite lone true))
unfolding whole
row_rewrite = refl

-- exact a -> a.
row_exact : sentence_reading [] (tokens (word (codes "exact") ∷ a ∷ kind.sign implication ∷ a ∷ dot ∷ []))
    ≡ Err (tokens (kind.sign implication ∷ a ∷ dot ∷ []))
unfolding whole
row_exact = refl

-- Qed a.
row_qed : sentence_reading [] (tokens (word (codes "Qed") ∷ a ∷ dot ∷ [])) ≡ Err (tokens (a ∷ dot ∷ []))
row_qed = refl

-- Axiom a : a
row_end : sentence_reading [] (tokens (word (codes "Axiom") ∷ a ∷ kind.colon ∷ a ∷ [])) ≡ Err []
unfolding whole chain
row_end = refl

-- three hyphens from the byte 1 on
row_bullet : sentence_reading (32 ∷ 45 ∷ 45 ∷ 45 ∷ []) (tok (kind.other token.Bullet) (span 1 4) ∷ []) ≡ Ok (made.bullet 45 3)
row_bullet = refl

-- ---- 256 openings and one more

abbrev times : ℕ → Kind → List Kind → List Kind
times zero k ks = ks
times (suc n) k ks = k ∷ times n k ks

-- exact ((..(a)..)). with 256 parentheses
row_evidence_deep : sentence_reading [] (tokens (word (codes "exact") ∷ times 256 kind.opening (a ∷ times 256 kind.closing (dot ∷ []))))
    ≡ Ok (made.refinement (made.exact lone))
unfolding whole close
row_evidence_deep = refl

-- and with 257: the fault is at the last of them
row_evidence_deeper : sentence_reading [] (tokens (word (codes "exact") ∷ times 257 kind.opening (a ∷ [])))
    ≡ Err (tokens (kind.opening ∷ a ∷ []))
row_evidence_deeper = refl

-- assert (a : ((..(a)..))). with 255 parentheses in that one
row_assert_deep : sentence_reading [] (tokens (word (codes "assert") ∷ kind.opening ∷ a ∷ kind.colon ∷ times 255 kind.opening
    (a ∷ times 256 kind.closing (dot ∷ [])))) ≡ Ok (made.refinement (made.assert name lone))
unfolding whole close
row_assert_deep = refl

-- and with 256
row_assert_deeper : sentence_reading [] (tokens (word (codes "assert") ∷ kind.opening ∷ a ∷ kind.colon ∷ times 256 kind.opening (a ∷ [])))
    ≡ Err (tokens (kind.opening ∷ a ∷ []))
row_assert_deeper = refl

-- assert (a : forall, behind 255 openings, where no name can follow
row_assert_quantifier : sentence_reading [] (tokens
    (word (codes "assert") ∷ kind.opening ∷ a ∷ kind.colon ∷ times 255 kind.tilde (kind.quantifier true ∷ a ∷ [])))
    ≡ Err (tokens (kind.quantifier true ∷ a ∷ []))
row_assert_quantifier = refl

-- Lemma a : (..(a)..). with 256
row_lemma_deep : sentence_reading [] (tokens (word (codes "Lemma") ∷ a ∷ kind.colon ∷ times 256 kind.opening
    (a ∷ times 256 kind.closing (dot ∷ [])))) ≡ Ok (made.begin name lone)
unfolding whole close
row_lemma_deep = refl

-- ---- other faults

-- no token, and a word that begins no sentence
row_nothing : sentence_reading [] [] ≡ Err []
row_nothing = refl

row_no_word : sentence_reading [] (tokens (a ∷ dot ∷ [])) ≡ Err (tokens (a ∷ dot ∷ []))
row_no_word = refl

-- Definition a () : a := a.
row_empty_group : sentence_reading [] (tokens (word (codes "Definition") ∷ a ∷ kind.opening ∷ kind.colon ∷ []))
    ≡ Err (tokens (kind.colon ∷ []))
row_empty_group = refl

-- destruct a as [a].
row_one_name : sentence_reading [] (tokens (word (codes "destruct") ∷ a ∷ kind.other token.As ∷ kind.other token.LeftBracket ∷ a ∷
    kind.other token.RightBracket ∷ [])) ≡ Err (tokens (kind.other token.RightBracket ∷ []))
unfolding whole
row_one_name = refl

-- rewrite -> -> a.
row_two_arrows : sentence_reading [] (tokens (word (codes "rewrite") ∷ kind.sign implication ∷ kind.sign implication ∷ a ∷ []))
    ≡ Err (tokens (kind.sign implication ∷ a ∷ []))
row_two_arrows = refl

-- intros a a, and no full stop
row_intros : sentence_reading [] (tokens (word (codes "intros") ∷ a ∷ a ∷ [])) ≡ Err []
row_intros = refl

-- intros.
row_intros_none : sentence_reading [] (tokens (word (codes "intros") ∷ dot ∷ [])) ≡ Ok (made.refinement (made.intros []))
row_intros_none = refl

-- Parameter intro : Prop.
row_word_as_name : sentence_reading [] (tokens (word (codes "Parameter") ∷ word (codes "intro") ∷ kind.colon ∷ kind.prop ∷ dot ∷ []))
    ≡ Ok (made.declare (named (codes "intro") (span 0 0)) (tree.prop (span 0 0)))
unfolding chain
row_word_as_name = refl

-- unfold a in a.
row_unfold : sentence_reading [] (tokens (word (codes "unfold") ∷ a ∷ kind.other token.In ∷ a ∷ dot ∷ []))
    ≡ Ok (made.refinement (made.unfold_in name (Some name)))
row_unfold = refl
