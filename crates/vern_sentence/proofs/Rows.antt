-- Each row of the grammar is read, and what is read is a row.
use Rattle.std.proofs.Common.{◌≡◌, ℕ, List, [], ◌∷◌, ◌++◌, map, codes, Some, None, true, false, refl, sym, ap, ◌∙◌, subst, append_assoc, Ok}
use Rattle.vern_lex.specs.declared.span.Span.{Span}
use Rattle.vern_lex.specs.declared.token.TokenKind.TheVariants as token
use Rattle.vern_grammar.specs.Trees.{Name, Group, Expression}
use Rattle.vern_grammar.specs.Kinds.{Kind, Lexeme}
use Rattle.vern_grammar.specs.Kinds as kind
use Rattle.vern_grammar.specs.Grammar.{tok}
use Rattle.vern_sentence.specs.Trees.{Sentence, Refinement}
use Rattle.vern_sentence.specs.Trees as made
use Rattle.vern_sentence.specs.Evidence.{IsEvidence}
use Rattle.vern_sentence.specs.Sentences.{spelled, stop, sign, IsInner, IsSentence}
use Rattle.vern_sentence.specs.Sentences as row
use Rattle.vern_sentence.specs.Words.{Word, leading, is_sign}
use Rattle.vern_sentence.specs.Words as word
use Rattle.vern_sentence.specs.Slots.{expression, enclosed, shape, evidence, names, groups, IsPart, first_place, tree_at, is_simple}
use Rattle.vern_sentence.specs.Patterns.{Pattern, fixed, name, slot, option, reading}
use Rattle.vern_sentence.specs.Reading.{ends_as, refines, defining, two_names, arguing, following, sentence_reading}
use Rattle.vern_sentence.proofs.Signs.{some_out}
use Rattle.vern_sentence.proofs.Parts.{Ran}
use Rattle.vern_sentence.proofs.Evidences.{evidence_simple, evidence_ran}
use Rattle.vern_sentence.proofs.Readings.{Reads, done_reads, sign_reads, name_reads, part_reads, takes, passes, part_over, at_choice}

-- evidence and the full stop
argued : (f : Expression → Refinement) (ts : List Lexeme) (t : Expression) (c : Span) → IsEvidence ts t
    → reading (arguing f) (ts ++ (stop c ∷ [])) ≡ Ok (made.refinement (f t))
argued f ts t c w = part_over evidence (λ x. refines (f x)) ts [] (stop c) t w refl

definition_rest : Name → List Group → Pattern
definition_rest x gs = fixed word.colon (option word.prop_word (defining x gs None) (name (λ sort. defining x gs (Some sort))))

destruct_rest : Expression → Pattern
destruct_rest t = option word.as_word (two_names t) (refines (made.destruct_none t))

inner_read : (x : Name) (ts : List Lexeme) (t : Expression) (d e : Span) → IsInner ts t →
    reading (slot enclosed (λ u. refines (made.assert x u))) (ts ++ (tok kind.closing d ∷ stop e ∷ []))
    ≡ Ok (made.refinement (made.assert x t))
inner_read x ts t d e w =
    ap (reading (slot enclosed (λ u. refines (made.assert x u)))) (sym (append_assoc ts (tok kind.closing d ∷ []) (stop e ∷ [])))
    ∙ part_over enclosed (λ u. refines (made.assert x u)) (ts ++ (tok kind.closing d ∷ [])) [] (stop e) t (
      ts,
      tok kind.closing d,
      refl,
      refl,
      w,
    ) refl

-- evidence begins with no arrow
no_arrow : (k : Kind) → is_simple k ≡ true → is_sign word.arrow k ≡ false
no_arrow (kind.name x) e = refl
no_arrow kind.opening e = refl
no_arrow kind.closing e = refl
no_arrow _ e = cc

no_back_arrow : (k : Kind) → is_simple k ≡ true → is_sign word.back_arrow k ≡ false
no_back_arrow (kind.name x) e = refl
no_back_arrow kind.opening e = refl
no_back_arrow kind.closing e = refl
no_back_arrow _ e = cc

no_evidence : (t : Expression) → Ran evidence [] t → ⊥
no_evidence t r =
    let e : first_place evidence ≡ r.place = some_out _ _ r.ran in
    let q = ap (tree_at evidence) e ∙ r.tree in
    none_some t q
  where
    none_some : (t : Expression) → None ≡ Some t → ⊥
    none_some t q = cc

passed : (p q r : Pattern) (k : Lexeme) (ks : List Lexeme) → is_simple k.kind ≡ true
    → reading (option word.arrow p (option word.back_arrow q r)) (k ∷ ks) ≡ reading r (k ∷ ks)
passed p q r k ks h = ap (at_choice p (option word.back_arrow q r) k ks) (no_arrow k.kind h)
    ∙ ap (at_choice q r k ks) (no_back_arrow k.kind h)

plain_read : (ts : List Lexeme) (t : Expression) (b : Span) → IsEvidence ts t →
    reading (option word.arrow (arguing (λ t. made.rewrite t false))
    (option word.back_arrow (arguing (λ t. made.rewrite t true)) (arguing (λ t. made.rewrite t false)))) (ts ++ (stop b ∷ []))
    ≡ Ok (made.refinement (made.rewrite t false))
plain_read [] t b w = absurd (no_evidence t (evidence_ran [] t w))
plain_read (k ∷ ts) t b w = passed (arguing (λ t. made.rewrite t false)) (arguing (λ t. made.rewrite t true))
    (arguing (λ t. made.rewrite t false)) k (ts ++ (stop b ∷ [])) (evidence_simple w).0 ∙ argued (λ t. made.rewrite t false) (k ∷ ts) t b w

assert_row : {t : Expression} (text : List ℕ) (x : Name) (ts : List Lexeme) (a b c e : Span) → IsPart enclosed ts t →
    IsSentence text (row.word (codes "assert") a ∷ tok kind.opening b ∷ spelled x ∷ tok kind.colon c ∷ (ts ++ (stop e ∷ [])))
    (made.refinement (made.assert x t))
assert_row {t = t} text x ts a b c e (us, k, h, p, w) =
    subst (λ l. IsSentence text (row.word (codes "assert") a ∷ tok kind.opening b ∷ spelled x ∷ tok kind.colon c ∷ l)
    (made.refinement (made.assert x t)))
    (sym (append_assoc us (tok kind.closing k.span ∷ []) (stop e ∷ []))
    ∙ ap (λ l. l ++ (stop e ∷ [])) (ap (λ j. us ++ (tok j k.span ∷ [])) (sym h) ∙ sym p)) (row.assert x a b c k.span e w)

pub accepted : {text : List ℕ} {ts : List Lexeme} {t : Sentence} → IsSentence text ts t → sentence_reading text ts ≡ Ok t
unfolding definition_rest destruct_rest
accepted (row.parameter {ts = ts} {s = s} x a b c w) = part_over shape (λ s. ends_as (made.declare x s)) ts [] (stop c) s w refl
accepted (row.axiom_sentence {ts = ts} {s = s} x a b c w) = part_over shape (λ s. ends_as (made.declare x s)) ts [] (stop c) s w refl
accepted (row.function {us = us} {ts = ts} {gs = gs} {t = t} x sort a b c d v w) =
    part_over groups (definition_rest x) us (spelled sort ∷ sign token.Define c ∷ (ts ++ (stop d ∷ []))) (tok kind.colon b) gs v refl
    ∙ part_over expression (λ t. ends_as (made.define x gs (Some sort) t)) ts [] (stop d) t w refl
accepted (row.predicate {us = us} {ts = ts} {gs = gs} {t = t} x a b c d e v w) =
    part_over groups (definition_rest x) us (tok kind.prop c ∷ sign token.Define d ∷ (ts ++ (stop e ∷ []))) (tok kind.colon b) gs v refl
    ∙ part_over expression (λ t. ends_as (made.define x gs None t)) ts [] (stop e) t w refl
accepted (row.lemma {ts = ts} {t = t} x a b c w) = part_over expression (λ t. ends_as (made.begin x t)) ts [] (stop c) t w refl
accepted (row.theorem {ts = ts} {t = t} x a b c w) = part_over expression (λ t. ends_as (made.begin x t)) ts [] (stop c) t w refl
accepted (row.proof a b) = refl
accepted (row.qed a b) = refl
accepted (row.defined a b) = refl
accepted (row.admitted a b) = refl
accepted (row.abort a b) = refl
accepted (row.intro a b) = refl
accepted (row.intro_name x a b) = refl
accepted (row.intros xs a b) = part_over names (λ xs. refines (made.intros xs)) (map spelled xs) [] (stop b) xs refl refl
accepted (row.exact {ts = ts} {t = t} a b w) = argued made.exact ts t b w
accepted (row.by_hypothesis a b) = refl
accepted (row.apply {ts = ts} {t = t} a b w) = argued made.apply ts t b w
accepted (row.split a b) = refl
accepted (row.left a b) = refl
accepted (row.right a b) = refl
accepted (row.exists {ts = ts} {t = t} a b w) = part_over expression (λ t. refines (made.exists t)) ts [] (stop b) t w refl
accepted (row.destruct_both {ts = ts} {t = t} x y a b c d e w) =
    part_over evidence destruct_rest ts (sign token.LeftBracket c ∷ spelled x ∷ spelled y ∷ sign token.RightBracket d ∷ stop e ∷ [])
    (sign token.As b) t w refl
accepted (row.destruct_either {ts = ts} {t = t} x y a b c d e f w) =
    part_over evidence destruct_rest ts (sign token.LeftBracket c ∷ spelled x ∷ sign token.Bar d ∷ spelled y ∷ sign token.RightBracket e ∷
    stop f ∷ []) (sign token.As b) t w refl
accepted (row.destruct_none {ts = ts} {t = t} a b w) = part_over evidence destruct_rest ts [] (stop b) t w refl
accepted (row.exfalso a b) = refl
accepted (row.assert {ts = ts} {t = t} x a b c d e w) = inner_read x ts t d e w
accepted (row.clear x a b) = refl
accepted (row.reflexivity a b) = refl
accepted (row.symmetry a b) = refl
accepted (row.rewrite_plain {ts = ts} {t = t} a b w) = plain_read ts t b w
accepted (row.rewrite_forward {ts = ts} {t = t} a b c w) = argued (λ t. made.rewrite t false) ts t c w
accepted (row.rewrite_backward {ts = ts} {t = t} a b c w) = argued (λ t. made.rewrite t true) ts t c w
accepted (row.unfold_goal x a b) = refl
accepted (row.unfold_hypothesis x y a b c) = refl
accepted (row.bullet a) = refl
accepted (row.brace_in a) = refl
accepted (row.brace_out a) = refl

pub rows : (text : List ℕ) (c : Span) (w : Word) {ks : List Lexeme} {t : Sentence} → Reads (following text c w) ks t
    → IsSentence text (tok (leading w) c ∷ ks) t
rows text a word.parameter (name_reads x (sign_reads b (part_reads ts s w (sign_reads c done_reads)))) = row.parameter x a b c w
rows text a word.axiom_word (name_reads x (sign_reads b (part_reads ts s w (sign_reads c done_reads)))) = row.axiom_sentence x a b c w
rows text a word.definition (name_reads x (part_reads us gs v
    (sign_reads b (takes c (sign_reads d (part_reads ts t w (sign_reads e done_reads))))))) = row.predicate x a b c d e v w
rows text a word.definition (name_reads x (part_reads us gs v
    (sign_reads b (passes (name_reads sort (sign_reads c (part_reads ts t w (sign_reads d done_reads)))))))) =
    row.function x sort a b c d v w
rows text a word.lemma (name_reads x (sign_reads b (part_reads ts t w (sign_reads c done_reads)))) = row.lemma x a b c w
rows text a word.theorem (name_reads x (sign_reads b (part_reads ts t w (sign_reads c done_reads)))) = row.theorem x a b c w
rows text a word.proof (sign_reads b done_reads) = row.proof a b
rows text a word.qed (sign_reads b done_reads) = row.qed a b
rows text a word.defined (sign_reads b done_reads) = row.defined a b
rows text a word.admitted (sign_reads b done_reads) = row.admitted a b
rows text a word.abort (sign_reads b done_reads) = row.abort a b
rows text a word.intro (takes b done_reads) = row.intro a b
rows text a word.intro (passes (name_reads x (sign_reads b done_reads))) = row.intro_name x a b
rows text a word.intros (part_reads ts xs w (sign_reads b done_reads)) =
    subst (λ l. IsSentence text (row.word (codes "intros") a ∷ (l ++ (stop b ∷ []))) (made.refinement (made.intros xs))) (sym w)
    (row.intros xs a b)
rows text a word.exact (part_reads ts t w (sign_reads b done_reads)) = row.exact a b w
rows text a word.by_hypothesis (sign_reads b done_reads) = row.by_hypothesis a b
rows text a word.apply (part_reads ts t w (sign_reads b done_reads)) = row.apply a b w
rows text a word.split (sign_reads b done_reads) = row.split a b
rows text a word.left (sign_reads b done_reads) = row.left a b
rows text a word.right (sign_reads b done_reads) = row.right a b
rows text a word.exists (part_reads ts t w (sign_reads b done_reads)) = row.exists a b w
rows text a word.destruct (part_reads ts t w (takes b
    (sign_reads c (name_reads x (takes d (name_reads y (sign_reads e (sign_reads f done_reads)))))))) =
    row.destruct_either x y a b c d e f w
rows text a word.destruct (part_reads ts t w (takes b
    (sign_reads c (name_reads x (passes (name_reads y (sign_reads d (sign_reads e done_reads)))))))) = row.destruct_both x y a b c d e w
rows text a word.destruct (part_reads ts t w (passes (sign_reads b done_reads))) = row.destruct_none a b w
rows text a word.exfalso (sign_reads b done_reads) = row.exfalso a b
rows text a word.assert (sign_reads b (name_reads x (sign_reads c (part_reads ts t w (sign_reads e done_reads))))) =
    assert_row text x ts a b c e w
rows text a word.clear (name_reads x (sign_reads b done_reads)) = row.clear x a b
rows text a word.reflexivity (sign_reads b done_reads) = row.reflexivity a b
rows text a word.symmetry (sign_reads b done_reads) = row.symmetry a b
rows text a word.rewrite (takes b (part_reads ts t w (sign_reads c done_reads))) = row.rewrite_forward a b c w
rows text a word.rewrite (passes (takes b (part_reads ts t w (sign_reads c done_reads)))) = row.rewrite_backward a b c w
rows text a word.rewrite (passes (passes (part_reads ts t w (sign_reads b done_reads)))) = row.rewrite_plain a b w
rows text a word.unfold_word (name_reads x (takes b (name_reads y (sign_reads c done_reads)))) = row.unfold_hypothesis x y a b c
rows text a word.unfold_word (name_reads x (passes (sign_reads b done_reads))) = row.unfold_goal x a b
rows text a word.bullet done_reads = row.bullet a
rows text a word.brace_in done_reads = row.brace_in a
rows text a word.brace_out done_reads = row.brace_out a
