-- What is printed reads back as its tree.
use Rattle.std.proofs.Common.{◌≡◌, ℕ, zero, suc, ◌+◌, ◌≤◌, List, [], ◌∷◌, ◌++◌, length, refl, sym, ap, ◌∙◌, subst, arith, append_assoc}
use Rattle.std.specs.Prelude.{codes}
use Rattle.std.specs.List.{All}
use Rattle.vern_lex.specs.Tokens.{tokens_of}
use Rattle.vern_lex.specs.declared.span.Span.{Span}
use Rattle.vern_lex.specs.declared.token.TokenKind.TheVariants as token
use Rattle.vern_grammar.specs.Trees.{Name, Expression, Shape}
use Rattle.vern_grammar.specs.Kinds.{Kind, Lexeme, lexemes, name, colon, other}
use Rattle.vern_grammar.specs.Levels.{limit}
use Rattle.vern_grammar.specs.Grammar.{IsExpression, IsShape, last, tok, named}
use Rattle.vern_grammar.proofs.Laws.{one_expression}
use Rattle.vern_sentence.specs.Names.{IsFreeName}
use Rattle.vern_sentence.specs.Trees.{Sentence, begin, declare}
use Rattle.vern_sentence.specs.Sentences.{IsSentence, lemma, theorem, parameter, axiom_sentence, spelled, stop, word}
use Rattle.fol_theory.specs.Syntax.{Term, Formula}
use Rattle.print_theory.specs.Printing.{
  quantifier_level,
  term_tokens,
  formula_tokens,
  term_openings,
  formula_openings,
  IsPrintableTerm,
  IsPrintable,
}
use Rattle.print_theory.specs.Spelling.{IsWritten, spell, spell_behind, spelling, between, stand, stand_behind, formula_text, term_text}
use Rattle.print_theory.specs.Reading.{ReadsAs, BeginsWith, DeclaresAs, IsShown, sentence_of}
use Rattle.print_theory.specs.Trees.{spanless, spanless_shape, term_tree, formula_tree, formula_shape}
use Rattle.print_theory.proofs.Lexed.{spelled_tokens}
use Rattle.print_theory.proofs.Operands.{laid, past, kinds, spans, laid_again, laid_append, term_read, formula_read}
use Rattle.print_theory.proofs.Refusals.{formula_within, term_within}
use Rattle.print_theory.proofs.Shapes.{shape_read}
use Rattle.print_theory.proofs.Written.{
  AreSpelled,
  written_of,
  written_stop,
  behind_stop,
  Starts,
  formula_starts,
  term_spelled,
  formula_spelled,
}

-- ---- the tokens of a text are its list, with some spans

kinds_behind : (ks : List Kind) (at : ℕ) (k : Kind) → kinds (stand_behind at k ks) ≡ ks
kinds_behind [] at k = refl
kinds_behind (l ∷ ks) at k = ap (λ ls. l ∷ ls) (kinds_behind ks (at + length (between k l) + length (spelling l)) l)

kinds_stand : (ks : List Kind) → kinds (stand ks) ≡ ks
kinds_stand [] = refl
kinds_stand (k ∷ ks) = ap (λ ls. k ∷ ls) (kinds_behind ks (length (spelling k)) k)

text_tokens : (ks : List Kind) → IsWritten ks → lexemes (spell ks) (tokens_of (spell ks)) ≡ laid (spans (stand ks)) ks
text_tokens ks w = spelled_tokens ks w ∙ sym (laid_again (stand ks)) ∙ ap (laid (spans (stand ks))) (kinds_stand ks)

-- a text is the spelling of one list
pub spelled_once : (ks ls : List Kind) → IsWritten ks → IsWritten ls → spell ks ≡ spell ls → ks ≡ ls
spelled_once ks ls w v e =
    let same : stand ks ≡ stand ls = sym (spelled_tokens ks w) ∙ ap (λ text. lexemes text (tokens_of text)) e ∙ spelled_tokens ls v in
    sym (kinds_stand ks) ∙ ap kinds same ∙ kinds_stand ls

-- ---- the text alone

-- with any spans, the tokens are an expression with this tree
abbrev Somewhere : List Kind → Expression → Type 0
Somewhere ks r = (σ : ℕ → Span) → (t : Expression) × IsExpression (laid σ ks) t × (spanless t ≡ r)

reads_as : (ks : List Kind) (r : Expression) → AreSpelled ks → Somewhere ks r → ReadsAs (spell ks) r
reads_as ks r s e =
    let (t, i, is) = e (spans (stand ks)) in
    (t, subst (λ ts. IsExpression ts t) (sym (text_tokens ks (written_of ks s))) i, is)

somewhere_formula : (names taken : List (List ℕ)) (a : Formula) → formula_openings quantifier_level a ≤ limit
    → Somewhere (formula_tokens names taken quantifier_level a) (formula_tree names taken a)
somewhere_formula names taken a h σ =
    let i = (formula_read names taken quantifier_level a).read last 0 σ tt (omega (arith, h)) in
    (i.tree, (i.level, i.from, i.to, i.operand), i.is)

somewhere_term : (names : List (List ℕ)) (t : Term) → term_openings quantifier_level t ≤ limit
    → Somewhere (term_tokens names quantifier_level t) (term_tree names t)
somewhere_term names t h σ =
    let i = (term_read names quantifier_level t).read last 0 σ tt (omega (arith, h)) in
    (i.tree, (i.level, i.from, i.to, i.operand), i.is)

pub formula_reads : (names taken : List (List ℕ)) (a : Formula) → All IsFreeName names → IsPrintable (length names) a
    → formula_openings quantifier_level a ≤ limit
    → ReadsAs (formula_text names taken a) (formula_tree names taken a)
formula_reads names taken a h p l =
    reads_as (formula_tokens names taken quantifier_level a) (formula_tree names taken a)
    (formula_spelled names taken quantifier_level a h p) (somewhere_formula names taken a l)

pub term_reads : (names : List (List ℕ)) (t : Term) → All IsFreeName names → IsPrintableTerm (length names) t
    → term_openings quantifier_level t ≤ limit
    → ReadsAs (term_text names t) (term_tree names t)
term_reads names t h p l =
    reads_as (term_tokens names quantifier_level t) (term_tree names t) (term_spelled names quantifier_level t h p)
    (somewhere_term names t l)

-- and no text at a token of which more openings are open is an expression
pub formula_limit : (names taken : List (List ℕ)) (a : Formula) (r : Expression) → All IsFreeName names → IsPrintable (length names) a
    → ReadsAs (formula_text names taken a) r → formula_openings quantifier_level a ≤ limit
formula_limit names taken a r h p (t, e, is) =
    let ks = formula_tokens names taken quantifier_level a in
    let written = written_of ks (formula_spelled names taken quantifier_level a h p) in
    formula_within names taken a (spans (stand ks)) t (subst (λ ts. IsExpression ts t) (text_tokens ks written) e)

pub term_limit : (names : List (List ℕ)) (a : Term) (r : Expression) → All IsFreeName names → IsPrintableTerm (length names) a
    → ReadsAs (term_text names a) r → term_openings quantifier_level a ≤ limit
term_limit names a r h p (t, e, is) =
    let ks = term_tokens names quantifier_level a in
    let written = written_of ks (term_spelled names quantifier_level a h p) in
    term_within names a (spans (stand ks)) t (subst (λ ts. IsExpression ts t) (text_tokens ks written) e)

pub reads_once : (text : List ℕ) (r q : Expression) → ReadsAs text r → ReadsAs text q → r ≡ q
reads_once text r q (t, e, a) (u, f, b) = sym a ∙ ap spanless (one_expression (lexemes text (tokens_of text)) t u e f) ∙ b

-- ---- in a sentence

abbrev sentence_tokens : List ℕ → List ℕ → List Kind → List Kind
sentence_tokens w x ks = name w ∷ name x ∷ colon ∷ (ks ++ (other token.FullStop ∷ []))

sentence_text : (w x : List ℕ) (ks : List Kind) → Starts ks → spell (sentence_tokens w x ks) ≡ sentence_of w x (spell ks)
sentence_text w x [] h = absurd h
sentence_text w x (k ∷ ks) h =
    let stop : spell_behind k (ks ++ (other token.FullStop ∷ [])) ≡ spell_behind k ks ++ (46 ∷ []) = behind_stop ks k in
    ap (λ g. w ++ (codes " " ++ (x ++ (codes " :" ++ (g ++ (spelling k ++ spell_behind k (ks ++ (other token.FullStop ∷ [])))))))) h
    ∙ ap (λ r. w ++ (codes " " ++ (x ++ (codes " : " ++ r))))
    (ap (λ r. spelling k ++ r) stop ∙ sym (append_assoc (spelling k) (spell_behind k ks) (46 ∷ [])))

-- what a sentence with a printed part is like: its word, its name and the tokens of the part
record Printed (w x : List ℕ) (ks : List Kind) : Type 0 where
  pub word : IsFreeName w
  pub name : IsFreeName x
  pub spelled : AreSpelled ks
  pub starts : Starts ks

-- the tokens of a whole sentence of which one part is printed, with their spans
spread : (w x : List ℕ) (ks : List Kind) (σ : ℕ → Span) → List Lexeme
spread w x ks σ = word w (σ 0) ∷ spelled (named x (σ 1)) ∷ tok colon (σ 2) ∷
    (laid (λ i. σ (suc (suc (suc i)))) ks ++ (stop (past ks (λ i. σ (suc (suc (suc i)))) zero) ∷ []))

sentence_lexemes : (w x : List ℕ) (ks : List Kind) → Printed w x ks
    → lexemes (spell (sentence_tokens w x ks)) (tokens_of (spell (sentence_tokens w x ks))) ≡ spread w x ks
    (spans (stand (sentence_tokens w x ks)))
unfolding spread
sentence_lexemes w x ks p =
    let all = sentence_tokens w x ks in
    let σ = spans (stand all) in
    let written : IsWritten all = written_stop (name w ∷ name x ∷ colon ∷ ks) (p.word, (p.name, (tt, p.spelled))) in
    text_tokens all written
    ∙ ap (λ ts. word w (σ 0) ∷ spelled (named x (σ 1)) ∷ tok colon (σ 2) ∷ ts)
    (laid_append (λ i. σ (suc (suc (suc i)))) ks (other token.FullStop ∷ []))

-- the row of the grammar for a sentence that begins with such a word, whatever its spans
abbrev Row : {A : Type 0} → (List Lexeme → A → Type 0) → (Name → A → Sentence) → List ℕ → Type 0
Row {A} part tree w =
    (text : List ℕ) (ts : List Lexeme) (t : A) (x : Name) (a b c : Span) → part ts t
    → IsSentence text (word w a ∷ spelled x ∷ tok colon b ∷ (ts ++ (stop c ∷ []))) (tree x t)

begins_with : (w x : List ℕ) (ks : List Kind) (r : Expression) → Row IsExpression begin w → Printed w x ks → Somewhere ks r
    → BeginsWith (sentence_of w x (spell ks)) x r
unfolding spread
begins_with w x ks r row p e =
    let all = sentence_tokens w x ks in
    let σ = spans (stand all) in
    let (t, i, is) = e (λ i. σ (suc (suc (suc i)))) in
    let whole : IsSentence (spell all) (spread w x ks σ) (begin (named x (σ 1)) t) =
    row (spell all) (laid (λ i. σ (suc (suc (suc i)))) ks) t (named x (σ 1)) (σ 0) (σ 2) (past ks (λ i. σ (suc (suc (suc i)))) zero) i in
    subst (λ text. BeginsWith text x r) (sentence_text w x ks p.starts)
    (t, σ 1, subst (λ ts. IsSentence (spell all) ts (begin (named x (σ 1)) t)) (sym (sentence_lexemes w x ks p)) whole, is)

-- with any spans, the tokens are a shape with this tree
abbrev SomewhereShape : List Kind → Shape → Type 0
SomewhereShape ks q = (σ : ℕ → Span) → (s : Shape) × IsShape (laid σ ks) s × (spanless_shape s ≡ q)

declares_as : (w x : List ℕ) (ks : List Kind) (q : Shape) → Row IsShape declare w → Printed w x ks → SomewhereShape ks q
    → DeclaresAs (sentence_of w x (spell ks)) x q
unfolding spread
declares_as w x ks q row p e =
    let all = sentence_tokens w x ks in
    let σ = spans (stand all) in
    let (s, i, is) = e (λ i. σ (suc (suc (suc i)))) in
    let whole : IsSentence (spell all) (spread w x ks σ) (declare (named x (σ 1)) s) =
    row (spell all) (laid (λ i. σ (suc (suc (suc i)))) ks) s (named x (σ 1)) (σ 0) (σ 2) (past ks (λ i. σ (suc (suc (suc i)))) zero) i in
    subst (λ text. DeclaresAs text x q) (sentence_text w x ks p.starts)
    (s, σ 1, subst (λ ts. IsSentence (spell all) ts (declare (named x (σ 1)) s)) (sym (sentence_lexemes w x ks p)) whole, is)

-- ---- the four words

printed : (w x : List ℕ) (names taken : List (List ℕ)) (a : Formula) → IsFreeName w → IsFreeName x → IsShown names a
    → Printed w x (formula_tokens names taken quantifier_level a)
printed w x names taken a f g s = record {
  word = f;
  name = g;
  spelled = formula_spelled names taken quantifier_level a s.free s.printable;
  starts = formula_starts names taken quantifier_level a;
}

somewhere_shape : (names taken : List (List ℕ)) (a : Formula) → IsShown names a
    → SomewhereShape (formula_tokens names taken quantifier_level a) (formula_shape names taken a)
somewhere_shape names taken a h σ =
    let room = h.openings in
    let i = (shape_read names taken a).read 0 σ (omega (arith, room)) in
    (i.shape, i.read, i.is)

pub lemma_begins : (names taken : List (List ℕ)) (x : List ℕ) (a : Formula) → IsFreeName x → IsShown names a
    → BeginsWith (sentence_of (codes "Lemma") x (formula_text names taken a)) x (formula_tree names taken a)
lemma_begins names taken x a f s =
    begins_with (codes "Lemma") x (formula_tokens names taken quantifier_level a) (formula_tree names taken a)
    (λ text ts t x a b c i. lemma x a b c i)
    (printed (codes "Lemma") x names taken a (omega arith, refl, refl) f s) (somewhere_formula names taken a s.openings)

pub theorem_begins : (names taken : List (List ℕ)) (x : List ℕ) (a : Formula) → IsFreeName x → IsShown names a
    → BeginsWith (sentence_of (codes "Theorem") x (formula_text names taken a)) x (formula_tree names taken a)
theorem_begins names taken x a f s =
    begins_with (codes "Theorem") x (formula_tokens names taken quantifier_level a) (formula_tree names taken a)
    (λ text ts t x a b c i. theorem x a b c i)
    (printed (codes "Theorem") x names taken a (omega arith, refl, refl) f s) (somewhere_formula names taken a s.openings)

pub parameter_declares : (names taken : List (List ℕ)) (x : List ℕ) (a : Formula) → IsFreeName x → IsShown names a
    → DeclaresAs (sentence_of (codes "Parameter") x (formula_text names taken a)) x (formula_shape names taken a)
parameter_declares names taken x a f s =
    declares_as (codes "Parameter") x (formula_tokens names taken quantifier_level a) (formula_shape names taken a)
    (λ text ts t x a b c i. parameter x a b c i)
    (printed (codes "Parameter") x names taken a (omega arith, refl, refl) f s) (somewhere_shape names taken a s)

pub axiom_declares : (names taken : List (List ℕ)) (x : List ℕ) (a : Formula) → IsFreeName x → IsShown names a
    → DeclaresAs (sentence_of (codes "Axiom") x (formula_text names taken a)) x (formula_shape names taken a)
axiom_declares names taken x a f s =
    declares_as (codes "Axiom") x (formula_tokens names taken quantifier_level a) (formula_shape names taken a)
    (λ text ts t x a b c i. axiom_sentence x a b c i)
    (printed (codes "Axiom") x names taken a (omega arith, refl, refl) f s) (somewhere_shape names taken a s)
