-- The first tokens of sentences, and the signs and reserved words that stand further behind.
use Rattle.std.specs.Prelude.{ℕ, Bool, true, false, nat_eq, List, [], ◌∷◌, ◌++◌, codes, Option, Some, None, if◌then◌else◌}
use Rattle.std.specs.Cmp.Lexicographic.{pointwise}
use Rattle.vern_lex.specs.declared.token.TokenKind.{TokenKind}
use Rattle.vern_lex.specs.declared.token.TokenKind.TheVariants as token
use Rattle.vern_grammar.specs.Trees.{implication}
use Rattle.vern_grammar.specs.Kinds.{Kind}
use Rattle.vern_grammar.specs.Kinds as kind

-- ---- first tokens

-- what a sentence begins with; all but the last four are ordinary names elsewhere
pub data Word : Type 0 where
  parameter axiom_word definition lemma theorem proof qed defined admitted abort : Word
  intro intros exact by_hypothesis apply split left right destruct exfalso assert clear reflexivity symmetry rewrite unfold_word : Word
  exists bullet brace_in brace_out : Word

-- the words that are names, in the order in which they are looked up: those that stand outside of proofs or begin and close them, and
-- refinements
abbrev pub outer_words : List Word
outer_words = parameter ∷ axiom_word ∷ definition ∷ lemma ∷ theorem ∷ proof ∷ qed ∷ defined ∷ admitted ∷ abort ∷ []

-- the words of refinements, but `exists`
abbrev pub refinement_words : List Word
refinement_words =
    intro ∷ intros ∷ exact ∷ by_hypothesis ∷ apply ∷ split ∷ left ∷ right ∷ destruct ∷ exfalso ∷ assert ∷ clear ∷ reflexivity ∷ symmetry ∷
    rewrite ∷ unfold_word ∷ []

-- all words that are told by their text
abbrev pub named_words : List Word
named_words = outer_words ++ refinement_words

-- the text of a word that is a name
abbrev pub spelling : Word → List ℕ
spelling parameter = codes "Parameter"
spelling axiom_word = codes "Axiom"
spelling definition = codes "Definition"
spelling lemma = codes "Lemma"
spelling theorem = codes "Theorem"
spelling proof = codes "Proof"
spelling qed = codes "Qed"
spelling defined = codes "Defined"
spelling admitted = codes "Admitted"
spelling abort = codes "Abort"
spelling intro = codes "intro"
spelling intros = codes "intros"
spelling exact = codes "exact"
spelling by_hypothesis = codes "assumption"
spelling apply = codes "apply"
spelling split = codes "split"
spelling left = codes "left"
spelling right = codes "right"
spelling destruct = codes "destruct"
spelling exfalso = codes "exfalso"
spelling assert = codes "assert"
spelling clear = codes "clear"
spelling reflexivity = codes "reflexivity"
spelling symmetry = codes "symmetry"
spelling rewrite = codes "rewrite"
spelling unfold_word = codes "unfold"
spelling _ = []

-- the kind of the token that a word is
abbrev pub leading : Word → Kind
leading exists = kind.quantifier false
leading bullet = kind.other token.Bullet
leading brace_in = kind.other token.LeftBrace
leading brace_out = kind.other token.RightBrace
leading w = kind.name (spelling w)

-- the first of some words that a name is
abbrev pub word_among : List ℕ → List Word → Option Word
word_among x [] = None
word_among x (w ∷ ws) = if pointwise nat_eq x (spelling w) then Some w else word_among x ws

-- the word that a token is
abbrev pub word_of : Kind → Option Word
word_of (kind.name x) = word_among x named_words
word_of (kind.quantifier false) = Some exists
word_of (kind.other token.Bullet) = Some bullet
word_of (kind.other token.LeftBrace) = Some brace_in
word_of (kind.other token.RightBrace) = Some brace_out
word_of _ = None

-- ---- signs

-- The signs and reserved words of sentences that stand outside of expressions.
pub data Sign : Type 0 where
  full_stop define as_word in_word left_bracket right_bracket bar back_arrow arrow colon opening prop_word : Sign

-- the kind of vern_lex's token
abbrev pub sign_token : Sign → TokenKind
sign_token full_stop = token.FullStop
sign_token define = token.Define
sign_token as_word = token.As
sign_token in_word = token.In
sign_token left_bracket = token.LeftBracket
sign_token right_bracket = token.RightBracket
sign_token bar = token.Bar
sign_token back_arrow = token.BackArrow
sign_token arrow = token.Arrow
sign_token colon = token.Colon
sign_token opening = token.LeftParenthesis
sign_token prop_word = token.Prop

-- and what the grammar sees of it
abbrev pub sign_kind : Sign → Kind
sign_kind arrow = kind.sign implication
sign_kind colon = kind.colon
sign_kind opening = kind.opening
sign_kind prop_word = kind.prop
sign_kind s = kind.other (sign_token s)

-- whether a token of the kinds that no expression has is a sign
abbrev pub is_other : Sign → TokenKind → Bool
is_other full_stop token.FullStop = true
is_other define token.Define = true
is_other as_word token.As = true
is_other in_word token.In = true
is_other left_bracket token.LeftBracket = true
is_other right_bracket token.RightBracket = true
is_other bar token.Bar = true
is_other back_arrow token.BackArrow = true
is_other _ _ = false

-- whether a token is a sign
abbrev pub is_sign : Sign → Kind → Bool
is_sign arrow (kind.sign implication) = true
is_sign colon kind.colon = true
is_sign opening kind.opening = true
is_sign prop_word kind.prop = true
is_sign s (kind.other t) = is_other s t
is_sign _ _ = false
