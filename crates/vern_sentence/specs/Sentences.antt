-- The grammar of sentences, as a relation on whole lists of tokens: one row for each form.
use Rattle.std.specs.Prelude.{ℕ, ◌-◌, true, false, List, [], ◌∷◌, ◌++◌, map, codes, slice_index, Some, None}
use Rattle.vern_lex.specs.declared.span.Span.{Span}
use Rattle.vern_lex.specs.declared.token.TokenKind.{TokenKind}
use Rattle.vern_lex.specs.declared.token.TokenKind.TheVariants as token
use Rattle.vern_grammar.specs.Trees.{implication, Name, Group, Expression, Shape}
use Rattle.vern_grammar.specs.Kinds.{Lexeme}
use Rattle.vern_grammar.specs.Kinds as kind
use Rattle.vern_grammar.specs.Grammar.{tok, group, last, IsOperand, IsExpression, IsShape}
use Rattle.vern_sentence.specs.Trees.{Sentence}
use Rattle.vern_sentence.specs.Trees as made
use Rattle.vern_sentence.specs.Evidence.{IsEvidence}

-- ---- tokens

-- a name
abbrev pub spelled : Name → Lexeme
spelled x = tok (kind.name x.text) x.span

-- a word that is no reserved one, as `Lemma`
abbrev pub word : List ℕ → Span → Lexeme
word w c = tok (kind.name w) c

-- a token that stands in no expression
abbrev pub sign : TokenKind → Span → Lexeme
sign t c = tok (kind.other t) c

-- the closing full stop
abbrev pub stop : Span → Lexeme
stop c = sign token.FullStop c

-- the byte of a bullet at a span of the sentence's text, and how often it stands
abbrev pub bullet_at : List ℕ → Span → Sentence
bullet_at text c = made.bullet (slice_index text c.from) (c.to - c.from)

-- ---- parts

-- an expression in the parentheses of a form, whose `(` is open before it
abbrev pub IsInner : List Lexeme → Expression → Type 0
IsInner ts t = (n : ℕ) × (from : ℕ) × (to : ℕ) × IsOperand n last 1 ts from to t

-- group*, each "(" name+ ":" name ")"; these names are no openings
pub data AreGroups : List Lexeme → List Group → Type 0 where
  none : AreGroups [] []
  more : {ts : List Lexeme} {gs : List Group} (x : Name) (xs : List Name) (sort : Name) (a b c : Span) →
      AreGroups ts gs →
      AreGroups (ts ++ (tok kind.opening a ∷ (map spelled (x ∷ xs) ++ (tok kind.colon b ∷ spelled sort ∷ tok kind.closing c ∷ []))))
      (gs ++ (group (x ∷ xs) sort ∷ []))

-- ---- sentences

-- IsSentence text tokens tree: the tokens are a sentence with this tree. Of the text only a bullet's byte is looked up.
pub data IsSentence (text : List ℕ) : List Lexeme → Sentence → Type 0 where
  -- ("Parameter" | "Axiom") name ":" shape "."
  parameter : {ts : List Lexeme} {s : Shape} (x : Name) (a b c : Span) → IsShape ts s →
      IsSentence text (word (codes "Parameter") a ∷ spelled x ∷ tok kind.colon b ∷ (ts ++ (stop c ∷ []))) (made.declare x s)
  axiom_sentence : {ts : List Lexeme} {s : Shape} (x : Name) (a b c : Span) → IsShape ts s →
      IsSentence text (word (codes "Axiom") a ∷ spelled x ∷ tok kind.colon b ∷ (ts ++ (stop c ∷ []))) (made.declare x s)
  -- "Definition" name group* ":" (name | "Prop") ":=" expr "."
  function : {us ts : List Lexeme} {gs : List Group} {t : Expression} (x sort : Name) (a b c d : Span) → AreGroups us gs
      → IsExpression ts t →
      IsSentence text (word (codes "Definition") a ∷ spelled x ∷
      (us ++ (tok kind.colon b ∷ spelled sort ∷ sign token.Define c ∷ (ts ++ (stop d ∷ []))))) (made.define x gs (Some sort) t)
  predicate : {us ts : List Lexeme} {gs : List Group} {t : Expression} (x : Name) (a b c d e : Span) → AreGroups us gs → IsExpression ts t →
      IsSentence text (word (codes "Definition") a ∷ spelled x ∷
      (us ++ (tok kind.colon b ∷ tok kind.prop c ∷ sign token.Define d ∷ (ts ++ (stop e ∷ []))))) (made.define x gs None t)
  -- ("Lemma" | "Theorem") name ":" expr "."
  lemma : {ts : List Lexeme} {t : Expression} (x : Name) (a b c : Span) → IsExpression ts t →
      IsSentence text (word (codes "Lemma") a ∷ spelled x ∷ tok kind.colon b ∷ (ts ++ (stop c ∷ []))) (made.begin x t)
  theorem : {ts : List Lexeme} {t : Expression} (x : Name) (a b c : Span) → IsExpression ts t →
      IsSentence text (word (codes "Theorem") a ∷ spelled x ∷ tok kind.colon b ∷ (ts ++ (stop c ∷ []))) (made.begin x t)
  -- "Proof" "." | "Qed" "." | "Defined" "." | "Admitted" "." | "Abort" "."
  proof : (a b : Span) → IsSentence text (word (codes "Proof") a ∷ stop b ∷ []) made.proof_word
  qed : (a b : Span) → IsSentence text (word (codes "Qed") a ∷ stop b ∷ []) (made.close made.qed)
  defined : (a b : Span) → IsSentence text (word (codes "Defined") a ∷ stop b ∷ []) (made.close made.defined)
  admitted : (a b : Span) → IsSentence text (word (codes "Admitted") a ∷ stop b ∷ []) (made.close made.admitted)
  abort : (a b : Span) → IsSentence text (word (codes "Abort") a ∷ stop b ∷ []) (made.close made.abort)
  -- "intro" "." | "intro" name "." | "intros" name* "."
  intro : (a b : Span) → IsSentence text (word (codes "intro") a ∷ stop b ∷ []) (made.refinement (made.intro None))
  intro_name : (x : Name) (a b : Span) → IsSentence text (word (codes "intro") a ∷ spelled x ∷ stop b ∷ [])
      (made.refinement (made.intro (Some x)))
  intros : (xs : List Name) (a b : Span) → IsSentence text (word (codes "intros") a ∷ (map spelled xs ++ (stop b ∷ [])))
      (made.refinement (made.intros xs))
  -- "exact" ev "." | "assumption" "." | "apply" ev "."
  exact : {ts : List Lexeme} {t : Expression} (a b : Span) → IsEvidence ts t →
      IsSentence text (word (codes "exact") a ∷ (ts ++ (stop b ∷ []))) (made.refinement (made.exact t))
  by_hypothesis : (a b : Span) → IsSentence text (word (codes "assumption") a ∷ stop b ∷ []) (made.refinement made.by_hypothesis)
  apply : {ts : List Lexeme} {t : Expression} (a b : Span) → IsEvidence ts t →
      IsSentence text (word (codes "apply") a ∷ (ts ++ (stop b ∷ []))) (made.refinement (made.apply t))
  -- "split" "." | "left" "." | "right" "." | "exists" expr "."
  split : (a b : Span) → IsSentence text (word (codes "split") a ∷ stop b ∷ []) (made.refinement made.split)
  left : (a b : Span) → IsSentence text (word (codes "left") a ∷ stop b ∷ []) (made.refinement made.left)
  right : (a b : Span) → IsSentence text (word (codes "right") a ∷ stop b ∷ []) (made.refinement made.right)
  exists : {ts : List Lexeme} {t : Expression} (a b : Span) → IsExpression ts t →
      IsSentence text (tok (kind.quantifier false) a ∷ (ts ++ (stop b ∷ []))) (made.refinement (made.exists t))
  -- "destruct" ev "as" "[" name name "]" "." | "destruct" ev "as" "[" name "|" name "]" "." | "destruct" ev "."
  destruct_both : {ts : List Lexeme} {t : Expression} (x y : Name) (a b c d e : Span) → IsEvidence ts t →
      IsSentence text (word (codes "destruct") a ∷
      (ts ++ (sign token.As b ∷ sign token.LeftBracket c ∷ spelled x ∷ spelled y ∷ sign token.RightBracket d ∷ stop e ∷ [])))
      (made.refinement (made.destruct_both t x y))
  destruct_either : {ts : List Lexeme} {t : Expression} (x y : Name) (a b c d e f : Span) → IsEvidence ts t →
      IsSentence text (word (codes "destruct") a ∷
      (ts ++ (sign token.As b ∷ sign token.LeftBracket c ∷ spelled x ∷ sign token.Bar d ∷ spelled y ∷ sign token.RightBracket e ∷ stop f ∷
      [])))
      (made.refinement (made.destruct_either t x y))
  destruct_none : {ts : List Lexeme} {t : Expression} (a b : Span) → IsEvidence ts t →
      IsSentence text (word (codes "destruct") a ∷ (ts ++ (stop b ∷ []))) (made.refinement (made.destruct_none t))
  -- "exfalso" "." | "assert" "(" name ":" expr ")" "." | "clear" name "."
  exfalso : (a b : Span) → IsSentence text (word (codes "exfalso") a ∷ stop b ∷ []) (made.refinement made.exfalso)
  assert : {ts : List Lexeme} {t : Expression} (x : Name) (a b c d e : Span) → IsInner ts t →
      IsSentence text (word (codes "assert") a ∷ tok kind.opening b ∷ spelled x ∷ tok kind.colon c ∷
      (ts ++ (tok kind.closing d ∷ stop e ∷ []))) (made.refinement (made.assert x t))
  clear : (x : Name) (a b : Span) → IsSentence text (word (codes "clear") a ∷ spelled x ∷ stop b ∷ []) (made.refinement (made.clear x))
  -- "reflexivity" "." | "symmetry" "."
  reflexivity : (a b : Span) → IsSentence text (word (codes "reflexivity") a ∷ stop b ∷ []) (made.refinement made.reflexivity)
  symmetry : (a b : Span) → IsSentence text (word (codes "symmetry") a ∷ stop b ∷ []) (made.refinement made.symmetry)
  -- "rewrite" ev "." | "rewrite" "->" ev "." | "rewrite" "<-" ev "."
  rewrite_plain : {ts : List Lexeme} {t : Expression} (a b : Span) → IsEvidence ts t →
      IsSentence text (word (codes "rewrite") a ∷ (ts ++ (stop b ∷ []))) (made.refinement (made.rewrite t false))
  rewrite_forward : {ts : List Lexeme} {t : Expression} (a b c : Span) → IsEvidence ts t →
      IsSentence text (word (codes "rewrite") a ∷ tok (kind.sign implication) b ∷ (ts ++ (stop c ∷ [])))
      (made.refinement (made.rewrite t false))
  rewrite_backward : {ts : List Lexeme} {t : Expression} (a b c : Span) → IsEvidence ts t →
      IsSentence text (word (codes "rewrite") a ∷ sign token.BackArrow b ∷ (ts ++ (stop c ∷ []))) (made.refinement (made.rewrite t true))
  -- "unfold" name "." | "unfold" name "in" name "."
  unfold_goal : (x : Name) (a b : Span) → IsSentence text (word (codes "unfold") a ∷ spelled x ∷ stop b ∷ [])
      (made.refinement (made.unfold_in x None))
  unfold_hypothesis : (x y : Name) (a b c : Span) →
      IsSentence text (word (codes "unfold") a ∷ spelled x ∷ sign token.In b ∷ spelled y ∷ stop c ∷ [])
      (made.refinement (made.unfold_in x (Some y)))
  -- bullet | "{" | "}"
  bullet : (a : Span) → IsSentence text (sign token.Bullet a ∷ []) (bullet_at text a)
  brace_in : (a : Span) → IsSentence text (sign token.LeftBrace a ∷ []) made.brace_in
  brace_out : (a : Span) → IsSentence text (sign token.RightBrace a ∷ []) made.brace_out
