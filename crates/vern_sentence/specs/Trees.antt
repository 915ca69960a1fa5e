-- The trees of sentences.
use Rattle.std.specs.Prelude.{ℕ, Bool, List, Option}
use Rattle.vern_grammar.specs.Trees.{Name, Group, Expression, Shape}

-- how a proof is closed
pub data Closer : Type 0 where
  qed defined admitted abort : Closer

-- A refinement sentence. `intros.` has no names; `destruct_both` is the form `[a b]`, `destruct_either` the form `[a | b]`, and
-- `destruct_none` the
-- form without `as`; the flag of `rewrite` is true for `<-`; `by_hypothesis` is the sentence `assumption.`.
pub data Refinement : Type 0 where
  intro : Option Name → Refinement
  intros : List Name → Refinement
  exact : Expression → Refinement
  by_hypothesis : Refinement
  apply : Expression → Refinement
  split left right : Refinement
  exists : Expression → Refinement
  destruct_both destruct_either : Expression → Name → Name → Refinement
  destruct_none : Expression → Refinement
  exfalso : Refinement
  assert : Name → Expression → Refinement
  clear : Name → Refinement
  reflexivity symmetry : Refinement
  rewrite : Expression → Bool → Refinement
  unfold_in : Name → Option Name → Refinement

-- A sentence. The third part of a definition is its sort, or none for `Prop`; a bullet has its byte and how often it stands.
pub data Sentence : Type 0 where
  declare : Name → Shape → Sentence
  define : Name → List Group → Option Name → Expression → Sentence
  begin : Name → Expression → Sentence
  proof_word : Sentence
  refinement : Refinement → Sentence
  bullet : ℕ → ℕ → Sentence
  brace_in brace_out : Sentence
  close : Closer → Sentence
