-- What the sentences of a batch show: those that have no fault, and those that have one.
use Rattle.std.specs.Prelude.{◌≡◌, ◌⊎◌, ℕ, List, [], ◌∷◌, ◌++◌}
use Rattle.vern_grammar.specs.Trees.{Name, Expression}
use Rattle.vern_sentence.specs.Trees.{Sentence, begin}
use Rattle.script_theory.specs.Sentences.{Verdict, misplaced, empty, state_behind}
use Rattle.script_theory.specs.Kept.{AreInner}
use Rattle.step_theory.specs.Laws.{StatesWhatHolds}

-- one of these faults is at the sentence with this id
abbrev pub HasFault : List (ℕ × Verdict) → ℕ → Type 0
HasFault [] id = ⊥
HasFault (w ∷ ws) id = (w.0 ≡ id) ⊎ HasFault ws id

-- the last of these sentences are a lemma and inner ones; the lemma is good, and what it states has a derivation over the environment
-- before it
pub record HasDerivation (sentences : List (ℕ × Sentence)) : Type 0 where
  pub before : List (ℕ × Sentence)
  pub id : ℕ
  pub name : Name
  pub statement : Expression
  pub inside : List (ℕ × Sentence)
  pub parts : sentences ≡ before ++ ((id, begin name statement) ∷ inside)
  pub stays : AreInner inside
  pub proved : StatesWhatHolds (state_behind before empty).env name statement

-- none of these faults is that a sentence is out of place
abbrev pub AreInPlace : List (ℕ × Verdict) → Type 0
AreInPlace [] = Unit {0}
AreInPlace (w ∷ ws) = (w.1 ≡ misplaced → ⊥) × AreInPlace ws
