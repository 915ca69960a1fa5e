-- The words of the law on good closers.
use Rattle.std.specs.Prelude.{◌≡◌, ◌⊎◌, ℕ, List, [], ◌∷◌, ◌++◌, Ok}
use Rattle.line_theory.specs.Lists.{Every}
use Rattle.vern_grammar.specs.Trees.{Name, Expression}
use Rattle.vern_sentence.specs.Trees as made
use Rattle.vern_step.specs.Parsed.{parsed}
use Rattle.env_theory.specs.Declarations.{Declaration}
use Rattle.script_theory.specs.Sentences.{Script, empty}
use Rattle.step_theory.specs.Laws.{StatesWhatHolds}
use Rattle.doc_theory.specs.Documents.{qed, defined, Kind, begin, inner, close}
use Rattle.doc_theory.specs.Checks.{Judged}

-- it ends a proof that is to be whole
abbrev pub Finishes : Kind → Type 0
Finishes k = (k ≡ close qed) ⊎ (k ≡ close defined)

-- the state behind these sentences, which stand behind a state
abbrev pub state_from : Script → List (Judged Script) → Script
state_from s [] = s
state_from s (j ∷ js) = state_from j.state js

-- the state behind the first sentences of a document
abbrev pub state_at : List (Judged Script) → Script
state_at js = state_from empty js

-- these bytes are a lemma that is good over the environment, and what it states has a derivation there
abbrev pub IsProvedLemma : List Declaration → List ℕ → Type 0
IsProvedLemma E bytes = (x : Name) × (a : Expression) × (parsed bytes ≡ Ok (made.begin x a)) × StatesWhatHolds E x a

-- the last of these sentences are a lemma and inner ones, and what the lemma states has a derivation over the environment before it
pub record EndsInProof (js : List (Judged Script)) : Type 0 where
  pub before : List (Judged Script)
  pub first : Judged Script
  pub inside : List (Judged Script)
  pub parts : js ≡ before ++ (first ∷ inside)
  pub begins : first.mark.sentence.kind ≡ begin
  pub stays : Every (λ j. j.mark.sentence.kind ≡ inner) inside
  pub proved : IsProvedLemma (state_at before).env first.mark.sentence.text
