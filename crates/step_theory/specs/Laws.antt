-- The words of the law on good closers of sentences that parsing gives.
use Rattle.std.specs.Prelude.{◌≡◌, ℕ, List, [], ◌∷◌, Ok}
use Rattle.fol_theory.specs.Syntax.{Formula}
use Rattle.vern_grammar.specs.Trees.{Name, Expression}
use Rattle.vern_sentence.specs.Trees.{Sentence}
use Rattle.vern_step.specs.Parsed.{parsed}
use Rattle.env_theory.specs.Declarations.{Declaration}
use Rattle.logic_theory.specs.Derivations.{Derives}
use Rattle.script_theory.specs.Sentences.{lemma}

-- some bytes are parsed as it
abbrev pub IsParsed : Sentence → Type 0
IsParsed t = (bytes : List ℕ) × (parsed bytes ≡ Ok t)

-- the same of each sentence of a list
abbrev pub AreParsed : List (ℕ × Sentence) → Type 0
AreParsed [] = Unit {0}
AreParsed (w ∷ ws) = IsParsed w.1 × AreParsed ws

-- a lemma of this name and expression is good over the environment, and what it states has a derivation there
abbrev pub StatesWhatHolds : List Declaration → Name → Expression → Type 0
StatesWhatHolds E x a = (w : List ℕ × Formula) × (lemma E x a ≡ Ok w) × Derives E [] [] w.1
