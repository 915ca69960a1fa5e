-- Small scripts, computed.
use Rattle.std.proofs.Common.{◌≡◌, ℕ, List, [], ◌∷◌, codes, Some, refl}
use Rattle.vern_lex.specs.declared.span.Span.{Span}
use Rattle.vern_grammar.specs.Trees.{implication, Name, Expression, application, binary, Shape, prop}
use Rattle.vern_grammar.specs.Trees as tree
use Rattle.vern_sentence.specs.Trees.{qed, defined, admitted, Sentence, declare, begin, refinement, close}
use Rattle.vern_sentence.specs.Trees as sentence
use Rattle.fol_theory.specs.Syntax.{nil, pred, implies}
use Rattle.env_theory.specs.Declarations.{predicate, stated}
use Rattle.elab_theory.specs.Faults.{unknown_name}
use Rattle.tactic_theory.specs.Faults.{of_typing, cannot_match}
use Rattle.tactic_theory.specs.States.{row_fault, unfinished}
use Rattle.script_theory.specs.Sentences.{good, faulty, blocked, misplaced, empty, state_behind, verdicts}

abbrev at : ℕ → ℕ → Span
at m n = record { from = m; to = n }

abbrev name : List ℕ → ℕ → ℕ → Name
name x m n = record { text = x; span = at m n }

abbrev alone : List ℕ → ℕ → ℕ → Expression
alone x m n = application (name x m n) tree.nil (at m n)

abbrev A : List ℕ
A = codes "A"

abbrev B : List ℕ
B = codes "B"

abbrev c : List ℕ
c = codes "c"

abbrev h : List ℕ
h = codes "h"

-- Parameter A : Prop. Parameter B : Prop. Lemma c : A -> B.
-- intro h. exact h. Qed.: the hypothesis is another formula, and what follows is blocked, but the statement is kept
abbrev failed : List (ℕ × Sentence)
failed = (2, declare (name A 10 11) (prop (at 14 18))) ∷ (3, declare (name B 10 11) (prop (at 14 18)))
    ∷ (4, begin (name c 6 7) (binary implication (alone A 10 11) (alone B 15 16) (at 10 16)))
    ∷ (5, refinement (sentence.intro (Some (name h 6 7)))) ∷ (6, refinement (sentence.exact (alone h 6 7))) ∷ (7, close qed) ∷ []

failed_verdicts : verdicts failed empty
    ≡ (2, good) ∷ (3, good) ∷ (4, good) ∷ (5, good) ∷ (6, faulty (row_fault cannot_match)) ∷ (7, blocked 6) ∷ []
failed_verdicts = refl

kept_statement : (state_behind failed empty).env ≡ stated c (implies (pred A nil) (pred B nil)) ∷ predicate B [] ∷ predicate A [] ∷ []
kept_statement = refl

-- the same with Defined: nothing is added
abbrev not_defined : List (ℕ × Sentence)
not_defined = (2, declare (name A 10 11) (prop (at 14 18))) ∷ (4, begin (name c 6 7) (alone A 10 11)) ∷ (5, close defined) ∷ []

not_defined_verdicts : verdicts not_defined empty ≡ (2, good) ∷ (4, good) ∷ (5, faulty (unfinished 1)) ∷ []
not_defined_verdicts = refl

not_defined_env : (state_behind not_defined empty).env ≡ predicate A [] ∷ []
not_defined_env = refl

-- Lemma c : A -> A. intro h. exact h. Qed.: all is good
abbrev proved : List (ℕ × Sentence)
proved = (2, declare (name A 10 11) (prop (at 14 18)))
    ∷ (3, begin (name c 6 7) (binary implication (alone A 10 11) (alone A 15 16) (at 10 16)))
    ∷ (4, refinement (sentence.intro (Some (name h 6 7)))) ∷ (5, refinement (sentence.exact (alone h 6 7))) ∷ (6, close qed) ∷ []

proved_verdicts : verdicts proved empty ≡ (2, good) ∷ (3, good) ∷ (4, good) ∷ (5, good) ∷ (6, good) ∷ []
proved_verdicts = refl

-- Lemma c : B. over nothing: a failed lemma blocks its proof, and adds nothing
abbrev no_statement : List (ℕ × Sentence)
no_statement = (2, begin (name c 6 7) (alone B 10 11)) ∷ (3, close admitted) ∷ []

no_statement_verdicts : verdicts no_statement empty ≡ (2, faulty (row_fault (of_typing (unknown_name (at 10 11))))) ∷ (3, blocked 2) ∷ []
no_statement_verdicts = refl

no_statement_env : (state_behind no_statement empty).env ≡ []
no_statement_env = refl

-- a closer without a proof
out_of_place : verdicts ((2, close qed) ∷ []) empty ≡ (2, misplaced) ∷ []
out_of_place = refl
