-- One sentence after another: the environment, an open proof, and a verdict for each sentence.
use Rattle.std.specs.Prelude.{ℕ, List, [], ◌∷◌, zero, suc, Option, Some, None, Result, Ok, Err}
use Rattle.fol_theory.specs.Syntax.{Formula}
use Rattle.vern_grammar.specs.Trees.{Name, Group, Expression, Shape}
use Rattle.vern_sentence.specs.Trees.{Closer, qed, defined, admitted, abort, Sentence, declare, define, begin, proof_word, refinement, bullet, brace_in, brace_out, close}
use Rattle.vern_sentence.specs.Trees as sentence
use Rattle.env_theory.specs.Declarations.{Declaration, stated}
use Rattle.base_core.specs.Answers.{and_then}
use Rattle.elab_theory.specs.Faults.{Fault as TypingFault}
use Rattle.elab_theory.specs.Sentences.{declaration_of, definition_of, statement_of}
use Rattle.tactic_theory.specs.Faults.{of_typing, too_large}
use Rattle.tactic_theory.specs.Typing.{typed}
use Rattle.tactic_theory.specs.States.{State, StepFault, row_fault, Inner, proof, open_brace, close_brace, by_bullet, inner_of, run_one}
use Rattle.tactic_theory.specs.States as states
use Rattle.script_theory.specs.Sizes.{large, large_declaration}

-- what is found about a sentence
pub data Verdict : Type 0 where
  good : Verdict
  faulty : StepFault → Verdict
  -- the first fault of the proof is at the sentence with this id
  blocked : ℕ → Verdict
  -- no proof is open where one is asked, or the other way round
  misplaced : Verdict

-- an open proof: its statement with its name, if its lemma was good; its goals; the id of its first fault, if it has one
pub record Open : Type 0 where
  pub statement : Option (List ℕ × Formula)
  pub goals : State
  pub fault : Option ℕ

-- the environment, and the open proof if there is one
pub record Script : Type 0 where
  pub env : List Declaration
  pub proof : Option Open

-- a state from its parts
abbrev pub script : List Declaration → Option Open → Script
script E o = record { env = E; proof = o }

-- an open proof from its parts
abbrev pub opened : Option (List ℕ × Formula) → State → Option ℕ → Open
opened a s f = record { statement = a; goals = s; fault = f }

-- the beginning
abbrev pub empty : Script
empty = script [] None

-- ---- what a sentence declares or begins

-- what is made, if nothing in it is too large
abbrev pub sized : {X : Type 0} → Option (ℕ × ℕ) → X → Result X StepFault
sized None x = Ok x
sized (Some w) x = Err (row_fault (too_large w.0 w.1))

-- a fault of typing is one of the sentence
abbrev pub from_elaboration : {X : Type 0} → Result X TypingFault → Result X StepFault
from_elaboration (Ok x) = Ok x
from_elaboration (Err e) = Err (row_fault (of_typing e))

-- a Parameter or an Axiom
abbrev pub declaration : List Declaration → Name → Shape → Result Declaration StepFault
declaration E x y = and_then (from_elaboration (declaration_of E x y)) (λ d. sized (large_declaration E d) d)

-- a Definition
abbrev pub definition : List Declaration → Name → List Group → Option Name → Expression → Result Declaration StepFault
definition E x gs r a = and_then (from_elaboration (definition_of E x gs r a)) (λ d. sized (large_declaration E d) d)

-- a Lemma or a Theorem: its name and its statement
abbrev pub lemma : List Declaration → Name → Expression → Result (List ℕ × Formula) StepFault
lemma E x a = and_then (from_elaboration (statement_of E x a)) (λ b. sized (large E b) (x.text, b))

-- the bytes of a bullet: one byte so many times
abbrev pub bytes_of : ℕ → ℕ → List ℕ
bytes_of zero b = []
bytes_of (suc k) b = b ∷ bytes_of k b

-- ---- one sentence

-- a declaration is added exactly where it is good
abbrev pub declared : List Declaration → Result Declaration StepFault → Script × Verdict
declared E (Ok d) = (script (d ∷ E) None, good)
declared E (Err e) = (script E None, faulty e)

-- a proof is open; where its lemma is faulty it has no statement, and its first fault is there
abbrev pub begun : ℕ → List Declaration → Result (List ℕ × Formula) StepFault → Script × Verdict
begun id E (Ok w) = (script E (Some (opened (Some w) (states.begin w.1) None)), good)
begun id E (Err e) = (script E (Some (opened None (states.state [] []) (Some id))), faulty e)

-- the next goals; at a fault the goals stay, and the first fault is there
abbrev pub stepped : ℕ → List Declaration → Open → Result State StepFault → Script × Verdict
stepped id E o (Ok s) = (script E (Some (opened o.statement s None)), good)
stepped id E o (Err e) = (script E (Some (opened o.statement o.goals (Some id))), faulty e)

-- the statement is added exactly where there is one
abbrev pub with_statement : List Declaration → Option (List ℕ × Formula) → List Declaration
with_statement E None = E
with_statement E (Some w) = stated w.0 w.1 ∷ E

-- a Qed is good where no goal and no brace is left
abbrev pub qed_verdict : Result State StepFault → Verdict
qed_verdict (Ok s) = good
qed_verdict (Err e) = faulty e

-- the statement is added exactly where all went well
abbrev pub if_good : List Declaration → Option (List ℕ × Formula) → Verdict → List Declaration
if_good E a good = with_statement E a
if_good E a (faulty e) = E
if_good E a (blocked f) = E
if_good E a misplaced = E

-- what is found about a closer
abbrev pub closing_verdict : Closer → State → Option ℕ → Verdict
closing_verdict k s (Some f) = blocked f
closing_verdict qed s None = qed_verdict (states.qed s)
closing_verdict defined s None = qed_verdict (states.qed s)
closing_verdict admitted s None = good
closing_verdict abort s None = good

-- the environment behind a closer: a failed Qed keeps its statement
abbrev pub closed_env : Closer → List Declaration → Option (List ℕ × Formula) → Verdict → List Declaration
closed_env qed E a v = with_statement E a
closed_env defined E a v = if_good E a v
closed_env admitted E a v = with_statement E a
closed_env abort E a v = E

-- no proof is open any more
abbrev pub closed : Closer → List Declaration → Open → Script × Verdict
closed k E o = (script (closed_env k E o.statement (closing_verdict k o.goals o.fault)) None, closing_verdict k o.goals o.fault)

-- an inner sentence, by whether the proof has a fault
abbrev pub inner_at : ℕ → List Declaration → Open → Option ℕ → Inner sentence.Refinement → Script × Verdict
inner_at id E o (Some f) x = (script E (Some o), blocked f)
inner_at id E o None x = stepped id E o (run_one (large E) (typed E) E x o.goals)

-- a sentence, by whether a proof is open
abbrev pub one_at : ℕ → List Declaration → Option Open → Sentence → Script × Verdict
one_at id E None (declare x y) = declared E (declaration E x y)
one_at id E None (define x gs r a) = declared E (definition E x gs r a)
one_at id E None (begin x a) = begun id E (lemma E x a)
one_at id E (Some o) proof_word = inner_at id E o o.fault proof
one_at id E (Some o) (refinement r) = inner_at id E o o.fault (inner_of r)
one_at id E (Some o) (bullet b k) = inner_at id E o o.fault (by_bullet (bytes_of k b))
one_at id E (Some o) brace_in = inner_at id E o o.fault open_brace
one_at id E (Some o) brace_out = inner_at id E o o.fault close_brace
one_at id E (Some o) (close k) = closed k E o
one_at id E o x = (script E o, misplaced)

-- one sentence: the next state and the verdict
abbrev pub one : Script → ℕ → Sentence → Script × Verdict
one s id x = one_at id s.env s.proof x

-- the state behind the sentences, each with its id
abbrev pub state_behind : List (ℕ × Sentence) → Script → Script
state_behind [] s = s
state_behind (w ∷ ws) s = state_behind ws (one s w.0 w.1).0

-- the verdicts of the sentences, each with its id
abbrev pub verdicts : List (ℕ × Sentence) → Script → List (ℕ × Verdict)
verdicts [] s = []
verdicts (w ∷ ws) s = (w.0, (one s w.0 w.1).1) ∷ verdicts ws (one s w.0 w.1).0

-- the state behind a proof that isn't checked: its closer alone, which adds the statement as if all had gone well
abbrev pub skipped_env : Closer → List Declaration → Option (List ℕ × Formula) → List Declaration
skipped_env qed E a = with_statement E a
skipped_env defined E a = E
skipped_env admitted E a = with_statement E a
skipped_env abort E a = E

abbrev pub skipped : Closer → List Declaration → Option Open → Script
skipped k E None = script E None
skipped k E (Some o) = script (skipped_env k E o.statement) None

-- the same of a state
abbrev pub skip : Script → Closer → Script
skip s k = skipped k s.env s.proof
