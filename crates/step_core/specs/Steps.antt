-- What the parts of a check come to.
use Rattle.std.specs.Prelude.{◌≡◌, ℕ, Bool, true, false, List, Option, Some, None, option_map, Result, Err}
use Rattle.fol_theory.specs.Syntax.{Formula}
use Rattle.fol_theory.specs.Measures.{nodes, height, term_nodes, term_height}
use Rattle.vern_sentence.specs.Trees.{Closer, qed, defined, admitted, abort, Sentence, declare, define, begin, proof_word, refinement, bullet, brace_in, brace_out, close}
use Rattle.vern_sentence.specs.Trees as sentence
use Rattle.env_theory.specs.Declarations.{Declaration, sort, function, predicate, stated, term, formula, find, name_of}
use Rattle.env_theory.specs.Typing.{Declares}
use Rattle.env_theory.specs.Normal.{normal, normal_term}
use Rattle.base_core.specs.Answers.{and_then}
use Rattle.elab_theory.specs.Faults.{Fault as TypingFault}
use Rattle.tactic_theory.specs.States.{State, StepFault, bad_bullet, Inner, proof, open_brace, close_brace, by_bullet, inner_of, run_one}
use Rattle.tactic_theory.specs.Typing.{typed}
use Rattle.script_theory.specs.Sizes.{measured, large, large_declaration}
use Rattle.script_theory.specs.Sentences.{Verdict, good, faulty, blocked, misplaced, Open, opened, Script, script, sized, from_elaboration, bytes_of, with_statement, closing_verdict}
use Rattle.script_theory.specs.Sentences as check
use Rattle.step_core.specs.Standing.{statement_in}

-- ---- declarations and lemmas

-- what a declaration or a definition declares, or its fault; of other sentences nothing is said
abbrev pub declared_by : List Declaration → Sentence → Result Declaration StepFault
declared_by E (declare x y) = check.declaration E x y
declared_by E (define x gs r a) = check.definition E x gs r a
declared_by E (begin x a) = Err bad_bullet
declared_by E proof_word = Err bad_bullet
declared_by E (refinement r) = Err bad_bullet
declared_by E (bullet b k) = Err bad_bullet
declared_by E brace_in = Err bad_bullet
declared_by E brace_out = Err bad_bullet
declared_by E (close k) = Err bad_bullet

-- what was typed, if nothing in it is too large
abbrev pub within : List Declaration → Result Declaration TypingFault → Result Declaration StepFault
within E w = and_then (from_elaboration w) (λ d. sized (large_declaration E d) d)

-- the two numbers of the normal form of what is declared, where one passes a limit
abbrev pub normal_excess : List Declaration → Declaration → Option (ℕ × ℕ)
normal_excess E (sort n) = None
normal_excess E (function n ss s) = None
normal_excess E (predicate n ss) = None
normal_excess E (stated n a) = measured (nodes (normal E a)) (height (normal E a)) None
normal_excess E (term n ps s b) = measured (term_nodes (normal_term E b)) (term_height (normal_term E b)) None
normal_excess E (formula n ps b) = measured (nodes (normal E b)) (height (normal E b)) None

-- it has a new name, and is well formed
abbrev pub IsNew : List Declaration → Declaration → Type 0
IsNew E d = (find E (name_of d) ≡ None) × Declares E d

-- what a lemma states, or its fault; of other sentences nothing is said
abbrev pub stated_by : List Declaration → Sentence → Result (List ℕ × Formula) StepFault
stated_by E (begin x a) = check.lemma E x a
stated_by E (declare x y) = Err bad_bullet
stated_by E (define x gs r a) = Err bad_bullet
stated_by E proof_word = Err bad_bullet
stated_by E (refinement r) = Err bad_bullet
stated_by E (bullet b k) = Err bad_bullet
stated_by E brace_in = Err bad_bullet
stated_by E brace_out = Err bad_bullet
stated_by E (close k) = Err bad_bullet

-- ---- sentences within a proof

-- what an inner sentence is; of other sentences nothing is said
abbrev pub step_of : Sentence → Inner sentence.Refinement
step_of (refinement r) = inner_of r
step_of (bullet b k) = by_bullet (bytes_of k b)
step_of brace_in = open_brace
step_of brace_out = close_brace
step_of proof_word = proof
step_of (declare x y) = proof
step_of (define x gs r a) = proof
step_of (begin x a) = proof
step_of (close k) = proof

-- the state of a proof behind an inner sentence, or its fault
abbrev pub stepped : List Declaration → Sentence → State → Result State StepFault
stepped E t s = run_one (large E) (typed E) E (step_of t) s

-- the same in an open proof
abbrev pub next_in : List Declaration → Option Open → Sentence → Result State StepFault
next_in E None t = Err bad_bullet
next_in E (Some o) t = stepped E t o.goals

-- the same of a state
abbrev pub next : Script → Sentence → Result State StepFault
next s t = next_in s.env s.proof t

-- with these goals
abbrev pub with_goals : State → Script → Script
with_goals g s = script s.env (option_map (λ o. opened o.statement g o.fault) s.proof)

-- with its first fault at this id
abbrev pub with_fault : ℕ → Script → Script
with_fault id s = script s.env (option_map (λ o. opened o.statement o.goals (Some id)) s.proof)

-- ---- closers

-- what is found about a closer in an open proof
abbrev pub closing_in : Closer → Option Open → Verdict
closing_in k None = misplaced
closing_in k (Some o) = closing_verdict k o.goals o.fault

-- the sentence is good
abbrev pub is_good : Verdict → Bool
is_good good = true
is_good (faulty e) = false
is_good (blocked id) = false
is_good misplaced = false

-- a closer of which this is found adds the statement
abbrev pub adds : Closer → Verdict → Bool
adds qed v = true
adds defined v = is_good v
adds admitted v = true
adds abort v = false

-- no proof is open any more, and the statement is added if there is one and it is to be added
abbrev pub ended : Bool → Script → Script
ended true s = script (with_statement s.env (statement_in s.proof)) None
ended false s = script s.env None

-- the declaration that is added then
abbrev pub addition : Bool → Option (List ℕ × Formula) → Option Declaration
addition true None = None
addition true (Some w) = Some (stated w.0 w.1)
addition false o = None
