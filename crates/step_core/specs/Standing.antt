-- What checking a sentence comes to.
use Rattle.std.specs.Prelude.{◌≡◌, ℕ, Bool, true, false, List, Option, Some, None, is_some, option_map, Ok}
use Rattle.fol_theory.specs.Syntax.{Formula}
use Rattle.vern_sentence.specs.Trees.{Sentence}
use Rattle.vern_step.specs.declared.kind.Kind.{Kind}
use Rattle.vern_step.specs.declared.kind.Kind.TheVariants.{Plain, Begin, Inner, Close}
use Rattle.vern_step.specs.Parsed.{parsed}
use Rattle.env_core.specs.Meaning.{declarations}
use Rattle.script_theory.specs.Sentences.{Open, Script, script, one}
use Rattle.step_core.specs.declared.standing.Standing0.{Standing0}
use Rattle.step_core.specs.declared.verdict.Verdict.{Verdict}
use Rattle.step_core.specs.Proofs.{open_of}
use Rattle.step_core.specs.Verdicts.{verdict_of}

-- the state that one stands for
abbrev pub state_of : Standing0 → Script
state_of s = script (declarations s.env) (option_map open_of s.proof)

-- a proof is open
abbrev pub is_open : Script → Bool
is_open s = is_some s.proof

-- a sentence of this kind stands within a proof or ends it
abbrev pub is_within : Kind → Bool
is_within Plain = false
is_within Begin = false
is_within Inner = true
is_within (Close c) = true

-- the sentence of these bytes, checked in the first state with this id, leaves the second and has this verdict
abbrev pub Finds : Standing0 → ℕ → List ℕ → Standing0 → Verdict → Type 0
Finds before id bytes after v = (t : Sentence) × (parsed bytes ≡ Ok t) × (one (state_of before) id t ≡ (state_of after, verdict_of v))

-- the statement of an open proof, if it has one
abbrev pub statement_in : Option Open → Option (List ℕ × Formula)
statement_in None = None
statement_in (Some o) = o.statement

-- the formula of the statement of the open proof
abbrev pub statement : Script → Option Formula
statement s = option_map (λ w. w.1) (statement_in s.proof)

-- the id of an open proof's first fault, if it has one
abbrev pub fault_in : Option Open → Option ℕ
fault_in None = None
fault_in (Some o) = o.fault

-- the same of a state
abbrev pub first_fault : Script → Option ℕ
first_fault s = fault_in s.proof
