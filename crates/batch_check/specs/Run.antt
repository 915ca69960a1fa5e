-- Where a check stands between two sentences.
use Rattle.std.specs.Prelude.{◌≡◌, ℕ, List, [], ◌∷◌, ◌++◌, map, Option, Some, Result, Ok, Err}
use Rattle.vern_lex.specs.declared.span.Span.{Span}
use Rattle.vern_sentence.specs.Trees.{Sentence}
use Rattle.vern_parse.specs.declared.fault.ParseFault.{ParseFault}
use Rattle.vern_parse.specs.declared.fault.ParseFault.TheVariants.{At, NoMemory}
use Rattle.vern_step.specs.Parsed.{parsed}
use Rattle.script_theory.specs.Sentences.{Verdict, Script, empty, state_behind, verdicts}
use Rattle.step_core.specs.Standing.{is_open, state_of}
use Rattle.step_core.specs.Verdicts.{verdict_of}
use Rattle.batch_check.specs.Batch.{Piece, piece, unread, Batch, batch_from, bad_ones}
use Rattle.batch_check.specs.Report.{report}
use Rattle.batch_check.specs.declared.stop.Stop.{Stop}
use Rattle.batch_check.specs.declared.checked.FaultLine.{FaultLine}
use Rattle.batch_check.specs.declared.checked.Checked.{Checked}
use Rattle.batch_check.specs.declared.run.Run.{Run}
use Rattle.batch_check.specs.declared.run.Step.{Step}
use Rattle.batch_check.specs.declared.run.Step.TheVariants.{On, Stopped}

-- what is found: the state behind the sentences, their faults, and the stop
pub record Findings : Type 0 where
  pub state : Script
  pub faults : List (ℕ × Verdict)
  pub stop : Option Stop

-- a state, behind so many sentences, with the faults so far
pub record Progress : Type 0 where
  pub state : Script
  pub faults : List (ℕ × Verdict)
  pub count : ℕ

-- the beginning
abbrev pub begun : Progress
begun = record { state = empty; faults = []; count = 0 }

-- what is found behind sentences that go on with a batch
abbrev pub found_with : Progress → Batch → Findings
found_with r b =
    record { state = state_behind b.sentences r.state; faults = r.faults ++ bad_ones (verdicts b.sentences r.state); stop = b.stop }

-- what is found where pieces follow
abbrev pub found : Progress → List Piece → Findings
found r ps = found_with r (batch_from r.count (is_open r.state) ps)

-- what is found where checking ends here
abbrev pub found_here : Progress → Option Stop → Findings
found_here r s = record { state = r.state; faults = r.faults; stop = s }

-- the fault that a line of the code stands for
abbrev pub fault_in : FaultLine → ℕ × Verdict
fault_in f = (f.id, verdict_of f.verdict)

-- the progress that a run stands for
abbrev pub progress_of : Run → Progress
progress_of r = record { state = state_of r.state; faults = map fault_in r.faults.items; count = r.count }

-- what was found
abbrev pub findings_of : Checked → Findings
findings_of c = record { state = state_of c.state; faults = map fault_in c.faults.items; stop = c.stop }

-- a span of a text is taken: the run goes on, whatever pieces follow; or it ends there with a stop
abbrev pub Takes : Run → Piece → Step → Type 0
Takes before p (On after) = (ps : List Piece) → found (progress_of before) (p ∷ ps) ≡ found (progress_of after) ps
Takes before p (Stopped after s) = (ps : List Piece) → found (progress_of before) (p ∷ ps) ≡ found_here (progress_of after) (Some s)

-- what was found of a text is its batch's: the state behind its sentences, its faults, and its stop
abbrev pub IsFound : Checked → Batch → Type 0
IsFound c b = findings_of c ≡ found_with begun b

-- the sentence of a piece was read, or its fault, counted from the first byte of the text, or want of memory told
abbrev pub IsReadAs : Result (List ℕ) ParseFault → Piece → Span → Type 0
IsReadAs (Ok bytes) p span = (x : Sentence) × (parsed bytes ≡ Ok x) × (p ≡ piece span.from x)
IsReadAs (Err (At offset)) p span = p ≡ unread offset
IsReadAs (Err NoMemory) p span = Unit {0}

-- the text that is owed for what is found
abbrev pub report_of : Findings → List ℕ
report_of f = report f.state.env f.faults f.stop
