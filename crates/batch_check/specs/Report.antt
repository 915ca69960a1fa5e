-- The text that is owed for a batch.
use Rattle.std.specs.Prelude.{ℕ, List, [], ◌∷◌, ◌++◌, reverse, codes, Option, Some, None}
use Rattle.std.specs.Fmt.{decimal}
use Rattle.env_theory.specs.Declarations.{Declaration}
use Rattle.script_theory.specs.Sentences.{Verdict}
use Rattle.step_theory.specs.Texts.{verdict_text, declaration_text, declared_names}
use Rattle.batch_check.specs.Batch.{Batch, batch, state_at_end, faults_of}
use Rattle.batch_check.specs.declared.stop.Stop.{Stop}
use Rattle.batch_check.specs.declared.stop.StopKind.{StopKind}
use Rattle.batch_check.specs.declared.stop.StopKind.TheVariants.{Parse, NoOpenProof, ProofOpen, TooMany}

-- a text and a line end
abbrev pub line : List ℕ → List ℕ
line text = text ++ (10 ∷ [])

-- a line for each element, by its text
abbrev pub lines_of : {A : Type 0} → (A → List ℕ) → List A → List ℕ
lines_of text [] = []
lines_of text (x ∷ xs) = line (text x) ++ lines_of text xs

-- the lines of an environment, the oldest declaration first
abbrev pub environment_lines : List Declaration → List ℕ
environment_lines E = lines_of (declaration_text (declared_names E)) (reverse E)

-- `fault ID: TEXT`
abbrev pub fault_text : ℕ × Verdict → List ℕ
fault_text w = codes "fault " ++ (decimal w.0 ++ (codes ": " ++ verdict_text w.1))

-- the name of a kind of stop
abbrev pub kind_text : StopKind → List ℕ
kind_text Parse = codes "Parse"
kind_text NoOpenProof = codes "NoOpenProof"
kind_text ProofOpen = codes "ProofOpen"
kind_text TooMany = codes "TooMany"

-- `stopped at P: KIND`
abbrev pub stop_text : Stop → List ℕ
stop_text s = codes "stopped at " ++ (decimal s.at ++ (codes ": " ++ kind_text s.kind))

-- the line of a stop, if there is one
abbrev pub stop_lines : Option Stop → List ℕ
stop_lines None = []
stop_lines (Some s) = line (stop_text s)

-- the lines of an environment, of faults and of a stop
abbrev pub report : List Declaration → List (ℕ × Verdict) → Option Stop → List ℕ
report E vs s = environment_lines E ++ (lines_of fault_text vs ++ stop_lines s)

-- the text that is owed for a batch
abbrev pub batch_text : Batch → List ℕ
batch_text b = report (state_at_end b).env (faults_of b) b.stop

-- the text that is owed for a text
abbrev pub owed : List ℕ → List ℕ
owed text = batch_text (batch text)
