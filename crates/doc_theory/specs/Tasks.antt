-- What the table of tasks keeps, and what the results of tasks are.
use Rattle.std.specs.Prelude.{◌≡◌, ℕ, suc, ◌≤◌, ◌<◌, List, [], ◌∷◌, map}
use Rattle.line_theory.specs.Lists.{Every}
use Rattle.doc_theory.specs.Lists.{Member}
use Rattle.doc_theory.specs.Documents.{Document}
use Rattle.doc_theory.specs.Checks.{text_of, Check, Work, works, checked}
use Rattle.serapi_ans.specs.declared.line.Line.{Line}
use Rattle.serapi_ans.specs.declared.line.Line.TheVariants.{Feedback}
use Rattle.doc_theory.specs.Histories.{Row, Pair, Standing}
use Rattle.doc_theory.specs.Invariants.{Sound}

-- the lines that the check of a task gives
abbrev pub task_lines : {State : Type 0} → Check State → Work State → List Line
task_lines L w = map (λ t. Feedback t.id 1 (text_of t.verdict)) (checked L w)

-- a row's work is that of a block of the document as it is now, which is the row's block
abbrev pub IsLive : {State : Type 0} → Check State → Document → Row State → Type 0
IsLive L d r = Member r.work (works L d) × (r.block ≡ r.work.lemma)

-- the numbers of rows rise, from one number on, and are below another
abbrev pub Numbered : {State : Type 0} → ℕ → List (Row State) → ℕ → Type 0
Numbered lo [] hi = lo ≤ hi
Numbered lo (r ∷ rs) hi = (lo ≤ r.number) × Numbered (suc r.number) rs hi

-- a claim that is out has a number that was given, and while its row is there, the work of that row
abbrev pub IsClaim : {State : Type 0} → List (Row State) → ℕ → Pair State → Type 0
IsClaim {State} rows next q = (q.number < next) × ((r : Row State) → Member r rows → r.number ≡ q.number → r.work ≡ q.work)

-- what holds of each standing of a history
pub record Kept {State : Type 0} (L : Check State) (p : Standing State) : Type 0 where
  pub sound : Sound p.document
  pub rows : Every (IsLive L p.document) p.table.rows
  pub numbers : Numbered 0 p.table.rows p.table.next
  pub out : Every (IsClaim p.table.rows p.table.next) p.table.out
