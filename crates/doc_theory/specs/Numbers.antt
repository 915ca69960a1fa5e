-- How many rows are posted: no more than the sentences that were removed and the rows that are there, and so no more than the ids given.
use Rattle.std.specs.Prelude.{◌+◌, ◌≤◌, length}
use Rattle.line_theory.specs.Lists.{Distinct}
use Rattle.doc_theory.specs.Documents.{live}
use Rattle.doc_theory.specs.Histories.{blocks, IsGoing, Standing}

pub record Counted {State : Type 0} (p : Standing State) : Type 0 where
  -- until the end, which takes all rows
  pub posted : IsGoing p.mode → p.table.next + (2 + length (live p.document)) ≤ p.document.next + length p.table.rows
  -- ids are given from 2 on
  pub fewer : p.table.next + 2 ≤ p.document.next
  -- a block has at most one row
  pub apart : Distinct (blocks p.table.rows)
