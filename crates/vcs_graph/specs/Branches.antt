-- A branch that begins at an id: a block that is opened at the end, or a zone.
use Rattle.std.specs.Prelude.{◌≡◌, ℕ, ◌≤◌, true, false, Some}
use Rattle.line_theory.specs.Lists.{has}
use Rattle.line_theory.specs.Lines.{Line, ids, begun, zoned, refolded, AtEnd, Opens}
use Rattle.vcs_graph.specs.declared.graph.Branch.{Branch}
use Rattle.vcs_graph.specs.declared.graph.Branch.TheVariants.{Proof, Zone}
use Rattle.vcs_graph.specs.Blocks.{block_in}

-- a new id, and no block is open at the cursor; or an id of the opaque block with this lemma and this closer, where no other zone is open
abbrev pub Branches : ℕ → Branch → Line → Type 0
Branches i (Proof p) d = (p ≡ i) × ((2 ≤ i) × ((has i (ids d) ≡ false) × AtEnd d.focus))
Branches i (Zone s t) d = (has i (ids d) ≡ true) ×
    (Opens i d × (block_in i (refolded d) ≡ Some (record { start = s; stop = Some t; opaque = true })))

-- the line with the branch
abbrev pub branched : ℕ → Branch → Line → Line
branched i (Proof p) d = begun i d
branched i (Zone s t) d = zoned i d

-- the branch is a zone
abbrev pub IsZone : Branch → Type 0
IsZone (Proof p) = ⊥
IsZone (Zone s t) = Unit {0}
