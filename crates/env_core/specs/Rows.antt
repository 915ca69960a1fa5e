-- Rows: what is kept of a definition, as a summary tells it and as the theory counts it.
use Rattle.std.specs.Prelude.{◌≡◌, ℕ, List, [], slice_index_or, Option, Some, None}
use Rattle.env_theory.specs.Count.{Row, Table, by_nodes, by_height, table, upto}
use Rattle.env_core.specs.declared.declaration.Decl.{Decl}
use Rattle.env_core.specs.declared.tally.Tally.{Tally}
use Rattle.env_core.specs.declared.summary.Summary.{Summary}
use Rattle.env_core.specs.Meaning.{declarations}

-- how often a variable stands in a body; one that doesn't stand there counts 0
abbrev pub nodes_at : List Tally → ℕ → ℕ
nodes_at us k = Tally.nodes (slice_index_or us k (record { nodes = 0; height = 0 }))

-- how deep it stands there
abbrev pub height_at : List Tally → ℕ → ℕ
height_at us k = Tally.height (slice_index_or us k (record { nodes = 0; height = 0 }))

-- the nodes that a summary tells; a row's name is left open
abbrev pub nodes_row : Summary → Row
nodes_row s = record { name = []; own = s.own.nodes; uses = nodes_at s.uses.items }

-- the heights that it tells
abbrev pub height_row : Summary → Row
height_row s = record { name = []; own = s.own.height; uses = height_at s.uses.items }

-- two rows are equal as far as 2 ^ 32, names aside
abbrev pub IsRow : Row → Row → Type 0
IsRow r q = (upto r.own ≡ upto q.own) × ((k : ℕ) → upto (r.uses k) ≡ upto (q.uses k))

-- both are there and equal so, or none is
abbrev pub SameRow : Option Row → Option Row → Type 0
SameRow None None = Unit {0}
SameRow None (Some q) = ⊥
SameRow (Some r) None = ⊥
SameRow (Some r) (Some q) = IsRow r q

-- the table of an environment by nodes
abbrev pub nodes_table : List Decl → Table
nodes_table E = table by_nodes (declarations E)

-- the same by height
abbrev pub height_table : List Decl → Table
height_table E = table by_height (declarations E)

-- the rows of its functions by nodes
abbrev pub nodes_rows : List Decl → List Row
nodes_rows E = Table.functions (nodes_table E)

-- the same by height
abbrev pub height_rows : List Decl → List Row
height_rows E = Table.functions (height_table E)
