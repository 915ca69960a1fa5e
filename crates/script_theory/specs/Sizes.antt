-- The limits on formulas: nodes and height of a formula as it is written, and of its normal form.
use Rattle.std.specs.Prelude.{ℕ, min, Bool, ◌||◌, if◌then◌else◌, nat_lt, List, Option, Some, None}
use Rattle.fol_theory.specs.Syntax.{Term, Formula}
use Rattle.fol_theory.specs.Measures.{nodes, height, term_nodes, term_height}
use Rattle.env_theory.specs.Declarations.{Declaration, sort, function, predicate, stated, term, formula}
use Rattle.env_theory.specs.Normal.{normal, normal_term}

-- so many nodes are too many, or this height is too great
abbrev pub passes : ℕ → ℕ → Bool
passes n h = nat_lt 65536 n || nat_lt 1024 h

-- a number as it is told: 2^32 stands for itself and everything above
abbrev pub told : ℕ → ℕ
told n = min n 4294967296

-- these two numbers where they pass a limit, else what else is told
abbrev pub measured : ℕ → ℕ → Option (ℕ × ℕ) → Option (ℕ × ℕ)
measured n h other = if passes n h then Some (told n, told h) else other

-- what is told of a formula that is too large, or else of its normal form
abbrev pub large : List Declaration → Formula → Option (ℕ × ℕ)
large E a = measured (nodes a) (height a) (measured (nodes (normal E a)) (height (normal E a)) None)

-- the same of a term
abbrev pub large_term : List Declaration → Term → Option (ℕ × ℕ)
large_term E t = measured (term_nodes t) (term_height t) (measured (term_nodes (normal_term E t)) (term_height (normal_term E t)) None)

-- the same of what is declared: a Stated formula, or the body of a definition
abbrev pub large_declaration : List Declaration → Declaration → Option (ℕ × ℕ)
large_declaration E (sort n) = None
large_declaration E (function n ss s) = None
large_declaration E (predicate n ss) = None
large_declaration E (stated n a) = large E a
large_declaration E (term n ps s b) = large_term E b
large_declaration E (formula n ps b) = large E b
