-- How deep binders go in what is declared.
use Rattle.std.specs.Prelude.{ℕ, ◌+◌, List, [], ◌∷◌}
use Rattle.fol_theory.specs.Measures.{depth}
use Rattle.env_theory.specs.Declarations.{Declaration, sort, function, predicate, stated, term, formula}

-- the binders around a place of what a declaration puts in, at the most
abbrev pub binders_of : Declaration → ℕ
binders_of (sort n) = 0
binders_of (function n ss s) = 0
binders_of (predicate n ss) = 0
binders_of (stated n a) = 0
binders_of (term n ps s b) = 0
binders_of (formula n ps b) = depth b

-- those of all declarations, together
abbrev pub binders : List Declaration → ℕ
binders [] = 0
binders (d ∷ E) = binders_of d + binders E
