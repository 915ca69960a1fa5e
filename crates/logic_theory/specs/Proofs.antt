-- Trees that are proofs: they follow the rules, and no leaf is open.
use Rattle.std.specs.Prelude.{◌≡◌, List, [], ◌∷◌}
use Rattle.fol_theory.specs.Contexts.{Sequent}
use Rattle.env_theory.specs.Declarations.{Declaration}
use Rattle.logic_theory.specs.Rules.{Rule, leaves, Follows}

-- the rules are trees, one for each sequent in order, with no open leaf
abbrev pub Proves : List Declaration → List Rule → List Sequent → Type 0
Proves E rs gs = Follows E rs gs × (leaves rs gs ≡ [])

-- the rules are one whole tree for the sequent, with no open leaf
abbrev pub IsProof : List Declaration → List Rule → Sequent → Type 0
IsProof E rs g = Proves E rs (g ∷ [])
