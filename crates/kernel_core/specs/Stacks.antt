-- Sequents that wait to be shown, trees for them, and what a rule makes of the first.
use Rattle.std.specs.Prelude.{◌≡◌, ◌≤◌, ℕ, Bool, true, false, List, ◌++◌, length}
use Rattle.fol_theory.specs.Contexts.{variables, Sequent}
use Rattle.env_theory.specs.Declarations.{Declaration}
use Rattle.logic_theory.specs.Rules.{Rule, leaf, step, children, Asks, Every, Formed}

-- a sequent is well formed, and has at most so many variables
abbrev pub IsReady : List Declaration → ℕ → Sequent → Type 0
IsReady E n g = Formed E g × (length (variables g.context) ≤ n)

-- each of the sequents is
abbrev pub AreReady : List Declaration → ℕ → List Sequent → Type 0
AreReady E n gs = Every (IsReady E n) gs

-- What a rule makes of a sequent and those behind it. True: what it asks is so, and its children stand before them; false: what it asks
-- isn't so. An open leaf shows nothing.
abbrev pub TakesRule : List Declaration → Rule → Sequent → List Sequent → List Sequent → Bool → Type 0
TakesRule E (leaf ns) g old new b = b ≡ false
TakesRule E (step r) g old new true = Asks E r g.context g.goal × (new ≡ children r g.context g.goal ++ old)
TakesRule E (step r) g old new false = Asks E r g.context g.goal → ⊥
