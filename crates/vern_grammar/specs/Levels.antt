-- How tightly expressions bind. An operand of a lower level binds tighter; names, constants, applications and parentheses have level 0.
use Rattle.std.specs.Prelude.{ℕ}
use Rattle.vern_grammar.specs.Trees.{Operator, implication, equivalence, disjunction, conjunction, equation, inequation}

-- the level of an operator, and the most that its operands have on the left and on the right:
--
-- | `->`       | 99 | 98 | 99 |
-- | `<->`      | 95 | 94 | 94 |
-- | `\/`       | 85 | 84 | 85 |
-- | `/\`       | 80 | 79 | 80 |
-- | `=`, `<>`  | 70 | 69 | 69 |
abbrev pub op_level : Operator → ℕ
op_level implication = 99
op_level equivalence = 95
op_level disjunction = 85
op_level conjunction = 80
op_level equation = 70
op_level inequation = 70

-- the most level of a left operand
abbrev pub left_at_most : Operator → ℕ
left_at_most implication = 98
left_at_most equivalence = 94
left_at_most disjunction = 84
left_at_most conjunction = 79
left_at_most equation = 69
left_at_most inequation = 69

-- the most level of a right operand, but for a quantifier
abbrev pub right_at_most : Operator → ℕ
right_at_most implication = 99
right_at_most equivalence = 94
right_at_most disjunction = 85
right_at_most conjunction = 80
right_at_most equation = 69
right_at_most inequation = 69

-- `~`, and the most that its operand has
abbrev pub tilde_level : ℕ
tilde_level = 75

-- a quantifier that stands without parentheses
abbrev pub bare : ℕ
bare = 100

-- the most of an operand of a shape
abbrev pub outer : ℕ
outer = 98

-- the most openings that are open at one token
abbrev pub limit : ℕ
limit = 256
