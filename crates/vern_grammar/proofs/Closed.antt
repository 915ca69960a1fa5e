-- How far a quantifier reaches.
use Rattle.std.proofs.Common.{◌≡◌, ℕ, ◌<◌, ◌≤◌, inl, inr, List, arith}
use Rattle.vern_grammar.specs.Trees.{Operator, implication, equivalence, disjunction, conjunction, equation, inequation, Expression}
use Rattle.vern_grammar.specs.Kinds.{Lexeme}
use Rattle.vern_grammar.specs.Levels.{op_level, left_at_most, bare}
use Rattle.vern_grammar.specs.Grammar.{Head, operator, tilde, quantifier, level, room, before, Ends, IsOperand, constant, applied, enclosed}
use Rattle.vern_grammar.specs.Grammar.{governed, EndsBare, here, further, TakesItself}
use Rattle.vern_grammar.proofs.Runs.{op_below}

-- a head that the operator can't have on its left leaves room for it
roomy : (op : Operator) (h : Head) → TakesItself op → left_at_most op < level h → op_level op ≤ room h
roomy implication (operator implication a f) c l = omega arith
roomy disjunction (operator implication a f) c l = omega arith
roomy conjunction (operator implication a f) c l = omega arith
roomy op (quantifier b) c l = let h = op_below op in omega arith
roomy equivalence h c l = absurd (omega arith)
roomy equation h c l = absurd (omega arith)
roomy inequation h c l = absurd (omega arith)
roomy implication (operator equivalence a f) c l = omega arith
roomy implication (operator disjunction a f) c l = omega arith
roomy implication (operator conjunction a f) c l = omega arith
roomy implication (operator equation a f) c l = omega arith
roomy implication (operator inequation a f) c l = omega arith
roomy implication (tilde f) c l = omega arith
roomy disjunction (operator equivalence a f) c l = omega arith
roomy disjunction (operator disjunction a f) c l = omega arith
roomy disjunction (operator conjunction a f) c l = omega arith
roomy disjunction (operator equation a f) c l = omega arith
roomy disjunction (operator inequation a f) c l = omega arith
roomy disjunction (tilde f) c l = omega arith
roomy conjunction (operator equivalence a f) c l = omega arith
roomy conjunction (operator disjunction a f) c l = omega arith
roomy conjunction (operator conjunction a f) c l = omega arith
roomy conjunction (operator equation a f) c l = omega arith
roomy conjunction (operator inequation a f) c l = omega arith
roomy conjunction (tilde f) c l = omega arith

higher : (op : Operator) (n most : ℕ) → op_level op ≤ most → Ends (before op) n most → left_at_most op < n
higher op n most h (inl small) = omega arith
higher op n most h (inr high) = high

not_above : {n : ℕ} {op : Operator} {o : ℕ} {ts : List Lexeme} {a b : ℕ} {t : Expression} → IsOperand n (before op) o ts a b t
    → TakesItself op → left_at_most op < n → ⊥
not_above (constant v c) h l = omega arith
not_above (applied w) h l = omega arith
not_above (enclosed c d k e) h l = omega arith
not_above {op = op} (governed {n = m} {h = k} b f e r) h l = not_above r h (higher op m (room k) (roomy op k h l) e)

-- an operator that takes itself takes what stands before it on its left
pub taken : (op : Operator) {n o a b : ℕ} {ts : List Lexeme} {t : Expression} → TakesItself op → IsOperand n (before op) o ts a b t
    → n ≤ left_at_most op
taken op h e = let no = not_above e h in omega arith

-- and that doesn't end in a bare quantifier
pub closed : (op : Operator) {n o a b : ℕ} {ts : List Lexeme} {t : Expression} → TakesItself op → EndsBare n (before op) o ts a b t → ⊥
closed op h (here {n = n} b e r) = let l = op_below op in not_above r h (higher op n bare (omega arith) e)
closed op h (further b f e r) = closed op h r
