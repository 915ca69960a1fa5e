-- What the calls for normal forms answer.
use Rattle.std.specs.Prelude.{◌≡◌, ◌⊎◌, ℕ, List, ◌<◌, ◌≤◌, ◌^◌, min, Result, Ok, Err}
use Rattle.fol_theory.specs.Syntax.{Formula as Meaning, Term as TermMeaning}
use Rattle.fol_theory.specs.Measures.{nodes, height, term_nodes, term_height}
use Rattle.term_core.specs.Formula as formula
use Rattle.term_core.specs.Term as term
use Rattle.term_core.specs.declared.formula.Formula.{Formula}
use Rattle.term_core.specs.declared.term.Term.{Term}
use Rattle.env_theory.specs.Declarations.{Declaration}
use Rattle.env_theory.specs.Normal.{normal, normal_term}
use Rattle.conv_core.specs.declared.fault.NormalFault.{NormalFault}
use Rattle.conv_core.specs.declared.fault.NormalFault.TheVariants.{TooLarge, NoMemory}

-- so many nodes and such a height are within both limits
abbrev pub IsWithin : ℕ → ℕ → Type 0
IsWithin n h = (n ≤ 65536) × (h ≤ 1024)

-- one of them passes its limit
abbrev pub Passes : ℕ → ℕ → Type 0
Passes n h = (65536 < n) ⊎ (1024 < h)

-- the cause of a fault: one of the numbers passes, and both are told as far as 2 ^ 32
abbrev pub IsCause : ℕ → ℕ → NormalFault → Type 0
IsCause n h (TooLarge m k) = Passes n h × (m ≡ min n (2 ^ 32)) × (k ≡ min h (2 ^ 32))
IsCause n h NoMemory = Unit {0}

-- the normal form exactly where it is within both limits, else its nodes and its height; want of memory is free
abbrev pub IsNormal : List Declaration → Meaning → Result Formula NormalFault → Type 0
IsNormal E a (Ok n) = (formula.meaning n ≡ normal E a) × IsWithin (nodes (normal E a)) (height (normal E a))
IsNormal E a (Err f) = IsCause (nodes (normal E a)) (height (normal E a)) f

-- the same for a term
abbrev pub IsNormalTerm : List Declaration → TermMeaning → Result Term NormalFault → Type 0
IsNormalTerm E t (Ok n) = (term.meaning n ≡ normal_term E t) × IsWithin (term_nodes (normal_term E t)) (term_height (normal_term E t))
IsNormalTerm E t (Err f) = IsCause (term_nodes (normal_term E t)) (term_height (normal_term E t)) f
