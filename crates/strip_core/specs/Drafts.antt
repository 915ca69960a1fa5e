-- What is left of a formula while it is stripped, and what it is matched with.
use Rattle.std.specs.Prelude.{◌≡◌, ◌≤◌, ◌-◌, ◌^◌, ◌++◌, ℕ, true, false, List, length, map, min, reverse, Some, None}
use Rattle.std.specs.List.{All}
use Rattle.fol_theory.specs.Measures.{nodes, height}
use Rattle.fol_theory.specs.Substitution.{shift}
use Rattle.fol_theory.specs.Syntax as theory
use Rattle.env_theory.specs.Declarations.{Declaration}
use Rattle.env_theory.specs.Normal.{normal}
use Rattle.env_theory.specs.Typing.{WellFormed}
use Rattle.tactic_theory.specs.Strips as strips
use Rattle.term_core.specs.Formula.{meaning}
use Rattle.strip_core.specs.declared.draft.Draft.{Draft}
use Rattle.strip_core.specs.declared.draft.Head.{Head}
use Rattle.strip_core.specs.declared.draft.Head.TheVariants.{Strip, Equation, Other}
use Rattle.strip_core.specs.declared.draft.Premise.{Premise}
use Rattle.strip_core.specs.declared.target.Target.{Target}

-- a premise, as it stands under so many open variables
abbrev pub premise_of : ℕ → Premise → theory.Formula
premise_of n p = shift 0 (n - p.opened) (meaning p.formula)

-- what is left, which has the sorts of the open variables the newest first
abbrev pub drafted : Draft → strips.Strip
drafted d = strips.strip (reverse d.sorts.items) (map (premise_of (length d.sorts.items)) d.premises.items) (meaning d.rest)

-- as many variables were open as now, or fewer, where each premise was taken off
abbrev pub AreOlder : Draft → Type 0
AreOlder d = All (λ p. p.opened ≤ length d.sorts.items) d.premises.items

-- what is left is well formed over its open variables and a context of at most so many
abbrev pub Stands : List Declaration → ℕ → strips.Strip → Type 0
Stands E n s = (V : List (List ℕ)) × (length V ≤ n) × WellFormed E (s.sorts ++ V) s.rest × All (WellFormed E (s.sorts ++ V)) s.premises

-- the size is that of the formula, as far as it is counted
abbrev pub IsMeasured : Target → Type 0
IsMeasured t = (t.size.nodes ≡ min (nodes (meaning t.formula)) (2 ^ 32)) × (t.size.height ≡ min (height (meaning t.formula)) (2 ^ 32))

-- f of all strips of a formula is that of the strips from this one on, of which there are no fewer than nodes of what is left
abbrev pub Comes : {X : Type 0} → (List strips.Strip → X) → List Declaration → theory.Formula → strips.Strip → Type 0
Comes f E a s = (k : ℕ) × (nodes (normal E s.rest) ≤ k) × (f (strips.strips k E s) ≡ f (strips.all_strips E a))

-- What the head form of what is left makes of it: one strip more; an equation or another formula, and it stays.
abbrev pub Turns : strips.Strip → strips.Strip → theory.Formula → Head → Type 0
Turns s t h Strip = (strips.strip_form s h ≡ Some t) × (strips.is_equation h ≡ false)
Turns s t h Equation = (strips.strip_form s h ≡ None) × (strips.is_equation h ≡ true) × (t ≡ s)
Turns s t h Other = (strips.strip_form s h ≡ None) × (strips.is_equation h ≡ false) × (t ≡ s)
