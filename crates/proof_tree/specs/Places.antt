-- The goals that sequents stand for, and what may be asked of each rule of a tree at its place.
use Rattle.std.specs.Prelude.{◌≡◌, ◌<◌, ◌≤◌, ◌^◌, List, [], ◌∷◌, ◌++◌, length}
use Rattle.fol_theory.specs.Syntax.{Term, Formula}
use Rattle.fol_theory.specs.Substitution.{under, instantiate}
use Rattle.fol_theory.specs.Measures.{depth, reach}
use Rattle.fol_theory.specs.Contexts.{Sequent as Meaning}
use Rattle.logic_theory.specs.Rules.{ex_i, ex_e, eq_e, Rule, leaf, step, children}
use Rattle.logic_theory.specs.Goals.{Goal, goal}
use Rattle.term_core.specs.declared.context.Sequent.{Sequent}
use Rattle.term_core.specs.Context.{slots}
use Rattle.term_core.specs.Formula as formula

-- the goal that a sequent stands for, with the names of its slots
abbrev pub goal_of : Sequent → Goal
goal_of s = goal (slots s.context) (formula.meaning s.goal)

-- The rules are trees, one for each sequent in order, with no child missing and no rule left over, and each rule is so at its place.
abbrev pub AtPlaces : (Rule → Meaning → Type 0) → List Rule → List Meaning → Type 0
AtPlaces P [] [] = Unit {0}
AtPlaces P [] (g ∷ gs) = ⊥
AtPlaces P (r ∷ rs) [] = ⊥
AtPlaces P (leaf ns ∷ rs) (g ∷ gs) = P (leaf ns) g × AtPlaces P rs gs
AtPlaces P (step r ∷ rs) (g ∷ gs) = P (step r) g × AtPlaces P rs (children r g.context g.goal ++ gs)

-- an open leaf has a name for each entry of its place
abbrev pub NamesEntries : Rule → Meaning → Type 0
NamesEntries (leaf ns) g = length ns ≡ length g.context
NamesEntries (step r) g = Unit {0}

-- no index passes 2 ^ 64 - 1 where a term is put in for the variable of a body
abbrev pub InstanceFits : Formula → Term → Type 0
InstanceFits b t = (depth b < 2 ^ 64) × (reach (instantiate b t) ≤ 2 ^ 64)

-- nor where a formula is taken under one variable more
abbrev pub LiftFits : Formula → Type 0
LiftFits a = (depth a < 2 ^ 64) × (reach (under a) ≤ 2 ^ 64)

-- no index passes 2 ^ 64 - 1 in what a rule makes at a place
abbrev pub IndicesFit : Rule → Meaning → Type 0
IndicesFit (step (ex_i s b t)) g = InstanceFits b t
IndicesFit (step (ex_e s b)) g = LiftFits g.goal
IndicesFit (step (eq_e s b t u)) g = InstanceFits b u
IndicesFit r g = Unit {0}
