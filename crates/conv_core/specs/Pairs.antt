-- What is still to be compared, and what comparing two heads leaves.
use Rattle.std.specs.Prelude.{◌≡◌, ◌↔◌, ℕ, ◌<◌, Bool, true, false, List, [], ◌∷◌, ◌++◌, length, map}
use Rattle.term_core.specs.declared.term.Term.{Term}
use Rattle.term_core.specs.declared.formula.Formula.{Formula}
use Rattle.term_core.specs.Term as term
use Rattle.term_core.specs.Formula as formula
use Rattle.fol_theory.specs.Syntax.{Formula as Meaning}
use Rattle.env_theory.specs.Declarations.{Declaration}
use Rattle.env_theory.specs.Typing.{Environment}
use Rattle.env_theory.specs.Compare as theory
use Rattle.conv_core.specs.declared.frame.Frame.{Frame}
use Rattle.conv_core.specs.declared.pair.Pair.{Pair}
use Rattle.conv_core.specs.declared.pair.Pair.TheVariants.{Terms, Formulas}
use Rattle.conv_core.specs.Frames.{scope_of, Ordered, Extends}
use Rattle.conv_core.specs.Heads.{Standing}
use Rattle.conv_core.specs.Formulas.{StandingFormula, Rigid}

-- the pair of the theory that a pair stands for
abbrev pub pair_of : List Frame → Pair → theory.Pair
pair_of fs (Terms p) = theory.both_terms (scope_of fs p.first_scope) p.first_by (term.meaning p.first.now) (scope_of fs p.second_scope)
    p.second_by (term.meaning p.second.now)
pair_of fs (Formulas p) = theory.both_formulas (scope_of fs p.first_scope) (formula.meaning p.first.now) (scope_of fs p.second_scope)
    (formula.meaning p.second.now)

-- both of its sides may be read
abbrev pub StandingPair : List Declaration → List Frame → Pair → Type 0
StandingPair E fs (Terms p) = Standing E fs p.first_scope p.first_by (term.meaning p.first.now)
    × Standing E fs p.second_scope p.second_by (term.meaning p.second.now)
StandingPair E fs (Formulas p) = StandingFormula E fs p.first_scope (formula.meaning p.first.now)
    × StandingFormula E fs p.second_scope (formula.meaning p.second.now)

-- the same of each pair
abbrev pub StandingPairs : List Declaration → List Frame → List Pair → Type 0
StandingPairs E fs [] = Unit {0}
StandingPairs E fs (p ∷ ps) = StandingPair E fs p × StandingPairs E fs ps

-- true: the pair agrees exactly where what was left does, which has fewer steps; false: it doesn't agree
abbrev pub Split : List Declaration → theory.Pair → List Frame → List Pair → List Pair → Bool → Type 0
Split E p gs old new true = (left : List Pair) × (new ≡ old ++ left) × StandingPairs E gs left
    × (theory.AllAgree E (map (pair_of gs) left) ↔ theory.Agree E p)
    × (theory.pairs_left E (map (pair_of gs) left) < theory.pair_left E p)
Split E p gs old new false = theory.Agree E p → ⊥

-- a pair of these two terms
abbrev pub IsPair : ℕ → ℕ → Term → ℕ → ℕ → Term → Pair → Type 0
IsPair c m t d n u (Terms p) = (p.first_scope ≡ c) × (p.first_by ≡ m) × (p.first.now ≡ t) × (p.second_scope ≡ d) × (p.second_by ≡ n)
    × (p.second.now ≡ u)
IsPair c m t d n u (Formulas p) = ⊥

-- a pair of these two formulas
abbrev pub IsFormulaPair : ℕ → Formula → ℕ → Formula → Pair → Type 0
IsFormulaPair c a d b (Terms p) = ⊥
IsFormulaPair c a d b (Formulas p) = (p.first_scope ≡ c) × (p.first.now ≡ a) × (p.second_scope ≡ d) × (p.second.now ≡ b)

-- as many pairs as terms on each side, each of the two that stand there
abbrev pub Aligned : ℕ → ℕ → List Term → ℕ → ℕ → List Term → List Pair → Type 0
Aligned c m [] d n [] [] = Unit {0}
Aligned c m [] d n [] (p ∷ ps) = ⊥
Aligned c m [] d n (u ∷ us) ps = ⊥
Aligned c m (t ∷ ts) d n [] ps = ⊥
Aligned c m (t ∷ ts) d n (u ∷ us) [] = ⊥
Aligned c m (t ∷ ts) d n (u ∷ us) (p ∷ ps) = IsPair c m t d n u p × Aligned c m ts d n us ps

-- true: pairs of the arguments, one by one, are left on the stack; false: they are not as many
abbrev pub Pushed : ℕ → ℕ → List Term → ℕ → ℕ → List Term → List Pair → List Pair → Bool → Type 0
Pushed c m ts d n us old new true = (left : List Pair) × (new ≡ old ++ left) × Aligned c m ts d n us left
Pushed c m ts d n us old new false = length ts ≡ length us → ⊥

-- Comparing two formulas where no definition is left at the head, whatever the environment: what is left of them stands in further frames.
abbrev pub SplitTops : List Frame → ℕ → Meaning → ℕ → Meaning → List Frame → List Pair → List Pair → Bool → Type 0
SplitTops fs c a d b gs old new r = (E : List Declaration) → Environment E → StandingFormula E fs c a → StandingFormula E fs d b
    → Rigid E a → Rigid E b → Ordered gs × Extends fs gs
    × Split E (theory.both_formulas (scope_of fs c) a (scope_of fs d) b) gs old new r

-- two pairs are left on the stack
abbrev pub Left : List Pair → List Pair → (Pair → Type 0) → (Pair → Type 0) → Type 0
Left old new P Q = (x : Pair) × (y : Pair) × (new ≡ old ++ (x ∷ y ∷ [])) × P x × Q y
