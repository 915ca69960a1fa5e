-- A hypothesis behind the entries that a walk has passed.
use Rattle.std.proofs.Common.{◌≡◌, ℕ, ◌+◌, List, [], ◌∷◌, ◌++◌, length, refl, sym, subst, ap, ◌∙◌, append_assoc, arith}
use Rattle.fol_theory.specs.Syntax.{Formula}
use Rattle.fol_theory.specs.Substitution.{shift}
use Rattle.fol_theory.specs.Contexts.{Entry, variable, hypothesis, variables, count, IsHypothesis}
use Rattle.fol_theory.proofs.Numbers.{hypothesis_placed}
use Rattle.term_core.specs.Context.{Stands}

-- the entries d are what is left of c behind n newer variables
abbrev pub IsBehind : List Entry → List Entry → ℕ → Type 0
IsBehind d c n = (newer : List Entry) × (c ≡ newer ++ d) × (n ≡ length (variables newer))

pub behind_none : (c : List Entry) → IsBehind c c 0
behind_none c = ([], refl, refl)

variable_more : (c : List Entry) (s : List ℕ) → length (variables (c ++ variable s ∷ [])) ≡ length (variables c) + 1
variable_more [] s = omega arith
variable_more (variable z ∷ c) s = omega (arith, variable_more c s)
variable_more (hypothesis a ∷ c) s = variable_more c s

variables_same : (c : List Entry) (b : Formula) → length (variables (c ++ hypothesis b ∷ [])) ≡ length (variables c)
variables_same [] b = refl
variables_same (variable s ∷ c) b = omega (arith, variables_same c b)
variables_same (hypothesis a ∷ c) b = variables_same c b

pass_entry : (e d c newer : List Entry) (x : Entry) → e ≡ x ∷ d → c ≡ newer ++ e → c ≡ (newer ++ x ∷ []) ++ d
pass_entry e d c newer x q p = p ∙ ap (λ z. newer ++ z) q ∙ sym (append_assoc newer (x ∷ []) d)

-- what a walk keeps as it passes a variable
pub pass_variable : (e d c : List Entry) (s : List ℕ) (n : ℕ) → e ≡ variable s ∷ d → IsBehind e c n → IsBehind d c (n + 1)
pass_variable e d c s n q k =
    (k.0 ++ variable s ∷ [], pass_entry e d c k.0 (variable s) q k.1, ap (λ m. m + 1) k.2 ∙ sym (variable_more k.0 s))

-- and as it passes a hypothesis
pub pass_hypothesis : (e d c : List Entry) (b : Formula) (n : ℕ) → e ≡ hypothesis b ∷ d → IsBehind e c n → IsBehind d c n
pass_hypothesis e d c b n q k =
    (k.0 ++ hypothesis b ∷ [], pass_entry e d c k.0 (hypothesis b) q k.1, k.2 ∙ sym (variables_same k.0 b))

-- under all variables it is the hypothesis of its number, shifted
pub stands_numbered : (c : List Entry) (i n : ℕ) (a : Formula) → Stands c i a n → IsHypothesis c i (shift 0 n a)
stands_numbered c i n a k =
    subst (λ z. IsHypothesis z i (shift 0 n a)) (sym k.2)
    (subst (λ j. IsHypothesis (k.0 ++ hypothesis a ∷ k.1) j (shift 0 n a)) (sym k.3)
    (subst (λ m. IsHypothesis (k.0 ++ hypothesis a ∷ k.1) (count k.1) (shift 0 m a)) (sym k.4) (hypothesis_placed k.0 k.1 a)))
