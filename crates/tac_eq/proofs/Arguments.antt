-- Arguments for the variables of a body: the last for the variable 0.
use Rattle.std.proofs.Common.{◌≡◌, ℕ, zero, suc, ◌+◌, ◌<◌, ◌≤◌, List, [], ◌∷◌, ◌++◌, length, map, refl, sym, ap, ◌∙◌, arith, ◌⊎◌, inl, inr}
use Rattle.std.proofs.lemmas.Bool.{cases_lt}
use Rattle.std.proofs.lemmas.List.{length-map}
use Rattle.fol_theory.specs.Syntax.{Term as Meaning, Terms, Formula}
use Rattle.fol_theory.specs.Substitution.{replace, replace_term}
use Rattle.match_theory.specs.Instances.{fill}
use Rattle.term_core.specs.Term.{meaning}
use Rattle.term_core.specs.declared.term.Term.{Term}
use Rattle.env_theory.specs.Declarations.{Declaration}
use Rattle.env_theory.specs.Normal.{argument}
use Rattle.env_theory.proofs.Sorts.{at_below}
use Rattle.env_theory.proofs.Skips.{agree, agree_term}
use Rattle.tac_eq.specs.Over.{IsOver, IsTermOver}

-- ---- a term more

fill_before : (ts : List Meaning) (t : Meaning) (i : ℕ) → i < length ts → fill (ts ++ t ∷ []) i ≡ fill ts i
fill_before [] t i h = absurd (omega (arith, h))
fill_before (u ∷ ts) t zero h = refl
fill_before (u ∷ ts) t (suc i) h = fill_before ts t i (omega (arith, h))

fill_last : (ts : List Meaning) (t : Meaning) → fill (ts ++ t ∷ []) (length ts) ≡ t
fill_last [] t = refl
fill_last (u ∷ ts) t = fill_last ts t

map_last : (us : List Term) (t : Term) → map meaning (us ++ t ∷ []) ≡ map meaning us ++ meaning t ∷ []
map_last [] t = refl
map_last (u ∷ us) t = ap (λ l. meaning u ∷ l) (map_last us t)

pub one_argument_more : (σ : ℕ → Meaning) (us : List Term) (t : Term) (n : ℕ) → length us ≡ n → meaning t ≡ σ n
    → ((i : ℕ) → i < n → fill (map meaning us) i ≡ σ i) → (i : ℕ) → i < n + 1 → fill (map meaning (us ++ t ∷ [])) i ≡ σ i
one_argument_more σ us t n e h k i l = ap (λ ts. fill ts i) (map_last us t) ∙ go (cases_lt i n)
  where
    size : length (map meaning us) ≡ n
    size = length-map us meaning ∙ e

    go : (i < n) ⊎ (n ≤ i) → fill (map meaning us ++ meaning t ∷ []) i ≡ σ i
    go (inl m) = fill_before (map meaning us) (meaning t) i (omega (arith, m, size)) ∙ k i m
    go (inr m) =
        let same : i ≡ length (map meaning us) = omega (arith, l, m, size) in
        ap (fill (map meaning us ++ meaning t ∷ [])) same ∙ fill_last (map meaning us) (meaning t) ∙ h
        ∙ ap σ (sym size ∙ sym same)

-- ---- put into a body

pub arguments_put : (n : ℕ) (b : Formula) (ts : List Meaning) (us : Terms) → (E : List Declaration) × IsOver E n b
    → ((i : ℕ) → i < n → fill ts i ≡ argument us i) → replace (fill ts) b ≡ replace (argument us) b
arguments_put n b ts us (E, w) h = agree E w.0 (fill ts) (argument us)
    (λ i s k. let below : i < length w.0 = at_below w.0 i s k in h i (omega (arith, below, w.2))) b w.1

pub term_arguments_put : (n : ℕ) (b : Meaning) (ts : List Meaning) (us : Terms) → (E : List Declaration) × IsTermOver E n b
    → ((i : ℕ) → i < n → fill ts i ≡ argument us i) → replace_term (fill ts) b ≡ replace_term (argument us) b
term_arguments_put n b ts us (E, w) h = agree_term E w.0 (fill ts) (argument us)
    (λ i s k. let below : i < length w.0 = at_below w.0 i s k in h i (omega (arith, below, w.3))) b w.1 w.2
