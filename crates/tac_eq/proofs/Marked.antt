-- A formula with a variable of its own, the newest one, for a term.
use Rattle.std.proofs.Common.{◌≡◌, ℕ, zero, suc, ◌+◌, ◌^◌, ◌<◌, ◌≤◌, ◌⊎◌, inl, inr, List, [], ◌∷◌, ◌++◌, length, refl, sym, ap, subst, ◌∙◌, arith}
use Rattle.std.proofs.lemmas.Bool.{cases_lt}
use Rattle.fol_theory.specs.Syntax.{Term, var, Formula, truth, falsity, pred, equal, both, either, implies, all, ex}
use Rattle.fol_theory.specs.Measures.{term_reach}
use Rattle.fol_theory.specs.Substitution.{replace_term, replace, next, lift, first, instantiate, shift_term}
use Rattle.fol_theory.proofs.AtIndex.{next_raise}
use Rattle.fol_theory.proofs.Laws.{replace_twice, replace_identity}
use Rattle.match_theory.specs.Instances.{fill}
use Rattle.match_theory.specs.Places.{abstracted}
use Rattle.match_theory.proofs.Placed.{abstracted_back}
use Rattle.env_theory.specs.Declarations.{Declaration, find}
use Rattle.env_theory.specs.Typing.{At, HasSort, WellFormed, takes}
use Rattle.env_theory.proofs.Skips.{agree}
use Rattle.env_theory.proofs.Sorts.{sort_unique, at_below, sort_reach, replace_sort, fits_next}
use Rattle.tac_eq.specs.Rewriting.{Turns}
use Rattle.tactic_theory.proofs.Instanced.{unchanged_sort, unchanged_sorts, not_next}

-- ---- it is well formed

-- each variable whose term has a sort has this sort itself
abbrev Keeps : List Declaration → List (List ℕ) → List (List ℕ) → (ℕ → Term) → Type 0
Keeps E V W ρ = (i : ℕ) (s : List ℕ) → HasSort E W (ρ i) s → At V i s

keeps_lift : (E : List Declaration) (V W : List (List ℕ)) (ρ : ℕ → Term) (r : List ℕ) → Keeps E V W ρ → Keeps E (r ∷ V) (r ∷ W) (lift ρ)
keeps_lift E V W ρ r h zero s k = k
keeps_lift E V W ρ r h (suc i) s k = h i s (not_next E W r (ρ i) s k)

-- a formula from which variables were changed
unchanged_formed : (E : List Declaration) (V W : List (List ℕ)) (ρ : ℕ → Term) → Keeps E V W ρ → (a : Formula) → WellFormed E W (replace ρ a)
    → WellFormed E V a
unchanged_formed E V W ρ h truth p = p
unchanged_formed E V W ρ h falsity p = p
unchanged_formed E V W ρ h (pred n ts) p = (p.0, unchanged_sorts E V W ρ h ts (takes (find E n)) p.1)
unchanged_formed E V W ρ h (equal s t u) p = (p.0, unchanged_sort E V W ρ h t s p.1, unchanged_sort E V W ρ h u s p.2)
unchanged_formed E V W ρ h (both a b) p = (unchanged_formed E V W ρ h a p.0, unchanged_formed E V W ρ h b p.1)
unchanged_formed E V W ρ h (either a b) p = (unchanged_formed E V W ρ h a p.0, unchanged_formed E V W ρ h b p.1)
unchanged_formed E V W ρ h (implies a b) p = (unchanged_formed E V W ρ h a p.0, unchanged_formed E V W ρ h b p.1)
unchanged_formed E V W ρ h (all s x a) p = (p.0, unchanged_formed E (s ∷ V) (s ∷ W) (lift ρ) (keeps_lift E V W ρ s h) a p.1)
unchanged_formed E V W ρ h (ex s x a) p = (p.0, unchanged_formed E (s ∷ V) (s ∷ W) (lift ρ) (keeps_lift E V W ρ s h) a p.1)

pub abstracted_formed : (E : List Declaration) (V : List (List ℕ)) (t : Term) (q : List ℕ) → HasSort E V t q → (g : Formula)
    → WellFormed E V g → WellFormed E (q ∷ V) (abstracted 0 t g)
abstracted_formed E V t q h g w =
    unchanged_formed E (q ∷ V) V (first t) keeps (abstracted 0 t g) (subst (WellFormed E V) (sym (abstracted_back t g)) w)
  where
    keeps : Keeps E (q ∷ V) V (first t)
    keeps zero s k = sort_unique E V t q s h k
    keeps (suc i) s k = k

-- ---- how it is made: with a variable that isn't there, which is renamed

pub marked_is : (E : List Declaration) (V : List (List ℕ)) (q : List ℕ) (n : ℕ) → length V ≤ n → (ts : List Term) → Turns n ts → (a : Formula)
    → WellFormed E (q ∷ V) a → replace (fill ts) (instantiate a (var n)) ≡ a
marked_is E V q n h ts t a w =
    replace_twice (fill ts) (first (var n)) a
    ∙ agree E (q ∷ V) (λ i. replace_term (fill ts) (first (var n) i)) var each a w
    ∙ replace_identity a
  where
    each : (i : ℕ) (s : List ℕ) → At (q ∷ V) i s → replace_term (fill ts) (first (var n) i) ≡ var i
    each zero s k = t.1
    each (suc i) s k = t.0 i (omega (arith, at_below V i s k, h))

-- ---- a term more at the end

fill_before : (ts : List Term) (t : Term) (i : ℕ) → i < length ts → fill (ts ++ t ∷ []) i ≡ fill ts i
fill_before [] t i h = absurd (omega (arith, h))
fill_before (u ∷ ts) t zero h = refl
fill_before (u ∷ ts) t (suc i) h = fill_before ts t i (omega (arith, h))

fill_last : (ts : List Term) (t : Term) → fill (ts ++ t ∷ []) (length ts) ≡ t
fill_last [] t = refl
fill_last (u ∷ ts) t = fill_last ts t

module _ (n : ℕ) (ts : List Term) (many : length ts ≡ n) (each : (i : ℕ) → i < n → fill ts i ≡ var (suc i)) where
  pub turns_more : (i : ℕ) → i < n + 1 → fill (ts ++ var (n + 1) ∷ []) i ≡ var (suc i)
  turns_more i h = go (cases_lt i n)
    where
      go : (i < n) ⊎ (n ≤ i) → fill (ts ++ var (n + 1) ∷ []) i ≡ var (suc i)
      go (inl l) = fill_before ts (var (n + 1)) i (subst (λ k. i < k) (sym many) l) ∙ each i l
      go (inr l) =
          let same : i ≡ length ts = omega (arith, h, l, many) in
          let next_one : n + 1 ≡ suc i = omega (arith, h, l) in
          ap (fill (ts ++ var (n + 1) ∷ [])) same ∙ fill_last ts (var (n + 1)) ∙ ap var next_one

  pub turns_all : Turns n (ts ++ var 0 ∷ [])
  turns_all = (
    (λ i h. fill_before ts (var 0) i (subst (λ k. i < k) (sym many) h) ∙ each i h),
    ap (fill (ts ++ var 0 ∷ [])) (sym many) ∙ fill_last ts (var 0),
  )

-- ---- indices

pub next_reach : (E : List Declaration) (V : List (List ℕ)) (t : Term) (s : List ℕ) (n : ℕ) → HasSort E V t s → length V ≤ n → n < 2 ^ 64
    → term_reach (shift_term 0 1 t) ≤ 2 ^ 64
next_reach E V t s n h k l =
    let up = sort_reach E (s ∷ V) (replace_term next t) s (replace_sort E next V (s ∷ V) (fits_next E s V) t s h) in
    subst (λ ρ. term_reach (replace_term ρ t) ≤ 2 ^ 64) next_raise (omega (arith, up, k, l))
