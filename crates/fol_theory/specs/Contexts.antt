-- Contexts: variables with sorts and hypotheses in one ordered list.
use Rattle.std.specs.Prelude.{◌≡◌, ◌⊎◌, ℕ, ◌+◌, List, [], ◌∷◌, map, length, if◌then◌else◌, ◌==◌}
use Rattle.fol_theory.specs.Syntax.{Formula}
use Rattle.fol_theory.specs.Substitution.{under}

-- a context is a list of these, the newest first; a hypothesis counts the variables behind it, which are those older than it
pub data Entry : Type 0 where
  variable : List ℕ → Entry
  hypothesis : Formula → Entry

-- the sorts of the variables, the newest first: the variable 0 of the whole context has the first
abbrev pub variables : List Entry → List (List ℕ)
variables [] = []
variables (variable s ∷ c) = s ∷ variables c
variables (hypothesis a ∷ c) = variables c

-- the hypotheses, the newest first, each as it stands under all variables of the context
abbrev pub hypotheses : List Entry → List Formula
hypotheses [] = []
hypotheses (variable s ∷ c) = map under (hypotheses c)
hypotheses (hypothesis a ∷ c) = a ∷ hypotheses c

-- how many hypotheses there are
abbrev pub count : List Entry → ℕ
count [] = 0
count (variable s ∷ c) = count c
count (hypothesis a ∷ c) = count c + 1

-- the hypothesis i, counted from the oldest, from 0, is a under all variables of the context
abbrev pub IsHypothesis : List Entry → ℕ → Formula → Type 0
IsHypothesis [] i a = ⊥
IsHypothesis (variable s ∷ c) i a = (b : Formula) × IsHypothesis c i b × (a ≡ under b)
IsHypothesis (hypothesis b ∷ c) i a = ((i ≡ count c) × (a ≡ b)) ⊎ IsHypothesis c i a

-- a context without its hypothesis i
abbrev pub without : List Entry → ℕ → List Entry
without [] i = []
without (variable s ∷ c) i = variable s ∷ without c i
without (hypothesis a ∷ c) i = if i == count c then c else hypothesis a ∷ without c i

-- a list without the element that has i elements behind it
abbrev pub omit : {A : Type 0} → ℕ → List A → List A
omit i [] = []
omit i (x ∷ xs) = if i == length xs then xs else x ∷ omit i xs

-- the element that has i elements behind it
abbrev pub IsFromLast : {A : Type 0} → List A → ℕ → A → Type 0
IsFromLast [] i a = ⊥
IsFromLast (x ∷ xs) i a = ((i ≡ length xs) × (a ≡ x)) ⊎ IsFromLast xs i a

-- a context and the formula that is to be shown in it
pub record Sequent : Type 0 where
  pub context : List Entry
  pub goal : Formula
