-- The arguments of definitions put in: what is read in a scope, with no definition put in.
use Rattle.std.specs.Prelude.{ℕ, zero, suc, List, [], ◌∷◌}
use Rattle.fol_theory.specs.Syntax.{Term, Terms, Formula}
use Rattle.term_core.specs.Term.{list_meaning}
use Rattle.env_theory.specs.Scopes.{Scope, whole, body, under, value, values, formula_value}
use Rattle.env_core.specs.declared.head.Frame.{Frame}

-- frames, the oldest first, within a scope
abbrev pub within : Scope → List Frame → Scope
within c [] = c
within c (f ∷ fs) = within (body (list_meaning f.arguments.now) c) fs

-- the scope that frames stand for
abbrev pub scope_of : List Frame → Scope
scope_of fs = within whole fs

-- so many quantifiers within a scope
abbrev pub beneath : Scope → ℕ → Scope
beneath c zero = c
beneath c (suc n) = under (beneath c n)

-- a term that stands under n quantifiers in a scope, behind `by` further ones
abbrev pub filled : Scope → ℕ → ℕ → Term → Term
filled c n by t = value [] (beneath c n) by t

-- the same of terms
abbrev pub all_filled : Scope → ℕ → ℕ → Terms → Terms
all_filled c n by ts = values [] (beneath c n) by ts

-- the same of a formula, with no further quantifiers
abbrev pub formula_filled : Scope → ℕ → Formula → Formula
formula_filled c n a = formula_value [] (beneath c n) a
