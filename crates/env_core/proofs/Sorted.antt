-- The sorts of parameters, one by one.
use Rattle.std.proofs.Common.{◌≡◌, ℕ, zero, suc, ◌<◌, List, [], ◌∷◌, length, get_or, map, refl, sym, ap, arith}
use Rattle.env_theory.specs.Declarations.{sorts_of}
use Rattle.env_core.specs.declared.declaration.Parameter.{Parameter}
use Rattle.env_core.specs.Meaning.{parameter}

pub many_sorts : (ps : List Parameter) → length (sorts_of (map parameter ps)) ≡ length ps
many_sorts [] = refl
many_sorts (p ∷ ps) = ap suc (many_sorts ps)

pub sort_at_index : (ps : List Parameter) (i : ℕ) (p : Parameter) → i < length ps → p ≡ get_or ps i p
    → get_or (sorts_of (map parameter ps)) i [] ≡ p.sort
sort_at_index [] i p h e = absurd (omega arith)
sort_at_index (q ∷ ps) zero p h e = ap (λ z. z.sort) (sym e)
sort_at_index (q ∷ ps) (suc i) p h e = sort_at_index ps i p (omega arith) e

pub ruleset counting = (many_sorts, sort_at_index)
