-- Weights under a quantifier.
use Rattle.std.proofs.Common.{◌≡◌, ℕ, zero, suc, ◌+◌, sym, arith}
use Rattle.std.proofs.lemmas.Bool.Decides.{nat_tests}
use Rattle.std.proofs.Math.Path.{fun_ext}
use Rattle.env_theory.specs.Count.{bind, nothing, each}
use Rattle.env_theory.proofs.Counts.{bind_each}
use Rattle.env_core.specs.Weights.{below}

below_first : (b : ℕ) → below (b + 1) 0 ≡ 1
below_first b = grind (arith, nat_tests)

below_next : (b i : ℕ) → below (b + 1) (suc i) ≡ below b i
below_next b i = grind (arith, nat_tests)

below_at : (b i : ℕ) → below (b + 1) i ≡ bind 1 (below b) i
below_at b zero = below_first b
below_at b (suc i) = below_next b i

pub below_bound : (b : ℕ) → below (b + 1) ≡ bind 1 (below b)
below_bound b = fun_ext (below_at b)

pub each_bound : each ≡ bind 1 each
each_bound = sym bind_each

-- no variable is below 0
none_at : (i : ℕ) → below 0 i ≡ nothing i
none_at i = grind (arith, nat_tests)

pub below_none : below 0 ≡ nothing
below_none = fun_ext none_at

pub ruleset weighing = (below_bound, each_bound)
