-- Terms taken out from under binders and put under others.
use Rattle.std.specs.Prelude.{ℕ, ◌-◌}
use Rattle.fol_theory.specs.Syntax.{Term, Terms, var}
use Rattle.fol_theory.specs.Substitution.{replace_term, replace_terms, raise, shift_term}

-- each variable becomes less by a number, and 0 where it is less itself
abbrev pub lowering : ℕ → ℕ → Term
lowering by i = var (i - by)

-- a term without its newest variables, under so many binders
abbrev pub moved : ℕ → ℕ → Term → Term
moved lowered raised t = shift_term 0 raised (replace_term (lowering lowered) t)

-- the same of terms
abbrev pub all_moved : ℕ → ℕ → Terms → Terms
all_moved lowered raised ts = replace_terms (raise 0 raised) (replace_terms (lowering lowered) ts)
