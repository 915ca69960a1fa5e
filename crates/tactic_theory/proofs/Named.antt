-- Quantifiers that differ in their printing name alone are the same.
use Rattle.std.proofs.Common.{ℕ, List}
use Rattle.fol_theory.specs.Syntax.{Formula, all, ex}
use Rattle.env_theory.specs.Declarations.{Declaration}
use Rattle.env_theory.specs.Normal.{Same}
use Rattle.env_theory.proofs.Sameness.{same_itself, same_all, same_ex}

pub same_all_named : (E : List Declaration) (s x y : List ℕ) (b : Formula) → Same E (all s x b) (all s y b)
same_all_named E s x y b = same_all E s x y b b (same_itself E b)

pub same_ex_named : (E : List Declaration) (s x y : List ℕ) (b : Formula) → Same E (ex s x b) (ex s y b)
same_ex_named E s x y b = same_ex E s x y b b (same_itself E b)
