-- Declarations gone through from the oldest on.
use Rattle.std.proofs.Common.{◌≡◌, ℕ, ◌+◌, ◌-◌, ◌≤◌, List, length, drop, sym, subst, arith}
use Rattle.fol_theory.specs.Contexts.{IsFromLast}
use Rattle.env_core.specs.declared.declaration.Decl.{Decl}
use Rattle.env_core.specs.Meaning.{declaration, declarations}
use Rattle.form_core.specs.Binders.{binders_of, binders}
use Rattle.form_core.proofs.Depths.{one_more}

pub one_more_put_in : (ds : List Decl) (i : ℕ) (d : Decl) (m n p k : ℕ) → IsFromLast ds i d
    → m + binders (declarations (drop (length ds - i) ds)) ≤ n → binders_of (declaration d) ≤ p → k ≡ n + p
    → m + binders (declarations (drop (length ds - (i + 1)) ds)) ≤ k
one_more_put_in ds i d m n p k h l q e = subst (λ ys. m + binders (declarations ys) ≤ k) (sym (one_more ds i d h)) (omega (arith, l, q, e))
