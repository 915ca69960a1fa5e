-- A shift and a substitution for one variable: at each variable, and under a binder.
use Rattle.std.proofs.Common.{◌≡◌, ℕ, zero, suc, ◌+◌, ◌-◌, ◌<◌, ◌≤◌, List, refl, sym, ap, ◌∙◌, arith, ◌⊎◌, inl, inr}
use Rattle.std.proofs.lemmas.Bool.Decides.{nat_tests}
use Rattle.std.proofs.Math.Path.{fun_ext}
use Rattle.fol_theory.specs.Syntax.{Term, var, Formula, all, ex}
use Rattle.fol_theory.specs.Substitution.{replace_term, replace, next, lift, raise, put, shift, shift_term, substitute, first, under}
use Rattle.fol_theory.proofs.Laws.{term_twice, term_identity, replace_twice, replace_identity}

pub raise_small : (from by i : ℕ) → i < from → raise from by i ≡ var i
raise_small from by i h = grind (arith, nat_tests)

pub raise_large : (from by i : ℕ) → from ≤ i → raise from by i ≡ var (i + by)
raise_large from by i h = grind (arith, nat_tests)

pub put_small : (k : ℕ) (v : Term) (i : ℕ) → i < k → put k v i ≡ var i
put_small k v i h = grind (arith, nat_tests)

pub put_here : (k : ℕ) (v : Term) (i : ℕ) → i ≡ k → put k v i ≡ v
put_here k v i h = grind (arith, nat_tests)

pub put_large : (k : ℕ) (v : Term) (i : ℕ) → k < i → put k v i ≡ var (i - 1)
put_large k v i h = grind (arith, nat_tests)

pub side : (i k : ℕ) → (i < k) ⊎ (k ≤ i)
side i k = grind arith

pub sides : (i k : ℕ) → (i < k) ⊎ ((i ≡ k) ⊎ (k < i))
sides i k = grind arith

-- ---- under a binder

lift_raise_at : (from by i : ℕ) → lift (raise from by) i ≡ raise (from + 1) by i
lift_raise_at from by zero = sym (raise_small (from + 1) by zero (omega arith))
lift_raise_at from by (suc i) = go (side i from)
  where
    go : (i < from) ⊎ (from ≤ i) → replace_term next (raise from by i) ≡ raise (from + 1) by (suc i)
    go (inl h) = ap (replace_term next) (raise_small from by i h) ∙ sym (raise_small (from + 1) by (suc i) (omega arith))
    go (inr h) =
        ap (replace_term next) (raise_large from by i h) ∙ ap var (omega arith) ∙ sym (raise_large (from + 1) by (suc i) (omega arith))

pub lift_raise : (from by : ℕ) → lift (raise from by) ≡ raise (from + 1) by
lift_raise from by = fun_ext (lift_raise_at from by)

lift_put_at : (k : ℕ) (v : Term) (i : ℕ) → lift (put k v) i ≡ put (k + 1) (replace_term next v) i
lift_put_at k v zero = sym (put_small (k + 1) (replace_term next v) zero (omega arith))
lift_put_at k v (suc i) = go (sides i k)
  where
    go : (i < k) ⊎ ((i ≡ k) ⊎ (k < i)) → replace_term next (put k v i) ≡ put (k + 1) (replace_term next v) (suc i)
    go (inl h) = ap (replace_term next) (put_small k v i h) ∙ sym (put_small (k + 1) (replace_term next v) (suc i) (omega arith))
    go (inr (inl h)) = ap (replace_term next) (put_here k v i h) ∙ sym (put_here (k + 1) (replace_term next v) (suc i) (omega arith))
    go (inr (inr h)) =
        ap (replace_term next) (put_large k v i h) ∙ ap var (omega arith)
        ∙ sym (put_large (k + 1) (replace_term next v) (suc i) (omega arith))

next_raise_at : (i : ℕ) → next i ≡ raise 0 1 i
next_raise_at i = ap var (omega arith) ∙ sym (raise_large 0 1 i (omega arith))

-- the substitutions of the rules are those by index
pub next_raise : next ≡ raise 0 1
next_raise = fun_ext next_raise_at

first_put_at : (t : Term) (i : ℕ) → first t i ≡ put 0 t i
first_put_at t zero = sym (put_here 0 t zero refl)
first_put_at t (suc i) = ap var (omega arith) ∙ sym (put_large 0 t (suc i) (omega arith))

pub first_put : (t : Term) → first t ≡ put 0 t
first_put t = fun_ext (first_put_at t)

pub lift_put : (k : ℕ) (v : Term) → lift (put k v) ≡ put (k + 1) (shift_term 0 1 v)
lift_put k v = fun_ext (lift_put_at k v) ∙ ap (λ ρ. put (k + 1) (replace_term ρ v)) next_raise

pub shift_all : (from by : ℕ) (s x : List ℕ) (a : Formula) → shift from by (all s x a) ≡ all s x (shift (from + 1) by a)
shift_all from by s x a = ap (λ ρ. all s x (replace ρ a)) (lift_raise from by)

pub shift_ex : (from by : ℕ) (s x : List ℕ) (a : Formula) → shift from by (ex s x a) ≡ ex s x (shift (from + 1) by a)
shift_ex from by s x a = ap (λ ρ. ex s x (replace ρ a)) (lift_raise from by)

pub substitute_all : (k : ℕ) (v : Term) (s x : List ℕ) (a : Formula)
    → substitute k v (all s x a) ≡ all s x (substitute (k + 1) (shift_term 0 1 v) a)
substitute_all k v s x a = ap (λ ρ. all s x (replace ρ a)) (lift_put k v)

pub substitute_ex : (k : ℕ) (v : Term) (s x : List ℕ) (a : Formula)
    → substitute k v (ex s x a) ≡ ex s x (substitute (k + 1) (shift_term 0 1 v) a)
substitute_ex k v s x a = ap (λ ρ. ex s x (replace ρ a)) (lift_put k v)

-- ---- under several binders

raise_none_at : (from i : ℕ) → raise from 0 i ≡ var i
raise_none_at from i = grind (arith, nat_tests)

-- a shift by nothing
pub shift_none : (from : ℕ) (a : Formula) → shift from 0 a ≡ a
shift_none from a = ap (λ ρ. replace ρ a) (fun_ext (raise_none_at from)) ∙ replace_identity a

pub shift_none_term : (from : ℕ) (t : Term) → shift_term from 0 t ≡ t
shift_none_term from t = ap (λ ρ. replace_term ρ t) (fun_ext (raise_none_at from)) ∙ term_identity t

raise_once_more_at : (by i : ℕ) → replace_term (raise 0 1) (raise 0 by i) ≡ raise 0 (by + 1) i
raise_once_more_at by i = grind (arith, nat_tests)

-- a shift by one more
pub shift_once_more : (by : ℕ) (t : Term) → shift_term 0 1 (shift_term 0 by t) ≡ shift_term 0 (by + 1) t
shift_once_more by t = term_twice (raise 0 1) (raise 0 by) t ∙ ap (λ ρ. replace_term ρ t) (fun_ext (raise_once_more_at by))

pub under_shift : (by : ℕ) (a : Formula) → under (shift 0 by a) ≡ shift 0 (by + 1) a
under_shift by a =
    ap (λ ρ. replace ρ (shift 0 by a)) next_raise ∙ replace_twice (raise 0 1) (raise 0 by) a
    ∙ ap (λ ρ. replace ρ a) (fun_ext (raise_once_more_at by))
