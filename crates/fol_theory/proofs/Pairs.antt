-- One variable after another: each pair of a shift and a substitution.
use Rattle.std.proofs.Common.{◌≡◌, ℕ, ◌+◌, ◌-◌, ◌≤◌, sym, ap, ◌∙◌, arith}
use Rattle.std.specs.Prelude.{if◌then◌else◌, nat_lt}
use Rattle.std.proofs.lemmas.Bool.Decides.{nat_tests}
use Rattle.std.proofs.Math.Path.{fun_ext}
use Rattle.fol_theory.specs.Syntax.{Term, var, Formula}
use Rattle.fol_theory.specs.Substitution.{replace_term, replace, raise, put, shift, shift_term, substitute, substitute_term}
use Rattle.fol_theory.proofs.Laws.{term_twice, replace_twice, by_points, term_by_points, undo, term_undo}

shift_shift_at : (from by more i : ℕ) → replace_term (raise from more) (raise from by i) ≡ raise from (by + more) i
shift_shift_at from by more i = grind (arith, nat_tests)

pub shift_shift : (from by more : ℕ) (a : Formula) → shift from more (shift from by a) ≡ shift from (by + more) a
shift_shift from by more a = replace_twice _ _ a ∙ ap (λ ρ. replace ρ a) (fun_ext (shift_shift_at from by more))

pub shift_shift_term : (from by more : ℕ) (t : Term) → shift_term from more (shift_term from by t) ≡ shift_term from (by + more) t
shift_shift_term from by more t = term_twice _ _ t ∙ ap (λ ρ. replace_term ρ t) (fun_ext (shift_shift_at from by more))

shift_over_at : (k n from by i : ℕ) → k ≤ from
    → replace_term (raise k n) (raise from by i) ≡ replace_term (raise (from + n) by) (raise k n i)
shift_over_at k n from by i h = grind (arith, nat_tests)

pub shift_over : (k n from by : ℕ) (a : Formula) → k ≤ from → shift k n (shift from by a) ≡ shift (from + n) by (shift k n a)
shift_over k n from by a h = by_points _ _ _ _ (λ i. shift_over_at k n from by i h) a

pub shift_over_term : (k n from by : ℕ) (t : Term) → k ≤ from
    → shift_term k n (shift_term from by t) ≡ shift_term (from + n) by (shift_term k n t)
shift_over_term k n from by t h = term_by_points _ _ _ _ (λ i. shift_over_at k n from by i h) t

vanish_at : (k : ℕ) (v : Term) (i : ℕ) → replace_term (put k v) (raise k 1 i) ≡ var i
vanish_at k v i = grind (arith, nat_tests)

pub substitute_shift : (k : ℕ) (v : Term) (a : Formula) → substitute k v (shift k 1 a) ≡ a
substitute_shift k v a = undo (put k v) (raise k 1) (vanish_at k v) a

pub substitute_shift_term : (k : ℕ) (v t : Term) → substitute_term k v (shift_term k 1 t) ≡ t
substitute_shift_term k v t = term_undo (put k v) (raise k 1) (vanish_at k v) t

shift_substitute_at : (from by k : ℕ) (v : Term) (i : ℕ) → from ≤ k
    → replace_term (raise from by) (put k v i) ≡ replace_term (put (k + by) (replace_term (raise from by) v)) (raise from by i)
shift_substitute_at from by k v i h = grind (arith, nat_tests)

-- a shift from at most the variable that is replaced
pub shift_substitute : (from by k : ℕ) (v : Term) (a : Formula) → from ≤ k
    → shift from by (substitute k v a) ≡ substitute (k + by) (shift_term from by v) (shift from by a)
shift_substitute from by k v a h = by_points _ _ _ _ (λ i. shift_substitute_at from by k v i h) a

pub shift_substitute_term : (from by k : ℕ) (v t : Term) → from ≤ k
    → shift_term from by (substitute_term k v t) ≡ substitute_term (k + by) (shift_term from by v) (shift_term from by t)
shift_substitute_term from by k v t h = term_by_points _ _ _ _ (λ i. shift_substitute_at from by k v i h) t

shift_substitute_above_at : (from by k : ℕ) (v : Term) (i : ℕ) → k ≤ from
    → replace_term (raise from by) (put k v i) ≡ replace_term (put k (replace_term (raise from by) v)) (raise (from + 1) by i)
shift_substitute_above_at from by k v i h = grind (arith, nat_tests)

-- a shift from at least the variable that is replaced
pub shift_substitute_above : (from by k : ℕ) (v : Term) (a : Formula) → k ≤ from
    → shift from by (substitute k v a) ≡ substitute k (shift_term from by v) (shift (from + 1) by a)
shift_substitute_above from by k v a h = by_points _ _ _ _ (λ i. shift_substitute_above_at from by k v i h) a

pub shift_substitute_above_term : (from by k : ℕ) (v t : Term) → k ≤ from
    → shift_term from by (substitute_term k v t) ≡ substitute_term k (shift_term from by v) (shift_term (from + 1) by t)
shift_substitute_above_term from by k v t h = term_by_points _ _ _ _ (λ i. shift_substitute_above_at from by k v i h) t

substitute_substitute_at : (j k : ℕ) (w v : Term) (i : ℕ) → k ≤ j
    → replace_term (put j w) (put k v i) ≡ replace_term (put k (replace_term (put j w) v)) (put (j + 1) (replace_term (raise k 1) w) i)
substitute_substitute_at j k w v i h = grind (arith, nat_tests, substitute_shift_term k (replace_term (put j w) v) w)

pub substitute_substitute : (j k : ℕ) (w v : Term) (a : Formula) → k ≤ j
    → substitute j w (substitute k v a) ≡ substitute k (substitute_term j w v) (substitute (j + 1) (shift_term k 1 w) a)
substitute_substitute j k w v a h = by_points _ _ _ _ (λ i. substitute_substitute_at j k w v i h) a

pub substitute_substitute_term : (j k : ℕ) (w v t : Term) → k ≤ j
    → substitute_term j w (substitute_term k v t) ≡ substitute_term k (substitute_term j w v) (substitute_term (j + 1) (shift_term k 1 w) t)
substitute_substitute_term j k w v t h = term_by_points _ _ _ _ (λ i. substitute_substitute_at j k w v i h) t

substitute_substitute_below_at : (j k : ℕ) (w v : Term) (i : ℕ) → j ≤ k
    → replace_term (put j w) (put (k + 1) v i) ≡ replace_term (put k (replace_term (put j w) v)) (put j (replace_term (raise k 1) w) i)
substitute_substitute_below_at j k w v i h = grind (arith, nat_tests, substitute_shift_term k (replace_term (put j w) v) w)

-- a substitution for a variable below the one that was replaced
pub substitute_substitute_below : (j k : ℕ) (w v : Term) (a : Formula) → j ≤ k
    → substitute j w (substitute (k + 1) v a) ≡ substitute k (substitute_term j w v) (substitute j (shift_term k 1 w) a)
substitute_substitute_below j k w v a h = by_points _ _ _ _ (λ i. substitute_substitute_below_at j k w v i h) a

pub substitute_substitute_below_term : (j k : ℕ) (w v t : Term) → j ≤ k
    → substitute_term j w (substitute_term (k + 1) v t) ≡ substitute_term k (substitute_term j w v) (substitute_term j (shift_term k 1 w) t)
substitute_substitute_below_term j k w v t h = term_by_points _ _ _ _ (λ i. substitute_substitute_below_at j k w v i h) t

-- ---- a shift loses nothing

-- what takes a shift back
abbrev lower : ℕ → ℕ → ℕ → Term
lower from by i = if nat_lt i from then var i else var (i - by)

lower_at : (from by i : ℕ) → replace_term (lower from by) (raise from by i) ≡ var i
lower_at from by i = grind (arith, nat_tests)

pub shift_injective : (from by : ℕ) (a b : Formula) → shift from by a ≡ shift from by b → a ≡ b
shift_injective from by a b e =
    sym (undo (lower from by) (raise from by) (lower_at from by) a) ∙ ap (replace (lower from by)) e
    ∙ undo (lower from by) (raise from by) (lower_at from by) b

pub shift_injective_term : (from by : ℕ) (t u : Term) → shift_term from by t ≡ shift_term from by u → t ≡ u
shift_injective_term from by t u e =
    sym (term_undo (lower from by) (raise from by) (lower_at from by) t) ∙ ap (replace_term (lower from by)) e
    ∙ term_undo (lower from by) (raise from by) (lower_at from by) u
