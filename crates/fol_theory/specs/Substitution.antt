-- Simultaneous substitution, and as its instances a shift and the substitution for one variable.
use Rattle.std.specs.Prelude.{ℕ, zero, suc, ◌+◌, ◌-◌, if◌then◌else◌, nat_lt, ◌==◌}
use Rattle.fol_theory.specs.Syntax.{Term, var, app, Terms, nil, cons, Formula, truth, falsity, pred, equal, both, either, implies, all, ex}

-- ---- a substitution gives a term for each variable

abbrev mutual
  -- a term with each variable's term put in for it
  pub replace_term : (ℕ → Term) → Term → Term
  replace_term σ (var i) = σ i
  replace_term σ (app f ts) = app f (replace_terms σ ts)

  -- a list of terms with each variable's term put in for it
  pub replace_terms : (ℕ → Term) → Terms → Terms
  replace_terms σ nil = nil
  replace_terms σ (cons t ts) = cons (replace_term σ t) (replace_terms σ ts)

-- each variable becomes the next greater one
abbrev pub next : ℕ → Term
next i = var (suc i)

-- a substitution, as it stands under one binder
abbrev pub lift : (ℕ → Term) → ℕ → Term
lift σ zero = var zero
lift σ (suc i) = replace_term next (σ i)

-- a formula with each variable's term put in for it, shifted under the binders that it passes
abbrev pub replace : (ℕ → Term) → Formula → Formula
replace σ truth = truth
replace σ falsity = falsity
replace σ (pred p ts) = pred p (replace_terms σ ts)
replace σ (equal s t u) = equal s (replace_term σ t) (replace_term σ u)
replace σ (both a b) = both (replace σ a) (replace σ b)
replace σ (either a b) = either (replace σ a) (replace σ b)
replace σ (implies a b) = implies (replace σ a) (replace σ b)
replace σ (all s x a) = all s x (replace (lift σ) a)
replace σ (ex s x a) = ex s x (replace (lift σ) a)

-- ---- the two instances by index

-- each variable that is at least `from` becomes greater by `by`
abbrev pub raise : ℕ → ℕ → ℕ → Term
raise from by i = if nat_lt i from then var i else var (i + by)

-- the value for the variable `index`, and the greater variables lowered by one
abbrev pub put : ℕ → Term → ℕ → Term
put index value i = if nat_lt i index then var i else if i == index then value else var (i - 1)

-- a term with the variables from `from` on greater by `by`
abbrev pub shift_term : ℕ → ℕ → Term → Term
shift_term from by t = replace_term (raise from by) t

-- a formula with the variables outside of it from `from` on greater by `by`
abbrev pub shift : ℕ → ℕ → Formula → Formula
shift from by a = replace (raise from by) a

-- a term with the value for the variable `index`
abbrev pub substitute_term : ℕ → Term → Term → Term
substitute_term index value t = replace_term (put index value) t

-- a formula with the value for the variable `index` outside of it
abbrev pub substitute : ℕ → Term → Formula → Formula
substitute index value a = replace (put index value) a

-- ---- the two instances of a rule with one bound variable

-- the newest variable is the term, the others are those before it
abbrev pub first : Term → ℕ → Term
first t zero = t
first t (suc i) = var i

-- a formula, as it stands under one variable more
abbrev pub under : Formula → Formula
under a = replace next a

-- the body of a quantifier with a term for its variable
abbrev pub instantiate : Formula → Term → Formula
instantiate a t = replace (first t) a
