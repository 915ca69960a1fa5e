-- Nodes and height of what is replaced.
use Rattle.std.proofs.Common.{◌≡◌, ℕ, zero, suc, ◌+◌, ◌*◌, ◌<◌, ◌≤◌, refl, sym, ap, ◌∙◌, subst, arith, ◌⊎◌, inl, inr}
use Rattle.std.proofs.lemmas.Bool.Decides.{nat_tests}
use Rattle.fol_theory.specs.Syntax.{Term, var, app, Terms, nil, cons, Formula, truth, falsity, pred, equal, both, either, implies, all, ex}
use Rattle.fol_theory.specs.Substitution.{replace_term, replace_terms, replace, next, lift, raise, put, shift, shift_term, substitute}
use Rattle.fol_theory.specs.Substitution.{substitute_term}
use Rattle.fol_theory.specs.Measures.{term_nodes, terms_nodes, nodes, term_height, terms_height, height, depth}
use Rattle.fol_theory.proofs.AtIndex.{sides, put_small, put_here, put_large}

-- ---- a substitution of variables for variables keeps nodes and height

mutual
  term_nodes_kept : (σ : ℕ → Term) → ((i : ℕ) → term_nodes (σ i) ≡ 1) → (t : Term) → term_nodes (replace_term σ t) ≡ term_nodes t
  term_nodes_kept σ h (var i) = h i
  term_nodes_kept σ h (app f ts) = ap (λ n. n + 1) (terms_nodes_kept σ h ts)

  terms_nodes_kept : (σ : ℕ → Term) → ((i : ℕ) → term_nodes (σ i) ≡ 1) → (ts : Terms) → terms_nodes (replace_terms σ ts) ≡ terms_nodes ts
  terms_nodes_kept σ h nil = refl
  terms_nodes_kept σ h (cons t ts) = omega (arith, term_nodes_kept σ h t, terms_nodes_kept σ h ts)

lift_nodes : (σ : ℕ → Term) → ((i : ℕ) → term_nodes (σ i) ≡ 1) → (i : ℕ) → term_nodes (lift σ i) ≡ 1
lift_nodes σ h zero = refl
lift_nodes σ h (suc i) = term_nodes_kept next (λ j. refl) (σ i) ∙ h i

nodes_kept : (σ : ℕ → Term) → ((i : ℕ) → term_nodes (σ i) ≡ 1) → (a : Formula) → nodes (replace σ a) ≡ nodes a
nodes_kept σ h truth = refl
nodes_kept σ h falsity = refl
nodes_kept σ h (pred p ts) = ap (λ n. n + 1) (terms_nodes_kept σ h ts)
nodes_kept σ h (equal s t u) = omega (arith, term_nodes_kept σ h t, term_nodes_kept σ h u)
nodes_kept σ h (both a b) = omega (arith, nodes_kept σ h a, nodes_kept σ h b)
nodes_kept σ h (either a b) = omega (arith, nodes_kept σ h a, nodes_kept σ h b)
nodes_kept σ h (implies a b) = omega (arith, nodes_kept σ h a, nodes_kept σ h b)
nodes_kept σ h (all s x a) = omega (arith, nodes_kept (lift σ) (lift_nodes σ h) a)
nodes_kept σ h (ex s x a) = omega (arith, nodes_kept (lift σ) (lift_nodes σ h) a)

raise_nodes : (from by i : ℕ) → term_nodes (raise from by i) ≡ 1
raise_nodes from by i = grind (arith, nat_tests)

pub shift_term_nodes : (from by : ℕ) (t : Term) → term_nodes (shift_term from by t) ≡ term_nodes t
shift_term_nodes from by t = term_nodes_kept (raise from by) (raise_nodes from by) t

pub shift_nodes : (from by : ℕ) (a : Formula) → nodes (shift from by a) ≡ nodes a
shift_nodes from by a = nodes_kept (raise from by) (raise_nodes from by) a

-- ---- height: at most n more, where the terms put in have at most n + 1

mutual
  term_height_most : (n : ℕ) (σ : ℕ → Term) → ((i : ℕ) → term_height (σ i) ≤ n + 1) → (t : Term)
      → term_height (replace_term σ t) ≤ term_height t + n
  term_height_most n σ h (var i) = omega (arith, h i)
  term_height_most n σ h (app f ts) = omega (arith, terms_height_most n σ h ts)

  terms_height_most : (n : ℕ) (σ : ℕ → Term) → ((i : ℕ) → term_height (σ i) ≤ n + 1) → (ts : Terms)
      → terms_height (replace_terms σ ts) ≤ terms_height ts + n
  terms_height_most n σ h nil = omega arith
  terms_height_most n σ h (cons t ts) = omega (arith, term_height_most n σ h t, terms_height_most n σ h ts)

lift_height : (n : ℕ) (σ : ℕ → Term) → ((i : ℕ) → term_height (σ i) ≤ n + 1) → (i : ℕ) → term_height (lift σ i) ≤ n + 1
lift_height n σ h zero = omega arith
lift_height n σ h (suc i) = omega (arith, term_height_most 0 next (λ j. omega arith) (σ i), h i)

height_most : (n : ℕ) (σ : ℕ → Term) → ((i : ℕ) → term_height (σ i) ≤ n + 1) → (a : Formula) → height (replace σ a) ≤ height a + n
height_most n σ h truth = omega arith
height_most n σ h falsity = omega arith
height_most n σ h (pred p ts) = omega (arith, terms_height_most n σ h ts)
height_most n σ h (equal s t u) = omega (arith, term_height_most n σ h t, term_height_most n σ h u)
height_most n σ h (both a b) = omega (arith, height_most n σ h a, height_most n σ h b)
height_most n σ h (either a b) = omega (arith, height_most n σ h a, height_most n σ h b)
height_most n σ h (implies a b) = omega (arith, height_most n σ h a, height_most n σ h b)
height_most n σ h (all s x a) = omega (arith, height_most n (lift σ) (lift_height n σ h) a)
height_most n σ h (ex s x a) = omega (arith, height_most n (lift σ) (lift_height n σ h) a)

-- ---- height and nodes: no fewer than before

pub term_height_positive : (t : Term) → 1 ≤ term_height t
term_height_positive (var i) = omega arith
term_height_positive (app f ts) = omega arith

pub term_nodes_positive : (t : Term) → 1 ≤ term_nodes t
term_nodes_positive (var i) = omega arith
term_nodes_positive (app f ts) = omega arith

mutual
  term_height_least : (σ : ℕ → Term) (t : Term) → term_height t ≤ term_height (replace_term σ t)
  term_height_least σ (var i) = term_height_positive (σ i)
  term_height_least σ (app f ts) = omega (arith, terms_height_least σ ts)

  terms_height_least : (σ : ℕ → Term) (ts : Terms) → terms_height ts ≤ terms_height (replace_terms σ ts)
  terms_height_least σ nil = omega arith
  terms_height_least σ (cons t ts) = omega (arith, term_height_least σ t, terms_height_least σ ts)

height_least : (σ : ℕ → Term) (a : Formula) → height a ≤ height (replace σ a)
height_least σ truth = omega arith
height_least σ falsity = omega arith
height_least σ (pred p ts) = omega (arith, terms_height_least σ ts)
height_least σ (equal s t u) = omega (arith, term_height_least σ t, term_height_least σ u)
height_least σ (both a b) = omega (arith, height_least σ a, height_least σ b)
height_least σ (either a b) = omega (arith, height_least σ a, height_least σ b)
height_least σ (implies a b) = omega (arith, height_least σ a, height_least σ b)
height_least σ (all s x a) = omega (arith, height_least (lift σ) a)
height_least σ (ex s x a) = omega (arith, height_least (lift σ) a)

raise_height : (from by i : ℕ) → term_height (raise from by i) ≤ 0 + 1
raise_height from by i = grind (arith, nat_tests)

pub shift_term_height : (from by : ℕ) (t : Term) → term_height (shift_term from by t) ≡ term_height t
shift_term_height from by t =
    omega (arith, term_height_most 0 (raise from by) (raise_height from by) t, term_height_least (raise from by) t)

pub shift_height : (from by : ℕ) (a : Formula) → height (shift from by a) ≡ height a
shift_height from by a = omega (arith, height_most 0 (raise from by) (raise_height from by) a, height_least (raise from by) a)

put_height : (k : ℕ) (v : Term) (i : ℕ) → term_height (put k v i) ≤ term_height v + 1
put_height k v i = go (sides i k)
  where
    go : (i < k) ⊎ ((i ≡ k) ⊎ (k < i)) → term_height (put k v i) ≤ term_height v + 1
    go (inl h) = subst (λ t. term_height t ≤ term_height v + 1) (sym (put_small k v i h)) (omega arith)
    go (inr (inl h)) = subst (λ t. term_height t ≤ term_height v + 1) (sym (put_here k v i h)) (omega arith)
    go (inr (inr h)) = subst (λ t. term_height t ≤ term_height v + 1) (sym (put_large k v i h)) (omega arith)

pub substitute_height_most : (k : ℕ) (v : Term) (a : Formula) → height (substitute k v a) ≤ height a + term_height v
substitute_height_most k v a = height_most (term_height v) (put k v) (put_height k v) a

pub substitute_height_least : (k : ℕ) (v : Term) (a : Formula) → height a ≤ height (substitute k v a)
substitute_height_least k v a = height_least (put k v) a

pub substitute_term_height_most : (k : ℕ) (v t : Term) → term_height (substitute_term k v t) ≤ term_height t + term_height v
substitute_term_height_most k v t = term_height_most (term_height v) (put k v) (put_height k v) t

pub substitute_term_height_least : (k : ℕ) (v t : Term) → term_height t ≤ term_height (substitute_term k v t)
substitute_term_height_least k v t = term_height_least (put k v) t

-- ---- nodes: at most n times as many, where the terms put in have at most n

times_step : (x y n : ℕ) → (x + y) * n ≡ x * n + y * n
times_step x y n = grind arith

times_next : (x n : ℕ) → (x + 1) * n ≡ x * n + n
times_next x n = grind arith

mutual
  term_nodes_most : (n : ℕ) (σ : ℕ → Term) → 1 ≤ n → ((i : ℕ) → term_nodes (σ i) ≤ n) → (t : Term)
      → term_nodes (replace_term σ t) ≤ term_nodes t * n
  term_nodes_most n σ p h (var i) = omega (arith, h i)
  term_nodes_most n σ p h (app f ts) = omega (arith, p, terms_nodes_most n σ p h ts, times_next (terms_nodes ts) n)

  terms_nodes_most : (n : ℕ) (σ : ℕ → Term) → 1 ≤ n → ((i : ℕ) → term_nodes (σ i) ≤ n) → (ts : Terms)
      → terms_nodes (replace_terms σ ts) ≤ terms_nodes ts * n
  terms_nodes_most n σ p h nil = omega arith
  terms_nodes_most n σ p h (cons t ts) =
      omega (arith, term_nodes_most n σ p h t, terms_nodes_most n σ p h ts, times_step (term_nodes t) (terms_nodes ts) n)

lift_nodes_most : (n : ℕ) (σ : ℕ → Term) → 1 ≤ n → ((i : ℕ) → term_nodes (σ i) ≤ n) → (i : ℕ) → term_nodes (lift σ i) ≤ n
lift_nodes_most n σ p h zero = p
lift_nodes_most n σ p h (suc i) = omega (arith, term_nodes_kept next (λ j. refl) (σ i), h i)

two_parts : (x y u w n : ℕ) → 1 ≤ n → x ≤ u * n → y ≤ w * n → x + y + 1 ≤ (u + w + 1) * n
two_parts x y u w n p h k = omega (arith, p, h, k, times_step u w n, times_next (u + w) n)

one_part : (x u n : ℕ) → 1 ≤ n → x ≤ u * n → x + 1 ≤ (u + 1) * n
one_part x u n p h = omega (arith, p, h, times_next u n)

nodes_most : (n : ℕ) (σ : ℕ → Term) → 1 ≤ n → ((i : ℕ) → term_nodes (σ i) ≤ n) → (a : Formula) → nodes (replace σ a) ≤ nodes a * n
nodes_most n σ p h truth = omega (arith, p)
nodes_most n σ p h falsity = omega (arith, p)
nodes_most n σ p h (pred q ts) = one_part _ _ n p (terms_nodes_most n σ p h ts)
nodes_most n σ p h (equal s t u) = two_parts _ _ _ _ n p (term_nodes_most n σ p h t) (term_nodes_most n σ p h u)
nodes_most n σ p h (both a b) = two_parts _ _ _ _ n p (nodes_most n σ p h a) (nodes_most n σ p h b)
nodes_most n σ p h (either a b) = two_parts _ _ _ _ n p (nodes_most n σ p h a) (nodes_most n σ p h b)
nodes_most n σ p h (implies a b) = two_parts _ _ _ _ n p (nodes_most n σ p h a) (nodes_most n σ p h b)
nodes_most n σ p h (all s x a) = one_part _ _ n p (nodes_most n (lift σ) p (lift_nodes_most n σ p h) a)
nodes_most n σ p h (ex s x a) = one_part _ _ n p (nodes_most n (lift σ) p (lift_nodes_most n σ p h) a)

put_nodes : (k : ℕ) (v : Term) (i : ℕ) → term_nodes (put k v i) ≤ term_nodes v
put_nodes k v i = go (sides i k)
  where
    go : (i < k) ⊎ ((i ≡ k) ⊎ (k < i)) → term_nodes (put k v i) ≤ term_nodes v
    go (inl h) = subst (λ t. term_nodes t ≤ term_nodes v) (sym (put_small k v i h)) (term_nodes_positive v)
    go (inr (inl h)) = subst (λ t. term_nodes t ≤ term_nodes v) (sym (put_here k v i h)) (omega arith)
    go (inr (inr h)) = subst (λ t. term_nodes t ≤ term_nodes v) (sym (put_large k v i h)) (term_nodes_positive v)

pub substitute_nodes_most : (k : ℕ) (v : Term) (a : Formula) → nodes (substitute k v a) ≤ nodes a * term_nodes v
substitute_nodes_most k v a = nodes_most (term_nodes v) (put k v) (term_nodes_positive v) (put_nodes k v) a

pub substitute_term_nodes_most : (k : ℕ) (v t : Term) → term_nodes (substitute_term k v t) ≤ term_nodes t * term_nodes v
substitute_term_nodes_most k v t = term_nodes_most (term_nodes v) (put k v) (term_nodes_positive v) (put_nodes k v) t

mutual
  term_nodes_least : (σ : ℕ → Term) (t : Term) → term_nodes t ≤ term_nodes (replace_term σ t)
  term_nodes_least σ (var i) = term_nodes_positive (σ i)
  term_nodes_least σ (app f ts) = omega (arith, terms_nodes_least σ ts)

  terms_nodes_least : (σ : ℕ → Term) (ts : Terms) → terms_nodes ts ≤ terms_nodes (replace_terms σ ts)
  terms_nodes_least σ nil = omega arith
  terms_nodes_least σ (cons t ts) = omega (arith, term_nodes_least σ t, terms_nodes_least σ ts)

nodes_least : (σ : ℕ → Term) (a : Formula) → nodes a ≤ nodes (replace σ a)
nodes_least σ truth = omega arith
nodes_least σ falsity = omega arith
nodes_least σ (pred p ts) = omega (arith, terms_nodes_least σ ts)
nodes_least σ (equal s t u) = omega (arith, term_nodes_least σ t, term_nodes_least σ u)
nodes_least σ (both a b) = omega (arith, nodes_least σ a, nodes_least σ b)
nodes_least σ (either a b) = omega (arith, nodes_least σ a, nodes_least σ b)
nodes_least σ (implies a b) = omega (arith, nodes_least σ a, nodes_least σ b)
nodes_least σ (all s x a) = omega (arith, nodes_least (lift σ) a)
nodes_least σ (ex s x a) = omega (arith, nodes_least (lift σ) a)

pub substitute_nodes_least : (k : ℕ) (v : Term) (a : Formula) → nodes a ≤ nodes (substitute k v a)
substitute_nodes_least k v a = nodes_least (put k v) a

pub substitute_term_nodes_least : (k : ℕ) (v t : Term) → term_nodes t ≤ term_nodes (substitute_term k v t)
substitute_term_nodes_least k v t = term_nodes_least (put k v) t

-- ---- binders

pub depth_kept : (σ : ℕ → Term) (a : Formula) → depth (replace σ a) ≡ depth a
depth_kept σ truth = refl
depth_kept σ falsity = refl
depth_kept σ (pred p ts) = refl
depth_kept σ (equal s t u) = refl
depth_kept σ (both a b) = omega (arith, depth_kept σ a, depth_kept σ b)
depth_kept σ (either a b) = omega (arith, depth_kept σ a, depth_kept σ b)
depth_kept σ (implies a b) = omega (arith, depth_kept σ a, depth_kept σ b)
depth_kept σ (all s x a) = omega (arith, depth_kept (lift σ) a)
depth_kept σ (ex s x a) = omega (arith, depth_kept (lift σ) a)

pub depth_below : (a : Formula) → depth a < height a
depth_below truth = omega arith
depth_below falsity = omega arith
depth_below (pred p ts) = omega arith
depth_below (equal s t u) = omega arith
depth_below (both a b) = omega (arith, depth_below a, depth_below b)
depth_below (either a b) = omega (arith, depth_below a, depth_below b)
depth_below (implies a b) = omega (arith, depth_below a, depth_below b)
depth_below (all s x a) = omega (arith, depth_below a)
depth_below (ex s x a) = omega (arith, depth_below a)
