-- How deep the binders of a normal form go.
use Rattle.std.proofs.Common.{◌≡◌, ℕ, suc, ◌+◌, ◌-◌, ◌<◌, ◌≤◌, ◌^◌, min, List, [], ◌∷◌, length, drop, refl, sym, ap, subst, ◌∙◌}
use Rattle.std.proofs.Common.{inl, inr, Bool, true, false, if◌then◌else◌, arith}
use Rattle.fol_theory.specs.Syntax.{Term, Formula, truth, falsity, pred, equal, both, either, implies, all, ex, is_name}
use Rattle.fol_theory.specs.Substitution.{replace, shift, first, instantiate, substitute, raise}
use Rattle.fol_theory.specs.Measures.{depth, height, reach}
use Rattle.fol_theory.specs.Contexts.{IsFromLast}
use Rattle.fol_theory.proofs.Sizes.{depth_kept, depth_below}
use Rattle.fol_theory.proofs.AtIndex.{first_put}
use Rattle.env_theory.specs.Declarations.{Declaration, sort, function, predicate, stated, term, formula}
use Rattle.env_theory.specs.Typing.{Environment, HasSort, WellFormed}
use Rattle.env_theory.specs.Normal.{argument, unfold_function, unfold_predicate, expand, normal}
use Rattle.env_theory.proofs.Keeps.{normal_formed}
use Rattle.env_theory.proofs.Sorts.{formula_reach, replace_formed, fits_first}
use Rattle.form_core.specs.Binders.{binders_of, binders}

function_depth : (n : List ℕ) (b : Term) (a : Formula) → depth (unfold_function n b a) ≡ depth a
function_depth n b truth = refl
function_depth n b falsity = refl
function_depth n b (pred p ts) = refl
function_depth n b (equal s t u) = refl
function_depth n b (both a c) = omega (arith, function_depth n b a, function_depth n b c)
function_depth n b (either a c) = omega (arith, function_depth n b a, function_depth n b c)
function_depth n b (implies a c) = omega (arith, function_depth n b a, function_depth n b c)
function_depth n b (all s x a) = omega (arith, function_depth n b a)
function_depth n b (ex s x a) = omega (arith, function_depth n b a)

predicate_depth : (n : List ℕ) (b a : Formula) → depth (unfold_predicate n b a) ≤ depth a + depth b
predicate_depth n b truth = omega arith
predicate_depth n b falsity = omega arith
predicate_depth n b (pred p ts) = go (is_name n p)
  where
    go : (q : Bool) → depth (if q then replace (argument ts) b else pred p ts) ≤ 0 + depth b
    go true = omega (arith, depth_kept (argument ts) b)
    go false = omega arith
predicate_depth n b (equal s t u) = omega arith
predicate_depth n b (both a c) = omega (arith, predicate_depth n b a, predicate_depth n b c)
predicate_depth n b (either a c) = omega (arith, predicate_depth n b a, predicate_depth n b c)
predicate_depth n b (implies a c) = omega (arith, predicate_depth n b a, predicate_depth n b c)
predicate_depth n b (all s x a) = omega (arith, predicate_depth n b a)
predicate_depth n b (ex s x a) = omega (arith, predicate_depth n b a)

expand_depth : (d : Declaration) (a : Formula) → depth (expand d a) ≤ depth a + binders_of d
expand_depth (sort n) a = omega arith
expand_depth (function n ss s) a = omega arith
expand_depth (predicate n ss) a = omega arith
expand_depth (stated n b) a = omega arith
expand_depth (term n ps s b) a = omega (arith, function_depth n b a)
expand_depth (formula n ps b) a = predicate_depth n b a

pub normal_depth : (E : List Declaration) (a : Formula) → depth (normal E a) ≤ depth a + binders E
normal_depth [] a = omega arith
normal_depth (d ∷ E) a = omega (arith, normal_depth E (expand d a), expand_depth d a)

-- no index of the normal form passes the variables and its binders
pub normal_reach : (E : List Declaration) → Environment E → (a : Formula) (n m : ℕ)
    → ((V : List (List ℕ)) × WellFormed E V a × (length V ≤ n)) → depth (normal E a) ≤ m → n + m ≤ 2 ^ 64 → reach (normal E a) ≤ 2 ^ 64
normal_reach E e a n m w h k = let r = formula_reach E w.0 (normal E a) (normal_formed E e w.0 a w.1) in omega (arith, r, w.2, h, k)

-- a height below its limit tells how deep binders go
pub depth_counted : (a : Formula) (h : ℕ) → h ≡ min (height a) (2 ^ 32) → h < 2 ^ 32 → depth a < h
depth_counted a h e l = omega (arith, e, l, depth_below a)

-- ---- going through declarations, the oldest first

from_last_below : {A : Type 0} (ds : List A) (i : ℕ) (d : A) → IsFromLast ds i d → i < length ds
from_last_below [] i d h = absurd h
from_last_below (x ∷ xs) i d (inl h) = omega (arith, h.0)
from_last_below (x ∷ xs) i d (inr h) = omega (arith, from_last_below xs i d h)

pub one_more : {A : Type 0} (ds : List A) (i : ℕ) (d : A) → IsFromLast ds i d
    → drop (length ds - (i + 1)) ds ≡ d ∷ drop (length ds - i) ds
one_more [] i d h = absurd h
one_more (x ∷ xs) i d (inl h) =
    let none : length (x ∷ xs) - (i + 1) ≡ 0 = omega (arith, h.0) in
    let one : length (x ∷ xs) - i ≡ suc 0 = omega (arith, h.0) in
    ap (λ k. drop k (x ∷ xs)) none ∙ ap (λ y. y ∷ xs) (sym h.1) ∙ ap (λ k. d ∷ drop k (x ∷ xs)) (sym one)
one_more (x ∷ xs) i d (inr h) =
    let l = from_last_below xs i d h in
    let more : length (x ∷ xs) - (i + 1) ≡ suc (length xs - (i + 1)) = omega (arith, l) in
    let less : length (x ∷ xs) - i ≡ suc (length xs - i) = omega (arith, l) in
    ap (λ k. drop k (x ∷ xs)) more ∙ one_more xs i d h ∙ ap (λ k. d ∷ drop k (x ∷ xs)) (sym less)

-- ---- what is made of well formed formulas

-- no index of an instance passes the variables and the binders of the body
pub instance_reach : (E : List Declaration) (V : List (List ℕ)) (s : List ℕ) (b : Formula) (t : Term) (n : ℕ)
    → WellFormed E (s ∷ V) b → HasSort E V t s → length V ≤ n → n + depth b < 2 ^ 64 - 1 → reach (substitute 0 t b) ≤ 2 ^ 64
instance_reach E V s b t n w h e l =
    let f = replace_formed E (first t) (s ∷ V) V (fits_first E V t s h) b w in
    let r = formula_reach E V (replace (first t) b) f in
    subst (λ σ. reach (replace σ b) ≤ 2 ^ 64) (first_put t) (omega (arith, r, depth_kept (first t) b, e, l))

-- nor does one of a hypothesis as it stands under all variables
pub shifted_reach : (E : List Declaration) (V : List (List ℕ)) (a : Formula) (by n : ℕ) → WellFormed E V (shift 0 by a) → length V ≤ n
    → n + depth a < 2 ^ 64 - 1 → reach (shift 0 by a) ≤ 2 ^ 64
shifted_reach E V a by n w e l = let r = formula_reach E V (shift 0 by a) w in omega (arith, r, depth_kept (raise 0 by) a, e, l)

pub instance_is : (b : Formula) (t : Term) → substitute 0 t b ≡ instantiate b t
instance_is b t = ap (λ σ. replace σ b) (sym (first_put t))
