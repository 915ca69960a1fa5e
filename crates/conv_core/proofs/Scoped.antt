-- Scopes by number.
use Rattle.std.proofs.Common.{◌≡◌, ℕ, zero, suc, ◌+◌, ◌-◌, ◌<◌, ◌≤◌, true, false, List, [], ◌∷◌, ◌++◌, length, get_or, refl}
use Rattle.std.proofs.Common.{sym, ap, subst, ◌∙◌, if◌then◌else◌, ◌==◌, arith}
use Rattle.std.proofs.lemmas.Bool.Decides.{nat_tests}
use Rattle.env_theory.specs.Scopes.{Scope, whole, under}
use Rattle.env_theory.specs.Machine.{leads, Holds}
use Rattle.conv_core.specs.declared.frame.Frame.{Frame}
use Rattle.conv_core.specs.declared.frame.Frame.TheVariants.{Body, Under}
use Rattle.conv_core.specs.Frames.{outer, framed, more, scopes, no_scopes, scope_of, Ordered}

older : (k : ℕ → Scope) (n : ℕ) (f : Frame) (i : ℕ) → i ≤ n → more k n f i ≡ k i
older k n f i h = ap (λ q. if q then framed k f else k i) (apart i n h)
  where
    apart : (i n : ℕ) → i ≤ n → (i == suc n) ≡ false
    apart i n h = grind (arith, nat_tests)

newest : (k : ℕ → Scope) (n : ℕ) (f : Frame) → more k n f (suc n) ≡ framed k f
newest k n f = ap (λ q. if q then framed k f else k (suc n)) (own n)
  where
    own : (n : ℕ) → (suc n == suc n) ≡ true
    own n = grind (arith, nat_tests)

-- later frames leave the scopes alone
pub keeps : (k : ℕ → Scope) (n : ℕ) (fs : List Frame) (i : ℕ) → i ≤ n → scopes k n fs i ≡ k i
keeps k n [] i h = refl
keeps k n (f ∷ fs) i h = keeps (more k n f) (suc n) fs i (omega (arith, h)) ∙ older k n f i h

framed_by : (k l : ℕ → Scope) (f : Frame) → k (outer f) ≡ l (outer f) → framed k f ≡ framed l f
framed_by k l (Body ts o) e = ap (λ c. framed (λ i. c) (Body ts o)) e
framed_by k l (Under o) e = ap (λ c. framed (λ i. c) (Under o)) e

-- the frame with a number
pub numbered : (k : ℕ → Scope) (n : ℕ) (fs : List Frame) (j : ℕ) (d : Frame) → j < length fs → outer (get_or fs j d) ≤ n + j
    → scopes k n fs (suc (n + j)) ≡ framed (scopes k n fs) (get_or fs j d)
numbered k n [] j d h o = absurd (none h)
  where
    none : j < 0 → ⊥
    none h = omega (arith, h)
numbered k n (f ∷ fs) zero d h o =
    ap (λ m. scopes (more k n f) (suc n) fs (suc m)) (plain n) ∙ keeps (more k n f) (suc n) fs (suc n) (omega arith) ∙ newest k n f ∙
    framed_by k (scopes k n (f ∷ fs)) f (sym (keeps k n (f ∷ fs) (outer f) (omega (arith, o))))
  where
    plain : (n : ℕ) → n + zero ≡ n
    plain n = omega arith
numbered k n (f ∷ fs) (suc j) d h o =
    ap (λ m. scopes (more k n f) (suc n) fs (suc m)) (turned n j)
    ∙ numbered (more k n f) (suc n) fs j d (omega (arith, h)) (omega (arith, o))
  where
    turned : (n j : ℕ) → n + suc j ≡ suc n + j
    turned n j = omega arith

pub scopes_joint : (k : ℕ → Scope) (n : ℕ) (fs gs : List Frame) → scopes k n (fs ++ gs) ≡ scopes (scopes k n fs) (n + length fs) gs
scopes_joint k n [] gs = ap (λ m. scopes k m gs) (plain n)
  where
    plain : (n : ℕ) → n ≡ n + 0
    plain n = omega arith
scopes_joint k n (f ∷ fs) gs = scopes_joint (more k n f) (suc n) fs gs
    ∙ ap (λ m. scopes (scopes (more k n f) (suc n) fs) m gs) (turned n (length fs))
  where
    turned : (n j : ℕ) → suc n + j ≡ n + suc j
    turned n j = omega arith

-- ---- from the first frame on

from_zero : (n : ℕ) → 0 + n ≡ n
from_zero n = omega arith

pub at_frame : (fs : List Frame) (j : ℕ) (d : Frame) → Ordered fs → j < length fs → scope_of fs (suc j)
    ≡ framed (scope_of fs) (get_or fs j d)
at_frame fs j d o h = ap (λ m. scopes no_scopes 0 fs (suc m)) (sym (from_zero j)) ∙ numbered no_scopes 0 fs j d h (omega (arith, o j d h))

after_all : (fs gs : List Frame) → scope_of (fs ++ gs) ≡ scopes (scope_of fs) (length fs) gs
after_all fs gs = scopes_joint no_scopes 0 fs gs ∙ ap (λ m. scopes (scopes no_scopes 0 fs) m gs) (from_zero (length fs))

pub before : (fs gs : List Frame) (i : ℕ) → i ≤ length fs → scope_of (fs ++ gs) i ≡ scope_of fs i
before fs gs i h = ap (λ k. k i) (after_all fs gs) ∙ keeps (scope_of fs) (length fs) gs i h

pub pushed : (fs : List Frame) (f : Frame) → scope_of (fs ++ (f ∷ [])) (length fs + 1) ≡ framed (scope_of fs) f
pushed fs f = ap (λ k. k (length fs + 1)) (after_all fs (f ∷ [])) ∙ ap (more (scope_of fs) (length fs) f) (next (length fs))
    ∙ newest (scope_of fs) (length fs) f
  where
    next : (n : ℕ) → n + 1 ≡ suc n
    next n = omega arith

-- ---- the steps of `follow`

pub below : (fs : List Frame) (c : ℕ) (d f : Frame) → Ordered fs → 0 < c → c ≤ length fs → get_or fs (c - 1) d ≡ f → (scope_of fs c
    ≡ framed (scope_of fs) f) × (outer f < c)
below fs c d f o p h e = (
  ap (scope_of fs) (back c p) ∙ at_frame fs (c - 1) d o (inside c (length fs) p h) ∙ ap (framed (scope_of fs)) e,
  within (outer f) c p (subst (λ g. outer g ≤ c - 1) e (o (c - 1) d (inside c (length fs) p h))),
)
  where
    back : (c : ℕ) → 0 < c → c ≡ suc (c - 1)
    back c p = omega (arith, p)

    inside : (c n : ℕ) → 0 < c → c ≤ n → c - 1 < n
    inside c n p h = omega (arith, p, h)

    within : (m c : ℕ) → 0 < c → m ≤ c - 1 → m < c
    within m c p h = omega (arith, p, h)

pub leads_under : (c : Scope) (by i : ℕ) → (i ≡ 0 → ⊥) → leads c (by + 1) (i - 1) ≡ leads (under c) by i
leads_under c by zero h = absurd (h refl)
leads_under c by (suc i) h = ap (leads c (by + 1)) (back i)
  where
    back : (i : ℕ) → suc i - 1 ≡ i
    back i = omega arith

pub holds_under : (c : Scope) (i : ℕ) → (i ≡ 0 → ⊥) → Holds (under c) i → Holds c (i - 1)
holds_under c zero h k = absurd (h refl)
holds_under c (suc i) h k = subst (Holds c) (back i) k
  where
    back : (i : ℕ) → i ≡ suc i - 1
    back i = omega arith

pub at_whole : (fs : List Frame) (c : ℕ) → c ≤ 0 → scope_of fs c ≡ whole
at_whole fs c h = ap (scope_of fs) (nothing c h) ∙ keeps no_scopes 0 fs 0 (omega arith)
  where
    nothing : (c : ℕ) → c ≤ 0 → c ≡ 0
    nothing c h = omega (arith, h)
