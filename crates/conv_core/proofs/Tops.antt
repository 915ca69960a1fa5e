-- The machine's steps on formulas, over frames.
use Rattle.std.proofs.Common.{◌≡◌, ℕ, zero, suc, ◌+◌, ◌<◌, ◌≤◌, ◌^◌, List, [], ◌∷◌, ◌++◌, length, get_or, refl, sym, ap, subst, ◌∙◌}
use Rattle.std.proofs.Common.{Some, arith}
use Rattle.std.specs.declared.sync.ArcSlice.{ArcSlice}
use Rattle.std.specs.declared.alloc.Global.{Global}
use Rattle.fol_theory.specs.Syntax.{Term, Terms, Formula as Meaning, truth, falsity, pred, equal, both, either, implies, all, ex}
use Rattle.fol_theory.specs.Measures.{reach}
use Rattle.term_core.specs.Formula.{meaning}
use Rattle.term_core.specs.declared.term.Term.{Term as TermTree}
use Rattle.term_core.specs.declared.formula.Formula.{Formula}
use Rattle.term_core.specs.declared.formula.Formula.TheVariants as made
use Rattle.term_core.proofs.Shapes.{kind, is_pred, made_alike}
use Rattle.fol_theory.specs.Printing.{unnamed}
use Rattle.env_theory.specs.Declarations.{Declaration, find}
use Rattle.env_theory.specs.Typing.{Environment, WellFormed}
use Rattle.env_theory.specs.Normal.{normal}
use Rattle.env_theory.specs.Scopes.{Scope, body, under, value, values, formula_value}
use Rattle.env_theory.specs.Machine.{ReadsFormula, formula_left, unders, formula_body}
use Rattle.env_theory.proofs.Values.{formula_equal, formula_both, formula_either, formula_implies, formula_all, formula_ex, formula_whole}
use Rattle.env_theory.proofs.Machines.{formula_none, formula_some}
use Rattle.env_theory.proofs.FormulaCosts.{all_step, ex_step}
use Rattle.conv_core.specs.declared.frame.Frame.{Frame}
use Rattle.conv_core.specs.declared.frame.Frame.TheVariants.{Body, Under}
use Rattle.conv_core.specs.Frames.{outer, framed, scope_of, Ordered}
use Rattle.conv_core.specs.Heads.{Standing, StandingAll}
use Rattle.conv_core.specs.Formulas.{Rigid, Scoped, StandingFormula, StandingBelow}
use Rattle.conv_core.proofs.Scoped.{pushed, at_frame, at_whole}
use Rattle.conv_core.proofs.Steps.{ordered_more, longer_by}

-- ---- how many quantifiers stand around

framed_unders : (k : ℕ → Scope) (f : Frame) (n : ℕ) → unders (k (outer f)) ≤ n → unders (framed k f) ≤ suc n
framed_unders k (Body ts o) n h = omega (arith, h)
framed_unders k (Under o) n h = omega (arith, h)

few_unders : (fs : List Frame) → Ordered fs → (n c : ℕ) → c ≤ n → c ≤ length fs → (d : Frame) → unders (scope_of fs c) ≤ c
few_unders fs o n zero h l d = subst (λ s. unders s ≤ 0) (sym (at_whole fs 0 (omega arith))) (omega arith)
few_unders fs o zero (suc c) h l d = absurd (omega (arith, h))
few_unders fs o (suc n) (suc c) h l d = subst (λ s. unders s ≤ suc c) (sym (at_frame fs c d o (omega (arith, l))))
    (framed_unders (scope_of fs) (get_or fs c d) c (before (few_unders fs o n (outer (get_or fs c d)) (below h (o c d (omega
    (arith, l)))) (inside (o c d (omega (arith, l)))) d) (o c d (omega (arith, l)))))
  where
    below : suc c ≤ suc n → outer (get_or fs c d) ≤ c → outer (get_or fs c d) ≤ n
    below h k = omega (arith, h, k)

    inside : outer (get_or fs c d) ≤ c → outer (get_or fs c d) ≤ length fs
    inside k = omega (arith, k, l)

    before : unders (scope_of fs (outer (get_or fs c d))) ≤ outer (get_or fs c d) → outer (get_or fs c d) ≤ c
        → unders (scope_of fs (outer (get_or fs c d))) ≤ c
    before u k = omega (arith, u, k)

pub room : (fs : List Frame) → Ordered fs → (c : ℕ) → c ≤ length fs → c < 2 ^ 64 → 0 + unders (scope_of fs c) < 2 ^ 64
room fs o c h l = let k = few_unders fs o c c (omega arith) h (Under 0) in omega (arith, k, l)

-- ---- which formulas have no definition at the head

rigid_kind : (E : List Declaration) (a : Meaning) → (kind (unnamed a) ≡ is_pred → ⊥) → Rigid E a
rigid_kind E truth h = tt
rigid_kind E falsity h = tt
rigid_kind E (pred p ts) h = absurd (h refl)
rigid_kind E (equal s t u) h = tt
rigid_kind E (both a b) h = tt
rigid_kind E (either a b) h = tt
rigid_kind E (implies a b) h = tt
rigid_kind E (all s x a) h = tt
rigid_kind E (ex s x a) h = tt

-- ---- a predicate

pub formula_step : (E : List Declaration) → Environment E → (fs : List Frame) (c : ℕ) (a : Meaning) (p : List ℕ) (ts : Terms)
    (b : Meaning) (g : Frame) → a ≡ pred p ts → StandingFormula E fs c a → formula_body (find E p) ≡ Some b →
    framed (scope_of fs) g ≡ body ts (scope_of fs c) → outer g ≡ c →
    StandingFormula E (fs ++ (g ∷ [])) (length fs + 1) b × (formula_value E (scope_of (fs ++ (g ∷ [])) (length fs + 1)) b
    ≡ formula_value E (scope_of fs c) a) ×
    (formula_left E (scope_of (fs ++ (g ∷ [])) (length fs + 1)) b < formula_left E (scope_of fs c) a)
formula_step E x fs c a p ts b g e s k q m =
    let gs = fs ++ (g ∷ []) in
    let w = formula_some E x (scope_of fs c) p ts (subst (ReadsFormula E (scope_of fs c)) e s.2.0) b k in
    let r : scope_of gs (length fs + 1) ≡ body ts (scope_of fs c) = pushed fs g ∙ q in
    let v : formula_value E (scope_of gs (length fs + 1)) b ≡ formula_value E (scope_of fs c) a = ap (λ z. formula_value E z b) r
    ∙ sym w.0 ∙ ap (formula_value E (scope_of fs c)) (sym e) in (
      (
        ordered_more fs g s.0 (subst (λ n. n ≤ length fs) (sym m) s.1),
        longer_by fs g,
        (
          subst (λ z. ReadsFormula E z b)
              (sym r) w.2,
          subst (λ z. reach z ≤ 2 ^ 64) (sym v) s.2.1,
        ),
      ),
      v,
      subst (λ z. formula_left E z b < formula_left E (scope_of fs c) a) (sym r) (subst (λ z. formula_left E (body ts
          (scope_of fs c)) b < formula_left E (scope_of fs c) z) (sym e) w.1),
    )

pub predicate_part : (E : List Declaration) → Environment E → (fs : List Frame) (c : ℕ) (a : Meaning) (p : List ℕ) (ts : Terms) → a
    ≡ pred p ts → StandingFormula E fs c a → Rigid E a → c < 2 ^ 64 →
    StandingAll E fs c 0 ts × (formula_value E (scope_of fs c) a ≡ pred p (values E (scope_of fs c) 0 ts))
predicate_part E x fs c a p ts e s r l =
    let w = formula_none E x (scope_of fs c) p ts (subst (ReadsFormula E (scope_of fs c)) e s.2.0) (subst (Rigid E) e r) in
    let v = ap (formula_value E (scope_of fs c)) e ∙ w.0 in
    ((s.0, s.1, w.2, room fs s.0 c s.1 l, subst (λ z. reach z ≤ 2 ^ 64) v s.2.1), v)

-- ---- an equation

pub equal_parts : (E : List Declaration) (fs : List Frame) (c : ℕ) (a : Meaning) (s : List ℕ) (t u : Term) → a ≡ equal s t u
    → StandingFormula E fs c a → c < 2 ^ 64 →
    Standing E fs c 0 t × Standing E fs c 0 u × (formula_value E (scope_of fs c) a
    ≡ equal s (value E (scope_of fs c) 0 t) (value E (scope_of fs c) 0 u))
equal_parts E fs c a s t u e h l =
    let w = subst (ReadsFormula E (scope_of fs c)) e h.2.0 in
    let v = ap (formula_value E (scope_of fs c)) e ∙ formula_equal E (scope_of fs c) s t u in
    let r = subst (λ z. reach z ≤ 2 ^ 64) v h.2.1 in (
      (h.0, h.1, (w.0, s, w.1, w.2.1), room fs h.0 c h.1 l, omega (arith, r)),
      (
        h.0,
        h.1,
        (w.0, s, w.1, w.2.2),
        room fs h.0 c h.1 l,
        omega (arith, r),
      ),
      v,
    )

-- ---- connectives

abbrev Parts : List Declaration → List Frame → ℕ → (Meaning → Meaning → Meaning) → Meaning → Meaning → Meaning → Type 0
Parts E fs c f a b d = StandingFormula E fs c b × StandingFormula E fs c d × (formula_value E (scope_of fs c) a
    ≡ f (formula_value E (scope_of fs c) b) (formula_value E (scope_of fs c) d)) ×
    (formula_left E (scope_of fs c) b < formula_left E (scope_of fs c) a)
    × (formula_left E (scope_of fs c) d < formula_left E (scope_of fs c) a)

pub both_parts : (E : List Declaration) (fs : List Frame) (c : ℕ) (a b d : Meaning) → a ≡ both b d → StandingFormula E fs c a
    → Parts E fs c both a b d
both_parts E fs c a b d e h =
    let w = subst (ReadsFormula E (scope_of fs c)) e h.2.0 in
    let v = ap (formula_value E (scope_of fs c)) e ∙ formula_both E (scope_of fs c) b d in
    let r = subst (λ z. reach z ≤ 2 ^ 64) v h.2.1 in
    let n = ap (formula_left E (scope_of fs c)) e in (
      (h.0, h.1, ((w.0, w.1, w.2.0), omega (arith, r))),
      (h.0, h.1, ((w.0, w.1, w.2.1), omega (arith, r))),
      v,
      omega (arith, n),
      omega
          (arith, n),
    )

pub either_parts : (E : List Declaration) (fs : List Frame) (c : ℕ) (a b d : Meaning) → a ≡ either b d → StandingFormula E fs c a
    → Parts E fs c either a b d
either_parts E fs c a b d e h =
    let w = subst (ReadsFormula E (scope_of fs c)) e h.2.0 in
    let v = ap (formula_value E (scope_of fs c)) e ∙ formula_either E (scope_of fs c) b d in
    let r = subst (λ z. reach z ≤ 2 ^ 64) v h.2.1 in
    let n = ap (formula_left E (scope_of fs c)) e in (
      (h.0, h.1, ((w.0, w.1, w.2.0), omega (arith, r))),
      (h.0, h.1, ((w.0, w.1, w.2.1), omega (arith, r))),
      v,
      omega (arith, n),
      omega
          (arith, n),
    )

pub implies_parts : (E : List Declaration) (fs : List Frame) (c : ℕ) (a b d : Meaning) → a ≡ implies b d → StandingFormula E fs c a
    → Parts E fs c implies a b d
implies_parts E fs c a b d e h =
    let w = subst (ReadsFormula E (scope_of fs c)) e h.2.0 in
    let v = ap (formula_value E (scope_of fs c)) e ∙ formula_implies E (scope_of fs c) b d in
    let r = subst (λ z. reach z ≤ 2 ^ 64) v h.2.1 in
    let n = ap (formula_left E (scope_of fs c)) e in (
      (h.0, h.1, ((w.0, w.1, w.2.0), omega (arith, r))),
      (h.0, h.1, ((w.0, w.1, w.2.1), omega (arith, r))),
      v,
      omega (arith, n),
      omega
          (arith, n),
    )

-- ---- quantifiers

pub all_part : (E : List Declaration) (fs : List Frame) (c : ℕ) (a : Meaning) (s x : List ℕ) (b : Meaning) → a ≡ all s x b
    → StandingFormula E fs c a →
    StandingBelow E fs c b × (formula_value E (scope_of fs c) a ≡ all s x (formula_value E (under (scope_of fs c)) b))
    × (formula_left E (under (scope_of fs c)) b < formula_left E (scope_of fs c) a)
all_part E fs c a s x b e h =
    let w = subst (ReadsFormula E (scope_of fs c)) e h.2.0 in
    let v = ap (formula_value E (scope_of fs c)) e ∙ formula_all E (scope_of fs c) s x b in
    let r = subst (λ z. reach z ≤ 2 ^ 64) v h.2.1 in (
      (h.0, h.1, ((s ∷ w.0, (s, w.0, refl, w.1), w.2.1), r)),
      v,
      subst (λ z. formula_left E (under (scope_of fs c)) b < formula_left E
          (scope_of fs c) z) (sym e) (all_step E (scope_of fs c) s x b),
    )

pub ex_part : (E : List Declaration) (fs : List Frame) (c : ℕ) (a : Meaning) (s x : List ℕ) (b : Meaning) → a ≡ ex s x b
    → StandingFormula E fs c a →
    StandingBelow E fs c b × (formula_value E (scope_of fs c) a ≡ ex s x (formula_value E (under (scope_of fs c)) b))
    × (formula_left E (under (scope_of fs c)) b < formula_left E (scope_of fs c) a)
ex_part E fs c a s x b e h =
    let w = subst (ReadsFormula E (scope_of fs c)) e h.2.0 in
    let v = ap (formula_value E (scope_of fs c)) e ∙ formula_ex E (scope_of fs c) s x b in
    let r = subst (λ z. reach z ≤ 2 ^ 64) v h.2.1 in (
      (h.0, h.1, ((s ∷ w.0, (s, w.0, refl, w.1), w.2.1), r)),
      v,
      subst (λ z. formula_left E (under (scope_of fs c)) b < formula_left E
          (scope_of fs c) z) (sym e) (ex_step E (scope_of fs c) s x b),
    )

-- into the body of a quantifier
pub below_step : (E : List Declaration) (fs : List Frame) (c : ℕ) (b : Meaning) → StandingBelow E fs c b →
    StandingFormula E (fs ++ (Under c ∷ [])) (length fs + 1) b × (scope_of (fs ++ (Under c ∷ [])) (length fs + 1) ≡ under (scope_of fs c))
below_step E fs c b h = let p : scope_of (fs ++ (Under c ∷ [])) (length fs + 1) ≡ under (scope_of fs c) = pushed fs (Under c) in
    ((ordered_more fs (Under c) h.0 h.1, longer_by fs (Under c), subst (λ z. Scoped E z b) (sym p) h.2), p)

kind_made : (a : Formula) → kind (unnamed (meaning a)) ≡ is_pred → (p : List ℕ) × (ts : ArcSlice TermTree Global) × (a ≡ made.Pred p ts)
kind_made a e = made_alike is_pred a a e refl

pub rigid_other : (E : List Declaration) (a : Formula) → ((p : List ℕ) (ts : ArcSlice TermTree Global) → a ≡ made.Pred p ts → ⊥)
    → Rigid E (meaning a)
rigid_other E a h = rigid_kind E (meaning a) (λ e. let w = kind_made a e in h w.0 w.1 w.2)

-- ---- the whole, with no frames

pub start : (E : List Declaration) (a : Meaning) → (V : List (List ℕ)) × WellFormed E V a → reach (normal E a) ≤ 2 ^ 64
    → StandingFormula E [] 0 a
start E a f r = (
  λ i d h. absurd (omega (arith, h)),
  omega arith,
  (
    (f.0, tt, f.1),
    subst (λ z. reach z ≤ 2 ^ 64) (sym
        (formula_whole E a)) r,
  ),
)
