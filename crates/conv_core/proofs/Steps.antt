-- The machine's steps, over frames.
use Rattle.std.proofs.Common.{◌≡◌, ℕ, ◌+◌, ◌<◌, ◌≤◌, ◌^◌, List, [], ◌∷◌, ◌++◌, length, get_or, refl, sym, ap, subst, ◌∙◌, ◌⊎◌, inl}
use Rattle.std.proofs.Common.{inr, Option, Some, None, arith}
use Rattle.std.proofs.lemmas.Grind.{common_steps}
use Rattle.std.proofs.lemmas.List.{append_assoc, append-nil}
use Rattle.fol_theory.specs.Syntax.{Term, var, app, Terms}
use Rattle.fol_theory.specs.Measures.{term_reach}
use Rattle.env_theory.specs.Declarations.{Declaration, sort, function, predicate, stated, term, formula, find, bound}
use Rattle.env_theory.specs.Typing.{HasSort, HaveSorts, Gives, takes, Environment}
use Rattle.env_theory.specs.Normal.{many, argument, normal_term}
use Rattle.env_theory.proofs.Weaker.{puts}
use Rattle.env_theory.proofs.Sorts.{many_sorts, at_below, arguments_fit}
use Rattle.env_theory.proofs.Keeps.{normal_sort}
use Rattle.env_theory.proofs.Evaluates.{put_found}
use Rattle.env_theory.proofs.Projections.{value_projection, projection_step}
use Rattle.env_theory.specs.Scopes.{Scope, body, value, values}
use Rattle.env_theory.specs.Machine.{free, place, leads, Holds, ReadsTerm, left, lefts, unders, term_body}
use Rattle.env_theory.proofs.Machines.{SpotValue, SpotReads, holds, leads_value, leads_reads, opened_none, opened_some}
use Rattle.term_core.specs.Term.{meaning, meaning_step}
use Rattle.term_core.specs.declared.term.Term.TheOpen as layer
use Rattle.term_core.specs.declared.term.Term.TheVariants as made
use Rattle.term_core.specs.declared.term.Term.TheFolds.{fold-roll-Term}
use Rattle.conv_core.specs.declared.frame.Frame.{Frame}
use Rattle.conv_core.specs.Frames.{outer, framed, scope_of, Ordered, Extends}
use Rattle.conv_core.specs.Heads.{Standing, StandingAll, Onward}
use Rattle.conv_core.proofs.Scoped.{before, pushed}

-- ---- further frames

pub extends_none : (fs : List Frame) → Extends fs fs
extends_none fs = ([], sym (append-nil fs))

pub extends_more : (fs gs hs : List Frame) → Extends fs gs → Extends gs hs → Extends fs hs
extends_more fs gs hs (a, e) (b, k) = (a ++ b, k ∙ ap (λ l. l ++ b) e ∙ append_assoc fs a b)

pub extended : (fs gs : List Frame) → Extends fs gs → (c : ℕ) → c ≤ length fs → scope_of gs c ≡ scope_of fs c
extended fs gs (a, e) c h = ap (λ l. scope_of l c) e ∙ before fs a c h

-- ---- variables

pub holds_variable : (E : List Declaration) (fs : List Frame) (c by : ℕ) (t : Term) (i : ℕ) → t ≡ var i → Standing E fs c by t
    → Holds (scope_of fs c) i
holds_variable E fs c by t i e s = let h = subst (ReadsTerm E (scope_of fs c)) e s.2 in holds E (scope_of fs c) h.0 h.2 i h.1 h.3

pub free_below : (E : List Declaration) (fs : List Frame) (c by : ℕ) (t : Term) (i j : ℕ) → t ≡ var i → Standing E fs c by t
    → leads (scope_of fs c) by i ≡ free j → j < 2 ^ 64
free_below E fs c by t i j e s l =
    let v = ap (value E (scope_of fs c) by) e ∙ subst (λ p. SpotValue E p (value E (scope_of fs c) by (var i))) l (leads_value E
    (scope_of fs c) by i) in
    let r = subst (λ u. term_reach u ≤ 2 ^ 64) v s.4 in omega (arith, r)

pub free_value : (E : List Declaration) (fs : List Frame) (c by : ℕ) (t : Term) (i j : ℕ) → t ≡ var i → free j
    ≡ leads (scope_of fs c) by i → value E (scope_of fs c) by t ≡ var j
free_value E fs c by t i j e l = ap (value E (scope_of fs c) by) e
    ∙ subst (λ p. SpotValue E p (value E (scope_of fs c) by (var i))) (sym l) (leads_value E (scope_of fs c) by i)

-- to the argument
pub variable_step : (E : List Declaration) (fs : List Frame) (c by : ℕ) (t : Term) (i d b : ℕ) (u : Term) → t ≡ var i
    → Standing E fs c by t → place (scope_of fs d) b u ≡ leads (scope_of fs c) by i → d ≤ length fs →
    Standing E fs d b u × (value E (scope_of fs d) b u ≡ value E (scope_of fs c) by t)
    × (left E (scope_of fs d) u < left E (scope_of fs c) t) × (b + unders (scope_of fs d) ≡ by + unders (scope_of fs c))
variable_step E fs c by t i d b u e s l w =
    let h = subst (ReadsTerm E (scope_of fs c)) e s.2 in
    let v : value E (scope_of fs c) by t ≡ value E (scope_of fs d) b u = ap (value E (scope_of fs c) by) e
    ∙ subst (λ p. SpotValue E p (value E (scope_of fs c) by (var i))) (sym l) (leads_value E (scope_of fs c) by i) in
    let r = subst (λ p. SpotReads E p (left E (scope_of fs c) (var i)) (by + unders (scope_of fs c))) (sym l) (leads_reads E
    (scope_of fs c) h.0 h.2 by i h.1 h.3) in (
      (s.0, w, r.0, subst (λ n. n < 2 ^ 64) (sym r.2) s.3, subst (λ z. term_reach z ≤ 2 ^ 64) v s.4),
      sym v,
      subst (λ z. left E
          (scope_of fs d) u < left E (scope_of fs c) z) (sym e) r.1,
      r.2,
    )

-- ---- applications

-- one frame more is ordered too
last_element : (fs : List Frame) (f d : Frame) (i : ℕ) → i < length (fs ++ (f ∷ [])) → (i < length fs) ⊎ ((i ≡ length fs)
    × (get_or (fs ++ (f ∷ [])) i d ≡ f))
last_element fs f d i h = grind (arith, common_steps)

first_elements : (fs : List Frame) (f d : Frame) (i : ℕ) → i < length fs → get_or (fs ++ (f ∷ [])) i d ≡ get_or fs i d
first_elements fs f d i h = grind (arith, common_steps)

pub ordered_more : (fs : List Frame) (f : Frame) → Ordered fs → outer f ≤ length fs → Ordered (fs ++ (f ∷ []))
ordered_more fs f o h i d l = go (last_element fs f d i l)
  where
    go : (i < length fs) ⊎ ((i ≡ length fs) × (get_or (fs ++ (f ∷ [])) i d ≡ f)) → outer (get_or (fs ++ (f ∷ [])) i d) ≤ i
    go (inl k) = subst (λ g. outer g ≤ i) (sym (first_elements fs f d i k)) (o i d k)
    go (inr (e, k)) = subst (λ g. outer g ≤ i) (sym k) (subst (λ n. outer f ≤ n) (sym e) h)

pub longer_by : (fs : List Frame) (f : Frame) → length fs + 1 ≤ length (fs ++ (f ∷ []))
longer_by fs f = grind (arith, common_steps)

-- to the body
pub definition_step : (E : List Declaration) → Environment E → (fs : List Frame) (c by : ℕ) (t : Term) (f : List ℕ) (ts : Terms)
    (b : Term) (g : Frame) → t ≡ app f ts → Standing E fs c by t → term_body (find E f) ≡ Some b →
    framed (scope_of fs) g ≡ body ts (scope_of fs c) → outer g ≡ c →
    Standing E (fs ++ (g ∷ [])) (length fs + 1) by b × (value E (scope_of (fs ++ (g ∷ [])) (length fs + 1)) by b
    ≡ value E (scope_of fs c) by t) ×
    (left E (scope_of (fs ++ (g ∷ [])) (length fs + 1)) b < left E (scope_of fs c) t)
    × (by + unders (scope_of (fs ++ (g ∷ [])) (length fs + 1)) ≡ by + unders (scope_of fs c))
definition_step E x fs c by t f ts b g e s k q m =
    let gs = fs ++ (g ∷ []) in
    let w = opened_some E x (scope_of fs c) by f ts (subst (ReadsTerm E (scope_of fs c)) e s.2) b k in
    let p : scope_of gs (length fs + 1) ≡ body ts (scope_of fs c) = pushed fs g ∙ q in
    let v : value E (scope_of gs (length fs + 1)) by b ≡ value E (scope_of fs c) by t = ap (λ z. value E z by b) p ∙ sym w.0
    ∙ ap (value E (scope_of fs c) by) (sym e) in
    let u : by + unders (scope_of gs (length fs + 1)) ≡ by + unders (scope_of fs c) = ap (λ z. by + unders z) p in (
      (
        ordered_more fs g s.0 (subst (λ n. n ≤ length fs) (sym m) s.1),
        longer_by fs g,
        subst (λ z. ReadsTerm E z b) (sym p) w.2,
        subst
            (λ n. n < 2 ^ 64) (sym u) s.3,
        subst (λ z. term_reach z ≤ 2 ^ 64) (sym v) s.4,
      ),
      v,
      subst (λ z. left E z b < left E (scope_of fs c) t) (sym p) (subst (λ z. left E (body ts (scope_of fs c)) b < left E
          (scope_of fs c) z) (sym e) w.1),
      u,
    )

-- none: the arguments
pub rigid_step : (E : List Declaration) → Environment E → (fs : List Frame) (c by : ℕ) (t : Term) (f : List ℕ) (ts : Terms) → t
    ≡ app f ts → Standing E fs c by t → term_body (find E f) ≡ None →
    (value E (scope_of fs c) by t ≡ app f (values E (scope_of fs c) by ts)) × (lefts E (scope_of fs c) ts < left E (scope_of fs c) t)
    × StandingAll E fs c by ts
rigid_step E x fs c by t f ts e s k =
    let w = opened_none E x (scope_of fs c) by f ts (subst (ReadsTerm E (scope_of fs c)) e s.2) k in
    let v : value E (scope_of fs c) by t ≡ app f (values E (scope_of fs c) by ts) = ap (value E (scope_of fs c) by) e ∙ w.0 in (
      v,
      subst (λ z. lefts E (scope_of fs c) ts < left E (scope_of fs c) z) (sym e) w.1,
      (
        s.0,
        s.1,
        w.2,
        s.3,
        subst
            (λ z. term_reach z ≤ 2 ^ 64) v s.4,
      ),
    )

-- ---- one step after others

pub onward_more : (E : List Declaration) (fs : List Frame) (k : Scope) (n : ℕ) (s : Term) (gs : List Frame) (c by : ℕ) (t : Term)
    (hs : List Frame) (d b : ℕ) (u : Term) → Onward E fs k n s gs c by t → Extends gs hs →
    value E (scope_of hs d) b u ≡ value E (scope_of gs c) by t → left E (scope_of hs d) u < left E (scope_of gs c) t
    → b + unders (scope_of hs d) ≡ by + unders (scope_of gs c) → Onward E fs k n s hs d b u
onward_more E fs k n s gs c by t hs d b u o x v l w = (extends_more fs gs hs o.0 x, v ∙ o.1, omega (arith, o.2, l), w ∙ o.3)

pub meaning_Var : (i : ℕ) → meaning (made.Var i) ≡ var i
meaning_Var i = ap meaning (sym (made.rolls-Var i)) ∙ fold-roll-Term Term meaning_step (layer.Var i)

pub pushed_length : (fs : List Frame) (f : Frame) (gs : List Frame) (n : ℕ) → gs ≡ fs ++ (f ∷ []) → n ≡ length gs → n ≡ length fs + 1
pushed_length fs f gs n e k = k ∙ ap length e ∙ all fs
  where
    all : (fs : List Frame) → length (fs ++ (f ∷ [])) ≡ length fs + 1
    all fs = grind (arith, common_steps)

-- ---- a definition that is a parameter

opened_projects : (E : List Declaration) → Environment E → (c : Scope) (by : ℕ) (f : List ℕ) (ts : Terms) → ReadsTerm E c (app f ts)
    → (b : Term) → term_body (find E f) ≡ Some b → (i : ℕ) → normal_term E b ≡ var i
    → (i < many ts) × (value E c by (app f ts) ≡ value E c by (argument ts i)) × (left E c (argument ts i) < left E c (app f ts))
    × ReadsTerm E c (argument ts i)
opened_projects E x c by f ts h b e i k = go (find E f) refl h.3.0 h.3.1 e
  where
    impossible : None ≡ Some b → ⊥
    impossible q = cc

    go : (o : Option Declaration) → find E f ≡ o → Gives o h.1 → HaveSorts E h.0 ts (takes o) → term_body o ≡ Some b
        → (i < many ts) × (value E c by (app f ts) ≡ value E c by (argument ts i)) × (left E c (argument ts i) < left E c (app f ts))
        × ReadsTerm E c (argument ts i)
    go None q g y t = absurd g
    go (Some (sort n)) q g y t = absurd g
    go (Some (function n ss r)) q g y t = absurd (impossible t)
    go (Some (predicate n ss)) q g y t = absurd g
    go (Some (stated n a)) q g y t = absurd g
    go (Some (term n ps r d)) q g y t =
        let same : d ≡ b = cc in
        let m : normal_term E d ≡ var i = ap (normal_term E) same ∙ k in
        let typed = (put_found E E (puts E x) f (term n ps r d) q).1 in
        let at = subst (λ z. HasSort E (bound ps) z r) m (normal_sort E x (bound ps) d r typed) in
        let inside = subst (λ z. i < z) (sym (many_sorts E h.0 ts ps y)) (at_below (bound ps) i r at) in (
          inside,
          value_projection E x f n ps r d q h.0 ts y i m c by,
          projection_step E x f n ps r d q h.0 ts y i m c,
          (h.0, r, h.2, arguments_fit E h.0 ts ps y i r at),
        )
    go (Some (formula n ps d)) q g y t = absurd g

-- the parameter has an argument
pub parameter_within : (E : List Declaration) → Environment E
    → (fs : List Frame) (c by : ℕ) (t : Term) (f : List ℕ) (ts : Terms) (b : Term) (i : ℕ)
    → t ≡ app f ts → Standing E fs c by t → term_body (find E f) ≡ Some b → normal_term E b ≡ var i → i < many ts
parameter_within E x fs c by t f ts b i e s k p =
    (opened_projects E x (scope_of fs c) by f ts (subst (ReadsTerm E (scope_of fs c)) e s.2) b k i p).0

-- to it
pub parameter_step : (E : List Declaration) → Environment E → (fs : List Frame) (c by : ℕ) (t : Term) (f : List ℕ) (ts : Terms)
    (b : Term) (i : ℕ) (u : Term)
    → t ≡ app f ts → Standing E fs c by t → term_body (find E f) ≡ Some b → normal_term E b ≡ var i → u ≡ argument ts i
    → Standing E fs c by u × (value E (scope_of fs c) by u ≡ value E (scope_of fs c) by t)
    × (left E (scope_of fs c) u < left E (scope_of fs c) t) × (by + unders (scope_of fs c) ≡ by + unders (scope_of fs c))
parameter_step E x fs c by t f ts b i u e s k p a =
    let w = opened_projects E x (scope_of fs c) by f ts (subst (ReadsTerm E (scope_of fs c)) e s.2) b k i p in
    let v : value E (scope_of fs c) by t ≡ value E (scope_of fs c) by u =
    ap (value E (scope_of fs c) by) e ∙ w.1 ∙ ap (value E (scope_of fs c) by) (sym a) in (
      (s.0, s.1, subst (ReadsTerm E (scope_of fs c)) (sym a) w.3, s.3, subst (λ z. term_reach z ≤ 2 ^ 64) v s.4),
      sym v,
      subst (λ z. left E (scope_of fs c) u < left E (scope_of fs c) z) (sym e)
          (subst (λ z. left E (scope_of fs c) z < left E (scope_of fs c) (app f ts)) (sym a) w.2),
      refl,
    )
