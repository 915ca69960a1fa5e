-- Comparing the heads of two formulas, over frames.
use Rattle.std.proofs.Common.{◌≡◌, ◌↔◌, ℕ, ◌+◌, ◌<◌, ◌≤◌, ◌^◌, Bool, true, false, List, [], ◌∷◌, ◌++◌, length, refl, sym, ap, subst}
use Rattle.std.proofs.Common.{◌∙◌, Option, Some, None, arith}
use Rattle.std.specs.Prelude.{IsTrue}
use Rattle.std.proofs.lemmas.List.{append-nil, append_assoc}
use Rattle.std.proofs.lemmas.Grind.{common_steps}
use Rattle.fol_theory.specs.Syntax.{
  Term as TermMeaning,
  Formula as Meaning,
  Terms,
  truth,
  falsity,
  pred,
  equal,
  both,
  either,
  implies,
  all,
  ex,
}
use Rattle.fol_theory.specs.Printing.{unnamed}
use Rattle.term_core.specs.declared.term.Term.{Term}
use Rattle.term_core.specs.declared.formula.Formula.{Formula}
use Rattle.term_core.specs.Term as term
use Rattle.term_core.specs.Formula.{meaning}
use Rattle.term_core.proofs.Shapes.{Kind, kind, IsMade, made_alike}
use Rattle.env_theory.specs.Declarations.{Declaration}
use Rattle.env_theory.specs.Typing.{Environment}
use Rattle.env_theory.specs.Scopes.{Scope, under, CostRow, cost_row, costs, cost_argument, cost_table, scope_cost, formula_value, values}
use Rattle.env_theory.specs.Machine.{ReadsFormula, formula_left, formula_table, cost_applied, lefts}
use Rattle.env_theory.specs.Compare as theory
use Rattle.env_theory.proofs.Values.{formula_truth, formula_falsity, formula_equal, formula_both, formula_either, formula_implies}
use Rattle.env_theory.proofs.Values.{formula_all, formula_ex}
use Rattle.env_theory.proofs.Machines.{formula_none}
use Rattle.env_theory.proofs.Agrees.{both_agree, either_agree, implies_agree, all_agree, ex_agree, equal_agree, predicates_agree}
use Rattle.conv_core.specs.declared.frame.Frame.{Frame}
use Rattle.conv_core.specs.declared.frame.Frame.TheVariants.{Under}
use Rattle.conv_core.specs.declared.formula.Place.{Place}
use Rattle.conv_core.specs.declared.pair.Pair.{Pair}
use Rattle.conv_core.specs.declared.pair.Pair.TheVariants as Pairs
use Rattle.conv_core.specs.Frames.{scope_of, Ordered, Extends}
use Rattle.conv_core.specs.Heads.{Standing}
use Rattle.conv_core.specs.Formulas.{Rigid, StandingFormula, StandingBelow, HeadedFormula}
use Rattle.conv_core.specs.Pairs.{pair_of, StandingPair, Split, IsPair, IsFormulaPair, Pushed, SplitTops, Left}
use Rattle.conv_core.proofs.Steps.{extends_none, extends_more, extended}
use Rattle.conv_core.proofs.Tops.{predicate_part, equal_parts, both_parts, either_parts, implies_parts, all_part, ex_part, below_step}
use Rattle.conv_core.proofs.Compares.{formula_later, below_later, aligned_pair, pair_stands, arguments_split}

-- ---- formulas of two kinds

-- where no definition is left at the head, the value is of the formula's kind
kind_value : (E : List Declaration) → Environment E → (c : Scope) (a : Meaning) → ReadsFormula E c a → Rigid E a
    → kind (unnamed (formula_value E c a)) ≡ kind (unnamed a)
kind_value E x c truth h r = ap (λ z. kind (unnamed z)) (formula_truth E c)
kind_value E x c falsity h r = ap (λ z. kind (unnamed z)) (formula_falsity E c)
kind_value E x c (pred p ts) h r = ap (λ z. kind (unnamed z)) (formula_none E x c p ts h r).0
kind_value E x c (equal s t u) h r = ap (λ z. kind (unnamed z)) (formula_equal E c s t u)
kind_value E x c (both a b) h r = ap (λ z. kind (unnamed z)) (formula_both E c a b)
kind_value E x c (either a b) h r = ap (λ z. kind (unnamed z)) (formula_either E c a b)
kind_value E x c (implies a b) h r = ap (λ z. kind (unnamed z)) (formula_implies E c a b)
kind_value E x c (all s n a) h r = ap (λ z. kind (unnamed z)) (formula_all E c s n a)
kind_value E x c (ex s n a) h r = ap (λ z. kind (unnamed z)) (formula_ex E c s n a)

pub tops_differ : (fs : List Frame) (c d : ℕ) (a b : Formula) (old new : List Pair) (k : Kind) → kind (unnamed (meaning a)) ≡ k
    → (IsMade b k → ⊥) → SplitTops fs c (meaning a) d (meaning b) fs old new false
tops_differ fs c d a b old new k e n = λ E x h w r q. (
  h.0,
  extends_none fs,
  λ g. n (made_alike k b b (sym (kind_value E x (scope_of fs d) (meaning b) w.2.0 q) ∙ sym (ap kind g)
      ∙ kind_value E x (scope_of fs c) (meaning a) h.2.0 r ∙ e) refl),
)

-- ---- what is left

some_left : (E : List Declaration) (c : Scope) (a : Meaning) → 0 < formula_left E c a
some_left E c truth = omega arith
some_left E c falsity = omega arith
some_left E c (pred p ts) = go (cost_row (formula_table E) p)
  where
    go : (o : Option CostRow) → 0 < cost_applied o (costs (cost_table E) (scope_cost (cost_table E) c) ts) (cost_argument
        (cost_table E) (scope_cost (cost_table E) c) ts)
    go None = omega arith
    go (Some r) = omega arith
some_left E c (equal s t u) = omega arith
some_left E c (both a b) = omega arith
some_left E c (either a b) = omega arith
some_left E c (implies a b) = omega arith
some_left E c (all s n a) = omega arith
some_left E c (ex s n a) = omega arith

-- what a pair that is left stands for, and that it may be read
abbrev Stands : List Declaration → List Frame → theory.Pair → (Pair → Type 0) → Type 0
Stands E gs X P = (x : Pair) → P x → StandingPair E gs x × (pair_of gs x ≡ X)

module _ (E : List Declaration) (gs : List Frame) (q : theory.Pair) (old new : List Pair) where
  two_left : (P Q : Pair → Type 0) (X Y : theory.Pair) → Left old new P Q → Stands E gs X P → Stands E gs Y Q
      → theory.Agree E q ↔ (theory.Agree E X × theory.Agree E Y) → theory.pair_left E X + theory.pair_left E Y < theory.pair_left E q
      → Split E q gs old new true
  two_left P Q X Y (x, y, e, p, k) s t a l =
      let w = s x p in
      let v = t y k in
      let m = ap (theory.pair_left E) w.1 in
      let n = ap (theory.pair_left E) v.1 in (
        x ∷ y ∷ [],
        e,
        (w.0, (v.0, tt)),
        (
          (λ h. a.1 (subst (theory.Agree E) w.1 h.0, subst (theory.Agree E) v.1 h.1.0)),
          (λ h. let z = a.0 h in (subst (theory.Agree E) (sym w.1) z.0, (subst (theory.Agree E) (sym v.1) z.1, tt))),
        ),
        omega (arith, l, m, n),
      )

  one_left : (P : Pair → Type 0) (X : theory.Pair) → (x : Pair) × (new ≡ old ++ (x ∷ [])) × P x → Stands E gs X P
      → theory.Agree E q ↔ theory.Agree E X → theory.pair_left E X < theory.pair_left E q → Split E q gs old new true
  one_left P X (x, e, p) s a l =
      let w = s x p in
      let m = ap (theory.pair_left E) w.1 in (
        x ∷ [],
        e,
        (w.0, tt),
        (
          (λ h. a.1 (subst (theory.Agree E) w.1 h.0)),
          (λ h. (subst (theory.Agree E) (sym w.1) (a.0 h), tt)),
        ),
        omega (arith, l, m),
      )

term_stands : (E : List Declaration) (fs : List Frame) (c : ℕ) (t : Term) (d : ℕ) (u : Term) → Standing E fs c 0 (term.meaning t)
    → Standing E fs d 0 (term.meaning u)
    → Stands E fs (theory.both_terms (scope_of fs c) 0 (term.meaning t) (scope_of fs d) 0 (term.meaning u)) (IsPair c 0 t d 0 u)
term_stands E fs c t d u h k = λ x p. (pair_stands E fs c 0 t d 0 u x p h k, aligned_pair fs c 0 t d 0 u x p)

formula_stands : (E : List Declaration) (fs : List Frame) (c : ℕ) (a : Formula) (d : ℕ) (b : Formula)
    → StandingFormula E fs c (meaning a) → StandingFormula E fs d (meaning b)
    → Stands E fs (theory.both_formulas (scope_of fs c) (meaning a) (scope_of fs d) (meaning b)) (IsFormulaPair c a d b)
formula_stands E fs c a d b h k (Pairs.Terms x) p = absurd p
formula_stands E fs c a d b h k (Pairs.Formulas x) p = (
  (
    subst (λ n. StandingFormula E fs n (meaning x.first.now)) (sym p.0) (subst (λ z. StandingFormula E fs c (meaning z)) (sym p.1) h),
    subst (λ n. StandingFormula E fs n (meaning x.second.now)) (sym p.2) (subst (λ z. StandingFormula E fs d (meaning z)) (sym p.3) k),
  ),
  λ i. theory.both_formulas (scope_of fs (p.0 i)) (meaning (p.1 i)) (scope_of fs (p.2 i)) (meaning (p.3 i)),
)

-- ---- two formulas of one kind

as_made : (E : List Declaration) (c : Scope) (a v : Meaning) (d : Scope) (b w : Meaning) → a ≡ v → b ≡ w → (X : Type 0)
    → theory.Agree E (theory.both_formulas c v d w) ↔ X → theory.Agree E (theory.both_formulas c a d b) ↔ X
as_made E c a v d b w e k X h = subst (λ z. theory.Agree E (theory.both_formulas c z d b) ↔ X) (sym e)
    (subst (λ z. theory.Agree E (theory.both_formulas c v d z) ↔ X) (sym k) h)

given : {A X Y : Type 0} → A ↔ (X × Y) → X → A ↔ Y
given h x = ((λ a. (h.0 a).1), (λ y. h.1 (x, y)))

given_both : {A X Y Z : Type 0} → A ↔ (X × Y × Z) → X → A ↔ (Y × Z)
given_both h x = ((λ a. let z = h.0 a in (z.1, z.2)), (λ y. h.1 (x, y.0, y.1)))

pub unlike : {X : Type 0} (b : Bool) → b ≡ false → IsTrue b ↔ X → X → ⊥
unlike b e h x = let k = h.1 x in cc

pub constants_split : (fs : List Frame) (c d : ℕ) (a b : Meaning) (old : List Pair) (v : Meaning) → a ≡ v → b ≡ v
    → ((E : List Declaration) (c : Scope) → formula_value E c v ≡ v) → SplitTops fs c a d b fs old old true
constants_split fs c d a b old v e k f = λ E x h w r q. (
  h.0,
  extends_none fs,
  (
    [],
    sym (append-nil old),
    tt,
    (
      (λ z. ap (λ u. unnamed (formula_value E (scope_of fs c) u)) e ∙ ap unnamed (f E (scope_of fs c))
          ∙ ap unnamed (sym (f E (scope_of fs d))) ∙ ap (λ u. unnamed (formula_value E (scope_of fs d) u)) (sym k)),
      (λ z. tt),
    ),
    some_left E (scope_of fs c) a,
  ),
)

module _ (fs : List Frame) (c d : ℕ) (a b : Meaning) (old new : List Pair) where
  -- predicates
  module _ (p q : List ℕ) (ts us : Terms) (e : a ≡ pred p ts) (k : b ≡ pred q us) where
    same_predicates : (E : List Declaration) → Environment E → StandingFormula E fs c a → StandingFormula E fs d b → Rigid E a → Rigid E b
        → theory.Agree E (theory.both_formulas (scope_of fs c) a (scope_of fs d) b)
        ↔ ((p ≡ q) × (values E (scope_of fs c) 0 ts ≡ values E (scope_of fs d) 0 us))
    same_predicates E x h w r z = predicates_agree _ _ p q _ _
        (ap (formula_value E (scope_of fs c)) e
        ∙ (formula_none E x (scope_of fs c) p ts (subst (ReadsFormula E (scope_of fs c)) e h.2.0) (subst (Rigid E) e r)).0)
        (ap (formula_value E (scope_of fs d)) k
        ∙ (formula_none E x (scope_of fs d) q us (subst (ReadsFormula E (scope_of fs d)) k w.2.0) (subst (Rigid E) k z)).0)

    pub predicates_fail : (p ≡ q → ⊥) → SplitTops fs c a d b fs old new false
    predicates_fail n = λ E x h w r z. (h.0, extends_none fs, λ g. n ((same_predicates E x h w r z).0 g).0)

  pub predicates_split : (p q : List ℕ) (ts us : List Term) → a ≡ pred p (term.list_meaning ts) → b ≡ pred q (term.list_meaning us)
      → p ≡ q → c < 2 ^ 64 × d < 2 ^ 64 → (r : Bool) → Pushed c 0 ts d 0 us old new r → SplitTops fs c a d b fs old new r
  predicates_split p q ts us e k i l y g = λ E x h w r z.
      let m = predicate_part E x fs c a p (term.list_meaning ts) e h r l.0 in
      let n = predicate_part E x fs d b q (term.list_meaning us) k w z l.1 in
      let s = (formula_none E x (scope_of fs c) p (term.list_meaning ts) (subst (ReadsFormula E (scope_of fs c)) e h.2.0)
      (subst (Rigid E) e r)).1 in (
        h.0,
        extends_none fs,
        arguments_split E fs (theory.both_formulas (scope_of fs c) a (scope_of fs d) b) c 0 ts d 0 us (m.0, n.0)
            (given (same_predicates p q (term.list_meaning ts) (term.list_meaning us) e k E x h w r z) i)
            (subst (λ v. lefts E (scope_of fs c) (term.list_meaning ts) < formula_left E (scope_of fs c) v) (sym e) s) old new y g,
      )

  -- equations
  pub equations_fail : (s r : List ℕ) (t u v w : TermMeaning) → a ≡ equal s t u → b ≡ equal r v w → (s ≡ r → ⊥)
      → SplitTops fs c a d b fs old new false
  equations_fail s r t u v w e k n = λ E x h y q z. (
    h.0,
    extends_none fs,
    λ g. n ((as_made E _ a _ _ b _ e k _ (equal_agree E (scope_of fs c) s t u (scope_of fs d) r v w)).0 g).0,
  )

  pub equations_split : (s r : List ℕ) (t u v w : Term) → a ≡ equal s (term.meaning t) (term.meaning u)
      → b ≡ equal r (term.meaning v) (term.meaning w) → s ≡ r → c < 2 ^ 64 × d < 2 ^ 64
      → Left old new (IsPair c 0 t d 0 v) (IsPair c 0 u d 0 w) → SplitTops fs c a d b fs old new true
  equations_split s r t u v w e k n l y = λ E x h g q z.
      let m = equal_parts E fs c a s (term.meaning t) (term.meaning u) e h l.0 in
      let o = equal_parts E fs d b r (term.meaning v) (term.meaning w) k g l.1 in
      let f = ap (formula_left E (scope_of fs c)) e in (
        h.0,
        extends_none fs,
        two_left E fs (theory.both_formulas (scope_of fs c) a (scope_of fs d) b) old new _ _ _ _ y
            (term_stands E fs c t d v m.0 o.0) (term_stands E fs c u d w m.1 o.1)
            (given_both (as_made E _ a _ _ b _ e k _ (equal_agree E (scope_of fs c) s (term.meaning t) (term.meaning u) (scope_of fs d) r
            (term.meaning v) (term.meaning w))) n) (omega (arith, f)),
      )

  -- connectives
  pub both_split : (p q v w : Formula) → a ≡ both (meaning p) (meaning q) → b ≡ both (meaning v) (meaning w)
      → Left old new (IsFormulaPair c p d v) (IsFormulaPair c q d w) → SplitTops fs c a d b fs old new true
  both_split p q v w e k y = λ E x h g r z.
      let m = both_parts E fs c a (meaning p) (meaning q) e h in
      let o = both_parts E fs d b (meaning v) (meaning w) k g in
      let f = ap (formula_left E (scope_of fs c)) e in (
        h.0,
        extends_none fs,
        two_left E fs (theory.both_formulas (scope_of fs c) a (scope_of fs d) b) old new _ _ _ _ y
            (formula_stands E fs c p d v m.0 o.0) (formula_stands E fs c q d w m.1 o.1)
            (as_made E _ a _ _ b _ e k _ (both_agree E (scope_of fs c) (meaning p) (meaning q) (scope_of fs d) (meaning v) (meaning w)))
            (omega (arith, f)),
      )

  pub either_split : (p q v w : Formula) → a ≡ either (meaning p) (meaning q) → b ≡ either (meaning v) (meaning w)
      → Left old new (IsFormulaPair c p d v) (IsFormulaPair c q d w) → SplitTops fs c a d b fs old new true
  either_split p q v w e k y = λ E x h g r z.
      let m = either_parts E fs c a (meaning p) (meaning q) e h in
      let o = either_parts E fs d b (meaning v) (meaning w) k g in
      let f = ap (formula_left E (scope_of fs c)) e in (
        h.0,
        extends_none fs,
        two_left E fs (theory.both_formulas (scope_of fs c) a (scope_of fs d) b) old new _ _ _ _ y
            (formula_stands E fs c p d v m.0 o.0) (formula_stands E fs c q d w m.1 o.1)
            (as_made E _ a _ _ b _ e k _ (either_agree E (scope_of fs c) (meaning p) (meaning q) (scope_of fs d) (meaning v) (meaning w)))
            (omega (arith, f)),
      )

  pub implies_split : (p q v w : Formula) → a ≡ implies (meaning p) (meaning q) → b ≡ implies (meaning v) (meaning w)
      → Left old new (IsFormulaPair c p d v) (IsFormulaPair c q d w) → SplitTops fs c a d b fs old new true
  implies_split p q v w e k y = λ E x h g r z.
      let m = implies_parts E fs c a (meaning p) (meaning q) e h in
      let o = implies_parts E fs d b (meaning v) (meaning w) k g in
      let f = ap (formula_left E (scope_of fs c)) e in (
        h.0,
        extends_none fs,
        two_left E fs (theory.both_formulas (scope_of fs c) a (scope_of fs d) b) old new _ _ _ _ y
            (formula_stands E fs c p d v m.0 o.0) (formula_stands E fs c q d w m.1 o.1)
            (as_made E _ a _ _ b _ e k _ (implies_agree E (scope_of fs c) (meaning p) (meaning q) (scope_of fs d) (meaning v) (meaning w)))
            (omega (arith, f)),
      )

  -- quantifiers
  pub all_fail : (s r n m : List ℕ) (p v : Meaning) → a ≡ all s n p → b ≡ all r m v → (s ≡ r → ⊥) → SplitTops fs c a d b fs old new false
  all_fail s r n m p v e k f = λ E x h g q z. (
    h.0,
    extends_none fs,
    λ y. f ((as_made E _ a _ _ b _ e k _ (all_agree E (scope_of fs c) s n p (scope_of fs d) r m v)).0 y).0,
  )

  pub ex_fail : (s r n m : List ℕ) (p v : Meaning) → a ≡ ex s n p → b ≡ ex r m v → (s ≡ r → ⊥) → SplitTops fs c a d b fs old new false
  ex_fail s r n m p v e k f = λ E x h g q z. (
    h.0,
    extends_none fs,
    λ y. f ((as_made E _ a _ _ b _ e k _ (ex_agree E (scope_of fs c) s n p (scope_of fs d) r m v)).0 y).0,
  )

-- ---- bodies of quantifiers, in two frames more

abbrev one_more : List Frame → ℕ → List Frame
one_more fs c = fs ++ (Under c ∷ [])

one_longer : (fs : List Frame) (c : ℕ) → length fs + 2 ≡ length (one_more fs c) + 1
one_longer fs c = grind (arith, common_steps)

below_stands : (E : List Declaration) (fs : List Frame) (c : ℕ) (p : Formula) (d : ℕ) (v : Formula) → StandingBelow E fs c (meaning p)
    → StandingBelow E fs d (meaning v) →
    Ordered (one_more (one_more fs c) d) × Extends fs (one_more (one_more fs c) d) ×
    Stands E (one_more (one_more fs c) d) (theory.both_formulas (under (scope_of fs c)) (meaning p) (under (scope_of fs d)) (meaning v))
    (IsFormulaPair (length fs + 1) p (length fs + 2) v)
below_stands E fs c p d v h k =
    let gs = one_more fs c in
    let hs = one_more gs d in
    let w = below_step E fs c (meaning p) h in
    let x : Extends fs gs = (Under c ∷ [], refl) in
    let y : Extends gs hs = (Under d ∷ [], refl) in
    let u = below_step E gs d (meaning v) (below_later E fs gs x w.0.0 d (meaning v) k) in
    let s = formula_later E gs hs y u.0.0 (length fs + 1) (meaning p) w.0 in
    let l = one_longer fs c in
    let m : scope_of hs (length fs + 1) ≡ under (scope_of fs c) = extended gs hs y (length fs + 1) w.0.1 ∙ w.1 in
    let n : scope_of hs (length fs + 2) ≡ under (scope_of fs d) = ap (scope_of hs) l ∙ u.1 ∙ ap under (extended fs gs x d k.1) in
    let t = subst (λ i. StandingFormula E hs i (meaning v)) (sym l) u.0 in
    let z = formula_stands E hs (length fs + 1) p (length fs + 2) v s t in (
      u.0.0,
      extends_more fs gs hs x y,
      λ q r. ((z q r).0, (z q r).1 ∙ (λ i. theory.both_formulas (m i) (meaning p) (n i) (meaning v))),
    )

module _ (fs : List Frame) (c d : ℕ) (a b : Meaning) (old new : List Pair) (s r n m : List ℕ) (p v : Formula) (i : s ≡ r)
    (y : (x : Pair) × (new ≡ old ++ (x ∷ [])) × IsFormulaPair (length fs + 1) p (length fs + 2) v x) where
  pub all_split : a ≡ all s n (meaning p) → b ≡ all r m (meaning v) → (gs : List Frame) → gs ≡ fs ++ (Under c ∷ Under d ∷ [])
      → SplitTops fs c a d b gs old new true
  all_split e k gs f = subst (λ gs. SplitTops fs c a d b gs old new true) (sym (f ∙ sym (append_assoc fs (Under c ∷ []) (Under d ∷ []))))
      (λ E x h g q z.
      let w = all_part E fs c a s n (meaning p) e h in
      let u = all_part E fs d b r m (meaning v) k g in
      let t = below_stands E fs c p d v w.0 u.0 in (
        t.0,
        t.1,
        one_left E _ (theory.both_formulas (scope_of fs c) a (scope_of fs d) b) old new _ _ y t.2
            (given (as_made E _ a _ _ b _ e k _ (all_agree E (scope_of fs c) s n (meaning p) (scope_of fs d) r m (meaning v))) i) w.2,
      ))

  pub ex_split : a ≡ ex s n (meaning p) → b ≡ ex r m (meaning v) → (gs : List Frame) → gs ≡ fs ++ (Under c ∷ Under d ∷ [])
      → SplitTops fs c a d b gs old new true
  ex_split e k gs f = subst (λ gs. SplitTops fs c a d b gs old new true) (sym (f ∙ sym (append_assoc fs (Under c ∷ []) (Under d ∷ []))))
      (λ E x h g q z.
      let w = ex_part E fs c a s n (meaning p) e h in
      let u = ex_part E fs d b r m (meaning v) k g in
      let t = below_stands E fs c p d v w.0 u.0 in (
        t.0,
        t.1,
        one_left E _ (theory.both_formulas (scope_of fs c) a (scope_of fs d) b) old new _ _ y t.2
            (given (as_made E _ a _ _ b _ e k _ (ex_agree E (scope_of fs c) s n (meaning p) (scope_of fs d) r m (meaning v))) i) w.2,
      ))

-- ---- from the heads to what they are heads of

split_moved : (E : List Declaration) (p q : theory.Pair) (gs : List Frame) (old new : List Pair) → (theory.Agree E p ↔ theory.Agree E q)
    → theory.pair_left E p ≤ theory.pair_left E q → (r : Bool) → Split E p gs old new r → Split E q gs old new r
split_moved E p q gs old new a l false f = λ h. f (a.1 h)
split_moved E p q gs old new a l true (rest, e, s, g, m) =
    (rest, e, s, ((λ h. a.0 (g.0 h)), (λ h. g.1 (a.1 h))), omega (arith, l, m))

module _ (E : List Declaration) (x : Environment E) (fs gs hs ks : List Frame) (fg : Extends fs gs) (gh : Extends gs hs) (o : Ordered hs)
    (c : ℕ) (a : Meaning) (d : ℕ) (b : Meaning) (sc : StandingFormula E fs c a) (sd : StandingFormula E fs d b) where
  pub heads_split : (p q : Place) → HeadedFormula E gs (scope_of fs c) a p → HeadedFormula E hs (scope_of gs d) b q → (old new : List Pair)
      → (r : Bool) → SplitTops hs p.scope (meaning p.formula.now) q.scope (meaning q.formula.now) ks old new r →
      Ordered ks × Extends fs ks × Split E (theory.both_formulas (scope_of fs c) a (scope_of fs d) b) ks old new r
  heads_split p q h k old new r s =
      let m = extended gs hs gh p.scope h.2.1 in
      let n = extended fs gs fg d sd.1 in
      let w = s E x (formula_later E gs hs gh o p.scope (meaning p.formula.now) h.2) k.2 h.3 k.3 in
      let v = ap (λ z. formula_value E z (meaning p.formula.now)) m ∙ h.0 in
      let u = k.0 ∙ ap (λ z. formula_value E z b) n in
      let l = ap (λ z. formula_left E z (meaning p.formula.now)) m in
      let fewer : formula_left E (scope_of hs p.scope) (meaning p.formula.now) ≤ formula_left E (scope_of fs c) a = omega (arith, l, h.1)
      in (
        w.0,
        extends_more fs hs ks (extends_more fs gs hs fg gh) w.1,
        split_moved E (theory.both_formulas (scope_of hs p.scope) (meaning p.formula.now) (scope_of hs q.scope) (meaning q.formula.now))
            (theory.both_formulas (scope_of fs c) a (scope_of fs d) b) ks old new (
              (λ z. ap unnamed (sym v) ∙ z ∙ ap unnamed u),
              (λ z. ap unnamed v ∙ z ∙ ap unnamed (sym u)),
            ) fewer r w.2,
      )
