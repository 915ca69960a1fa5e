-- The first strip that is looked for, strip by strip.
use Rattle.std.proofs.Common.{
  ◌≡◌,
  ◌<◌,
  ◌≤◌,
  ◌⊎◌,
  inl,
  inr,
  ℕ,
  zero,
  suc,
  true,
  false,
  if◌then◌else◌,
  List,
  [],
  ◌∷◌,
  length,
  Option,
  Some,
  None,
  Result,
  Ok,
  Err,
  IfOk,
  OnOk,
  refl,
  sym,
  ap,
  subst,
  ◌∙◌,
  arith,
}
use Rattle.fol_theory.specs.Syntax.{Term, Formula, truth, falsity, pred, equal, both, either, implies, all, ex}
use Rattle.fol_theory.specs.Measures.{nodes}
use Rattle.env_theory.specs.Declarations.{Declaration}
use Rattle.env_theory.specs.Normal.{normal}
use Rattle.env_theory.specs.Typing.{Environment}
use Rattle.env_theory.specs.Heads.{head_form}
use Rattle.match_theory.specs.Matching.{matches}
use Rattle.tactic_theory.specs.Strips.{
  Strip,
  strip,
  strip_form,
  each_from,
  strips,
  all_strips,
  fitting_terms,
  fitting_or,
  fitting,
  is_equation,
  equation,
}
use Rattle.strip_core.specs.declared.draft.Head.{Head}
use Rattle.strip_core.specs.declared.draft.Head.TheVariants as turn
use Rattle.strip_core.specs.Drafts.{Comes, Stands, Turns}
use Rattle.strip_core.proofs.Stripping.{strip_less, strip_stands}

positive : (a : Formula) → 0 < nodes a
positive truth = omega arith
positive falsity = omega arith
positive (pred p ts) = omega arith
positive (equal s t u) = omega arith
positive (both a b) = omega arith
positive (either a b) = omega arith
positive (implies a b) = omega arith
positive (all s x a) = omega arith
positive (ex s x a) = omega arith

-- ---- strip by strip

module _ {X : Type 0} (f : List Strip → X) (E : List Declaration) (a : Formula) where
  pub from_first : Comes f E a (strip [] [] a)
  from_first = (nodes (normal E a), omega arith, refl)

  module _ (s : Strip) (c : Comes f E a s) where
    -- the strip, and those behind it
    ahead : (k : ℕ) × (nodes (normal E s.rest) ≤ suc k) ×
        (f (s ∷ each_from (strip_form s (head_form E s.rest)) (λ t. strips k E t)) ≡ f (all_strips E a))
    ahead = go c.0 c.1 c.2
      where
        go : (k : ℕ) → nodes (normal E s.rest) ≤ k → f (strips k E s) ≡ f (all_strips E a) → (k : ℕ) ×
            (nodes (normal E s.rest) ≤ suc k) × (f (s ∷ each_from (strip_form s (head_form E s.rest)) (λ t. strips k E t)) ≡ f (all_strips E a))
        go zero h e = absurd (omega (arith, h, positive (normal E s.rest)))
        go (suc k) h e = (k, h, e)

    -- this one decides
    pub decided : (y : X) → ((ss : List Strip) → f (s ∷ ss) ≡ y) → y ≡ f (all_strips E a)
    decided y h = sym (h _) ∙ ahead.2

    -- it is passed over
    module _ (h : (ss : List Strip) → f (s ∷ ss) ≡ f ss) where
      behind : (o : Option Strip) → strip_form s (head_form E s.rest) ≡ o → f (each_from o (λ t. strips ahead.0 E t)) ≡ f (all_strips E a)
      behind o e = ap (λ o. f (each_from o (λ t. strips ahead.0 E t))) (sym e) ∙ sym (h _) ∙ ahead.2

      pub passed : (t : Strip) → strip_form s (head_form E s.rest) ≡ Some t → nodes (normal E t.rest) < nodes (normal E s.rest) → Comes f E a t
      passed t e l = (ahead.0, omega (arith, l, ahead.1), behind (Some t) e)

      pub ended : strip_form s (head_form E s.rest) ≡ None → f [] ≡ f (all_strips E a)
      ended e = behind None e

-- ---- what the head form makes of a strip

module _ (E : List Declaration) (x : Environment E) (n : ℕ) (s t : Strip) (r : Head) (w : Stands E n s)
    (k : Turns s t (head_form E s.rest) r) where
  -- one strip more
  module _ (e : r ≡ turn.Strip) where
    next : strip_form s (head_form E s.rest) ≡ Some t
    next = (subst (Turns s t (head_form E s.rest)) e k).0

    pub further_less : nodes (normal E t.rest) < nodes (normal E s.rest)
    further_less = strip_less E x n s w t next

    pub further_comes : {X : Type 0} (f : List Strip → X) (a : Formula) → Comes f E a s → ((ss : List Strip) → f (s ∷ ss) ≡ f ss) → Comes f E a t
    further_comes f a c h = passed f E a s c h t next further_less

  -- no strip more
  pub last_ends : {X : Type 0} (f : List Strip → X) (a : Formula) → (r ≡ turn.Strip → ⊥) → Comes f E a s
      → ((ss : List Strip) → f (s ∷ ss) ≡ f ss) → f [] ≡ f (all_strips E a)
  last_ends f a l c h = ended f E a s c h (go r l k)
    where
      go : (r : Head) → (r ≡ turn.Strip → ⊥) → Turns s t (head_form E s.rest) r → strip_form s (head_form E s.rest) ≡ None
      go turn.Strip h k = absurd (h refl)
      go turn.Equation h k = k.0
      go turn.Other h k = k.0

  -- an equation
  pub equated : (a : Formula) → r ≡ turn.Equation → Comes (equation E) E a s → Some t ≡ equation E (all_strips E a)
  equated a e c =
      let m = subst (Turns s t (head_form E s.rest)) e k in
      decided (equation E) E a s c (Some t) (λ ss. ap (λ v. if v then Some s else equation E ss) m.1 ∙ ap Some (sym m.2))

  -- not one
  pub no_equation : (r ≡ turn.Equation → ⊥) → (ss : List Strip) → equation E (s ∷ ss) ≡ equation E ss
  no_equation h ss = ap (λ v. if v then Some s else equation E ss) (go r h k)
    where
      go : (r : Head) → (r ≡ turn.Equation → ⊥) → Turns s t (head_form E s.rest) r → is_equation (head_form E s.rest) ≡ false
      go turn.Strip h k = k.1
      go turn.Equation h k = absurd (h refl)
      go turn.Other h k = k.1

-- in each case it stands
pub still_stands : (E : List Declaration) → Environment E → (n : ℕ) (s t : Strip) (r : Head) → Turns s t (head_form E s.rest) r
    → Stands E n s → Stands E n t
still_stands E x n s t turn.Strip k w = strip_stands E x n s w t k.0
still_stands E x n s t turn.Equation k w = subst (Stands E n) (sym k.2) w
still_stands E x n s t turn.Other k w = subst (Stands E n) (sym k.2) w

-- the same of a call's answer
pub answer_stands : {F : Type 0} (E : List Declaration) → Environment E → (n : ℕ) (s t : Strip) (h : Formula) (o : Result Head F)
    → h ≡ head_form E s.rest → IfOk o (Turns s t h) → Stands E n s → OnOk o (Stands E n t)
answer_stands E x n s t h (Ok r) e k w = still_stands E x n s t r (subst (λ g. Turns s t g r) e k) w
answer_stands E x n s t h (Err f) e k w = tt

-- ---- whether a strip fits, by its match with the normal form of the goal

module _ (E : List Declaration) (g : Formula) (s : Strip) (c : Formula) (o : Option (List Term)) (n : c ≡ normal E g)
    (e : o ≡ matches (length s.sorts) (normal E s.rest) c) where
  terms_are : fitting_terms E g s ≡ o
  terms_are = sym (e ∙ ap (matches (length s.sorts) (normal E s.rest)) n)

  pub fits : (a : Formula) (ts : List Term) → o ≡ Some ts → Comes (fitting E g) E a s → Some (s, ts) ≡ fitting E g (all_strips E a)
  fits a ts q k = decided (fitting E g) E a s k (Some (s, ts)) (λ ss. ap (λ o. fitting_or s o (fitting E g ss)) (terms_are ∙ q))

  pub fits_not : o ≡ None → (ss : List Strip) → fitting E g (s ∷ ss) ≡ fitting E g ss
  fits_not q ss = ap (λ o. fitting_or s o (fitting E g ss)) (terms_are ∙ q)
