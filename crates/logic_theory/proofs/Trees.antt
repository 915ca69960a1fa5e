-- The rules of the kernel are sound: what a tree shows follows from what its open leaves show.
use Rattle.std.proofs.Common.{◌≡◌, ℕ, List, [], ◌∷◌, ◌++◌, map, sym, subst, ◌⊎◌, inl, inr, Bool, true, false, if◌then◌else◌, ◌==◌}
use Rattle.fol_theory.specs.Syntax.{Term, Formula}
use Rattle.fol_theory.specs.Substitution.{next, first, under, instantiate}
use Rattle.env_theory.specs.Declarations.{Declaration, stated}
use Rattle.env_theory.specs.Typing.{HasSort, WellFormed}
use Rattle.env_theory.proofs.Members.{found_member}
use Rattle.logic_theory.specs.Derivations.{
  Among,
  Derives,
  given,
  declared,
  truth_in,
  falsity_out,
  both_in,
  both_left,
  both_right,
  either_left,
  either_right,
  either_out,
  implies_in,
  implies_out,
  all_in,
  all_out,
  ex_in,
  ex_out,
  equal_in,
  equal_out,
  convert,
}
use Rattle.fol_theory.specs.Contexts.{Entry, variable, hypothesis, Sequent, variables, hypotheses, count, IsHypothesis, without}
use Rattle.logic_theory.specs.Rules.{
  Step,
  hyp,
  known,
  true_i,
  false_e,
  and_i,
  and_e,
  or_i1,
  or_i2,
  or_e,
  imp_i,
  imp_e,
  cut,
  conv,
  all_i,
  ex_e,
  all_e,
  ex_i,
  eq_i,
  eq_e,
  drop,
  Rule,
  leaf,
  step,
  children,
  leaves,
  Every,
  FormedContext,
  Formed,
  Asks,
  Follows,
  Holds,
}
use Rattle.fol_theory.proofs.Entries.{without_variables}
use Rattle.env_theory.proofs.Sorts.{fits_next, fits_first, replace_formed}
use Rattle.logic_theory.proofs.Derived.{among_under, among_of_under}
use Rattle.logic_theory.proofs.Derived as derived

pub is_member : (c : List Entry) (i : ℕ) (a : Formula) → IsHypothesis c i a → Among a (hypotheses c)
is_member [] i a h = absurd h
is_member (variable s ∷ c) i a h = subst (λ z. Among z (map under (hypotheses c))) (sym h.2)
    (among_under h.0 (hypotheses c) (is_member c i h.0 h.1))
is_member (hypothesis b ∷ c) i a (inl e) = inl e.1
is_member (hypothesis b ∷ c) i a (inr h) = inr (is_member c i a h)

pub without_member : (c : List Entry) (i : ℕ) (a : Formula) → Among a (hypotheses (without c i)) → Among a (hypotheses c)
without_member [] i a m = m
without_member (variable s ∷ c) i a m = let r = among_of_under a (hypotheses (without c i)) m in
    subst (λ z. Among z (map under (hypotheses c))) (sym r.2) (among_under r.0 (hypotheses c) (without_member c i r.0 r.1))
without_member (hypothesis b ∷ c) i a m = go (i == count c) (without_member c i a) m
  where
    go : (t : Bool) → (Among a (hypotheses (without c i)) → Among a (hypotheses c)) →
        Among a (hypotheses (if t then c else hypothesis b ∷ without c i)) → (a ≡ b) ⊎ Among a (hypotheses c)
    go true r k = inr k
    go false r (inl e) = inl e
    go false r (inr k) = inr (r k)

pub without_formed : (E : List Declaration) (c : List Entry) (i : ℕ) → FormedContext E c → FormedContext E (without c i)
without_formed E [] i h = tt
without_formed E (variable s ∷ c) i h = (h.0, without_formed E c i h.1)
without_formed E (hypothesis a ∷ c) i h = go (i == count c) (without_formed E c i h.1)
  where
    go : (t : Bool) → FormedContext E (without c i) → FormedContext E (if t then c else hypothesis a ∷ without c i)
    go true k = h.1
    go false k = (subst (λ V. WellFormed E V a) (sym (without_variables c i)) h.0, k)

pub hypotheses_formed : (E : List Declaration) (c : List Entry) (a : Formula) → FormedContext E c → Among a (hypotheses c) →
    WellFormed E (variables c) a
hypotheses_formed E [] a h m = absurd m
hypotheses_formed E (variable s ∷ c) a h m = let r = among_of_under a (hypotheses c) m in subst (WellFormed E (s ∷ variables c))
    (sym r.2) (replace_formed E next (variables c) (s ∷ variables c) (fits_next E s (variables c)) r.0 (hypotheses_formed E c r.0 h.1 r.1))
hypotheses_formed E (hypothesis b ∷ c) a h (inl e) = subst (WellFormed E (variables c)) (sym e) h.0
hypotheses_formed E (hypothesis b ∷ c) a h (inr m) = hypotheses_formed E c a h.1 m

pub every_front : {A : Type 0} (P : A → Type 0) (xs ys : List A) → Every P (xs ++ ys) → Every P xs
every_front P [] ys h = tt
every_front P (x ∷ xs) ys h = (h.0, every_front P xs ys h.1)

pub every_back : {A : Type 0} (P : A → Type 0) (xs ys : List A) → Every P (xs ++ ys) → Every P ys
every_back P [] ys h = h
every_back P (x ∷ xs) ys h = every_back P xs ys h.1

pub every_join : {A : Type 0} (P : A → Type 0) (xs ys : List A) → Every P xs → Every P ys → Every P (xs ++ ys)
every_join P [] ys h k = k
every_join P (x ∷ xs) ys h k = (h.0, every_join P xs ys h.1 k)

with_formed : (E : List Declaration) (V : List (List ℕ)) (s : List ℕ) (b : Formula) (t : Term) → WellFormed E (s ∷ V) b →
    HasSort E V t s → WellFormed E V (instantiate b t)
with_formed E V s b t w h = replace_formed E (first t) (s ∷ V) V (fits_first E V t s h) b w

-- the children of a well formed sequent are well formed
pub children_formed : (E : List Declaration) (r : Step) (c : List Entry) (g : Formula) → Asks E r c g → FormedContext E c →
    WellFormed E (variables c) g → Every (Formed E) (children r c g)
children_formed E (hyp i) c g q f w = tt
children_formed E (known n) c g q f w = tt
children_formed E true_i c g q f w = tt
children_formed E false_e c g q f w = ((f, tt), tt)
children_formed E (and_i a b) c g q f w = ((f, q.0.0), ((f, q.0.1), tt))
children_formed E (and_e a b) c g q f w = ((f, q), (((q.1, (q.0, f)), w), tt))
children_formed E (or_i1 a b) c g q f w = ((f, q.0.0), tt)
children_formed E (or_i2 a b) c g q f w = ((f, q.0.1), tt)
children_formed E (or_e a b) c g q f w = ((f, q), (((q.0, f), w), (((q.1, f), w), tt)))
children_formed E (imp_i a b) c g q f w = (((q.0.0, f), q.0.1), tt)
children_formed E (imp_e a) c g q f w = ((f, (q, w)), ((f, q), tt))
children_formed E (cut a) c g q f w = ((f, q), (((q, f), w), tt))
children_formed E (conv a) c g q f w = ((f, q.0), tt)
children_formed E (all_i s b) c g q f w = (((q.0.0, f), q.0.1), tt)
children_formed E (ex_e s b) c g q f w =
    ((f, q), (((q.1, (q.0, f)), replace_formed E next (variables c) (s ∷ variables c) (fits_next E s (variables c)) g w), tt))
children_formed E (all_e s b t) c g q f w = ((f, q.0), tt)
children_formed E (ex_i s b t) c g q f w = ((f, with_formed E (variables c) s b t q.0.1 q.1), tt)
children_formed E (eq_i s t) c g q f w = tt
children_formed E (eq_e s b t u) c g q f w = ((f, with_formed E (variables c) s b u q.1 q.2.2), ((f, q.2), tt))
children_formed E (drop i) c g q f w = ((without_formed E c i f, subst (λ V. WellFormed E V g) (sym (without_variables c i)) w), tt)

keep : (E : List Declaration) (c : List Entry) → FormedContext E c → derived.Derived E (variables c) (hypotheses c) (hypotheses c)
keep E c f B m = given m (hypotheses_formed E c B f m)

also : {E : List Declaration} {V : List (List ℕ)} (G H : List Formula) (A : Formula) → Derives E V H A → derived.Derived E V G H
    → derived.Derived E V (A ∷ G) H
also {E} {V} G H A d g B (inl e) = subst (Derives E V H) (sym e) d
also {E} {V} G H A d g B (inr m) = g B m

-- if the children of a sequent are derivable, so is the sequent
pub step_sound : (E : List Declaration) (r : Step) (c : List Entry) (g : Formula) → Asks E r c g → FormedContext E c →
    WellFormed E (variables c) g → Every (Holds E) (children r c g) → Derives E (variables c) (hypotheses c) g
step_sound E (hyp i) c g q f w h = let m = is_member c i q.0 q.1 in convert q.2 w (given m (hypotheses_formed E c q.0 f m))
step_sound E (known n) c g q f w h = convert q.3 w (declared n (found_member E n (stated n q.0) q.1) q.2)
step_sound E true_i c g q f w h = convert q w truth_in
step_sound E false_e c g q f w h = falsity_out w h.0
step_sound E (and_i a b) c g q f w h = convert q.1 w (both_in h.0 h.1.0)
step_sound E (and_e a b) c g q f w h = derived.cut h.1.0 (hypotheses c) (also (a ∷ hypotheses c) (hypotheses c) b
    (both_right h.0) (also (hypotheses c) (hypotheses c) a (both_left h.0) (keep E c f)))
step_sound E (or_i1 a b) c g q f w h = convert q.1 w (either_left q.0.1 h.0)
step_sound E (or_i2 a b) c g q f w h = convert q.1 w (either_right q.0.0 h.0)
step_sound E (or_e a b) c g q f w h = either_out h.0 h.1.0 h.1.1.0
step_sound E (imp_i a b) c g q f w h = convert q.1 w (implies_in q.0.0 h.0)
step_sound E (imp_e a) c g q f w h = implies_out h.0 h.1.0
step_sound E (cut a) c g q f w h = derived.cut h.1.0 (hypotheses c) (also (hypotheses c) (hypotheses c) a h.0 (keep E c f))
step_sound E (conv a) c g q f w h = convert q.1 w h.0
step_sound E (all_i s b) c g q f w h = convert q.1 w (all_in q.0.0 h.0)
step_sound E (ex_e s b) c g q f w h = ex_out w h.0 h.1.0
step_sound E (all_e s b t) c g q f w h = convert q.2 w (all_out t h.0 q.1)
step_sound E (ex_i s b t) c g q f w h = convert q.2 w (ex_in t q.0 q.1 h.0)
step_sound E (eq_i s t) c g q f w h = convert q.2 w (equal_in q.0 q.1)
step_sound E (eq_e s b t u) c g q f w h = convert q.3 w (equal_out t u b q.0 q.1 q.2.1 q.2.2 h.1.0 h.0)
step_sound E (drop i) c g q f w h = derived.weaken (subst (λ V. Derives E V (hypotheses (without c i)) g)
    (without_variables c i) h.0) (hypotheses c) (λ B m. without_member c i B m)

-- open trees: if the leaves are derivable, so are the sequents
pub sound : (E : List Declaration) (rs : List Rule) (gs : List Sequent) → Follows E rs gs → Every (Formed E) gs →
    Every (Holds E) (leaves rs gs) → Every (Holds E) gs
sound E [] [] p f h = tt
sound E [] (g ∷ gs) p f h = absurd p
sound E (leaf ns ∷ rs) [] p f h = absurd p
sound E (step r ∷ rs) [] p f h = absurd p
sound E (leaf ns ∷ rs) (g ∷ gs) p f h = (h.0, sound E rs gs p.1 f.1 h.1)
sound E (step r ∷ rs) (g ∷ gs) p f h =
    let k = sound E rs (children r g.context g.goal ++ gs) p.1 (every_join (Formed E) (children r g.context g.goal) gs
    (children_formed E r g.context g.goal p.0 f.0.0 f.0.1) f.1) h in (
      step_sound E r g.context g.goal p.0 f.0.0 f.0.1 (every_front (Holds E) (children r g.context g.goal) gs k),
      every_back (Holds E) (children r g.context g.goal) gs k,
    )

-- the open leaves of a tree of well formed sequents are well formed
pub leaves_formed : (E : List Declaration) (rs : List Rule) (gs : List Sequent) → Follows E rs gs → Every (Formed E) gs →
    Every (Formed E) (leaves rs gs)
leaves_formed E [] gs p f = tt
leaves_formed E (leaf ns ∷ rs) [] p f = absurd p
leaves_formed E (step r ∷ rs) [] p f = absurd p
leaves_formed E (leaf ns ∷ rs) (g ∷ gs) p f = (f.0, leaves_formed E rs gs p.1 f.1)
leaves_formed E (step r ∷ rs) (g ∷ gs) p f = leaves_formed E rs (children r g.context g.goal ++ gs) p.1
    (every_join (Formed E) (children r g.context g.goal) gs (children_formed E r g.context g.goal p.0 f.0.0 f.0.1) f.1)
