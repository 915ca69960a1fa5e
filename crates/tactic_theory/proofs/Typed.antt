-- Evidence whose names and terms are found, and refinements whose arguments are, are typed.
use Rattle.std.proofs.Common.{◌≡◌, ℕ, true, false, if◌then◌else◌, List, [], ◌∷◌, Option, Some, None, Result, Ok, Err, refl, sym, subst}
use Rattle.vern_grammar.specs.Trees.{Name, Expression, constant, application, binary, negation, quantified, Expressions}
use Rattle.vern_grammar.specs.Trees as tree
use Rattle.vern_sentence.specs.Trees as sentence
use Rattle.fol_theory.specs.Syntax.{Term, Formula, implies, all}
use Rattle.fol_theory.specs.Contexts.{Entry, variable, hypothesis, variables}
use Rattle.fol_theory.specs.Slots.{Slot, entries}
use Rattle.env_theory.specs.Declarations.{Declaration, sort, function, predicate, stated, term, formula, name_of, find}
use Rattle.env_theory.specs.Typing.{HasSort, WellFormed, AreSorts}
use Rattle.env_theory.specs.Orders.{InOrder}
use Rattle.env_theory.specs.Heads.{head_form}
use Rattle.env_theory.proofs.Members.{found_name}
use Rattle.base_core.specs.Answers.{and_then}
use Rattle.elab_theory.specs.Faults.{Fault as TypingFault}
use Rattle.elab_theory.specs.Locals.{local_of, locals_in, sorts_in, Known, bound, assumed as known_assumed, declared as known_declared, unknown}
use Rattle.elab_theory.specs.Expressions.{span_of, of_sort, term_of, formula_of}
use Rattle.elab_theory.proofs.Formed.{IsKnown, is_known, term_formed, formula_formed, of_sort_formed}
use Rattle.elab_theory.proofs.Results.{steps}
use Rattle.logic_theory.specs.Goals.{Goal, sequent}
use Rattle.logic_theory.specs.Rules.{Formed}
use Rattle.tactic_theory.specs.Names.{hypothesis_named}
use Rattle.tactic_theory.specs.Faults.{Fault, from_typing}
use Rattle.tactic_theory.specs.Evidence.{Evidence, with_term, with_proof, shows, IsTyped}
use Rattle.tactic_theory.specs.Typing.{
  meaning,
  start,
  with_argument,
  evidence_of,
  with_arguments,
  definition_at,
  unfolding_of,
  typed,
}
use Rattle.tactic_theory.specs.Refinements as refinement
use Rattle.tactic_theory.specs.Refinements.{Refinement, IsTypedRow}
use Rattle.tactic_theory.proofs.Found.{context_sorts}

-- ---- contexts as typing sees them

one_more : (n : List ℕ) (e : Entry) (c : List Slot) → sorts_in (locals_in c) ≡ variables (entries c) →
    sorts_in (local_of n e ∷ locals_in c) ≡ variables (e ∷ entries c)
one_more n (variable s) c h = λ i. s ∷ h i
one_more n (hypothesis a) c h = h

pub locals_sorts : (c : List Slot) → sorts_in (locals_in c) ≡ variables (entries c)
locals_sorts [] = refl
locals_sorts (x ∷ c) = one_more x.name x.entry c (locals_sorts c)

-- ---- results of the table

ok_of : (A : Type 0) (x y : A) → Path (Result A Fault) (Ok x) (Ok y) → x ≡ y
ok_of A x y e = cc

none_ok : (A : Type 0) (f : Fault) (x : A) → Path (Result A Fault) (Err f) (Ok x) → ⊥
none_ok A f x e = cc

-- both steps went well
both_steps : {A B : Type 0} (r : Result A Fault) (f : A → Result B Fault) (y : B) → and_then r f ≡ Ok y →
    (x : A) × (r ≡ Ok x) × (f x ≡ Ok y)
both_steps (Ok x) f y e = (x, refl, e)
both_steps {B = B} (Err g) f y e = absurd (none_ok B g y e)

typing_ok : {A : Type 0} (r : Result A TypingFault) (x : A) → from_typing r ≡ Ok x → r ≡ Ok x
typing_ok {A = A} (Ok y) x e = λ i. Ok (ok_of A y x e i)
typing_ok {A = A} (Err g) x e = absurd (none_ok A _ x e)

-- ---- evidence

start_typed : (E : List Declaration) (c : List Slot) (x : Name) (k : Known) (o : Option ℕ) → IsKnown E (locals_in c) x.text k →
    (e : Evidence) → start k x o ≡ Ok e → IsTyped E c e
start_typed E c x (bound i s) o h e q = absurd (none_ok _ _ _ q)
start_typed E c x known_assumed (Some i) h e q = subst (IsTyped E c) (ok_of Evidence _ _ q) tt
start_typed E c x known_assumed None h e q = absurd (none_ok _ _ _ q)
start_typed E c x (known_declared (sort n)) o h e q = absurd (none_ok _ _ _ q)
start_typed E c x (known_declared (function n ss s)) o h e q = absurd (none_ok _ _ _ q)
start_typed E c x (known_declared (predicate n ss)) o h e q = absurd (none_ok _ _ _ q)
start_typed E c x (known_declared (stated n a)) o h e q = subst (IsTyped E c) (ok_of Evidence _ _ q)
    (subst (λ m. find E m ≡ Some (stated n a)) (sym (found_name E x.text (stated n a) h)) h)
start_typed E c x (known_declared (term n ps s b)) o h e q = absurd (none_ok _ _ _ q)
start_typed E c x (known_declared (formula n ps b)) o h e q = absurd (none_ok _ _ _ q)
start_typed E c x unknown o h e q = absurd (none_ok _ _ _ q)

module _ (E : List Declaration) (c : List Slot) where
  -- a term of the sort that is asked
  argument_sort : (a : Expression) (r : List ℕ) (t : Term) →
      and_then (term_of E (locals_in c) a) (of_sort r (span_of a)) ≡ Ok t → HasSort E (variables (entries c)) t r
  argument_sort a r t e = let j = steps (term_of E (locals_in c) a) (of_sort r (span_of a)) t e in
      subst (λ V. HasSort E V t r) (locals_sorts c)
      (of_sort_formed E (sorts_in (locals_in c)) r (span_of a) j.0 t (term_formed E (locals_in c) a j.0 j.1) j.2)

  argument_typed : (f : Formula) (e : Evidence) (a : Expression) → IsTyped E c e →
      ((q : Evidence) → evidence_of E c a ≡ Ok q → IsTyped E c q) →
      (d : Evidence) → with_argument f e (span_of a) (term_of E (locals_in c) a) (evidence_of E c a) ≡ Ok d → IsTyped E c d
  argument_typed (all r x b) e a h k d w =
      let j = both_steps (from_typing (and_then (term_of E (locals_in c) a) (of_sort r (span_of a)))) (λ u. Ok (with_term e r u)) d w in
      subst (IsTyped E c) (ok_of Evidence _ _ j.2) (h, argument_sort a r j.0 (typing_ok _ j.0 j.1))
  argument_typed (implies p b) e a h k d w = let j = both_steps (evidence_of E c a) (λ q. Ok (with_proof e q)) d w in
      subst (IsTyped E c) (ok_of Evidence _ _ j.2) (h, k j.0 j.1)
  argument_typed f e a h k d w = absurd (none_ok _ _ _ w)

  mutual
    pub evidence_typed : (a : Expression) (e : Evidence) → evidence_of E c a ≡ Ok e → IsTyped E c e
    evidence_typed (constant b p) e w = absurd (none_ok _ _ _ w)
    evidence_typed (application x ys p) e w =
        let j = both_steps (start (meaning E c x.text) x (hypothesis_named c x.text)) (λ d. with_arguments E c ys d) e w in
        arguments_typed ys j.0
        (start_typed E c x (meaning E c x.text) (hypothesis_named c x.text) (is_known E (locals_in c) x.text) j.0 j.1) e j.2
    evidence_typed (binary op a b p) e w = absurd (none_ok _ _ _ w)
    evidence_typed (negation a p) e w = absurd (none_ok _ _ _ w)
    evidence_typed (quantified q gs a p) e w = absurd (none_ok _ _ _ w)

    pub arguments_typed : (es : Expressions) (e : Evidence) → IsTyped E c e →
        (d : Evidence) → with_arguments E c es e ≡ Ok d → IsTyped E c d
    arguments_typed tree.nil e h d w = subst (IsTyped E c) (ok_of Evidence _ _ w) h
    arguments_typed (tree.cons a es) e h d w =
        let make : Formula → Result Evidence Fault = λ f. with_argument (head_form E f) e (span_of a) (term_of E (locals_in c) a)
        (evidence_of E c a) in
        let j = both_steps (and_then (shows E c e) make) (λ q. with_arguments E c es q) d w in
        let k = both_steps (shows E c e) make j.0 j.1 in
        arguments_typed es j.0
        (argument_typed (head_form E k.0) e a h (λ q v. evidence_typed a q v) j.0 k.2) d j.2

-- ---- refinements

-- a definition that is found stands under its name
definition_found : (E : List Declaration) (c : List Slot) (x : Name) (k : Known) → IsKnown E (locals_in c) x.text k →
    (d : Declaration) → definition_at k x ≡ Ok d → find E (name_of d) ≡ Some d
definition_found E c x (bound i s) h d q = absurd (none_ok _ _ _ q)
definition_found E c x known_assumed h d q = absurd (none_ok _ _ _ q)
definition_found E c x (known_declared (sort n)) h d q = absurd (none_ok _ _ _ q)
definition_found E c x (known_declared (function n ss s)) h d q = absurd (none_ok _ _ _ q)
definition_found E c x (known_declared (predicate n ss)) h d q = absurd (none_ok _ _ _ q)
definition_found E c x (known_declared (stated n a)) h d q = absurd (none_ok _ _ _ q)
definition_found E c x (known_declared (term n ps s b)) h d q = subst (λ z. find E (name_of z) ≡ Some z) (ok_of Declaration _ _ q)
    (subst (λ m. find E m ≡ Some (term n ps s b)) (sym (found_name E x.text (term n ps s b) h)) h)
definition_found E c x (known_declared (formula n ps b)) h d q = subst (λ z. find E (name_of z) ≡ Some z) (ok_of Declaration _ _ q)
    (subst (λ m. find E m ≡ Some (formula n ps b)) (sym (found_name E x.text (formula n ps b) h)) h)
definition_found E c x unknown h d q = absurd (none_ok _ _ _ q)

unfolding_typed : (E : List Declaration) (c : List Slot) (h : Option Name) (d : Declaration) → find E (name_of d) ≡ Some d →
    IsTypedRow E c (unfolding_of h d)
unfolding_typed E c None d q = q
unfolding_typed E c (Some x) d q = q

module _ (E : List Declaration) (o : InOrder E) (g : Goal) (f : Formed E (sequent g)) where
  -- a refinement of some evidence
  by_evidence : (make : Evidence → Refinement) → ((e : Evidence) → IsTyped E g.slots e → IsTypedRow E g.slots (make e)) →
      (a : Expression) (r : Refinement) → and_then (evidence_of E g.slots a) (λ e. Ok (make e)) ≡ Ok r → IsTypedRow E g.slots r
  by_evidence make k a r w = let j = both_steps (evidence_of E g.slots a) (λ e. Ok (make e)) r w in
      subst (IsTypedRow E g.slots) (ok_of Refinement _ _ j.2) (k j.0 (evidence_typed E g.slots a j.0 j.1))

  -- one without arguments
  of_form : (s r : Refinement) → IsTypedRow E g.slots s → Path (Result Refinement Fault) (Ok s) (Ok r) → IsTypedRow E g.slots r
  of_form s r h w = subst (IsTypedRow E g.slots) (ok_of Refinement _ _ w) h

  pub refinement_typed : (x : sentence.Refinement) (r : Refinement) → typed E g x ≡ Ok r → IsTypedRow E g.slots r
  refinement_typed (sentence.intro x) r w = of_form _ r tt w
  refinement_typed (sentence.intros xs) r w = of_form _ r tt w
  refinement_typed (sentence.exact a) r w = by_evidence (λ e. refinement.exact e) (λ e h. h) a r w
  refinement_typed sentence.by_hypothesis r w = of_form _ r tt w
  refinement_typed (sentence.apply a) r w = by_evidence (λ e. refinement.apply e) (λ e h. h) a r w
  refinement_typed sentence.split r w = of_form _ r tt w
  refinement_typed sentence.left r w = of_form _ r tt w
  refinement_typed sentence.right r w = of_form _ r tt w
  refinement_typed (sentence.exists a) r w =
      let j = both_steps (from_typing (term_of E (locals_in g.slots) a)) (λ t. Ok (refinement.witness t.1 t.0 (span_of a))) r w in
      subst (IsTypedRow E g.slots) (ok_of Refinement _ _ j.2)
      (subst (λ V. HasSort E V j.0.0 j.0.1) (locals_sorts g.slots) (term_formed E (locals_in g.slots) a j.0 (typing_ok _ j.0 j.1)))
  refinement_typed (sentence.destruct_both a x y) r w = by_evidence (λ e. refinement.destruct_pair e x.text y.text) (λ e h. h) a r w
  refinement_typed (sentence.destruct_either a x y) r w = by_evidence (λ e. refinement.destruct_cases e x.text y.text) (λ e h. h) a r w
  refinement_typed (sentence.destruct_none a) r w = by_evidence (λ e. refinement.destruct_falsity e) (λ e h. h) a r w
  refinement_typed sentence.exfalso r w = of_form _ r tt w
  refinement_typed (sentence.assert x a) r w =
      let j = both_steps (from_typing (formula_of E (locals_in g.slots) a)) (λ b. Ok (refinement.assert x.text b)) r w in
      subst (IsTypedRow E g.slots) (ok_of Refinement _ _ j.2)
      (subst (λ V. WellFormed E V j.0) (locals_sorts g.slots) (formula_formed E o.0 a (locals_in g.slots)
      (subst (AreSorts E) (sym (locals_sorts g.slots)) (context_sorts E (entries g.slots) f.0)) j.0 (typing_ok _ j.0 j.1)))
  refinement_typed (sentence.clear x) r w = of_form _ r tt w
  refinement_typed sentence.reflexivity r w = of_form _ r tt w
  refinement_typed sentence.symmetry r w = of_form _ r tt w
  refinement_typed (sentence.rewrite a back) r w = by_evidence (λ e. refinement.rewrite (if back then false else true) e) (λ e h. h) a r w
  refinement_typed (sentence.unfold_in d h) r w =
      let j = both_steps (definition_at (meaning E g.slots d.text) d) (λ z. Ok (unfolding_of h z)) r w in
      subst (IsTypedRow E g.slots) (ok_of Refinement _ _ j.2)
      (unfolding_typed E g.slots h j.0 (definition_found E g.slots d (meaning E g.slots d.text)
      (is_known E (locals_in g.slots) d.text) j.0 j.1))
