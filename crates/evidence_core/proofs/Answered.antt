-- Evidence whose names and terms are found shows a formula; else its fault is one of typing, or of its form.
use Rattle.std.proofs.Common.{◌≡◌, ℕ, List, Option, Some, None, Result, Ok, Err, refl, sym, ap, subst, ◌∙◌, if◌then◌else◌, ◌⊎◌, inl, inr}
use Rattle.vern_lex.specs.declared.span.Span.{Span}
use Rattle.vern_grammar.specs.Trees.{Name, Expression, constant, application, binary, negation, quantified, Expressions}
use Rattle.vern_grammar.specs.Trees as tree
use Rattle.fol_theory.specs.Syntax.{Term, Formula, implies, all}
use Rattle.fol_theory.specs.Substitution.{instantiate}
use Rattle.fol_theory.specs.Slots.{Slot, entries}
use Rattle.base_core.specs.Answers.{and_then}
use Rattle.env_theory.specs.Declarations.{Declaration, sort, function, predicate, stated, term, formula}
use Rattle.env_theory.specs.Heads.{head_form}
use Rattle.env_theory.proofs.SameNames.{own_name}
use Rattle.elab_theory.specs.Faults.{Fault as TypingFault}
use Rattle.elab_theory.specs.Locals.{locals_in, Known, bound, assumed as known_assumed, declared as known_declared, unknown}
use Rattle.elab_theory.specs.Expressions.{span_of, of_sort, term_of}
use Rattle.tactic_theory.specs.Faults.{Fault, not_of_form, from_typing}
use Rattle.tactic_theory.specs.Names.{hypothesis_named}
use Rattle.tactic_theory.specs.Evidence.{Evidence, with_term, with_proof, known, put_term, conclusion, shows}
use Rattle.tactic_theory.specs.Typing.{meaning, start, with_argument, evidence_of, with_arguments}
use Rattle.tactic_theory.proofs.Found.{named_below}
use Rattle.evidence_core.specs.Showings.{IsOfEvidence}
use Rattle.evidence_core.proofs.Results.{ok_is, never, steps}
use Rattle.fol_theory.proofs.Numbers.{hypothesis_there}
use Rattle.evidence_core.proofs.Looked.{hypothesis_is}

module _ (E : List Declaration) (c : List Slot) where
  -- it shows a formula
  abbrev pub Shows : Evidence → Type 0
  Shows e = (a : Formula) × (shows E c e ≡ Ok a)

  start_shown : (x : Name) (k : Known) (e : Evidence) → start k x (hypothesis_named c x.text) ≡ Ok e → Shows e
  start_shown x (bound i s) e w = absurd (never Evidence _ e w)
  start_shown x known_assumed e w = go (hypothesis_named c x.text) refl w
    where
      go : (o : Option ℕ) → hypothesis_named c x.text ≡ o → start known_assumed x o ≡ Ok e → Shows e
      go None p q = absurd (never Evidence _ e q)
      go (Some i) p q =
          let h = hypothesis_there (entries c) i (named_below c x.text i p) in
          subst Shows (ok_is Evidence _ _ q) (h.0, ap known (hypothesis_is (entries c) i h.0 h.1))
  start_shown x (known_declared (sort n)) e w = absurd (never Evidence _ e w)
  start_shown x (known_declared (function n ss s)) e w = absurd (never Evidence _ e w)
  start_shown x (known_declared (predicate n ss)) e w = absurd (never Evidence _ e w)
  start_shown x (known_declared (stated n a)) e w = subst Shows (ok_is Evidence _ _ w) (a, refl)
  start_shown x (known_declared (term n ps s b)) e w = absurd (never Evidence _ e w)
  start_shown x (known_declared (formula n ps b)) e w = absurd (never Evidence _ e w)
  start_shown x unknown e w = absurd (never Evidence _ e w)

  -- an argument, where the head form is known
  argument_shown : (f h : Formula) → head_form E f ≡ h → (e : Evidence) → shows E c e ≡ Ok f → (p : Span)
      → (t : Result (Term × List ℕ) TypingFault) (r : Result Evidence Fault) → ((q : Evidence) → r ≡ Ok q → Shows q)
      → (d : Evidence) → with_argument h e p t r ≡ Ok d → Shows d
  argument_shown f (all s y b) g e k p t r q d w =
      let j = steps (from_typing (and_then t (of_sort s p))) (λ u. Ok (with_term e s u)) d w in
      subst Shows (ok_is Evidence _ _ j.2) (
        instantiate b j.0,
        ap (λ z. and_then z (λ a. put_term s j.0 (head_form E a))) k ∙ ap (put_term s j.0) g
            ∙ ap (λ z. if z then Ok (instantiate b j.0) else Err not_of_form) (own_name s),
      )
  argument_shown f (implies a b) g e k p t r q d w =
      let j = steps r (λ u. Ok (with_proof e u)) d w in
      let u = q j.0 j.1 in
      subst Shows (ok_is Evidence _ _ j.2) (
        b,
        ap (λ z. and_then z (λ a. and_then (shows E c j.0) (λ p. conclusion (head_form E a)))) k
            ∙ ap (λ z. and_then z (λ p. conclusion (head_form E f))) u.1 ∙ ap conclusion g,
      )
  argument_shown f h g e k p t r q d w = absurd (never Evidence _ d w)

  mutual
    pub evidence_shown : (a : Expression) (e : Evidence) → evidence_of E c a ≡ Ok e → Shows e
    evidence_shown (constant b p) e w = absurd (never Evidence _ e w)
    evidence_shown (application x ys p) e w =
        let j = steps (start (meaning E c x.text) x (hypothesis_named c x.text)) (λ d. with_arguments E c ys d) e w in
        arguments_shown ys j.0 (start_shown x (meaning E c x.text) j.0 j.1) e j.2
    evidence_shown (binary op a b p) e w = absurd (never Evidence _ e w)
    evidence_shown (negation a p) e w = absurd (never Evidence _ e w)
    evidence_shown (quantified q gs a p) e w = absurd (never Evidence _ e w)

    arguments_shown : (es : Expressions) (e : Evidence) → Shows e → (d : Evidence) → with_arguments E c es e ≡ Ok d → Shows d
    arguments_shown tree.nil e h d w = subst Shows (ok_is Evidence _ _ w) h
    arguments_shown (tree.cons a es) e h d w =
        let make : Formula → Result Evidence Fault = λ f. with_argument (head_form E f) e (span_of a) (term_of E (locals_in c) a)
        (evidence_of E c a) in
        let j = steps (and_then (shows E c e) make) (λ q. with_arguments E c es q) d w in
        let k = steps (shows E c e) make j.0 j.1 in
        arguments_shown es j.0 (argument_shown k.0 (head_form E k.0) refl e k.1 (span_of a) (term_of E (locals_in c) a) (evidence_of E c a)
        (λ q v. evidence_shown a q v) j.0 k.2) d j.2

-- ---- faults

-- one of the two steps failed
failed : {A B : Type 0} (r : Result A Fault) (f : A → Result B Fault) (g : Fault) → and_then r f ≡ Err g
    → (r ≡ Err g) ⊎ ((x : A) × (r ≡ Ok x) × (f x ≡ Err g))
failed (Ok x) f g e = inr (x, refl, e)
failed {B = B} (Err h) f g e = inl (err_as B h g e)
  where
    err_as : (B : Type 0) (h g : Fault) → Path (Result B Fault) (Err h) (Err g) → {A : Type 0} → Path (Result A Fault) (Err h) (Err g)
    err_as B h g e = cc

err_is : (A : Type 0) (f g : Fault) → Path (Result A Fault) (Err f) (Err g) → f ≡ g
err_is A f g e = cc

good : (A : Type 0) (x : A) (g : Fault) → Path (Result A Fault) (Ok x) (Err g) → ⊥
good A x g e = cc

module _ (E : List Declaration) (c : List Slot) where
  of_start : (x : Name) (k : Known) (o : Option ℕ) (g : Fault) → start k x o ≡ Err g → IsOfEvidence g
  of_start x (bound i s) o g w = subst IsOfEvidence (err_is Evidence _ g w) tt
  of_start x known_assumed None g w = subst IsOfEvidence (err_is Evidence _ g w) tt
  of_start x known_assumed (Some i) g w = absurd (good Evidence _ g w)
  of_start x (known_declared (sort n)) o g w = subst IsOfEvidence (err_is Evidence _ g w) tt
  of_start x (known_declared (function n ss s)) o g w = subst IsOfEvidence (err_is Evidence _ g w) tt
  of_start x (known_declared (predicate n ss)) o g w = subst IsOfEvidence (err_is Evidence _ g w) tt
  of_start x (known_declared (stated n a)) o g w = absurd (good Evidence _ g w)
  of_start x (known_declared (term n ps s b)) o g w = subst IsOfEvidence (err_is Evidence _ g w) tt
  of_start x (known_declared (formula n ps b)) o g w = subst IsOfEvidence (err_is Evidence _ g w) tt
  of_start x unknown o g w = subst IsOfEvidence (err_is Evidence _ g w) tt

  of_typed : {A : Type 0} (r : Result A TypingFault) (g : Fault) → from_typing r ≡ Err g → IsOfEvidence g
  of_typed {A} (Ok x) g w = absurd (good A x g w)
  of_typed {A} (Err f) g w = subst IsOfEvidence (err_is A _ g w) tt

  of_argument : (h : Formula) (e : Evidence) (p : Span) (t : Result (Term × List ℕ) TypingFault) (r : Result Evidence Fault)
      → ((g : Fault) → r ≡ Err g → IsOfEvidence g) → (g : Fault) → with_argument h e p t r ≡ Err g → IsOfEvidence g
  of_argument (all s y b) e p t r k g w = go (failed (from_typing (and_then t (of_sort s p))) (λ u. Ok (with_term e s u)) g w)
    where
      go : (from_typing (and_then t (of_sort s p)) ≡ Err g) ⊎ ((u : Term) × (from_typing (and_then t (of_sort s p)) ≡ Ok u)
          × (Path (Result Evidence Fault) (Ok (with_term e s u)) (Err g))) → IsOfEvidence g
      go (inl h) = of_typed (and_then t (of_sort s p)) g h
      go (inr h) = absurd (good Evidence _ g h.2)
  of_argument (implies a b) e p t r k g w = go (failed r (λ u. Ok (with_proof e u)) g w)
    where
      go : (r ≡ Err g) ⊎ ((u : Evidence) × (r ≡ Ok u) × (Path (Result Evidence Fault) (Ok (with_proof e u)) (Err g))) → IsOfEvidence g
      go (inl h) = k g h
      go (inr h) = absurd (good Evidence _ g h.2)
  of_argument h e p t r k g w = subst IsOfEvidence (err_is Evidence not_of_form g w) tt

  begun_or_applied : (x : Name) (ys : Expressions) (g : Fault)
      → ((e : Evidence) → Shows E c e → with_arguments E c ys e ≡ Err g → IsOfEvidence g)
      → (start (meaning E c x.text) x (hypothesis_named c x.text) ≡ Err g)
      ⊎ ((e : Evidence) × (start (meaning E c x.text) x (hypothesis_named c x.text) ≡ Ok e) × (with_arguments E c ys e ≡ Err g))
      → IsOfEvidence g
  begun_or_applied x ys g k (inl h) = of_start x (meaning E c x.text) (hypothesis_named c x.text) g h
  begun_or_applied x ys g k (inr h) = k h.0 (start_shown E c x (meaning E c x.text) h.0 h.1) h.2

  -- an argument, or those behind it
  first_or_others : (a : Expression) (es : Expressions) (e : Evidence) (h : Shows E c e) (g : Fault)
      → ((f : Fault) → evidence_of E c a ≡ Err f → IsOfEvidence f)
      → ((q : Evidence) → Shows E c q → with_arguments E c es q ≡ Err g → IsOfEvidence g)
      → (with_argument (head_form E h.0) e (span_of a) (term_of E (locals_in c) a) (evidence_of E c a) ≡ Err g)
      ⊎ ((q : Evidence) × (with_argument (head_form E h.0) e (span_of a) (term_of E (locals_in c) a) (evidence_of E c a) ≡ Ok q)
      × (with_arguments E c es q ≡ Err g)) → IsOfEvidence g
  first_or_others a es e h g one more (inl k) =
      of_argument (head_form E h.0) e (span_of a) (term_of E (locals_in c) a) (evidence_of E c a) one g k
  first_or_others a es e h g one more (inr k) = more k.0
      (argument_shown E c h.0 (head_form E h.0) refl e h.1 (span_of a) (term_of E (locals_in c) a) (evidence_of E c a)
      (λ q v. evidence_shown E c a q v) k.0 k.1) k.2

  mutual
    pub of_evidence : (a : Expression) (g : Fault) → evidence_of E c a ≡ Err g → IsOfEvidence g
    of_evidence (constant b p) g w = subst IsOfEvidence (err_is Evidence _ g w) tt
    of_evidence (application x ys p) g w = begun_or_applied x ys g (λ e h v. of_arguments ys e h g v)
        (failed (start (meaning E c x.text) x (hypothesis_named c x.text)) (λ d. with_arguments E c ys d) g w)
    of_evidence (binary op a b p) g w = subst IsOfEvidence (err_is Evidence _ g w) tt
    of_evidence (negation a p) g w = subst IsOfEvidence (err_is Evidence _ g w) tt
    of_evidence (quantified q gs a p) g w = subst IsOfEvidence (err_is Evidence _ g w) tt

    of_arguments : (es : Expressions) (e : Evidence) → Shows E c e → (g : Fault) → with_arguments E c es e ≡ Err g → IsOfEvidence g
    of_arguments tree.nil e h g w = absurd (good Evidence e g w)
    of_arguments (tree.cons a es) e h g w =
        let made : and_then (shows E c e) (λ f. with_argument (head_form E f) e (span_of a) (term_of E (locals_in c) a)
        (evidence_of E c a)) ≡ with_argument (head_form E h.0) e (span_of a) (term_of E (locals_in c) a) (evidence_of E c a) =
        ap (λ z. and_then z (λ f. with_argument (head_form E f) e (span_of a) (term_of E (locals_in c) a) (evidence_of E c a))) h.1 in
        first_or_others a es e h g (λ f v. of_evidence a f v) (λ q k v. of_arguments es q k g v) (failed
        (with_argument (head_form E h.0) e (span_of a) (term_of E (locals_in c) a) (evidence_of E c a))
        (λ q. with_arguments E c es q) g (sym (ap (λ z. and_then z (λ q. with_arguments E c es q)) made) ∙ w))
