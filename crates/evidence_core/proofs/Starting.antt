-- What the name makes that evidence begins with.
use Rattle.std.proofs.Common.{◌≡◌, ℕ, ◌<◌, List, [], ◌∷◌, Option, Some, None, Ok, Err, refl, sym, ap, subst, ◌∙◌}
use Rattle.vern_grammar.specs.Trees.{Name}
use Rattle.fol_theory.specs.Syntax.{Formula}
use Rattle.fol_theory.specs.Contexts.{Entry, variable, hypothesis, variables, count, IsHypothesis}
use Rattle.fol_theory.specs.Slots.{Slot, slot, entries, from_name}
use Rattle.env_theory.specs.Declarations.{Declaration, stated, name_of, find}
use Rattle.env_theory.specs.Typing.{WellFormed}
use Rattle.elab_theory.specs.Faults.{wrong_kind}
use Rattle.elab_theory.specs.Locals.{assumed as known_assumed, declared as known_declared, declared_or_not}
use Rattle.logic_theory.specs.Rules.{Rule, step, hyp, known as known_rule, FormedContext}
use Rattle.logic_theory.proofs.Trees.{is_member, hypotheses_formed}
use Rattle.tactic_theory.specs.Faults.{of_typing}
use Rattle.tactic_theory.specs.Names.{hypothesis_named}
use Rattle.tactic_theory.specs.Evidence.{assumed, declared, known as shown_by}
use Rattle.tactic_theory.specs.Typing.{start}
use Rattle.tactic_theory.proofs.Found.{named_below}
use Rattle.evidence_core.specs.Showings.{Showing, Comes, StandsFor, begun}
use Rattle.evidence_core.proofs.Looked.{found_none, found_variable, found_assumed, found_number, hypothesis_is}

-- what a rule shows that leads to nothing else
abbrev pub alone : Formula → Rule → Option ℕ → Showing
alone a r o = record { formula = a; tree = r ∷ []; pairs = []; hypothesis = o }

pub hypothesis_formed : (E : List Declaration) (c : List Entry) → FormedContext E c → (i : ℕ) (a : Formula) → IsHypothesis c i a
    → WellFormed E (variables c) a
hypothesis_formed E c f i a h = hypotheses_formed E c a f (is_member c i a h)

-- ---- a Stated declaration

stated_comes : (E : List Declaration) (c : List Slot) (n : List ℕ) (a : Formula) (s : Showing) → find E n ≡ Some (stated n a)
    → s ≡ alone a (step (known_rule n)) None → Comes E c (declared n a) s
stated_comes E c n a s f q = record {
  typed = f;
  formula = ap (λ z. Ok (Showing.formula z)) (sym q);
  tree = ap (λ z. Showing.tree z) q;
  pairs = ap (λ z. Showing.pairs z) q;
  hypothesis = ap (λ z. Showing.hypothesis z) q;
}

pub stated_stands : (E : List Declaration) (c : List Slot) (x : Name) (o : Option ℕ) (d : Declaration) (n : List ℕ) (a : Formula)
    (s : Showing) → d ≡ stated n a → find E (name_of d) ≡ Some d → s ≡ alone a (step (known_rule n)) None
    → StandsFor E c (start (known_declared d) x o) s
stated_stands E c x o d n a s e = subst (λ z. find E (name_of z) ≡ Some z → s ≡ alone a (step (known_rule n)) None
    → StandsFor E c (start (known_declared z) x o) s) (sym e) (λ f q. (declared n a, refl, stated_comes E c n a s f q))

-- ---- a name that is looked up

module _ (E : List Declaration) (c : List Slot) (x : Name) (n : List ℕ) (e : n ≡ x.text) where
  -- no slot has it
  pub begun_global : from_name n c ≡ [] → start (declared_or_not (find E n)) x (hypothesis_named c x.text) ≡ begun E c x
  begun_global f =
      ap (λ z. start (declared_or_not (find E z)) x (hypothesis_named c x.text)) e
      ∙ ap (λ k. start k x (hypothesis_named c x.text)) (sym (found_none E x.text c (ap (λ z. from_name z c) (sym e) ∙ f)))

  -- the newest is a variable
  pub begun_variable : (d : List Slot) (y : Slot) (m s : List ℕ) → from_name n c ≡ y ∷ d → y ≡ slot m (variable s)
      → begun E c x ≡ Err (of_typing (wrong_kind x.span))
  begun_variable d y m s f q =
      let k = found_variable E x.text c d m s (ap (λ z. from_name z c) (sym e) ∙ f ∙ ap (λ z. z ∷ d) q) in
      ap (λ z. start z x (hypothesis_named c x.text)) k.2

  -- the newest is a hypothesis
  module _ (d : List Slot) (y : Slot) (m : List ℕ) (a : Formula) (f : from_name n c ≡ y ∷ d) (q : y ≡ slot m (hypothesis a)) where
    there : from_name x.text c ≡ slot m (hypothesis a) ∷ d
    there = ap (λ z. from_name z c) (sym e) ∙ f ∙ ap (λ z. z ∷ d) q

    pub number_below : (i : ℕ) → i ≡ count (entries d) → i < count (entries c)
    number_below i p = named_below c x.text i (found_number x.text c d m a there ∙ ap Some (sym p))

    begun_assumed : (i : ℕ) → i ≡ count (entries d) → begun E c x ≡ Ok (assumed i)
    begun_assumed i p =
        ap (λ z. start z x (hypothesis_named c x.text)) (found_assumed E x.text c d m a there)
        ∙ ap (start known_assumed x) (found_number x.text c d m a there ∙ ap Some (sym p))

    pub assumed_stands : (i : ℕ) (b : Formula) (s : Showing) → i ≡ count (entries d) → IsHypothesis (entries c) i b
        → s ≡ alone b (step (hyp i)) (Some i) → StandsFor E c (begun E c x) s
    assumed_stands i b s p h r = (
      assumed i,
      begun_assumed i p,
      record {
        typed = tt;
        formula = ap shown_by (hypothesis_is (entries c) i b h) ∙ ap (λ z. Ok (Showing.formula z)) (sym r);
        tree = ap (λ z. Showing.tree z) r;
        pairs = ap (λ z. Showing.pairs z) r;
        hypothesis = ap (λ z. Showing.hypothesis z) r;
      },
    )
