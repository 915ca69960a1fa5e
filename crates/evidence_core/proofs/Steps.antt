-- Evidence applied to an argument.
use Rattle.std.proofs.Common.{◌≡◌, ℕ, List, [], ◌∷◌, ◌++◌, Ok, Err, refl, sym, ap, subst, ◌∙◌}
use Rattle.std.proofs.Common.{if◌then◌else◌}
use Rattle.vern_grammar.specs.Trees.{Expression}
use Rattle.fol_theory.specs.Syntax.{Term, Formula, implies, all}
use Rattle.fol_theory.specs.Substitution.{instantiate}
use Rattle.fol_theory.specs.Contexts.{variables}
use Rattle.fol_theory.specs.Slots.{Slot, entries}
use Rattle.base_core.specs.Answers.{and_then}
use Rattle.env_theory.specs.Declarations.{Declaration}
use Rattle.env_theory.specs.Typing.{HasSort}
use Rattle.env_theory.specs.Heads.{head_form}
use Rattle.env_theory.proofs.SameNames.{own_name}
use Rattle.elab_theory.specs.Locals.{locals_in, sorts_in}
use Rattle.elab_theory.specs.Expressions.{span_of, term_of, of_sort}
use Rattle.elab_theory.proofs.Formed.{term_formed, of_sort_formed}
use Rattle.elab_theory.proofs.Results.{steps}
use Rattle.logic_theory.specs.Rules.{step, all_e, imp_e}
use Rattle.tactic_theory.specs.Faults.{not_of_form, from_typing}
use Rattle.tactic_theory.specs.Evidence.{Evidence, with_term, with_proof, put_term, conclusion, shows}
use Rattle.tactic_theory.specs.Typing.{with_argument, evidence_of}
use Rattle.tactic_theory.proofs.Typed.{locals_sorts}
use Rattle.evidence_core.specs.Trees.{term_rule, proof_rule, rule_at, tree_of}
use Rattle.evidence_core.specs.Pairs.{premise_with, premise_at, pairs_of}
use Rattle.evidence_core.specs.Showings.{Showing, Comes, StandsFor, with_term_put, with_proof_put, applied}

-- a term of the sort that is asked has it
pub argument_sorted : (E : List Declaration) (c : List Slot) (a : Expression) (s : List ℕ) (t : Term)
    → and_then (term_of E (locals_in c) a) (of_sort s (span_of a)) ≡ Ok t → HasSort E (variables (entries c)) t s
argument_sorted E c a s t w =
    let j = steps (term_of E (locals_in c) a) (of_sort s (span_of a)) t w in
    subst (λ V. HasSort E V t s) (locals_sorts c)
    (of_sort_formed E (sorts_in (locals_in c)) s (span_of a) j.0 t (term_formed E (locals_in c) a j.0 j.1) j.2)

module _ (E : List Declaration) (c : List Slot) (e : Evidence) (s : Showing) (k : Comes E c e s) where
  term_put : (r y : List ℕ) (b : Formula) (t : Term) → head_form E s.formula ≡ all r y b → HasSort E (variables (entries c)) t r
      → Comes E c (with_term e r t) (with_term_put r b t s)
  term_put r y b t h sorted = record {
    typed = (k.typed, sorted);
    formula = ap (λ w. and_then w (λ a. put_term r t (head_form E a))) k.formula ∙ ap (put_term r t) h
        ∙ ap (λ q. if q then Ok (instantiate b t) else Err not_of_form) (own_name r);
    tree = ap (λ rs. step (all_e r b t) ∷ rs) k.tree
        ∙ sym (ap (λ w. rule_at E (term_rule t) w ++ tree_of E c e) k.formula ∙ ap (λ g. term_rule t g ++ tree_of E c e) h);
    pairs = k.pairs;
    hypothesis = refl;
  }

  proof_put : (a b : Formula) (d : Evidence) (u : Showing) → head_form E s.formula ≡ implies a b → Comes E c d u
      → Comes E c (with_proof e d) (with_proof_put a b u s)
  proof_put a b d u h j = record {
    typed = (k.typed, j.typed);
    formula = ap (λ w. and_then w (λ f. and_then (shows E c d) (λ p. conclusion (head_form E f)))) k.formula
        ∙ ap (λ w. and_then w (λ p. conclusion (head_form E s.formula))) j.formula ∙ ap conclusion h;
    tree = (λ i. step (imp_e a) ∷ (k.tree i ++ j.tree i))
        ∙ sym (ap (λ w. rule_at E proof_rule w ++ (tree_of E c e ++ tree_of E c d)) k.formula
        ∙ ap (λ g. proof_rule g ++ (tree_of E c e ++ tree_of E c d)) h);
    pairs = (λ i. k.pairs i ++ (j.pairs i ++ ((a, u.formula) ∷ [])))
        ∙ sym (ap (λ w. pairs_of E c e ++ (pairs_of E c d ++ premise_at E w (shows E c d))) k.formula
        ∙ ap (λ w. pairs_of E c e ++ (pairs_of E c d ++ premise_at E (Ok s.formula) w)) j.formula
        ∙ ap (λ g. pairs_of E c e ++ (pairs_of E c d ++ premise_with u.formula g)) h);
    hypothesis = refl;
  }

  -- what an argument makes, by the head form
  pub applied_at : (h : Formula) → head_form E s.formula ≡ h → (a : Expression)
      → applied E c e a ≡ with_argument h e (span_of a) (term_of E (locals_in c) a) (evidence_of E c a)
  applied_at h q a =
      ap (λ w. and_then w (λ f. with_argument (head_form E f) e (span_of a) (term_of E (locals_in c) a) (evidence_of E c a))) k.formula
      ∙ ap (λ g. with_argument g e (span_of a) (term_of E (locals_in c) a) (evidence_of E c a)) q

  term_applied : (a : Expression) (r y : List ℕ) (b : Formula) (t : Term) → head_form E s.formula ≡ all r y b
      → and_then (term_of E (locals_in c) a) (of_sort r (span_of a)) ≡ Ok t → StandsFor E c (applied E c e a) (with_term_put r b t s)
  term_applied a r y b t h w = (
    with_term e r t,
    applied_at (all r y b) h a ∙ ap (λ z. and_then (from_typing z) (λ u. Ok (with_term e r u))) w,
    term_put r y b t h (argument_sorted E c a r t w),
  )

  proof_applied : (a : Expression) (y b : Formula) (u : Showing) → head_form E s.formula ≡ implies y b
      → StandsFor E c (evidence_of E c a) u → StandsFor E c (applied E c e a) (with_proof_put y b u s)
  proof_applied a y b u h w = (
    with_proof e w.0,
    applied_at (implies y b) h a ∙ ap (λ z. and_then z (λ q. Ok (with_proof e q))) w.1,
    proof_put y b w.0 u h w.2,
  )

  pub term_stands : (a : Expression) (r y : List ℕ) (b : Formula) (t : Term) (z : Showing) → head_form E s.formula ≡ all r y b
      → and_then (term_of E (locals_in c) a) (of_sort r (span_of a)) ≡ Ok t → z ≡ with_term_put r b t s
      → StandsFor E c (applied E c e a) z
  term_stands a r y b t z h w q = subst (StandsFor E c (applied E c e a)) (sym q) (term_applied a r y b t h w)

  pub proof_stands : (a : Expression) (y b : Formula) (u z : Showing) → head_form E s.formula ≡ implies y b
      → StandsFor E c (evidence_of E c a) u → z ≡ with_proof_put y b u s → StandsFor E c (applied E c e a) z
  proof_stands a y b u z h w q = subst (StandsFor E c (applied E c e a)) (sym q) (proof_applied a y b u h w)
