-- What is made where a definition is put in.
use Rattle.std.proofs.Common.{◌≡◌, ℕ, ◌<◌, Bool, true, false, if◌then◌else◌, List, [], ◌∷◌, None, Result, Ok, inr, refl, sym, ap, subst, ◌∙◌}
use Rattle.fol_theory.specs.Syntax.{Formula}
use Rattle.fol_theory.specs.Contexts.{hypothesis, variables, count, IsHypothesis, without}
use Rattle.fol_theory.specs.Slots.{Slot, slot, entries, names, slots_without}
use Rattle.fol_theory.proofs.Slots.{entries_without}
use Rattle.env_theory.specs.Declarations.{Declaration, name_of}
use Rattle.env_theory.specs.Typing.{Environment, Put, WellFormed}
use Rattle.env_theory.specs.Normal.{expand}
use Rattle.env_theory.proofs.Keeps.{expand_formed}
use Rattle.logic_theory.specs.Goals.{Goal, goal, sequent, goals}
use Rattle.logic_theory.specs.Rules.{leaf, step, hyp, cut, conv, drop, seq, Follows, Formed}
use Rattle.logic_theory.proofs.Grafting.{label_names, names_entries}
use Rattle.logic_theory.proofs.Trees.{is_member, hypotheses_formed}
use Rattle.tactic_theory.specs.Faults.{Fault}
use Rattle.tactic_theory.specs.Names.{hypothesis_at}
use Rattle.tactic_theory.specs.Refinements.{Part, part, mentions, unfolded_in, row}
use Rattle.tactic_theory.specs.Typing.{unfolding_of}
use Rattle.tactic_theory.proofs.Found.{without_newer}
use Rattle.evidence_core.proofs.Looked.{hypothesis_is}
use Rattle.base_core.specs.Answers.{and_then}
use Rattle.tac_base.specs.Openings.{Opens, Made, made}
use Rattle.tac_eq.proofs.Unfolded.{expanded_same}

-- a goal that is left open
kept_opens : (E : List Declaration) (g : Goal) → Opens E g (part [] g.slots g.shown ∷ []) (made (leaf (names g.slots) ∷ []) (g.shown ∷ []))
kept_opens E g = record {
  follows = (names_entries g.slots, tt);
  leaves = λ i. goal (label_names g.slots i) g.shown ∷ [];
  formulas = refl;
}

module _ (E : List Declaration) (x : Environment E) (d : Declaration) (p : Put E d) (g : Goal) (f : Formed E (sequent g)) where
  -- ---- in the goal

  expanded_opens : Opens E g (part [] g.slots (expand d g.shown) ∷ [])
      (made (step (conv (expand d g.shown)) ∷ leaf (names g.slots) ∷ []) (expand d g.shown ∷ []))
  expanded_opens =
      let V : List (List ℕ) = variables (entries g.slots) in
      record {
        follows = ((expand_formed E d p V g.shown f.1, expanded_same E x d p V g.shown f.1), (names_entries g.slots, tt));
        leaves = λ i. goal (label_names g.slots i) (expand d g.shown) ∷ [];
        formulas = refl;
      }

  -- what is made of the goal opens it to the part that the table wants
  pub goal_unfolded : (r : Result Declaration Fault) → r ≡ Ok d → (m : Made)
      → m ≡ made (step (conv (expand d g.shown)) ∷ leaf (names g.slots) ∷ []) (expand d g.shown ∷ [])
      → (ps : List Part) × (and_then (and_then r (λ c. Ok (unfolding_of None c))) (row E g.slots g.shown) ≡ Ok ps) × Opens E g ps m
  goal_unfolded r e m k =
      let ps = part [] g.slots (expand d g.shown) ∷ [] in (
        ps,
        ap (λ z. and_then (and_then z (λ c. Ok (unfolding_of None c))) (row E g.slots g.shown)) e,
        subst (Opens E g ps) (sym k) expanded_opens,
      )

  -- ---- in a hypothesis

  module _ (h : List ℕ) (i : ℕ) (a : Formula) (is : IsHypothesis (entries g.slots) i a) (b : i < count (entries g.slots)) where
    -- the slots, with the unfolded hypothesis at the end
    abbrev moved : List Slot
    moved = slot h (hypothesis (expand d a)) ∷ slots_without g.slots i

    same_entries : entries moved ≡ without (hypothesis (expand d a) ∷ entries g.slots) i
    same_entries = ap (λ l. hypothesis (expand d a) ∷ l) (entries_without g.slots i)
        ∙ sym (without_newer (hypothesis (expand d a) ∷ []) (entries g.slots) i b)

    formed : WellFormed E (variables (entries g.slots)) a
    formed = hypotheses_formed E (entries g.slots) a f.0 (is_member (entries g.slots) i a is)

    moved_opens : Opens E g (part (slot h (hypothesis (expand d a)) ∷ []) (slots_without g.slots i) g.shown ∷ [])
        (made (step (cut (expand d a)) ∷ step (hyp i) ∷ step (drop i) ∷ leaf (names moved) ∷ []) (expand d a ∷ g.shown ∷ []))
    moved_opens = record {
      follows = (
        expand_formed E d p (variables (entries g.slots)) a formed,
        (
          (a, is, sym (expanded_same E x d p (variables (entries g.slots)) a formed)),
          ((a, inr is), subst (λ z. Follows E (leaf (names moved) ∷ []) (seq z g.shown ∷ [])) same_entries (names_entries moved, tt)),
        ),
      );
      leaves =
          ap (λ z. goals (leaf (names moved) ∷ []) (seq z g.shown ∷ [])) (sym same_entries)
          ∙ (λ j. goal (label_names moved j) g.shown ∷ []);
      formulas = refl;
    }

    -- what the table wants
    wanted : (q : Bool) → mentions (name_of d) a ≡ q → (ps : List Part)
        → ◌≡◌ {A = Result (List Part) Fault} (if q then Ok (part (slot h (hypothesis (expand d a)) ∷ []) (slots_without g.slots i) g.shown ∷ [])
        else Ok (part [] g.slots g.shown ∷ [])) (Ok ps) → unfolded_in d g.slots h i (hypothesis_at (entries g.slots) i) g.shown ≡ Ok ps
    wanted q e ps w = ap (λ o. unfolded_in d g.slots h i o g.shown) (hypothesis_is (entries g.slots) i a is)
        ∙ ap (λ t. if t then Ok (part (slot h (hypothesis (expand d a)) ∷ []) (slots_without g.slots i) g.shown ∷ [])
        else Ok (part [] g.slots g.shown ∷ [])) e ∙ w

    -- what opens to the parts that are wanted
    abbrev pub Unfolds : Made → Type 0
    Unfolds m = (ps : List Part) × (unfolded_in d g.slots h i (hypothesis_at (entries g.slots) i) g.shown ≡ Ok ps) × Opens E g ps m

    pub unfolds_moved : mentions (name_of d) a ≡ true → (m : Made)
        → m ≡ made (step (cut (expand d a)) ∷ step (hyp i) ∷ step (drop i) ∷ leaf (names moved) ∷ []) (expand d a ∷ g.shown ∷ []) → Unfolds m
    unfolds_moved e m k =
        let ps = part (slot h (hypothesis (expand d a)) ∷ []) (slots_without g.slots i) g.shown ∷ [] in
        (ps, wanted true e ps refl, subst (Opens E g ps) (sym k) moved_opens)

    pub unfolds_kept : mentions (name_of d) a ≡ false → (m : Made) → m ≡ made (leaf (names g.slots) ∷ []) (g.shown ∷ []) → Unfolds m
    unfolds_kept e m k =
        let ps = part [] g.slots g.shown ∷ [] in
        (ps, wanted false e ps refl, subst (Opens E g ps) (sym k) (kept_opens E g))
