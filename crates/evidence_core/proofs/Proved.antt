-- The tree of evidence whose premises are met proves each formula that is the same as what is shown.
use Rattle.std.proofs.Common.{◌≡◌, ℕ, true, ◌&&◌, List, [], ◌∷◌, ◌++◌, Option, Some, None, Ok}
use Rattle.std.proofs.Common.{refl, sym, ap, subst, ◌∙◌}
use Rattle.std.specs.Cmp.Lexicographic.{bytes_decides}
use Rattle.fol_theory.specs.Syntax.{Term, Formula, implies, all, is_name}
use Rattle.fol_theory.specs.Substitution.{instantiate}
use Rattle.fol_theory.specs.Contexts.{variables}
use Rattle.fol_theory.specs.Slots.{Slot, entries}
use Rattle.base_core.specs.Answers.{and_then}
use Rattle.env_theory.specs.Declarations.{Declaration, stated}
use Rattle.env_theory.specs.Typing.{HasSort, WellFormed, Environment}
use Rattle.env_theory.specs.Heads.{head_form}
use Rattle.env_theory.specs.Normal.{Same}
use Rattle.env_theory.proofs.Sameness.{same_implies}
use Rattle.env_theory.proofs.Declared.{declares_found}
use Rattle.env_theory.proofs.Lawfuls.{head_formed}
use Rattle.logic_theory.specs.Proofs.{IsProof}
use Rattle.logic_theory.specs.Rules.{Rule, step, hyp, plain, seq, FormedContext}
use Rattle.logic_theory.proofs.Grafting.{proves_append}
use Rattle.tactic_theory.specs.Faults.{not_of_form}
use Rattle.tactic_theory.specs.Names.{hypothesis_at}
use Rattle.tactic_theory.specs.Evidence.{
  Evidence,
  assumed,
  declared,
  with_term,
  with_proof,
  known,
  put_term,
  conclusion,
  shows,
  takes,
  meets,
  is_met,
  IsTyped,
}
use Rattle.tactic_theory.proofs.Found.{is_same_decides, hypothesis_at_is}
use Rattle.tactic_theory.proofs.Named.{same_all_named}
use Rattle.tactic_theory.proofs.Shown.{both_true}
use Rattle.evidence_core.specs.Trees.{term_rule, proof_rule, rule_at, tree_of}
use Rattle.evidence_core.proofs.Results.{ok_is, never, steps, passed}
use Rattle.evidence_core.proofs.Heads.{head_same}
use Rattle.evidence_core.proofs.Formed.{shown_formed}

module _ (E : List Declaration) (x : Environment E) (c : List Slot) (f : FormedContext E (entries c)) where
  -- the rules are a tree for each formula that is the same
  abbrev ProvesAll : List Rule → Formula → Type 0
  ProvesAll rs a = (g : Formula) → Same E a g → IsProof E rs (seq (entries c) g)

  known_proved : (i : ℕ) (o : Option Formula) → hypothesis_at (entries c) i ≡ o → (a : Formula) → known o ≡ Ok a
      → ProvesAll (step (hyp i) ∷ []) a
  known_proved i None p a e = absurd (never Formula _ a e)
  known_proved i (Some b) p a e =
      λ g s. (((b, hypothesis_at_is (entries c) i b p, subst (λ z. Same E z g) (sym (ok_is Formula b a e)) s), tt), refl)

  -- what shows a, whose head form is h
  module _ (rs : List Rule) (a : Formula) (lead : ProvesAll rs a) where
    term_proved : (h : Formula) (s : List ℕ) (t : Term) → Same E h a → WellFormed E (variables (entries c)) h
        → HasSort E (variables (entries c)) t s → (z : Formula) → put_term s t h ≡ Ok z → ProvesAll (term_rule t h ++ rs) z
    term_proved (all r y b) s t q w k z e = λ g v.
        let p = passed (is_name r s) (Ok (instantiate b t)) not_of_form z e in
        let sorted = subst (HasSort E (variables (entries c)) t) (sym ((bytes_decides r s).0 p.0)) k in
        let under = lead (all r plain b) (sym q ∙ same_all_named E r y plain b) in
        (((w, sorted, subst (λ n. Same E n g) (sym (ok_is Formula _ _ p.1)) v), under.0), under.1)
    term_proved h s t q w k z e = absurd (never Formula _ z e)

    proof_proved : (us : List Rule) (h p : Formula) → Same E h a → WellFormed E (variables (entries c)) h → ProvesAll us p
        → takes E h p ≡ true → (z : Formula) → conclusion h ≡ Ok z → ProvesAll (proof_rule h ++ (rs ++ us)) z
    proof_proved us (implies y b) p q w other m z e = λ g v.
        let first = lead (implies y g) (sym q ∙ same_implies E y b y g refl (subst (λ n. Same E n g) (sym (ok_is Formula b z e)) v)) in
        let second = other y (sym ((is_same_decides E y p).0 m)) in
        let one = seq (entries c) (implies y g) ∷ [] in
        let two = seq (entries c) y ∷ [] in
        let both = proves_append E rs us one two first second in ((w.0, both.0), both.1)
    proof_proved us h p q w other m z e = absurd (never Formula _ z e)

  pub proved : (e : Evidence) → IsTyped E c e → is_met E c e ≡ true → (a : Formula) → shows E c e ≡ Ok a → ProvesAll (tree_of E c e) a
  proved (assumed i) t m a q = known_proved i (hypothesis_at (entries c) i) refl a q
  proved (declared n b) t m a q =
      λ g s. (((b, t, declares_found E x n (stated n b) t, subst (λ z. Same E z g) (sym (ok_is Formula b a q)) s), tt), refl)
  proved (with_term e s u) t m a q =
      let j = steps (shows E c e) (λ b. put_term s u (head_form E b)) a q in
      let w = shown_formed E x c f e t.0 j.0 j.1 in
      subst (λ r. ProvesAll (rule_at E (term_rule u) r ++ tree_of E c e) a) (sym j.1)
      (term_proved (tree_of E c e) j.0 (proved e t.0 m j.0 j.1) (head_form E j.0) s u (head_same E x (variables (entries c)) j.0 w)
      (head_formed E x (variables (entries c)) j.0 w) t.1 a j.2)
  proved (with_proof e d) t m a q =
      let j = steps (shows E c e) (λ b. and_then (shows E c d) (λ p. conclusion (head_form E b))) a q in
      let k = steps (shows E c d) (λ p. conclusion (head_form E j.0)) a j.2 in
      let w = shown_formed E x c f e t.0 j.0 j.1 in
      let m1 = both_true (is_met E c e) (is_met E c d && meets E (shows E c e) (shows E c d)) m in
      let m2 = both_true (is_met E c d) (meets E (shows E c e) (shows E c d)) m1.1 in
      let met : takes E (head_form E j.0) k.0 ≡ true = ap (λ r. meets E r (Ok k.0)) (sym j.1) ∙ ap (λ r. meets E (shows E c e) r) (sym k.1)
      ∙ m2.1 in
      subst (λ r. ProvesAll (rule_at E proof_rule r ++ (tree_of E c e ++ tree_of E c d)) a) (sym j.1)
      (proof_proved (tree_of E c e) j.0 (proved e t.0 m1.0 j.0 j.1) (tree_of E c d) (head_form E j.0) k.0
      (head_same E x (variables (entries c)) j.0 w) (head_formed E x (variables (entries c)) j.0 w) (proved d t.1 m2.0 k.0 k.1) met a k.2)
