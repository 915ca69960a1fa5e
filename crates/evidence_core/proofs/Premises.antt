-- The premises of evidence are met exactly where the formulas of each pair are the same.
use Rattle.std.proofs.Common.{◌≡◌, Bool, true, false, ◌&&◌, List, [], ◌∷◌, ◌++◌, Ok, Decides, refl, sym, subst}
use Rattle.std.specs.Prelude.{◌↔◌}
use Rattle.fol_theory.specs.Syntax.{Formula, implies}
use Rattle.fol_theory.specs.Slots.{Slot}
use Rattle.base_core.specs.Answers.{and_then}
use Rattle.env_theory.specs.Declarations.{Declaration}
use Rattle.env_theory.specs.Heads.{head_form}
use Rattle.tactic_theory.specs.Evidence.{
  Evidence,
  assumed,
  declared,
  with_term,
  with_proof,
  put_term,
  conclusion,
  shows,
  takes,
  meets,
  is_met,
}
use Rattle.tactic_theory.proofs.Found.{is_same_decides}
use Rattle.evidence_core.specs.Pairs.{premise_with, premise_at, pairs_of, AreSame}
use Rattle.evidence_core.proofs.Results.{never, steps}

same_append : (E : List Declaration) (ps qs : List (Formula × Formula)) → AreSame E (ps ++ qs) ↔ (AreSame E ps × AreSame E qs)
same_append E [] qs = (λ h. (tt, h), λ h. h.1)
same_append E (p ∷ ps) qs = let k = same_append E ps qs in
    (λ h. let j = k.0 h.1 in ((h.0, j.0), j.1), λ h. (h.0.0, k.1 (h.0.1, h.1)))

both_decide : (q r : Bool) (P Q : Type 0) → Decides q P → Decides r Q → Decides (q && r) (P × Q)
both_decide true true P Q d e = (λ h. (d.0 refl, e.0 refl), λ h. refl)
both_decide true false P Q d e = (λ h. absurd cc, λ h. e.1 h.1)
both_decide false r P Q d e = (λ h. absurd cc, λ h. d.1 h.0)

module _ (E : List Declaration) (c : List Slot) where
  taken_decides : (h p z : Formula) → conclusion h ≡ Ok z → Decides (takes E h p) (AreSame E (premise_with p h))
  taken_decides (implies a b) p z e = let d = is_same_decides E a p in (λ k. (d.0 k, tt), λ k. d.1 k.0)
  taken_decides h p z e = absurd (never Formula _ z e)

  pub met_decides : (e : Evidence) (a : Formula) → shows E c e ≡ Ok a → Decides (is_met E c e) (AreSame E (pairs_of E c e))
  met_decides (assumed i) a q = (λ h. tt, λ h. refl)
  met_decides (declared n b) a q = (λ h. tt, λ h. refl)
  met_decides (with_term e s t) a q =
      let j = steps (shows E c e) (λ b. put_term s t (head_form E b)) a q in
      met_decides e j.0 j.1
  met_decides (with_proof e d) a q =
      let j = steps (shows E c e) (λ b. and_then (shows E c d) (λ p. conclusion (head_form E b))) a q in
      let k = steps (shows E c d) (λ p. conclusion (head_form E j.0)) a j.2 in
      let here : Decides (meets E (shows E c e) (shows E c d)) (AreSame E (premise_at E (shows E c e) (shows E c d))) =
      subst (λ r. Decides (meets E r (shows E c d)) (AreSame E (premise_at E r (shows E c d)))) (sym j.1)
      (subst (λ r. Decides (meets E (Ok j.0) r) (AreSame E (premise_at E (Ok j.0) r))) (sym k.1)
      (taken_decides (head_form E j.0) k.0 a k.2)) in
      let all = both_decide (is_met E c e) (is_met E c d && meets E (shows E c e) (shows E c d)) _ _ (met_decides e j.0 j.1)
      (both_decide (is_met E c d) (meets E (shows E c e) (shows E c d)) _ _ (met_decides d k.0 k.1) here) in
      let one = same_append E (pairs_of E c e) (pairs_of E c d ++ premise_at E (shows E c e) (shows E c d)) in
      let two = same_append E (pairs_of E c d) (premise_at E (shows E c e) (shows E c d)) in
      (λ h. let m = all.0 h in one.1 (m.0, two.1 m.1), λ h. let m = one.0 h in all.1 (m.0, two.0 m.1))
