-- What evidence shows is well formed, and so is each premise and what is shown for it.
use Rattle.std.proofs.Common.{◌≡◌, ℕ, List, [], ◌∷◌, ◌++◌, Option, Some, None, Ok, refl, sym, subst}
use Rattle.std.specs.Cmp.Lexicographic.{bytes_decides}
use Rattle.fol_theory.specs.Syntax.{Term, Formula, implies, all, is_name}
use Rattle.fol_theory.specs.Substitution.{first, instantiate}
use Rattle.fol_theory.specs.Contexts.{variables}
use Rattle.fol_theory.specs.Slots.{Slot, entries}
use Rattle.base_core.specs.Answers.{and_then}
use Rattle.env_theory.specs.Declarations.{Declaration, stated}
use Rattle.env_theory.specs.Typing.{HasSort, WellFormed, Environment}
use Rattle.env_theory.specs.Heads.{head_form}
use Rattle.env_theory.proofs.Sorts.{replace_formed, fits_first}
use Rattle.env_theory.proofs.Declared.{declares_found}
use Rattle.env_theory.proofs.Lawfuls.{head_formed}
use Rattle.logic_theory.specs.Rules.{FormedContext}
use Rattle.logic_theory.proofs.Trees.{is_member, hypotheses_formed}
use Rattle.tactic_theory.specs.Faults.{not_of_form}
use Rattle.tactic_theory.specs.Names.{hypothesis_at}
use Rattle.tactic_theory.specs.Evidence.{Evidence, assumed, declared, with_term, with_proof, known, put_term, conclusion, shows, IsTyped}
use Rattle.tactic_theory.proofs.Found.{hypothesis_at_is}
use Rattle.tactic_theory.proofs.Shown.{closed_formed}
use Rattle.evidence_core.specs.Pairs.{premise_with, premise_at, pairs_of, AreFormed}
use Rattle.evidence_core.specs.Showings.{Showing, Comes}
use Rattle.evidence_core.proofs.Results.{ok_is, never, steps, passed}

-- an instance of the body of a quantifier
pub instance_formed : (E : List Declaration) (V : List (List ℕ)) (s : List ℕ) (b : Formula) (t : Term) → WellFormed E (s ∷ V) b
    → HasSort E V t s → WellFormed E V (instantiate b t)
instance_formed E V s b t w h = replace_formed E (first t) (s ∷ V) V (fits_first E V t s h) b w

formed_append : (E : List Declaration) (V : List (List ℕ)) (ps qs : List (Formula × Formula)) → AreFormed E V ps → AreFormed E V qs
    → AreFormed E V (ps ++ qs)
formed_append E V [] qs h k = k
formed_append E V (p ∷ ps) qs h k = (h.0, h.1, formed_append E V ps qs h.2 k)

module _ (E : List Declaration) (x : Environment E) (c : List Slot) (f : FormedContext E (entries c)) where
  put_formed : (h : Formula) (s : List ℕ) (t : Term) → WellFormed E (variables (entries c)) h → HasSort E (variables (entries c)) t s
      → (z : Formula) → put_term s t h ≡ Ok z → WellFormed E (variables (entries c)) z
  put_formed (all r y b) s t w k z e =
      let p = passed (is_name r s) (Ok (instantiate b t)) not_of_form z e in
      subst (WellFormed E (variables (entries c))) (ok_is Formula _ _ p.1)
      (instance_formed E (variables (entries c)) r b t w.1 (subst (HasSort E (variables (entries c)) t) (sym ((bytes_decides r s).0 p.0)) k))
  put_formed h s t w k z e = absurd (never Formula _ z e)

  conclusion_formed : (h : Formula) → WellFormed E (variables (entries c)) h → (z : Formula) → conclusion h ≡ Ok z
      → WellFormed E (variables (entries c)) z
  conclusion_formed (implies a b) w z e = subst (WellFormed E (variables (entries c))) (ok_is Formula _ _ e) w.1
  conclusion_formed h w z e = absurd (never Formula _ z e)

  known_formed : (i : ℕ) (o : Option Formula) → hypothesis_at (entries c) i ≡ o → (a : Formula) → known o ≡ Ok a
      → WellFormed E (variables (entries c)) a
  known_formed i None p a e = absurd (never Formula _ a e)
  known_formed i (Some b) p a e = subst (WellFormed E (variables (entries c))) (ok_is Formula _ _ e)
      (hypotheses_formed E (entries c) b f (is_member (entries c) i b (hypothesis_at_is (entries c) i b p)))

  stated_formed : (n : List ℕ) (a : Formula) → IsTyped E c (declared n a) → WellFormed E [] a
  stated_formed n a t = declares_found E x n (stated n a) t

  pub shown_formed : (e : Evidence) → IsTyped E c e → (a : Formula) → shows E c e ≡ Ok a → WellFormed E (variables (entries c)) a
  shown_formed (assumed i) t a q = known_formed i (hypothesis_at (entries c) i) refl a q
  shown_formed (declared n b) t a q = subst (WellFormed E (variables (entries c))) (ok_is Formula _ _ q)
      (closed_formed E (variables (entries c)) b (stated_formed n b t))
  shown_formed (with_term e s u) t a q =
      let j = steps (shows E c e) (λ b. put_term s u (head_form E b)) a q in
      put_formed (head_form E j.0) s u (head_formed E x (variables (entries c)) j.0 (shown_formed e t.0 j.0 j.1)) t.1 a j.2
  shown_formed (with_proof e d) t a q =
      let j = steps (shows E c e) (λ b. and_then (shows E c d) (λ p. conclusion (head_form E b))) a q in
      let k = steps (shows E c d) (λ p. conclusion (head_form E j.0)) a j.2 in
      conclusion_formed (head_form E j.0) (head_formed E x (variables (entries c)) j.0 (shown_formed e t.0 j.0 j.1)) a k.2

  premise_formed : (h p : Formula) → WellFormed E (variables (entries c)) h → WellFormed E (variables (entries c)) p
      → AreFormed E (variables (entries c)) (premise_with p h)
  premise_formed (implies a b) p w v = (w.0, v, tt)
  premise_formed h p w v = tt

  pub pairs_formed : (e : Evidence) → IsTyped E c e → (a : Formula) → shows E c e ≡ Ok a
      → AreFormed E (variables (entries c)) (pairs_of E c e)
  pairs_formed (assumed i) t a q = tt
  pairs_formed (declared n b) t a q = tt
  pairs_formed (with_term e s u) t a q = let j = steps (shows E c e) (λ b. put_term s u (head_form E b)) a q in
      pairs_formed e t.0 j.0 j.1
  pairs_formed (with_proof e d) t a q =
      let j = steps (shows E c e) (λ b. and_then (shows E c d) (λ p. conclusion (head_form E b))) a q in
      let k = steps (shows E c d) (λ p. conclusion (head_form E j.0)) a j.2 in
      let last : AreFormed E (variables (entries c)) (premise_at E (shows E c e) (shows E c d)) =
      subst (λ r. AreFormed E (variables (entries c)) (premise_at E r (shows E c d))) (sym j.1)
      (subst (λ r. AreFormed E (variables (entries c)) (premise_at E (Ok j.0) r)) (sym k.1)
      (premise_formed (head_form E j.0) k.0 (head_formed E x (variables (entries c)) j.0 (shown_formed e t.0 j.0 j.1))
      (shown_formed d t.1 k.0 k.1))) in
      formed_append E (variables (entries c)) (pairs_of E c e) (pairs_of E c d ++ premise_at E (shows E c e) (shows E c d))
      (pairs_formed e t.0 j.0 j.1) (formed_append E (variables (entries c)) (pairs_of E c d) (premise_at E (shows E c e) (shows E c d))
      (pairs_formed d t.1 k.0 k.1) last)

  -- the body of the quantifier that evidence shows
  pub body_formed : (e : Evidence) (s : Showing) → Comes E c e s → (r y : List ℕ) (b : Formula) → head_form E s.formula ≡ all r y b
      → WellFormed E (r ∷ variables (entries c)) b
  body_formed e s k r y b h =
      let w = head_formed E x (variables (entries c)) s.formula (shown_formed e k.typed s.formula k.formula) in
      (subst (WellFormed E (variables (entries c))) h w).1
