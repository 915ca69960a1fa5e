-- What evidence shows is well formed, and a tree without open leaves shows it.
use Rattle.env_theory.proofs.Sameness.{same_implies}
use Rattle.tactic_theory.proofs.Named.{same_all_named}
use Rattle.env_theory.proofs.Skips.{closed}
use Rattle.env_theory.proofs.Sorts.{replace_formed, fits_first}
use Rattle.logic_theory.specs.Goals.{Leads}
use Rattle.fol_theory.specs.Slots.{Slot, entries}
use Rattle.env_theory.specs.Orders.{Lawful}
use Rattle.env_theory.specs.Heads.{head_form}
use Rattle.env_theory.specs.Normal.{Same}
use Rattle.env_theory.specs.Typing.{HasSort, WellFormed}
use Rattle.env_theory.specs.Declarations.{Declaration}
use Rattle.std.proofs.Common.{
  ◌≡◌,
  ℕ,
  Bool,
  true,
  false,
  ◌&&◌,
  if◌then◌else◌,
  List,
  [],
  ◌∷◌,
  Option,
  Some,
  None,
  Result,
  Ok,
  Err,
  Decides,
  refl,
  sym,
  subst,
  ◌∙◌,
}
use Rattle.std.specs.Cmp.Lexicographic.{bytes_decides}
use Rattle.fol_theory.specs.Syntax.{Term, Formula, implies, all, is_name}
use Rattle.fol_theory.specs.Substitution.{next, first, instantiate}
use Rattle.fol_theory.specs.Contexts.{variables}
use Rattle.logic_theory.specs.Rules.{hyp, known as known_rule, all_e, imp_e, plain, seq, FormedContext}
use Rattle.logic_theory.proofs.Trees.{is_member, hypotheses_formed}
use Rattle.logic_theory.proofs.Leading.{nothing, by_rule, and_then_those}
use Rattle.tactic_theory.specs.Names.{hypothesis_at}
use Rattle.base_core.specs.Answers.{and_then}
use Rattle.tactic_theory.specs.Faults.{Fault, not_of_form}
use Rattle.tactic_theory.specs.Evidence.{
  Evidence,
  assumed,
  declared,
  with_term,
  with_proof,
  known,
  put_term,
  conclusion,
  shows,
  takes,
  meets,
  is_met,
  IsTyped,
}
use Rattle.tactic_theory.proofs.Found.{is_same_decides, hypothesis_at_is}

pub ok_injective : {A : Type 0} (x y : A) → ◌≡◌ {A = Result A Fault} (Ok x) (Ok y) → x ≡ y
ok_injective x y e = cc

pub both_true : (a b : Bool) → (a && b) ≡ true → (a ≡ true) × (b ≡ true)
both_true true b e = (refl, e)
both_true false b e = absurd cc

pub closed_formed : (E : List Declaration) (V : List (List ℕ)) (a : Formula) → WellFormed E [] a → WellFormed E V a
closed_formed E V a w = subst (WellFormed E V) (closed E next a w) (replace_formed E next [] V (λ i s h. absurd h) a w)

-- ---- a quantifier with a term, an implication with a proof

-- what is to be known of evidence that shows a: a is well formed, and each formula that is the same has a tree
abbrev pub Shown : List Declaration → List Slot → Formula → Type 0
Shown E c a = WellFormed E (variables (entries c)) a × ((g : Formula) → Same E a g → Leads E (seq (entries c) g ∷ []) [])

module _ (E : List Declaration) (l : Lawful E) (c : List Slot) (f : FormedContext E (entries c)) where
  shown_known : (i : ℕ) (o : Option Formula) (a : Formula) → hypothesis_at (entries c) i ≡ o → known o ≡ Ok a → Shown E c a
  shown_known i None a p e = absurd cc
  shown_known i (Some b) a p e =
      let k = ok_injective b a e in
      let h = hypothesis_at_is (entries c) i b p in
      subst (Shown E c) k (
        hypotheses_formed E (entries c) b f (is_member (entries c) i b h),
        λ g s. by_rule (hyp i) (entries c)
            g (b, h, s) nothing,
      )

  -- a formula, and a tree without open leaves for each that is the same
  module _ (a : Formula) (lead : (g : Formula) → Same E a g → Leads E (seq (entries c) g ∷ []) []) where
    shown_term : (h : Formula) (s : List ℕ) (t : Term) → Same E h a → WellFormed E (variables (entries c)) h →
        HasSort E (variables (entries c)) t s → (z : Formula) → put_term s t h ≡ Ok z → Shown E c z
    shown_term (all r x b) s t q w k z e = go (is_name r s) (bytes_decides r s) e
      where
        go : (v : Bool) → Decides v (r ≡ s) → (if v then Ok (instantiate b t) else Err not_of_form) ≡ Ok z → Shown E c z
        go true d p =
            let kr = subst (HasSort E (variables (entries c)) t) (sym (d.0 refl)) k in
            subst (Shown E c) (ok_injective (instantiate b t) z p) (
              replace_formed E (first t) (r ∷ variables (entries c)) (variables (entries c)) (fits_first E (variables (entries c))
                  t r kr) b w.1,
              λ g v. by_rule (all_e r b t) (entries c) g (w, kr, v) (lead (all r plain b) (sym q ∙ same_all_named E r x plain b)),
            )
        go false d p = absurd cc
    shown_term h s t q w k z e = absurd cc

    shown_proof : (h p : Formula) → Same E h a → WellFormed E (variables (entries c)) h →
        ((g : Formula) → Same E p g → Leads E (seq (entries c) g ∷ []) []) → takes E h p ≡ true → (z : Formula) →
        conclusion h ≡ Ok z → Shown E c z
    shown_proof (implies x b) p q w other m z e =
        subst (Shown E c) (ok_injective b z e) (
          w.1,
          λ g v. by_rule (imp_e x) (entries c) g w.0
              (and_then_those (lead (implies x g) (sym q ∙ same_implies E x b x g refl v)) (other x (sym ((is_same_decides E x p).0 m)))),
        )
    shown_proof h p q w other m z e = absurd cc

  pub shown : (e : Evidence) → IsTyped E c e → is_met E c e ≡ true → (a : Formula) → shows E c e ≡ Ok a → Shown E c a
  shown (assumed i) t m a e = shown_known i (hypothesis_at (entries c) i) a refl e
  shown (declared n b) t m a e = subst (Shown E c) (ok_injective b a e) (
    closed_formed E (variables (entries c)) b
        (l.stated_formed n n b t),
    λ g s. by_rule (known_rule n) (entries c) g (b, t, l.stated_formed n n b t, s) nothing,
  )
  shown (with_term d s t) y m a e = go (shows E c d) (shown d y.0 m) e
    where
      go : (r : Result Formula Fault) → ((b : Formula) → r ≡ Ok b → Shown E c b) →
          and_then r (λ b. put_term s t (head_form E b)) ≡ Ok a → Shown E c a
      go (Ok b) h q = let k = h b refl in shown_term b k.1 (head_form E b) s t (l.head_same b)
          (l.head_formed (variables (entries c)) b k.0) y.1 a q
      go (Err x) h q = absurd cc
  shown (with_proof d u) y m a e =
      let m1 = both_true (is_met E c d) (is_met E c u && meets E (shows E c d) (shows E c u)) m in
      let m2 = both_true (is_met E c u) (meets E (shows E c d) (shows E c u)) m1.1 in
      go (shows E c d) (shows E c u) (shown d y.0 m1.0) (shown u y.1 m2.0) m2.1 e
    where
      go : (r v : Result Formula Fault) → ((b : Formula) → r ≡ Ok b → Shown E c b) → ((b : Formula) → v ≡ Ok b → Shown E c b) →
          meets E r v ≡ true → and_then r (λ b. and_then v (λ p. conclusion (head_form E b))) ≡ Ok a → Shown E c a
      go (Ok b) (Ok p) h k n q = let x = h b refl in shown_proof b x.1 (head_form E b) p (l.head_same b)
          (l.head_formed (variables (entries c)) b x.0) (k p refl).1 n a q
      go (Ok b) (Err x) h k n q = absurd cc
      go (Err x) v h k n q = absurd cc
