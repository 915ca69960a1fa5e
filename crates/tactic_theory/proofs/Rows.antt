-- Each row of the table follows the kernel's rules: a tree leads from the goal to the new goals.
use Rattle.env_theory.proofs.Sameness.{same_equal}
use Rattle.tactic_theory.proofs.Named.{same_all_named, same_ex_named}
use Rattle.fol_theory.proofs.Slots.{entries_without}
use Rattle.env_theory.proofs.Sorts.{replace_sort, fits_next}
use Rattle.logic_theory.specs.Goals.{Goal, Leads}
use Rattle.fol_theory.specs.Slots.{Slot, slot, entries, slots_without}
use Rattle.env_theory.specs.Heads.{head_form}
use Rattle.env_theory.specs.Normal.{normal_term, expand, Same}
use Rattle.env_theory.specs.Typing.{HasSort, WellFormed}
use Rattle.env_theory.specs.Orders.{Lawful}
use Rattle.env_theory.specs.Declarations.{Declaration, name_of, find}
use Rattle.std.proofs.Common.{
  ◌≡◌,
  ℕ,
  ◌<◌,
  Bool,
  true,
  false,
  ◌&&◌,
  if◌then◌else◌,
  List,
  [],
  ◌∷◌,
  ◌++◌,
  map,
  codes,
  Option,
  Some,
  None,
  Result,
  Ok,
  Err,
  Decides,
  refl,
  sym,
  ap,
  subst,
  ◌∙◌,
  arith,
}
use Rattle.std.specs.Cmp.Lexicographic.{bytes_decides}
use Rattle.fol_theory.specs.Syntax.{Term, var, Formula, truth, falsity, equal, both, either, implies, all, ex, is_name}
use Rattle.fol_theory.specs.Substitution.{replace_term, next, first, under, instantiate}
use Rattle.fol_theory.specs.Contexts.{variable, hypothesis, variables, hypotheses, count, IsHypothesis, Sequent, without}
use Rattle.fol_theory.proofs.Laws.{term_undo}
use Rattle.fol_theory.proofs.Numbers.{hypothesis_there, hypothesis_below}
use Rattle.logic_theory.specs.Rules.{
  hyp,
  true_i,
  false_e,
  and_i,
  and_e,
  or_i1,
  or_i2,
  or_e,
  imp_i,
  cut,
  conv,
  all_i,
  ex_e,
  ex_i,
  eq_i,
  eq_e,
  drop,
  plain,
  seq,
  FormedContext,
}
use Rattle.logic_theory.proofs.Trees.{is_member, hypotheses_formed}
use Rattle.logic_theory.proofs.Leading.{nothing, left_open, by_rule, and_then_those}
use Rattle.match_theory.specs.Matching.{same_term}
use Rattle.match_theory.proofs.Equal.{term_decides}
use Rattle.tactic_theory.specs.Names.{is_taken, fresh, hypothesis_named, hypothesis_at}
use Rattle.base_core.specs.Answers.{and_then}
use Rattle.vern_lex.specs.declared.span.Span.{Span}
use Rattle.elab_theory.specs.Faults.{wrong_sort}
use Rattle.tactic_theory.specs.Faults.{of_typing, Fault, cannot_match, name_taken}
use Rattle.tactic_theory.specs.Evidence.{is_same, Evidence, assumed, declared, with_term, with_proof, known, shows, is_met, IsTyped}
use Rattle.tactic_theory.specs.Refinements.{
  Part,
  part,
  opened,
  Refinement,
  intro,
  intros,
  exact,
  apply,
  rewrite,
  destruct_falsity,
  by_hypothesis,
  split,
  left,
  right,
  exfalso,
  reflexivity,
  symmetry,
  witness,
  destruct_pair,
  destruct_cases,
  assert,
  clear,
  unfold_goal,
  unfold_in,
  named,
  intro_one,
  intro_all,
  split_form,
  left_form,
  right_form,
  witness_form,
  reflexivity_form,
  symmetry_form,
  kept_of,
  if_met,
  pair_form,
  cases_form,
  falsity_form,
  has_same,
  mentions,
  unfolded_in,
  clear_row,
  unfold_row,
  row,
  IsTypedRow,
}
use Rattle.tactic_theory.proofs.Found.{is_same_decides, hypothesis_at_is, named_below, member_is, has_same_is, without_newer, count_more, entries_append}
use Rattle.tactic_theory.proofs.Applied.{apply_to, rewrite_to}
use Rattle.tactic_theory.proofs.Shown.{ok_injective, both_true, shown}

-- a tree leads from g in the slots c to the parts
abbrev pub To : List Declaration → List Slot → Formula → List Part → Type 0
To E c g ps = Leads E (seq (entries c) g ∷ []) (map opened ps)

-- intros, as long as the goal as written goes on
intro_all_to : (E : List Declaration) (more kept : List Slot) (a : Formula) → WellFormed E (variables (entries (more ++ kept)))
    a → Leads E (seq (entries (more ++ kept)) a ∷ []) (opened (intro_all E more kept a) ∷ [])
intro_all_to E more kept (all s x b) w = let n = fresh E (more ++ kept) x in by_rule (all_i s b) (entries (more ++ kept))
    (all s x b) (w, same_all_named E s plain x b) (intro_all_to E (slot n (variable s) ∷ more) kept b w.1)
intro_all_to E more kept (implies a b) w = let n = fresh E (more ++ kept) (codes "H") in
    by_rule (imp_i a b) (entries (more ++ kept)) (implies a b) (w, refl) (intro_all_to E (slot n (hypothesis a) ∷ more) kept b w.1)
intro_all_to E more kept a w = left_open (more ++ kept) a nothing

module _ (E : List Declaration) (l : Lawful E) (c : List Slot) (g : Formula) (f : FormedContext E (entries c)) where
  -- a well formed form of the goal
  abbrev IsForm : Formula → Type 0
  IsForm h = Same E h g × WellFormed E (variables (entries c)) h

  -- ---- introductions

  intro_to : (n : Option (List ℕ)) (h : Formula) → IsForm h → (ps : List Part) →
      and_then (intro_one E c n h) (λ p. Ok (p ∷ [])) ≡ Ok ps → To E c g ps
  intro_to n (all s x b) (q, w) ps e = go (named E c n x) e
    where
      go : (r : Result (List ℕ) Fault) → and_then (and_then r (λ m. Ok (part (slot m (variable s) ∷ []) c b)))
          (λ p. Ok (p ∷ [])) ≡ Ok ps → To E c g ps
      go (Ok m) d = subst (To E c g) (ok_injective (part (slot m (variable s) ∷ []) c b ∷ []) ps d)
          (by_rule (all_i s b) (entries c) g (w, same_all_named E s plain x b ∙ q) (left_open (slot m (variable s) ∷ c) b nothing))
      go (Err z) d = absurd cc
  intro_to n (implies a b) (q, w) ps e = go (named E c n (codes "H")) e
    where
      go : (r : Result (List ℕ) Fault) → and_then (and_then r (λ m. Ok (part (slot m (hypothesis a) ∷ []) c b)))
          (λ p. Ok (p ∷ [])) ≡ Ok ps → To E c g ps
      go (Ok m) d = subst (To E c g) (ok_injective (part (slot m (hypothesis a) ∷ []) c b ∷ []) ps d)
          (by_rule (imp_i a b) (entries c) g (w, q) (left_open (slot m (hypothesis a) ∷ c) b nothing))
      go (Err z) d = absurd cc
  intro_to n h is ps e = absurd cc

  -- ---- the goal's form

  split_to : (h : Formula) → IsForm h → (ps : List Part) → split_form c h ≡ Ok ps → To E c g ps
  split_to (both a b) (q, w) ps e = subst (To E c g) (ok_injective (part [] c a ∷ part [] c b ∷ []) ps e)
      (by_rule (and_i a b) (entries c) g (w, q) (left_open c a (left_open c b nothing)))
  split_to truth (q, w) ps e = subst (To E c g) (ok_injective [] ps e) (by_rule true_i (entries c) g q nothing)
  split_to h is ps e = absurd cc

  left_to : (h : Formula) → IsForm h → (ps : List Part) → left_form c h ≡ Ok ps → To E c g ps
  left_to (either a b) (q, w) ps e = subst (To E c g) (ok_injective (part [] c a ∷ []) ps e) (by_rule (or_i1 a b) (entries c) g (
    w,
    q,
  ) (left_open c a nothing))
  left_to h is ps e = absurd cc

  right_to : (h : Formula) → IsForm h → (ps : List Part) → right_form c h ≡ Ok ps → To E c g ps
  right_to (either a b) (q, w) ps e = subst (To E c g) (ok_injective (part [] c b ∷ []) ps e) (by_rule (or_i2 a b) (entries c) g
      (w, q) (left_open c b nothing))
  right_to h is ps e = absurd cc

  witness_to : (s : List ℕ) (t : Term) (p : Span) (h : Formula) → IsForm h → HasSort E (variables (entries c)) t s →
      (ps : List Part) → witness_form c s t p h ≡ Ok ps → To E c g ps
  witness_to s t p (ex r x b) (q, w) k ps e = go (is_name r s) (bytes_decides r s) e
    where
      go : (v : Bool) → Decides v (r ≡ s) → (if v then Ok (part [] c (instantiate b t) ∷ [])
          else Err (of_typing (wrong_sort p))) ≡ Ok ps → To E c g ps
      go true d j = subst (To E c g) (ok_injective (part [] c (instantiate b t) ∷ []) ps j) (by_rule (ex_i r b t) (entries c) g
          (w, subst (HasSort E (variables (entries c)) t) (sym (d.0 refl)) k, same_ex_named E r plain x b ∙ q)
          (left_open c (instantiate b t) nothing))
      go false d p = absurd cc
  witness_to s t p h is k ps e = absurd cc

  reflexivity_to : (h : Formula) → IsForm h → (ps : List Part) → reflexivity_form E h ≡ Ok ps → To E c g ps
  reflexivity_to (equal s t u) (q, w) ps e = go (same_term (normal_term E t) (normal_term E u))
      (term_decides (normal_term E t) (normal_term E u)) e
    where
      go : (v : Bool) → Decides v (normal_term E t ≡ normal_term E u) → (if v then Ok [] else Err cannot_match) ≡ Ok ps → To E c g ps
      go true d p = subst (To E c g) (ok_injective [] ps p) (by_rule (eq_i s t) (entries c) g (
        w.0,
        w.1,
        same_equal E s t t t u refl (d.0 refl) ∙ q,
      ) nothing)
      go false d p = absurd cc
  reflexivity_to h is ps e = absurd cc

  symmetry_to : (h : Formula) → IsForm h → (ps : List Part) → symmetry_form c h ≡ Ok ps → To E c g ps
  symmetry_to (equal s t u) (q, w) ps e =
      let V : List (List ℕ) = variables (entries c) in
      let B : Formula = equal s (replace_term next t) (var 0) in
      let k : (v : Term) → instantiate B v ≡ equal s t v = λ v i. equal s (term_undo (first v) next (λ j. refl) t i) v in
      subst (To E c g) (ok_injective (part [] c (equal s u t) ∷ []) ps e)
      (by_rule (eq_e s B u t) (entries c) g (
        w.0,
        (w.0, replace_sort E next V (s ∷ V) (fits_next E s V) t s w.1, refl),
        (w.0, w.2, w.1),
        subst (λ z. Same E z g) (sym (k u)) q,
      )
      (by_rule (eq_i s t) (entries c) (instantiate B t) (w.0, w.1, subst (Same E (equal s t t)) (sym (k t)) refl)
      (left_open c (equal s u t) nothing)))
  symmetry_to h is ps e = absurd cc

  -- ---- evidence taken apart

  -- a hypothesis below newer entries left out
  drop_to : (newer : List Slot) (i : ℕ) (d : Formula) {gs : List Sequent} {hs : List Goal} → i < count (entries c) →
      Leads E (seq (entries (newer ++ slots_without c i)) d ∷ gs) hs → Leads E (seq (entries (newer ++ c)) d ∷ gs) hs
  drop_to newer i d {gs} {hs} h t =
      let at : entries (newer ++ c) ≡ entries newer ++ entries c = entries_append newer c in
      let same : entries (newer ++ slots_without c i) ≡ without (entries (newer ++ c)) i =
      entries_append newer (slots_without c i) ∙ ap (λ z. entries newer ++ z) (entries_without c i) ∙
      sym (without_newer (entries newer) (entries c) i h) ∙ ap (λ z. without z i) (sym at) in
      by_rule (drop i) (entries (newer ++ c)) d (hypothesis_there (entries (newer ++ c)) i (more newer h))
      (subst (λ z. Leads E (seq z d ∷ gs) hs) same t)
    where
      more : (newer : List Slot) → i < count (entries c) → i < count (entries (newer ++ c))
      more newer h = subst (λ z. i < count z) (sym (entries_append newer c)) (omega (arith, h, count_more (entries newer) (entries c)))

  -- a hypothesis that is taken apart goes
  keep_to : (newer : List Slot) (e : Evidence) (a d : Formula) {gs : List Sequent} {hs : List Goal} → shows E c e ≡ Ok a →
      Leads E (seq (entries (newer ++ kept_of c e)) d ∷ gs) hs → Leads E (seq (entries (newer ++ c)) d ∷ gs) hs
  keep_to newer (assumed i) a d {gs} {hs} q t = drop_to newer i d (go (hypothesis_at (entries c) i) refl q) t
    where
      go : (o : Option Formula) → hypothesis_at (entries c) i ≡ o → known o ≡ Ok a → i < count (entries c)
      go None p r = absurd cc
      go (Some b) p r = hypothesis_below (entries c) i b (hypothesis_at_is (entries c) i b p)
  keep_to newer (declared n b) a d q t = t
  keep_to newer (with_term e s u) a d q t = t
  keep_to newer (with_proof e u) a d q t = t

  -- what is known of the head form of what met evidence shows
  abbrev Headed : Formula → Formula → Type 0
  Headed h a = Same E h a × WellFormed E (variables (entries c)) h × ((z : Formula) → Same E a z → Leads E (seq (entries c) z ∷ []) [])

  -- evidence that shows a, and two names for its parts
  module _ (e : Evidence) (a : Formula) (m n : List ℕ) (met : Bool) (q : shows E c e ≡ Ok a) where
    pair_to : (h : Formula) → (met ≡ true → Headed h a) → (ps : List Part) → pair_form E (kept_of c e) met m n g h ≡ Ok ps → To E c g ps
    pair_to (both x y) k ps w = go (is_taken E (kept_of c e) m) (is_taken E (slot m (hypothesis x) ∷ kept_of c e) n) met k w
      where
        more : List Slot
        more = slot n (hypothesis y) ∷ slot m (hypothesis x) ∷ []

        go : (t u v : Bool) → (v ≡ true → Headed (both x y) a) →
            (if t then Err name_taken else (if u then Err name_taken else if_met v (part more (kept_of c e) g ∷ []))) ≡ Ok ps → To E c g ps
        go true u v k d = absurd cc
        go false true v k d = absurd cc
        go false false false k d = absurd cc
        go false false true k d =
            let z = k refl in
            subst (To E c g) (ok_injective (part more (kept_of c e) g ∷ []) ps d)
            (by_rule (and_e x y) (entries c) g z.1 (and_then_those (z.2 (both x y) (sym z.0))
            (keep_to more e a g q (left_open (more ++ kept_of c e) g nothing))))
    pair_to (ex s x b) k ps w = go (is_taken E (kept_of c e) m) (is_taken E (slot m (variable s) ∷ kept_of c e) n) met k w
      where
        more : List Slot
        more = slot n (hypothesis b) ∷ slot m (variable s) ∷ []

        go : (t u v : Bool) → (v ≡ true → Headed (ex s x b) a) →
            (if t then Err name_taken else (if u then Err name_taken else if_met v (part more (kept_of c e) (under g) ∷ [])))
            ≡ Ok ps → To E c g ps
        go true u v k d = absurd cc
        go false true v k d = absurd cc
        go false false false k d = absurd cc
        go false false true k d =
            let z = k refl in
            subst (To E c g) (ok_injective (part more (kept_of c e) (under g) ∷ []) ps d)
            (by_rule (ex_e s b) (entries c) g z.1 (and_then_those (z.2 (ex s plain b) (sym z.0 ∙ same_ex_named E s x plain b))
            (keep_to more e a (under g) q (left_open (more ++ kept_of c e) (under g) nothing))))
    pair_to h k ps w = absurd cc

    cases_to : (h : Formula) → (met ≡ true → Headed h a) → (ps : List Part) → cases_form E (kept_of c e) met m n g h ≡ Ok ps → To E c g ps
    cases_to (either x y) k ps w = go (is_taken E (kept_of c e) m) (is_taken E (kept_of c e) n) met k w
      where
        both_parts : List Part
        both_parts = part (slot m (hypothesis x) ∷ []) (kept_of c e) g ∷ part (slot n (hypothesis y) ∷ []) (kept_of c e) g ∷ []

        go : (t u v : Bool) → (v ≡ true → Headed (either x y) a) →
            (if t then Err name_taken else (if u then Err name_taken else if_met v both_parts)) ≡ Ok ps → To E c g ps
        go true u v k d = absurd cc
        go false true v k d = absurd cc
        go false false false k d = absurd cc
        go false false true k d =
            let z = k refl in
            subst (To E c g) (ok_injective both_parts ps d)
            (by_rule (or_e x y) (entries c) g z.1 (and_then_those (z.2 (either x y) (sym z.0))
            (keep_to (slot m (hypothesis x) ∷ []) e a g q (left_open (slot m (hypothesis x) ∷ kept_of c e) g
            (keep_to (slot n (hypothesis y) ∷ []) e a g q (left_open (slot n (hypothesis y) ∷ kept_of c e) g nothing))))))
    cases_to h k ps w = absurd cc

  falsity_to : (a h : Formula) (met : Bool) → (met ≡ true → Headed h a) → (ps : List Part) → falsity_form met h ≡ Ok ps → To E c g ps
  falsity_to a falsity true k ps w = let z = k refl in subst (To E c g) (ok_injective [] ps w) (by_rule false_e (entries c) g tt
      (z.2 falsity (sym z.0)))
  falsity_to a falsity false k ps w = absurd cc
  falsity_to a h met k ps w = absurd cc

  -- evidence and then its head form
  headed : (e : Evidence) (a : Formula) → IsTyped E c e → shows E c e ≡ Ok a → is_met E c e ≡ true → Headed (head_form E a) a
  headed e a y q m = let z = shown E l c f e y m a q in (l.head_same a, l.head_formed (variables (entries c)) a z.0, z.1)

  exact_to : (e : Evidence) → IsTyped E c e → (ps : List Part) →
      and_then (shows E c e) (λ a. if_met (is_met E c e && is_same E a g) []) ≡ Ok ps → To E c g ps
  exact_to e y ps w = go (shows E c e) refl w
    where
      go : (r : Result Formula Fault) → shows E c e ≡ r → and_then r (λ a. if_met (is_met E c e && is_same E a g) []) ≡ Ok ps → To E c g ps
      go (Err z) q d = absurd cc
      go (Ok a) q d = met (is_met E c e && is_same E a g) refl d
        where
          met : (v : Bool) → (is_met E c e && is_same E a g) ≡ v → if_met v [] ≡ Ok ps → To E c g ps
          met false p d = absurd cc
          met true p d = let b = both_true (is_met E c e) (is_same E a g) p in subst (To E c g) (ok_injective [] ps d)
              ((shown E l c f e y b.0 a q).1 g ((is_same_decides E a g).0 b.1))

  -- ---- the table

  destruct_to : (e : Evidence) (form : Formula → Result (List Part) Fault) → IsTyped E c e → (ps : List Part) →
      ((a : Formula) → shows E c e ≡ Ok a → (is_met E c e ≡ true → Headed (head_form E a) a) → form (head_form E a) ≡ Ok ps →
      To E c g ps) → and_then (shows E c e) (λ a. form (head_form E a)) ≡ Ok ps → To E c g ps
  destruct_to e form y ps k w = go (shows E c e) refl w
    where
      go : (r : Result Formula Fault) → shows E c e ≡ r → and_then r (λ a. form (head_form E a)) ≡ Ok ps → To E c g ps
      go (Err z) q d = absurd cc
      go (Ok a) q d = k a q (headed e a y q) d

  assumption_to : (v : Bool) → has_same E (hypotheses (entries c)) g ≡ v → (ps : List Part) → if_met v [] ≡ Ok ps → To E c g ps
  assumption_to false q ps w = absurd cc
  assumption_to true q ps w =
      let r = has_same_is E (hypotheses (entries c)) g q in
      let i = member_is (entries c) r.0 r.1 in
      subst (To E c g) (ok_injective [] ps w) (by_rule (hyp i.0) (entries c) g (r.0, i.1, r.2) nothing)

  assert_to : (n : List ℕ) (a : Formula) (v : Bool) → WellFormed E (variables (entries c)) a → (ps : List Part) →
      (if v then Err name_taken else Ok (part [] c a ∷ part (slot n (hypothesis a) ∷ []) c g ∷ [])) ≡ Ok ps → To E c g ps
  assert_to n a true k ps w = absurd cc
  assert_to n a false k ps w = subst (To E c g) (ok_injective (part [] c a ∷ part (slot n (hypothesis a) ∷ []) c g ∷ []) ps w)
      (by_rule (cut a) (entries c) g k (left_open c a (left_open (slot n (hypothesis a) ∷ c) g nothing)))

  clear_to : (h : List ℕ) (o : Option ℕ) → hypothesis_named c h ≡ o → (ps : List Part) → clear_row c o g ≡ Ok ps → To E c g ps
  clear_to h None q ps w = absurd cc
  clear_to h (Some i) q ps w = subst (To E c g) (ok_injective (part [] (slots_without c i) g ∷ []) ps w)
      (drop_to [] i g (named_below c h i q) (left_open (slots_without c i) g nothing))

  -- a declaration of the environment, unfolded in the hypothesis h
  module _ (d : Declaration) (m : find E (name_of d) ≡ Some d) (h : List ℕ) (ps : List Part) where
    unfold_to : (i : ℕ) (o : Option Formula) → i < count (entries c) → hypothesis_at (entries c) i ≡ o →
        unfolded_in d c h i o g ≡ Ok ps → To E c g ps
    unfold_to i None b q w = absurd cc
    unfold_to i (Some a) b q w = go (mentions (name_of d) a) w
      where
        x : Slot
        x = slot h (hypothesis (expand d a))

        is : IsHypothesis (entries c) i a
        is = hypothesis_at_is (entries c) i a q

        k : WellFormed E (variables (entries c)) a
        k = hypotheses_formed E (entries c) a f (is_member (entries c) i a is)

        go : (v : Bool) → ◌≡◌ {A = Result (List Part) Fault} (if v then Ok (part (x ∷ []) (slots_without c i) g ∷ [])
            else Ok (part [] c g ∷ [])) (Ok ps) → To E c g ps
        go true w = subst (To E c g) (ok_injective (part (x ∷ []) (slots_without c i) g ∷ []) ps w)
            (by_rule (cut (expand d a)) (entries c) g (l.unfold_formed (name_of d) d m (variables (entries c)) a k)
            (by_rule (hyp i) (entries c) (expand d a) (a, is, sym (l.unfold_same (name_of d) d m a))
            (drop_to (x ∷ []) i g b (left_open (x ∷ slots_without c i) g nothing))))
        go false w = subst (To E c g) (ok_injective (part [] c g ∷ []) ps w) (left_open c g nothing)

    unfold_row_to : (o : Option ℕ) → hypothesis_named c h ≡ o → unfold_row d c h o g ≡ Ok ps → To E c g ps
    unfold_row_to None q w = absurd cc
    unfold_row_to (Some i) q w = unfold_to i (hypothesis_at (entries c) i) (named_below c h i q) refl w

  -- the form that is looked at
  form : WellFormed E (variables (entries c)) g → IsForm (head_form E g)
  form w = (l.head_same g, l.head_formed (variables (entries c)) g w)

  -- a row that goes well leads to its parts
  pub row_to : WellFormed E (variables (entries c)) g → (r : Refinement) → IsTypedRow E c r → (ps : List Part) → row E c g r ≡ Ok ps →
      To E c g ps
  row_to w (intro n) y ps e = intro_to n (head_form E g) (form w) ps e
  row_to w intros y ps e = subst (To E c g) (ok_injective (intro_all E [] c g ∷ []) ps e) (intro_all_to E [] c g w)
  row_to w (exact d) y ps e = exact_to d y ps e
  row_to w (apply d) y ps e = apply_to E l c g f w d y ps e
  row_to w (rewrite way d) y ps e = rewrite_to E l c g f w way d y ps e
  row_to w by_hypothesis y ps e = assumption_to (has_same E (hypotheses (entries c)) g) refl ps e
  row_to w split y ps e = split_to (head_form E g) (form w) ps e
  row_to w left y ps e = left_to (head_form E g) (form w) ps e
  row_to w right y ps e = right_to (head_form E g) (form w) ps e
  row_to w exfalso y ps e = subst (To E c g) (ok_injective (part [] c falsity ∷ []) ps e)
      (by_rule false_e (entries c) g tt (left_open c falsity nothing))
  row_to w (witness s t p) y ps e = witness_to s t p (head_form E g) (form w) y ps e
  row_to w (destruct_pair d m n) y ps e = destruct_to d (pair_form E (kept_of c d) (is_met E c d) m n g) y ps
      (λ a q k v. pair_to d a m n (is_met E c d) q (head_form E a) k ps v) e
  row_to w (destruct_cases d m n) y ps e = destruct_to d (cases_form E (kept_of c d) (is_met E c d) m n g) y
      ps (λ a q k v. cases_to d a m n (is_met E c d) q (head_form E a) k ps v) e
  row_to w (destruct_falsity d) y ps e = destruct_to d (falsity_form (is_met E c d)) y ps
      (λ a q k v. falsity_to a (head_form E a) (is_met E c d) k ps v) e
  row_to w (assert n a) y ps e = assert_to n a (is_taken E c n) y ps e
  row_to w (clear h) y ps e = clear_to h (hypothesis_named c h) refl ps e
  row_to w reflexivity y ps e = reflexivity_to (head_form E g) (form w) ps e
  row_to w symmetry y ps e = symmetry_to (head_form E g) (form w) ps e
  row_to w (unfold_goal d) y ps e = subst (To E c g) (ok_injective (part [] c (expand d g) ∷ []) ps e)
      (by_rule (conv (expand d g)) (entries c) g (
        l.unfold_formed (name_of d) d y (variables (entries c)) g w,
        l.unfold_same (name_of d) d y g,
      ) (left_open c (expand d g) nothing))
  row_to w (unfold_in d h) y ps e = unfold_row_to d y h ps (hypothesis_named c h) refl e
