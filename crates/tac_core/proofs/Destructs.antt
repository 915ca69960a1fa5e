-- What is made where evidence is taken apart opens the goal to the parts that are wanted.
use Rattle.std.proofs.Common.{◌≡◌, ℕ, ◌+◌, ◌<◌, ◌≤◌, length, arith, Bool, true, false, ◌||◌, if◌then◌else◌, List, [], ◌∷◌, ◌++◌, map, Option, Some, None, Result, Ok, Err, refl, sym, ap, subst, ◌∙◌}
use Rattle.base_core.specs.Answers.{and_then}
use Rattle.fol_theory.specs.Syntax.{Formula, falsity, both, either, ex, is_name}
use Rattle.fol_theory.specs.Substitution.{next, shift, under}
use Rattle.fol_theory.specs.Contexts.{variable, hypothesis, variables, count}
use Rattle.fol_theory.specs.Slots.{Slot, slot, entries, names}
use Rattle.fol_theory.proofs.Numbers.{hypothesis_below}
use Rattle.env_theory.specs.Declarations.{Declaration, name_of}
use Rattle.env_theory.specs.Heads.{head_form}
use Rattle.env_theory.specs.Normal.{Same}
use Rattle.env_theory.specs.Typing.{WellFormed}
use Rattle.env_theory.proofs.Lawfuls.{head_formed}
use Rattle.env_theory.proofs.Sorts.{replace_formed, fits_next}
use Rattle.logic_theory.specs.Goals.{Goal, goal}
use Rattle.logic_theory.specs.Proofs.{IsProof}
use Rattle.logic_theory.specs.Rules.{Rule, and_e, or_e, ex_e, false_e, plain, seq}
use Rattle.tactic_theory.specs.Faults.{Fault, name_taken}
use Rattle.tactic_theory.specs.Names.{is_among, is_taken, hypothesis_at}
use Rattle.tactic_theory.specs.Evidence.{Evidence, assumed, declared, with_term, with_proof, known, shows}
use Rattle.tactic_theory.specs.Refinements.{Part, part, kept_of, if_met, pair_form, cases_form, falsity_form}
use Rattle.tactic_theory.proofs.Found.{hypothesis_at_is}
use Rattle.tactic_theory.proofs.Named.{same_ex_named}
use Rattle.term_core.specs.Formula.{meaning}
use Rattle.proof_tree.specs.Meaning.{meanings}
use Rattle.proof_tree.proofs.Indices.{shift_once}
use Rattle.evidence_core.specs.declared.shown.Evidence.{Evidence as Read}
use Rattle.evidence_core.specs.Meaning.{pairs}
use Rattle.evidence_core.specs.Pairs.{AreSame}
use Rattle.evidence_core.specs.Showings.{bare}
use Rattle.evidence_core.proofs.Heads.{head_same}
use Rattle.tac_base.specs.declared.opening.Opening.{Opening}
use Rattle.tac_base.specs.declared.fault.TacFault.{TacFault}
use Rattle.tac_base.specs.Faults.{Refuses}
use Rattle.tac_base.specs.Given.{IsGiven}
use Rattle.tac_base.specs.Openings.{Made, opening, measured, Opens, Answers}
use Rattle.tac_base.specs.Sites.{IsSite}
use Rattle.tac_base.proofs.Answered.{refuses_then}
use Rattle.tac_core.specs.Exacts.{nothing_if, TellsSame}
use Rattle.tac_core.specs.Destructs.{left_of, cases_fit, pair_fits, IsTakenApart, falsity_made, pair_made, witness_made, cases_made}
use Rattle.tac_core.proofs.Trees.{by_rule, joined, by_proof, kept_leads, IsThere}

-- ---- the tests

unit_first : (met : Bool) (ps : List Part) → if_met met ps ≡ and_then (nothing_if met) (λ u. Ok ps)
unit_first true ps = refl
unit_first false ps = refl

module _ (E : List Declaration) (k : List Slot) (met : Bool) (m n : List ℕ) (ps : List Part) where
  cases_first : (if is_taken E k m then Err name_taken else (if is_taken E k n then Err name_taken else if_met met ps))
      ≡ and_then (cases_fit E k met m n) (λ u. Ok ps)
  cases_first = go (is_taken E k m) (is_taken E k n)
    where
      go : (p q : Bool) → (if p then Err name_taken else (if q then Err name_taken else if_met met ps))
          ≡ and_then (if p then Err name_taken else (if q then Err name_taken else nothing_if met)) (λ u. Ok ps)
      go true q = refl
      go false true = refl
      go false false = unit_first met ps

  -- the second name is free behind the first where it is free and differs
  pair_first : (if is_taken E k m then Err name_taken
      else (if (is_name n m || is_among n (names k)) || is_among n (map name_of E) then Err name_taken else if_met met ps))
      ≡ and_then (pair_fits E k met m n) (λ u. Ok ps)
  pair_first = go (is_name n m) (is_taken E k m) cases_first
    where
      go : (q p : Bool) → (if p then Err name_taken else (if is_taken E k n then Err name_taken else if_met met ps))
          ≡ and_then (if p then Err name_taken else (if is_taken E k n then Err name_taken else nothing_if met)) (λ u. Ok ps)
          → (if p then Err name_taken else (if (q || is_among n (names k)) || is_among n (map name_of E) then Err name_taken
          else if_met met ps))
          ≡ and_then (if q then Err name_taken else (if p then Err name_taken else (if is_taken E k n then Err name_taken
          else nothing_if met))) (λ u. Ok ps)
      go true true e = refl
      go true false e = refl
      go false p e = e

met_is : (met : Bool) → nothing_if met ≡ Ok tt → met ≡ true
met_is true e = refl
met_is false e = absurd cc

cases_met : (E : List Declaration) (k : List Slot) (met : Bool) (m n : List ℕ) → cases_fit E k met m n ≡ Ok tt → met ≡ true
cases_met E k met m n = go (is_taken E k m) (is_taken E k n)
  where
    go : (p q : Bool) → (if p then Err name_taken else (if q then Err name_taken else nothing_if met)) ≡ Ok tt → met ≡ true
    go true q e = absurd cc
    go false true e = absurd cc
    go false false e = met_is met e

pair_met : (E : List Declaration) (k : List Slot) (met : Bool) (m n : List ℕ) → pair_fits E k met m n ≡ Ok tt → met ≡ true
pair_met E k met m n = go (is_name n m)
  where
    go : (p : Bool) → (if p then Err name_taken else cases_fit E k met m n) ≡ Ok tt → met ≡ true
    go true e = absurd cc
    go false e = cases_met E k met m n e

-- ---- the trees

-- a head form of what is shown is well formed, and the tree proves each formula that is the same
abbrev Headed : List Declaration → List Slot → List Rule → Formula → Type 0
Headed E c ts h = WellFormed E (variables (entries c)) h × ((z : Formula) → Same E h z → IsProof E ts (seq (entries c) z))

module _ (E : List Declaration) (c : List Slot) (g : Formula) (ts : List Rule) where
  pub falsity_opens : Headed E c ts falsity → Opens E (goal c g) [] (falsity_made ts)
  falsity_opens w =
      let t = by_rule E false_e (ts ++ []) (entries c) g [] tt
      (joined E ts [] (seq (entries c) falsity ∷ []) [] [] [] (by_proof E ts (seq (entries c) falsity) (w.1 falsity refl))
      (record { follows = tt; leaves = refl })) in
      record { follows = t.follows; leaves = t.leaves; formulas = refl }

  module _ (o : Option ℕ) (k : List Slot) (there : IsThere (entries c) o) (left : k ≡ left_of c o) (m n : List ℕ) where
    pub pair_opens : (a b : Formula) → Headed E c ts (both a b)
        → Opens E (goal c g) (part (slot n (hypothesis b) ∷ slot m (hypothesis a) ∷ []) k g ∷ []) (pair_made ts o k g m n a b)
    pair_opens a b w =
        let newer = slot n (hypothesis b) ∷ slot m (hypothesis a) ∷ [] in
        let t = by_rule E (and_e a b) _ (entries c) g _ w.0 (joined E ts _ (seq (entries c) (both a b) ∷ []) _ [] _
        (by_proof E ts (seq (entries c) (both a b)) (w.1 (both a b) refl)) (kept_leads E newer c o g there)) in
        subst (λ k. Opens E (goal c g) (part newer k g ∷ []) (pair_made ts o k g m n a b)) (sym left)
        (record { follows = t.follows; leaves = t.leaves; formulas = refl })

    pub witness_opens : (s x : List ℕ) (b : Formula) → Headed E c ts (ex s x b)
        → Opens E (goal c g) (part (slot n (hypothesis b) ∷ slot m (variable s) ∷ []) k (under g) ∷ []) (witness_made ts o k g m n s b)
    witness_opens s x b w =
        let newer = slot n (hypothesis b) ∷ slot m (variable s) ∷ [] in
        let t = by_rule E (ex_e s b) _ (entries c) g _ w.0 (joined E ts _ (seq (entries c) (ex s plain b) ∷ []) _ [] _
        (by_proof E ts (seq (entries c) (ex s plain b)) (w.1 (ex s plain b) (same_ex_named E s x plain b)))
        (kept_leads E newer c o (under g) there)) in
        subst (λ k. Opens E (goal c g) (part newer k (under g) ∷ []) (witness_made ts o k g m n s b)) (sym left)
        (record { follows = t.follows; leaves = t.leaves; formulas = refl })

    pub cases_opens : (a b : Formula) → Headed E c ts (either a b)
        → Opens E (goal c g) (part (slot m (hypothesis a) ∷ []) k g ∷ part (slot n (hypothesis b) ∷ []) k g ∷ [])
        (cases_made ts o k g m n a b)
    cases_opens a b w =
        let one = slot m (hypothesis a) ∷ [] in
        let two = slot n (hypothesis b) ∷ [] in
        let t = by_rule E (or_e a b) _ (entries c) g _ w.0 (joined E ts _ (seq (entries c) (either a b) ∷ []) _ [] _
        (by_proof E ts (seq (entries c) (either a b)) (w.1 (either a b) refl))
        (joined E _ _ _ _ _ _ (kept_leads E one c o g there) (kept_leads E two c o g there))) in
        subst (λ k. Opens E (goal c g) (part one k g ∷ part two k g ∷ []) (cases_made ts o k g m n a b)) (sym left)
        (record { follows = t.follows; leaves = t.leaves; formulas = refl })

-- ---- evidence that was read

bare_there : (E : List Declaration) (c : List Slot) (e : Evidence) (a : Formula) → shows E c e ≡ Ok a → IsThere (entries c) (bare e)
bare_there E c (assumed i) a q = go (hypothesis_at (entries c) i) refl q
  where
    go : (o : Option Formula) → hypothesis_at (entries c) i ≡ o → known o ≡ Ok a → i < count (entries c)
    go None p r = absurd cc
    go (Some b) p r = hypothesis_below (entries c) i b (hypothesis_at_is (entries c) i b p)
bare_there E c (declared n b) a q = tt
bare_there E c (with_term e s t) a q = tt
bare_there E c (with_proof e d) a q = tt

left_is : (c : List Slot) (e : Evidence) → left_of c (bare e) ≡ kept_of c e
left_is c (assumed i) = refl
left_is c (declared n b) = refl
left_is c (with_term e s t) = refl
left_is c (with_proof e d) = refl

-- what a row of evidence wants, by what is shown and what is left
pub apart_row : (E : List Declaration) (c k : List Slot) (e : Evidence) (m : Read) (form : List Slot → Formula → Result (List Part) Fault)
    → IsGiven E c e m → k ≡ left_of c m.hypothesis
    → form k (head_form E (meaning m.formula)) ≡ and_then (shows E c e) (λ a. form (kept_of c e) (head_form E a))
apart_row E c k e m form i q =
    ap (λ z. form z (head_form E (meaning m.formula))) (q ∙ ap (left_of c) i.comes.hypothesis ∙ left_is c e)
    ∙ ap (λ r. and_then r (λ a. form (kept_of c e) (head_form E a))) (sym i.comes.formula)

-- the row of evidence that was read wants the row of a refinement
module _ (E : List Declaration) (g : Goal) (n : ℕ) (x : IsSite E g n) (m : Read) (e : Evidence) (i : IsGiven E g.slots e m) where
  there : IsThere (entries g.slots) m.hypothesis
  there = subst (IsThere (entries g.slots)) (sym i.comes.hypothesis) (bare_there E g.slots e (meaning m.formula) i.comes.formula)

  headed : AreSame E (pairs m.must.items) → (h : Formula) → head_form E (meaning m.formula) ≡ h → Headed E g.slots (meanings m.tree) h
  headed s h q = subst (Headed E g.slots (meanings m.tree)) q (
    head_formed E x.environment (variables (entries g.slots)) (meaning m.formula) i.formed,
    λ z v. i.proved s z (sym (head_same E x.environment (variables (entries g.slots)) (meaning m.formula) i.formed) ∙ v),
  )

-- the goal under one variable more
pub lifted : (E : List Declaration) (g : Goal) (n w : ℕ) → IsSite E g n → w ≡ n + 1
    → (D : List Declaration) × (V : List (List ℕ)) × WellFormed D V (shift 0 1 g.shown) × (length V ≤ w)
lifted E g n w x q =
    let V = variables (entries g.slots) in (
      E,
      [] ∷ V,
      subst (WellFormed E ([] ∷ V)) (sym (shift_once g.shown)) (replace_formed E next V ([] ∷ V) (fits_next E [] V) g.shown x.formed.1),
      omega (arith, x.counted, q),
    )

-- ---- what is answered

-- what is asked before, and then what is made
pub opened_behind : (E : List Declaration) (g : Goal) (form : Formula → Result (List Part) Fault) (h k : Formula)
    (fit : Result (Unit {0}) Fault) (ps : List Part) (o : Opening) (m : Made) → h ≡ k → form k ≡ and_then fit (λ u. Ok ps) → fit ≡ Ok tt
    → opening o ≡ m → Opens E g ps m → Answers E g (Ok o) (form h)
opened_behind E g form h k fit ps o m e w f is t =
    (ps, ap form e ∙ w ∙ ap (λ r. and_then r (λ u. Ok ps)) f, subst (Opens E g ps) (sym is) t)

pub refused_behind : (E : List Declaration) (form : Formula → Result (List Part) Fault) (h k : Formula) (fit : Result (Unit {0}) Fault)
    (ps : List Part) (f : TacFault) → h ≡ k → form k ≡ and_then fit (λ u. Ok ps) → Refuses (λ z. z) f fit
    → Refuses (λ z. z) f (measured E (form h))
refused_behind E form h k fit ps f e w r = subst (λ v. Refuses (λ z. z) f (measured E v)) (sym (ap form e ∙ w))
    (refuses_then f (and_then fit (λ u. Ok ps)) _ (refuses_then f fit (λ u. Ok ps) r))

-- evidence that was read, and a test of its premises
module _ (E : List Declaration) (g : Goal) (n : ℕ) (m : Read) (met : Bool) (s : TellsSame E m.must.items met) where
  abbrev head : Formula
  head = head_form E (meaning m.formula)

  module _ (x : IsSite E g n) (r : (e : Evidence) × IsGiven E g.slots e m) (q : head ≡ falsity) where
    pub falsity_answers : (o : Opening) → nothing_if met ≡ Ok tt → opening o ≡ falsity_made (meanings m.tree)
        → Answers E g (Ok o) (falsity_form met head)
    falsity_answers o f is = opened_behind E g (falsity_form met) head falsity (nothing_if met) [] o (falsity_made (meanings m.tree)) q
        (unit_first met []) f is (falsity_opens E g.slots g.shown (meanings m.tree) (headed E g n x m r.0 r.1 (s.0 (met_is met f)) falsity q))

    pub falsity_refused : (f : TacFault) → Refuses (λ z. z) f (nothing_if met) → Refuses (λ z. z) f (measured E (falsity_form met head))
    falsity_refused f h = refused_behind E (falsity_form met) head falsity (nothing_if met) [] f q (unit_first met []) h

  module _ (k : List Slot) (x : IsTakenApart E g n m k) (y z : List ℕ) where
    fit : IsThere (entries g.slots) m.hypothesis
    fit = there E g n x.ready m x.given.0 x.given.1

    apart : met ≡ true → (h : Formula) → head ≡ h → Headed E g.slots (meanings m.tree) h
    apart t h q = headed E g n x.ready m x.given.0 x.given.1 (s.0 t) h q

    pub pair_answers : (a b : Formula) → head ≡ both a b → (o : Opening) → pair_fits E k met y z ≡ Ok tt
        → opening o ≡ pair_made (meanings m.tree) m.hypothesis k g.shown y z a b → Answers E g (Ok o) (pair_form E k met y z g.shown head)
    pair_answers a b q o f is = opened_behind E g (pair_form E k met y z g.shown) head (both a b) (pair_fits E k met y z) _ o _ q
        (pair_first E k met y z _) f is (pair_opens E g.slots g.shown (meanings m.tree) m.hypothesis k fit x.kept y z a b
        (apart (pair_met E k met y z f) (both a b) q))

    pub pair_refused : (a b : Formula) → head ≡ both a b → (f : TacFault) → Refuses (λ z. z) f (pair_fits E k met y z)
        → Refuses (λ z. z) f (measured E (pair_form E k met y z g.shown head))
    pair_refused a b q f h = refused_behind E (pair_form E k met y z g.shown) head (both a b) (pair_fits E k met y z) _ f q
        (pair_first E k met y z _) h

    pub witness_answers : (r v : List ℕ) (b : Formula) → head ≡ ex r v b → (o : Opening) → pair_fits E k met y z ≡ Ok tt
        → opening o ≡ witness_made (meanings m.tree) m.hypothesis k g.shown y z r b → Answers E g (Ok o) (pair_form E k met y z g.shown head)
    witness_answers r v b q o f is = opened_behind E g (pair_form E k met y z g.shown) head (ex r v b) (pair_fits E k met y z) _ o _ q
        (pair_first E k met y z _) f is (witness_opens E g.slots g.shown (meanings m.tree) m.hypothesis k fit x.kept y z r v b
        (apart (pair_met E k met y z f) (ex r v b) q))

    pub witness_refused : (r v : List ℕ) (b : Formula) → head ≡ ex r v b → (f : TacFault) → Refuses (λ z. z) f (pair_fits E k met y z)
        → Refuses (λ z. z) f (measured E (pair_form E k met y z g.shown head))
    witness_refused r v b q f h = refused_behind E (pair_form E k met y z g.shown) head (ex r v b) (pair_fits E k met y z) _ f q
        (pair_first E k met y z _) h

    pub cases_answers : (a b : Formula) → head ≡ either a b → (o : Opening) → cases_fit E k met y z ≡ Ok tt
        → opening o ≡ cases_made (meanings m.tree) m.hypothesis k g.shown y z a b → Answers E g (Ok o) (cases_form E k met y z g.shown head)
    cases_answers a b q o f is = opened_behind E g (cases_form E k met y z g.shown) head (either a b) (cases_fit E k met y z) _ o _ q
        (cases_first E k met y z _) f is (cases_opens E g.slots g.shown (meanings m.tree) m.hypothesis k fit x.kept y z a b
        (apart (cases_met E k met y z f) (either a b) q))

    pub cases_refused : (a b : Formula) → head ≡ either a b → (f : TacFault) → Refuses (λ z. z) f (cases_fit E k met y z)
        → Refuses (λ z. z) f (measured E (cases_form E k met y z g.shown head))
    cases_refused a b q f h = refused_behind E (cases_form E k met y z g.shown) head (either a b) (cases_fit E k met y z) _ f q
        (cases_first E k met y z _) h
