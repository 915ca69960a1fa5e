-- Introductions.
use Rattle.std.proofs.Common.{◌≡◌, ℕ, suc, ◌+◌, ◌<◌, List, [], ◌∷◌, ◌++◌, map, drop, length, get_or, slice_get, codes, Option, None, Some, Result, Ok, Err, refl, sym, ap, subst, ◌∙◌, arith}
use Rattle.std.proofs.Math.Seq.{drop-cons}
use Rattle.fol_theory.specs.Syntax.{Formula, implies, all}
use Rattle.fol_theory.specs.Contexts.{variable, hypothesis, variables}
use Rattle.fol_theory.specs.Slots.{Slot, slot, entries, names}
use Rattle.base_core.specs.Answers.{and_then}
use Rattle.env_theory.specs.Declarations.{Declaration}
use Rattle.env_theory.specs.Typing.{WellFormed}
use Rattle.env_theory.specs.Normal.{Same}
use Rattle.env_theory.specs.Heads.{head_form}
use Rattle.logic_theory.specs.Rules.{leaf, step, plain, all_i, imp_i, Every, Formed}
use Rattle.logic_theory.specs.Goals.{Goal, goal, sequent}
use Rattle.logic_theory.proofs.Grafting.{label_names, names_entries, opens_formed}
use Rattle.tactic_theory.specs.Faults.{Fault}
use Rattle.vern_parse.specs.declared.raw.RawName.{RawName}
use Rattle.vern_parse.specs.Meaning.{name}
use Rattle.tactic_theory.specs.Refinements.{Part, part, opened, named, intro, intro_one, intros_as, refine, first_large, limited, put_in}
use Rattle.tactic_theory.specs.States.{State, StepFault, Frame, row_fault, state, refined, name_first}
use Rattle.tactic_theory.specs.Typing.{texts}
use Rattle.tactic_theory.proofs.Shown.{ok_injective}
use Rattle.script_theory.specs.Sizes.{large}
use Rattle.proof_state.specs.declared.state.State.{State as Kept}
use Rattle.proof_state.specs.States.{state_of}
use Rattle.tactic_theory.proofs.Named.{same_all_named}
use Rattle.tac_base.specs.declared.fault.TacFault.{TacFault}
use Rattle.tac_base.specs.Faults.{Gives, Refuses}
use Rattle.tac_base.specs.Openings.{Made, made, measured, left_by, Opens}
use Rattle.tac_base.specs.Sites.{FirstFormed}
use Rattle.tac_base.proofs.Answered.{refuses_then, refuses_with}
use Rattle.tac_base.proofs.Opened.{left_wanted}
use Rattle.tac_core.specs.Introduced.{Introduces}

module _ (E : List Declaration) (g : Goal) where
  pub variable_opens : (m s x : List ℕ) (b : Formula) → WellFormed E (variables (entries g.slots)) (all s x b) × Same E (all s x b) g.shown
      → Opens E g (part (slot m (variable s) ∷ []) g.slots b ∷ [])
      (made (step (all_i s b) ∷ leaf (m ∷ names g.slots) ∷ []) (b ∷ []))
  variable_opens m s x b w = record {
    follows = ((w.0, same_all_named E s plain x b ∙ w.1), (ap suc (names_entries g.slots), tt));
    leaves = λ i. goal (slot m (variable s) ∷ label_names g.slots i) b ∷ [];
    formulas = refl;
  }

  pub hypothesis_opens : (m : List ℕ) (a b : Formula) → WellFormed E (variables (entries g.slots)) (implies a b) × Same E (implies a b) g.shown
      → Opens E g (part (slot m (hypothesis a) ∷ []) g.slots b ∷ [])
      (made (step (imp_i a b) ∷ leaf (m ∷ names g.slots) ∷ []) (a ∷ b ∷ []))
  hypothesis_opens m a b w = record {
    follows = (w, (ap suc (names_entries g.slots), tt));
    leaves = λ i. goal (slot m (hypothesis a) ∷ label_names g.slots i) b ∷ [];
    formulas = refl;
  }

-- the row of intro, by the form of the goal
abbrev pub intro_form : List Declaration → List Slot → Option (List ℕ) → Formula → Result (List Part) Fault
intro_form E c n h = and_then (intro_one E c n h) (λ p. Ok (p ∷ []))

pub variable_part : (E : List Declaration) (c : List Slot) (n : Option (List ℕ)) (m s x : List ℕ) (b : Formula) → named E c n x ≡ Ok m
    → intro_form E c n (all s x b) ≡ Ok (part (slot m (variable s) ∷ []) c b ∷ [])
variable_part E c n m s x b e = ap (λ r. and_then (and_then r (λ m. Ok (part (slot m (variable s) ∷ []) c b))) (λ p. Ok (p ∷ []))) e

pub hypothesis_part : (E : List Declaration) (c : List Slot) (n : Option (List ℕ)) (m : List ℕ) (a b : Formula)
    → named E c n (codes "H") ≡ Ok m → intro_form E c n (implies a b) ≡ Ok (part (slot m (hypothesis a) ∷ []) c b ∷ [])
hypothesis_part E c n m a b e = ap (λ r. and_then (and_then r (λ m. Ok (part (slot m (hypothesis a) ∷ []) c b))) (λ p. Ok (p ∷ []))) e

-- a fault of the name is one of the row
pub variable_refused : (E : List Declaration) (c : List Slot) (n : Option (List ℕ)) (s x : List ℕ) (b h : Formula) (f : TacFault)
    → all s x b ≡ h → Refuses (λ z. z) f (named E c n x) → Refuses (λ z. z) f (measured E (intro_form E c n h))
variable_refused E c n s x b h f e k = subst (λ z. Refuses (λ z. z) f (measured E (intro_form E c n z))) e
    (refuses_then f (intro_form E c n (all s x b)) _
    (refuses_then f (and_then (named E c n x) (λ m. Ok (part (slot m (variable s) ∷ []) c b))) _
    (refuses_then f (named E c n x) _ k)))

pub hypothesis_refused : (E : List Declaration) (c : List Slot) (n : Option (List ℕ)) (a b h : Formula) (f : TacFault)
    → implies a b ≡ h → Refuses (λ z. z) f (named E c n (codes "H")) → Refuses (λ z. z) f (measured E (intro_form E c n h))
hypothesis_refused E c n a b h f e k = subst (λ z. Refuses (λ z. z) f (measured E (intro_form E c n z))) e
    (refuses_then f (intro_form E c n (implies a b)) _
    (refuses_then f (and_then (named E c n (codes "H")) (λ m. Ok (part (slot m (hypothesis a) ∷ []) c b))) _
    (refuses_then f (named E c n (codes "H")) _ k)))

-- ---- one introduction in a state

-- what goes well has one part
one_part : (E : List Declaration) (c : List Slot) (n : Option (List ℕ)) (h : Formula) (ps : List Part) → intro_form E c n h ≡ Ok ps
    → (p : Part) × (ps ≡ p ∷ [])
one_part E c n h ps e = go (intro_one E c n h) e
  where
    go : (r : Result Part Fault) → and_then r (λ p. Ok (p ∷ [])) ≡ Ok ps → (p : Part) × (ps ≡ p ∷ [])
    go (Ok p) k = (p, sym (ok_injective (p ∷ []) ps k))
    go (Err z) k = absurd cc

step_is : (x y : State) → ◌≡◌ {A = Result State StepFault} (Ok x) (Ok y) → x ≡ y
step_is x y e = cc

-- a fault of a step is one of the goals
back : (gs : List Goal) (fs : List Frame) (r : Result (List Goal) Fault) (z : Fault) → refined gs fs r ≡ Err (row_fault z) → r ≡ Err z
back gs fs (Ok hs) z e = absurd cc
back gs fs (Err y) z e = cc

-- the one part p of an introduction, measured
module _ (E : List Declaration) (g : Goal) (gs : List Goal) (fs : List Frame) (n : List ℕ) (p : Part) (m : Made)
    (formed : Formed E (sequent (opened p))) (wanted : left_by E g m ≡ refine (large E) E g (intro (Some n))) where
  done : (x : Option (ℕ × ℕ)) (t : Kept) → left_by E g m ≡ limited x (p ∷ []) → refined gs fs (limited x (p ∷ [])) ≡ Ok (state_of t)
      → Introduces E g gs fs n (Ok t)
  done None t e d = (opened p, sym wanted ∙ e, sym (step_is (state (opened p ∷ gs) fs) (state_of t) d), formed)
  done (Some v) t e d = absurd cc

  told : (x : Option (ℕ × ℕ)) (r : Result Kept TacFault) → left_by E g m ≡ limited x (p ∷ [])
      → Gives state_of row_fault r (refined gs fs (left_by E g m)) → Introduces E g gs fs n r
  told x (Ok t) is d = done x t is (ap (refined gs fs) (sym is) ∙ d)
  told x (Err e) is d = subst (Refuses (λ z. z) e) wanted
      (refuses_with row_fault (λ z. z) e (refined gs fs (left_by E g m)) (left_by E g m) (back gs fs (left_by E g m)) d)

pub introduced_by : (E : List Declaration) (g : Goal) (gs : List Goal) (fs : List Frame) (n : List ℕ) (ps : List Part) (m : Made)
    (r : Result Kept TacFault) → Formed E (sequent g) → intro_form E g.slots (Some n) (head_form E g.shown) ≡ Ok ps → Opens E g ps m
    → Gives state_of row_fault r (refined gs fs (left_by E g m)) → Introduces E g gs fs n r
introduced_by E g gs fs n ps m r f w o k =
    let one = one_part E g.slots (Some n) (head_form E g.shown) ps w in
    let all = opens_formed E g (map opened ps) (record { tree = m.rules; follows = o.follows; leaves = o.leaves }) f in
    told E g gs fs n one.0 m (subst (λ qs. Every (Formed E) (map sequent (map opened qs))) one.1 all).0
    (left_wanted E g ps m o ∙ ap (measured E) (sym w)) (first_large (large E) (put_in one.0 ++ [])) r
    (left_wanted E g ps m o ∙ ap (λ qs. measured E (Ok qs)) one.1) k

pub first_is : (l : List Goal) (g h : Goal) (gs : List Goal) → Some h ≡ slice_get l 0 → l ≡ g ∷ gs → h ≡ g
first_is l g h gs e k = let w : Some h ≡ Some g = e ∙ ap (λ z. slice_get z 0) k in cc

-- the same where environment and goal are those of a site
pub introduced_at : (E D : List Declaration) (g h : Goal) (gs : List Goal) (s : State) (n : List ℕ) (ps : List Part) (m : Made)
    (r : Result Kept TacFault) → D ≡ E → h ≡ g → s.focused ≡ g ∷ gs → Formed D (sequent h)
    → intro_form D h.slots (Some n) (head_form D h.shown) ≡ Ok ps → Opens D h ps m
    → ((ks : List Goal) → s.focused ≡ h ∷ ks → Gives state_of row_fault r (refined ks s.frames (left_by D h m)))
    → Introduces E g gs s.frames n r
introduced_at E D g h gs s n ps m r e k is f w o z = subst (λ F. Introduces F g gs s.frames n r) e
    (subst (λ y. Introduces D y gs s.frames n r) k
    (introduced_by D h gs s.frames n ps m r f w o (z gs (is ∙ ap (λ y. y ∷ gs) (sym k)))))

-- ---- introductions under names, one after another

-- Behind some of the names one goal stands before the others, and what is left of the whole is what is left from it on.
pub record Going (E : List Declaration) (gs : List Goal) (fs : List Frame) (whole : Result State StepFault) (ns : List (List ℕ)) (s : State) : Type 0 where
  pub first : Goal
  pub is : s ≡ state (first ∷ gs) fs
  pub formed : Formed E (sequent first)
  pub rest : whole ≡ refined gs fs (intros_as (large E) E ns (first ∷ []))

pub going_begins : (E : List Declaration) (ns : List (List ℕ)) (s t : State) → ((g : Goal) × (gs : List Goal) × (s.focused ≡ g ∷ gs))
    → FirstFormed E s.focused → t ≡ s → (gs : List Goal) × Going E gs s.frames (name_first (large E) E s.focused s.frames ns) ns t
going_begins E ns s t w f k = (
  w.1,
  record {
    first = w.0;
    is = k ∙ ap (λ z. state z s.frames) w.2;
    formed = subst (FirstFormed E) w.2 f;
    rest = ap (λ z. name_first (large E) E z s.frames ns) w.2;
  },
)

module _ (E : List Declaration) (gs : List Goal) (fs : List Frame) (whole : Result State StepFault) (n : List ℕ) (ns : List (List ℕ)) (s : State)
    (w : Going E gs fs whole (n ∷ ns) s) where
  -- the next goal is at hand
  pub next_first : s.focused ≡ w.first ∷ gs
  next_first = ap (λ z. z.focused) w.is

  pub next_formed : FirstFormed E s.focused
  next_formed = subst (FirstFormed E) (sym (ap (λ z. z.focused) w.is)) w.formed

  pub one_more : (t : Kept) → Introduces E w.first gs s.frames n (Ok t) → Going E gs fs whole ns (state_of t)
  one_more t k = record {
    first = k.0;
    is = k.2 ∙ ap (λ z. state (k.0 ∷ gs) z.frames) w.is;
    formed = k.3;
    rest = w.rest ∙ ap (λ r. refined gs fs (and_then r (λ hs. intros_as (large E) E ns (hs ++ [])))) k.1;
  }

  pub stops : (f : TacFault) → Introduces E w.first gs s.frames n (Err f) → Refuses row_fault f whole
  stops f k = refuses_with (λ z. z) row_fault f (refine (large E) E w.first (intro (Some n))) whole
      (λ z e. w.rest ∙ ap (λ r. refined gs fs (and_then r (λ hs. intros_as (large E) E ns (hs ++ [])))) e) k

pub going_ends : (E : List Declaration) (gs : List Goal) (fs : List Frame) (whole : Result State StepFault) (s : State)
    → Going E gs fs whole [] s → whole ≡ Ok s
going_ends E gs fs whole s w = w.rest ∙ ap Ok (sym w.is)

-- the next name before the others
pub names_next : (xs : List RawName) (i : ℕ) (x : RawName) → i < length xs → x ≡ get_or xs i x
    → texts (map name (drop i xs)) ≡ x.text ∷ texts (map name (drop (i + 1) xs))
names_next xs i x h e =
    let more : suc i ≡ i + 1 = omega arith in
    ap (λ ys. texts (map name ys)) (drop-cons xs i x h) ∙ ap (λ y. y.text ∷ texts (map name (drop (suc i) xs))) (sym e)
    ∙ ap (λ j. x.text ∷ texts (map name (drop j xs))) more
