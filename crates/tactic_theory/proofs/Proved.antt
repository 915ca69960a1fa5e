-- Refinements, bullets and braces keep a state fitting, and a block that goes well has a derivation.
use Rattle.logic_theory.specs.Goals.{Goal, goal, sequent, Leads, Opens}
use Rattle.fol_theory.specs.Slots.{Slot, slot}
use Rattle.env_theory.specs.Orders.{Lawful, InOrder}
use Rattle.env_theory.specs.Heads.{head_form}
use Rattle.env_theory.specs.Typing.{WellFormed}
use Rattle.env_theory.specs.Declarations.{Declaration, sort, function, predicate, stated, term, formula}
use Rattle.std.proofs.Common.{
  ◌≡◌,
  ℕ,
  Bool,
  true,
  false,
  if◌then◌else◌,
  List,
  [],
  ◌∷◌,
  ◌++◌,
  codes,
  map,
  flat_map,
  append_assoc,
  Option,
  Some,
  None,
  Result,
  Ok,
  Err,
  refl,
  sym,
  ap,
  subst,
  ◌∙◌,
}
use Rattle.fol_theory.specs.Syntax.{Formula, all, implies, is_name}
use Rattle.fol_theory.specs.Contexts.{variable, hypothesis}
use Rattle.tactic_theory.specs.Names.{fresh}
use Rattle.logic_theory.specs.Derivations.{Derives}
use Rattle.logic_theory.specs.Rules.{Formed}
use Rattle.env_theory.proofs.Lawfuls.{lawful}
use Rattle.logic_theory.proofs.Grafting.{opens_first, opens_sound, opens_formed, opens_itself}
use Rattle.base_core.specs.Answers.{and_then}
use Rattle.tactic_theory.specs.Faults.{Fault}
use Rattle.tactic_theory.specs.Refinements.{
  Part,
  part,
  opened,
  intro_one,
  intro_all,
  Refinement,
  intro,
  row,
  IsTypedRow,
  first_large,
  put_in,
  limited,
  refine,
  intros_as,
}
use Rattle.tactic_theory.specs.States as states
use Rattle.tactic_theory.specs.States.{
  Frame,
  State,
  frame,
  state,
  goals_behind,
  goals_of,
  StepFault,
  is_empty,
  none_behind,
  Found,
  found,
  one_above,
  by_mark,
  by_brace,
  find_bullet,
  find_brace,
  focus,
  next_bullet,
  bullet_at,
  put_bullet,
  brace_in,
  brace_at,
  brace_out,
  refined,
  Mark,
  bullet,
  brace,
  Inner,
  proof,
  open_brace,
  close_brace,
  by_refinement,
  by_names,
  by_bullet,
  typed_then,
  refine_first,
  name_first,
  run_one,
  run_all,
  qed_at,
  qed,
  begin,
  block,
  FitsState,
  IsTyping,
}
use Rattle.tactic_theory.proofs.Shown.{ok_injective, both_true}
use Rattle.tactic_theory.proofs.Rows.{row_to}

-- ---- one goal

limited_opened : (o : Option (ℕ × ℕ)) (ps : List Part) (hs : List Goal) → limited o ps ≡ Ok hs → map opened ps ≡ hs
limited_opened (Some w) ps hs e = absurd cc
limited_opened None ps hs e = ok_injective (map opened ps) hs e

module _ (large : Formula → Option (ℕ × ℕ)) (E : List Declaration) (l : Lawful E) where
  -- a refinement that goes well leads to its new goals
  pub refine_opens : (g : Goal) → Formed E (sequent g) → (r : Refinement) → IsTypedRow E g.slots r → (hs : List Goal) →
      refine large E g r ≡ Ok hs → Opens E g hs
  refine_opens g f r y hs e = go (row E g.slots g.shown r) refl e
    where
      go : (o : Result (List Part) Fault) → row E g.slots g.shown r ≡ o →
          and_then o (λ ps. limited (first_large large (flat_map put_in ps)) ps) ≡ Ok hs → Opens E g hs
      go (Err z) q d = absurd cc
      go (Ok ps) q d = subst (Leads E (sequent g ∷ [])) (limited_opened (first_large large (flat_map put_in ps)) ps hs d)
          (row_to E l g.slots g.shown f.0 f.1 r y ps q)

  pub intros_opens : (g : Goal) → Formed E (sequent g) → (ns : List (List ℕ)) (gs hs : List Goal) → Opens E g gs →
      intros_as large E ns gs ≡ Ok hs → Opens E g hs
  intros_opens g f [] gs hs k e = subst (Opens E g) (ok_injective gs hs e) k
  intros_opens g f (n ∷ ns) [] hs k e = absurd cc
  intros_opens g f (n ∷ ns) (h ∷ gs) hs k e = go (refine large E h (intro (Some n))) refl
      (λ is. intros_opens g f ns (is ++ gs) hs) e
    where
      go : (o : Result (List Goal) Fault) → refine large E h (intro (Some n)) ≡ o → ((is : List Goal) → Opens E g (is ++ gs) →
          intros_as large E ns (is ++ gs) ≡ Ok hs → Opens E g hs) → and_then o (λ is. intros_as large E ns (is ++ gs)) ≡ Ok hs →
          Opens E g hs
      go (Err z) q r d = absurd cc
      go (Ok is) q r d = r is (opens_first E g h gs is k
          (refine_opens h (opens_formed E g (h ∷ gs) k f).0 (intro (Some n)) tt is q)) d

-- ---- bullets and braces keep the goals

step_injective : {A : Type 0} (x y : A) → ◌≡◌ {A = Result A StepFault} (Ok x) (Ok y) → x ≡ y
step_injective x y e = cc

empty_is : (gs : List Goal) → is_empty gs ≡ true → gs ≡ []
empty_is [] e = refl
empty_is (g ∷ gs) e = absurd cc

none_is : (fs : List Frame) → none_behind fs ≡ true → goals_behind fs ≡ []
none_is [] e = refl
none_is (f ∷ fs) e = let b = both_true (is_empty f.behind) (none_behind fs) e in λ i. empty_is f.behind b.0 i ++ none_is fs b.1 i

behind_append : (fs gs : List Frame) → goals_behind (fs ++ gs) ≡ goals_behind fs ++ goals_behind gs
behind_append [] gs = refl
behind_append (f ∷ fs) gs = ap (λ l. f.behind ++ l) (behind_append fs gs) ∙ sym (append_assoc f.behind (goals_behind fs) (goals_behind gs))

-- what is found are the goals of the stack
abbrev IsOf : List Frame → Found → Type 0
IsOf fs w = goals_behind fs ≡ goals_behind w.above ++ (w.behind ++ goals_behind w.below)

some_injective : {A : Type 0} (x y : A) → Some x ≡ Some y → x ≡ y
some_injective x y e = cc

above_is : (f : Frame) (fs : List Frame) (o : Option Found) → ((w : Found) → o ≡ Some w → IsOf fs w) → (w : Found) →
    one_above f o ≡ Some w → IsOf (f ∷ fs) w
above_is f fs None h w e = absurd cc
above_is f fs (Some v) h w e = subst (IsOf (f ∷ fs)) (some_injective (found (f ∷ v.above) v.behind v.below) w e)
    (ap (λ l. f.behind ++ l) (h v refl) ∙ sym (append_assoc f.behind (goals_behind v.above) (v.behind ++ goals_behind v.below)))

here_is : (f : Frame) (fs : List Frame) (w : Found) → Some (found [] f.behind fs) ≡ Some w → IsOf (f ∷ fs) w
here_is f fs w e = subst (IsOf (f ∷ fs)) (some_injective (found [] f.behind fs) w e) refl

bullet_found : (b : List ℕ) (fs : List Frame) (w : Found) → find_bullet b fs ≡ Some w → IsOf fs w
bullet_found b [] w e = absurd cc
bullet_found b (f ∷ fs) w e = go f.mark (find_bullet b fs) (bullet_found b fs) e
  where
    go : (m : Mark) (o : Option Found) → ((w : Found) → o ≡ Some w → IsOf fs w) →
        by_mark b m (one_above f o) (Some (found [] f.behind fs)) ≡ Some w → IsOf (f ∷ fs) w
    go brace o h d = absurd cc
    go (bullet n) o h d = test (is_name n b) d
      where
        test : (t : Bool) → (if t then Some (found [] f.behind fs) else one_above f o) ≡ Some w → IsOf (f ∷ fs) w
        test true d = here_is f fs w d
        test false d = above_is f fs o h w d

brace_found : (fs : List Frame) (w : Found) → find_brace fs ≡ Some w → IsOf fs w
brace_found [] w e = absurd cc
brace_found (f ∷ fs) w e = go f.mark (find_brace fs) (brace_found fs) e
  where
    go : (m : Mark) (o : Option Found) → ((w : Found) → o ≡ Some w → IsOf fs w) →
        by_brace m (one_above f o) (Some (found [] f.behind fs)) ≡ Some w → IsOf (f ∷ fs) w
    go brace o h d = here_is f fs w d
    go (bullet n) o h d = above_is f fs o h w d

focus_keeps : (m : Mark) (gs : List Goal) (fs : List Frame) (s : State) → focus m gs fs ≡ Ok s → goals_of s ≡ gs ++ goals_behind fs
focus_keeps m [] fs s e = absurd cc
focus_keeps m (g ∷ gs) fs s e = ap goals_of (sym (step_injective (state (g ∷ []) (frame m gs ∷ fs)) s e))

next_keeps : (b : List ℕ) (gs : List Goal) (w : Found) (s : State) → next_bullet b gs w.above w.behind w.below ≡ Ok s →
    goals_of s ≡ gs ++ (goals_behind w.above ++ (w.behind ++ goals_behind w.below))
next_keeps b (g ∷ gs) w s e = absurd cc
next_keeps b [] w s e = go w.behind e
  where
    go : (hs : List Goal) → next_bullet b [] w.above hs w.below ≡ Ok s → goals_of s ≡ goals_behind w.above ++ (hs ++ goals_behind w.below)
    go [] d = absurd cc
    go (h ∷ hs) d = test (none_behind w.above) refl d
      where
        test : (t : Bool) → none_behind w.above ≡ t → (if t then Ok (state (h ∷ []) (frame (bullet b) hs ∷ w.below))
            else Err states.bad_bullet) ≡ Ok s → goals_of s ≡ goals_behind w.above ++ (h ∷ hs ++ goals_behind w.below)
        test false p d = absurd cc
        test true p d = ap goals_of (sym (step_injective (state (h ∷ []) (frame (bullet b) hs ∷ w.below)) s d)) ∙
            ap (λ l. l ++ (h ∷ (hs ++ goals_behind w.below))) (sym (none_is w.above p))

pub bullet_keeps : (b : List ℕ) (s t : State) → put_bullet b s ≡ Ok t → goals_of t ≡ goals_of s
bullet_keeps b s t e = go (find_bullet b s.frames) refl e
  where
    go : (o : Option Found) → find_bullet b s.frames ≡ o → bullet_at b s o ≡ Ok t → goals_of t ≡ goals_of s
    go None q d = focus_keeps (bullet b) s.focused s.frames t d
    go (Some w) q d = next_keeps b s.focused w t d ∙ ap (λ l. s.focused ++ l) (sym (bullet_found b s.frames w q))

pub brace_in_keeps : (s t : State) → brace_in s ≡ Ok t → goals_of t ≡ goals_of s
brace_in_keeps s t e = focus_keeps brace s.focused s.frames t e

brace_at_keeps : (gs : List Goal) (w : Found) (t : State) → brace_at gs (Some w) ≡ Ok t → goals_of t ≡ gs
    ++ (goals_behind w.above ++ (w.behind ++ goals_behind w.below))
brace_at_keeps (g ∷ gs) w t e = absurd cc
brace_at_keeps [] w t e = test (none_behind w.above) refl e
  where
    test : (v : Bool) → none_behind w.above ≡ v → (if v then Ok (state w.behind w.below) else Err states.bad_bullet) ≡ Ok t →
        goals_of t ≡ goals_behind w.above ++ (w.behind ++ goals_behind w.below)
    test false p d = absurd cc
    test true p d = ap goals_of (sym (step_injective (state w.behind w.below) t d)) ∙
        ap (λ l. l ++ (w.behind ++ goals_behind w.below)) (sym (none_is w.above p))

pub brace_out_keeps : (s t : State) → brace_out s ≡ Ok t → goals_of t ≡ goals_of s
brace_out_keeps s t e = go s.focused (find_brace s.frames) refl e
  where
    go : (gs : List Goal) (o : Option Found) → find_brace s.frames ≡ o → brace_at gs o ≡ Ok t → goals_of t ≡ gs ++ goals_behind s.frames
    go gs None q d = absurd cc
    go gs (Some w) q d = brace_at_keeps gs w t d ∙ ap (λ l. gs ++ l) (sym (brace_found s.frames w q))

-- ---- a state fits

module _ {R : Type 0} (large : Formula → Option (ℕ × ℕ)) (typed : Goal → R → Result Refinement Fault) (E : List Declaration)
    (l : Lawful E) (y : IsTyping E typed) (root : Goal) (f : Formed E (sequent root)) where
  refined_fits : (g : Goal) (gs : List Goal) (fs : List Frame) (o : Result (List Goal) Fault) (t : State) →
      Leads E (sequent root ∷ []) (g ∷ gs ++ goals_behind fs) → ((hs : List Goal) → o ≡ Ok hs → Opens E g hs) →
      refined gs fs o ≡ Ok t → FitsState E root t
  refined_fits g gs fs (Err z) t k h e = absurd cc
  refined_fits g gs fs (Ok hs) t k h e = subst (FitsState E root) (step_injective (state (hs ++ gs) fs) t e)
      (subst (Leads E (sequent root ∷ [])) (sym (append_assoc hs gs (goals_behind fs)))
      (opens_first E root g (gs ++ goals_behind fs) hs k (h hs refl)))

  refine_fits : (gs : List Goal) (fs : List Frame) (x : R) (t : State) → Leads E (sequent root ∷ []) (gs ++ goals_behind fs) →
      refine_first large typed E gs fs x ≡ Ok t → FitsState E root t
  refine_fits [] fs x t k e = absurd cc
  refine_fits (g ∷ gs) fs x t k e = refined_fits g gs fs (typed_then large E g (typed g x)) t k (λ hs q. go hs (typed g x) refl q) e
    where
      formed : Formed E (sequent g)
      formed = (opens_formed E root (g ∷ gs ++ goals_behind fs) k f).0

      go : (hs : List Goal) (o : Result Refinement Fault) → typed g x ≡ o → typed_then large E g o ≡ Ok hs → Opens E g hs
      go hs (Err z) q d = absurd cc
      go hs (Ok r) q d = refine_opens large E l g formed r (y g x r formed q) hs d

  names_fit : (gs : List Goal) (fs : List Frame) (ns : List (List ℕ)) (t : State) →
      Leads E (sequent root ∷ []) (gs ++ goals_behind fs) → name_first large E gs fs ns ≡ Ok t → FitsState E root t
  names_fit [] fs ns t k e = absurd cc
  names_fit (g ∷ gs) fs ns t k e = refined_fits g gs fs (intros_as large E ns (g ∷ [])) t k
      (λ hs q. intros_opens large E l g (opens_formed E root (g ∷ gs ++ goals_behind fs) k f).0 ns (g ∷ []) hs (opens_itself E g) q) e

  kept : (s t : State) → FitsState E root s → goals_of t ≡ goals_of s → FitsState E root t
  kept s t k e = subst (Leads E (sequent root ∷ [])) (sym e) k

  pub one_fits : (x : Inner R) (s t : State) → FitsState E root s → run_one large typed E x s ≡ Ok t → FitsState E root t
  one_fits proof s t k e = subst (FitsState E root) (step_injective s t e) k
  one_fits open_brace s t k e = kept s t k (brace_in_keeps s t e)
  one_fits close_brace s t k e = kept s t k (brace_out_keeps s t e)
  one_fits (by_bullet b) s t k e = kept s t k (bullet_keeps b s t e)
  one_fits (by_refinement x) s t k e = refine_fits s.focused s.frames x t k e
  one_fits (by_names ns) s t k e = names_fit s.focused s.frames ns t k e

  pub all_fit : (xs : List (Inner R)) (s t : State) → FitsState E root s → run_all large typed E xs s ≡ Ok t → FitsState E root t
  all_fit [] s t k e = subst (FitsState E root) (step_injective s t e) k
  all_fit (x ∷ xs) s t k e = go (run_one large typed E x s) refl (λ u. all_fit xs u t) e
    where
      go : (o : Result State StepFault) → run_one large typed E x s ≡ o → ((u : State) → FitsState E root u →
          run_all large typed E xs u ≡ Ok t → FitsState E root t) → and_then o (λ u. run_all large typed E xs u) ≡ Ok t → FitsState E root t
      go (Err z) q h d = absurd cc
      go (Ok u) q h d = h u (one_fits x s u k q) d

pub qed_done : (gs : List Goal) (o : Option Found) (t : State) → qed_at gs o ≡ Ok t → gs ≡ []
qed_done (g ∷ gs) o t e = absurd cc
qed_done [] o t e = refl

module _ {R : Type 0} (large : Formula → Option (ℕ × ℕ)) (typed : Goal → R → Result Refinement Fault) (E : List Declaration) where
  -- a block that goes well has a derivation of its statement
  pub block_derives : Lawful E → IsTyping E typed → (a : Formula) → WellFormed E [] a → (xs : List (Inner R)) (t : State) →
      block large typed E a xs ≡ Ok t → Derives E [] [] a
  block_derives l y a w xs t e = go (run_all large typed E xs (begin a)) refl e
    where
      root : Goal
      root = goal [] a

      go : (o : Result State StepFault) → run_all large typed E xs (begin a) ≡ o → and_then o qed ≡ Ok t → Derives E [] [] a
      go (Err z) q d = absurd cc
      go (Ok u) q d =
          let k = all_fit large typed E l y root (tt, w) xs (begin a) u (opens_itself E root) q in
          opens_sound E root [] (subst (Leads E (sequent root ∷ [])) (qed_done (goals_of u) (find_brace u.frames) t d) k) (tt, w) tt

  -- and in an environment in order
  pub block_proved : InOrder E → IsTyping E typed → (a : Formula) → WellFormed E [] a → (xs : List (Inner R)) (t : State) →
      block large typed E a xs ≡ Ok t → Derives E [] [] a
  block_proved o y a w xs t e = block_derives (lawful E o) y a w xs t e

-- ---- intros is intro as long as the goal as written goes on

head_all : (E : List Declaration) (s x : List ℕ) (b : Formula) → head_form E (all s x b) ≡ all s x b
head_all [] s x b = refl
head_all (sort n ∷ E) s x b = head_all E s x b
head_all (function n ss r ∷ E) s x b = head_all E s x b
head_all (predicate n ss ∷ E) s x b = head_all E s x b
head_all (stated n a ∷ E) s x b = head_all E s x b
head_all (term n ps r t ∷ E) s x b = head_all E s x b
head_all (formula n ps a ∷ E) s x b = head_all E s x b

head_implies : (E : List Declaration) (a b : Formula) → head_form E (implies a b) ≡ implies a b
head_implies [] a b = refl
head_implies (sort n ∷ E) a b = head_implies E a b
head_implies (function n ss r ∷ E) a b = head_implies E a b
head_implies (predicate n ss ∷ E) a b = head_implies E a b
head_implies (stated n c ∷ E) a b = head_implies E a b
head_implies (term n ps r t ∷ E) a b = head_implies E a b
head_implies (formula n ps c ∷ E) a b = head_implies E a b

-- what intro makes of a goal, if it goes well
abbrev pub Introduces : List Declaration → List Slot → Formula → Part → Type 0
Introduces E c a p = intro_one E c None (head_form E a) ≡ Ok p

pub intros_all : (E : List Declaration) (more kept : List Slot) (s x : List ℕ) (b : Formula) → (p : Part) ×
    Introduces E (more ++ kept) (all s x b) p × (intro_all E more kept (all s x b) ≡ intro_all E (p.more ++ more) kept p.shown)
intros_all E more kept s x b = (
  part (slot (fresh E (more ++ kept) x) (variable s) ∷ []) (more ++ kept) b,
  ap (intro_one E (more ++ kept) None) (head_all E s x b),
  refl,
)

pub intros_implies : (E : List Declaration) (more kept : List Slot) (a b : Formula) → (p : Part) ×
    Introduces E (more ++ kept) (implies a b) p × (intro_all E more kept (implies a b) ≡ intro_all E (p.more ++ more) kept p.shown)
intros_implies E more kept a b = (
  part (slot (fresh E (more ++ kept) (codes "H")) (hypothesis a) ∷ []) (more ++ kept) b,
  ap (intro_one E (more ++ kept) None) (head_implies E a b),
  refl,
)
