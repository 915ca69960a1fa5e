-- States of a proof: the focused goals, and a stack of bullets and braces with the goals behind them.
use Rattle.logic_theory.specs.Goals.{Goal, goal, Leads, sequent}
use Rattle.env_theory.specs.Declarations.{Declaration}
use Rattle.std.specs.Prelude.{
  ◌≡◌,
  ℕ,
  Bool,
  true,
  false,
  ◌&&◌,
  if◌then◌else◌,
  List,
  [],
  ◌∷◌,
  ◌++◌,
  length,
  Option,
  Some,
  None,
  Result,
  Ok,
  Err,
}
use Rattle.fol_theory.specs.Syntax.{Formula, is_name}
use Rattle.base_core.specs.Answers.{and_then}
use Rattle.vern_sentence.specs.Trees as sentence
use Rattle.tactic_theory.specs.Typing.{texts}
use Rattle.tactic_theory.specs.Faults.{Fault, no_goal}
use Rattle.tactic_theory.specs.Refinements.{Refinement, IsTypedRow, refine, intros_as}
use Rattle.logic_theory.specs.Rules.{Formed}

-- a bullet by its bytes, or a brace
pub data Mark : Type 0 where
  bullet : List ℕ → Mark
  brace : Mark

-- a bullet or a brace, and the goals behind it
pub record Frame : Type 0 where
  pub mark : Mark
  pub behind : List Goal

-- the frames, the newest first
pub record State : Type 0 where
  pub focused : List Goal
  pub frames : List Frame

-- a frame from its parts
abbrev pub frame : Mark → List Goal → Frame
frame m gs = record { mark = m; behind = gs }

-- a state from its parts
abbrev pub state : List Goal → List Frame → State
state gs fs = record { focused = gs; frames = fs }

-- all goals, the focused ones first, then those behind each frame, from the newest frame on
abbrev pub goals_behind : List Frame → List Goal
goals_behind [] = []
goals_behind (f ∷ fs) = f.behind ++ goals_behind fs

-- the goals of a state
abbrev pub goals_of : State → List Goal
goals_of s = s.focused ++ goals_behind s.frames

-- the fault of a step: one of the table, or the wrong bullet, or goals that are left
pub data StepFault : Type 0 where
  row_fault : Fault → StepFault
  bad_bullet : StepFault
  unfinished : ℕ → StepFault

-- ---- bullets and braces

-- no goal is there
abbrev pub is_empty : List Goal → Bool
is_empty [] = true
is_empty (g ∷ gs) = false

-- no goal is behind any of the frames
abbrev pub none_behind : List Frame → Bool
none_behind [] = true
none_behind (f ∷ fs) = is_empty f.behind && none_behind fs

-- the frames above a frame, the goals behind it, and the frames below
pub record Found : Type 0 where
  pub above : List Frame
  pub behind : List Goal
  pub below : List Frame

-- what was found, from its parts
abbrev pub found : List Frame → List Goal → List Frame → Found
found a gs b = record { above = a; behind = gs; below = b }

-- what was found, with one frame more above
abbrev pub one_above : Frame → Option Found → Option Found
one_above f None = None
one_above f (Some w) = Some (found (f ∷ w.above) w.behind w.below)

-- by the mark of a frame: the bullet itself, a brace, another bullet
abbrev pub by_mark : {A : Type 0} → List ℕ → Mark → Option A → Option A → Option A
by_mark b (bullet n) other same = if is_name n b then same else other
by_mark b brace other same = None

-- by the mark of a frame: a brace, or a bullet
abbrev pub by_brace : {A : Type 0} → Mark → Option A → Option A → Option A
by_brace (bullet n) other same = other
by_brace brace other same = same

-- the nearest frame with this bullet above the nearest brace
abbrev pub find_bullet : List ℕ → List Frame → Option Found
find_bullet b [] = None
find_bullet b (f ∷ fs) = by_mark b f.mark (one_above f (find_bullet b fs)) (Some (found [] f.behind fs))

-- the nearest brace
abbrev pub find_brace : List Frame → Option Found
find_brace [] = None
find_brace (f ∷ fs) = by_brace f.mark (one_above f (find_brace fs)) (Some (found [] f.behind fs))

-- the first goal alone, and a frame that keeps the rest
abbrev pub focus : Mark → List Goal → List Frame → Result State StepFault
focus m [] fs = Err (row_fault no_goal)
focus m (g ∷ gs) fs = Ok (state (g ∷ []) (frame m gs ∷ fs))

-- the next goal behind a bullet that stands already
abbrev pub next_bullet : List ℕ → List Goal → List Frame → List Goal → List Frame → Result State StepFault
next_bullet b (g ∷ gs) above behind below = Err bad_bullet
next_bullet b [] above [] below = Err bad_bullet
next_bullet b [] above (h ∷ hs) below = if none_behind above then Ok (state (h ∷ []) (frame (bullet b) hs ∷ below)) else Err bad_bullet

-- a bullet, by whether it stands above the nearest brace
abbrev pub bullet_at : List ℕ → State → Option Found → Result State StepFault
bullet_at b s None = focus (bullet b) s.focused s.frames
bullet_at b s (Some w) = next_bullet b s.focused w.above w.behind w.below

-- a bullet
abbrev pub put_bullet : List ℕ → State → Result State StepFault
put_bullet b s = bullet_at b s (find_bullet b s.frames)

-- an opening brace
abbrev pub brace_in : State → Result State StepFault
brace_in s = focus brace s.focused s.frames

-- a closing brace, by whether one is open
abbrev pub brace_at : List Goal → Option Found → Result State StepFault
brace_at gs None = Err bad_bullet
brace_at (g ∷ gs) (Some w) = Err bad_bullet
brace_at [] (Some w) = if none_behind w.above then Ok (state w.behind w.below) else Err bad_bullet

-- a closing brace
abbrev pub brace_out : State → Result State StepFault
brace_out s = brace_at s.focused (find_brace s.frames)

-- ---- refinements

-- new goals in the place of the first
abbrev pub refined : List Goal → List Frame → Result (List Goal) Fault → Result State StepFault
refined gs fs (Ok hs) = Ok (state (hs ++ gs) fs)
refined gs fs (Err e) = Err (row_fault e)

-- ---- the sentences of a proof, and its end

-- R is what a refinement is before its arguments are typed
pub data Inner (R : Type 0) : Type 0 where
  proof open_brace close_brace : Inner R
  by_refinement : R → Inner R
  by_names : List (List ℕ) → Inner R
  by_bullet : List ℕ → Inner R

-- a refinement sentence; `intros` with names is intro for each
abbrev pub inner_of : sentence.Refinement → Inner sentence.Refinement
inner_of (sentence.intros (x ∷ xs)) = by_names (texts (x ∷ xs))
inner_of r = by_refinement r

-- a refinement whose arguments are typed
abbrev pub typed_then : (Formula → Option (ℕ × ℕ)) → List Declaration → Goal → Result Refinement Fault → Result (List Goal) Fault
typed_then large E g (Ok r) = refine large E g r
typed_then large E g (Err e) = Err e

-- a refinement of the first focused goal
abbrev pub refine_first : {R : Type 0} → (Formula → Option (ℕ × ℕ)) → (Goal → R → Result Refinement Fault) → List Declaration →
    List Goal → List Frame → R → Result State StepFault
refine_first large typed E [] fs r = Err (row_fault no_goal)
refine_first large typed E (g ∷ gs) fs r = refined gs fs (typed_then large E g (typed g r))

-- intro for each name at the first focused goal
abbrev pub name_first : (Formula → Option (ℕ × ℕ)) → List Declaration → List Goal → List Frame → List (List ℕ) → Result State StepFault
name_first large E [] fs ns = Err (row_fault no_goal)
name_first large E (g ∷ gs) fs ns = refined gs fs (intros_as large E ns (g ∷ []))

-- one inner sentence
abbrev pub run_one : {R : Type 0} → (Formula → Option (ℕ × ℕ)) → (Goal → R → Result Refinement Fault) → List Declaration →
    Inner R → State → Result State StepFault
run_one large typed E proof s = Ok s
run_one large typed E open_brace s = brace_in s
run_one large typed E close_brace s = brace_out s
run_one large typed E (by_bullet b) s = put_bullet b s
run_one large typed E (by_refinement r) s = refine_first large typed E s.focused s.frames r
run_one large typed E (by_names ns) s = name_first large E s.focused s.frames ns

-- each inner sentence of a block, until the first fault
abbrev pub run_all : {R : Type 0} → (Formula → Option (ℕ × ℕ)) → (Goal → R → Result Refinement Fault) → List Declaration →
    List (Inner R) → State → Result State StepFault
run_all large typed E [] s = Ok s
run_all large typed E (t ∷ ts) s = and_then (run_one large typed E t s) (λ u. run_all large typed E ts u)

-- no goal is left and no brace is open
abbrev pub qed_at : List Goal → Option Found → Result State StepFault
qed_at (g ∷ gs) o = Err (unfinished (length (g ∷ gs)))
qed_at [] (Some w) = Err bad_bullet
qed_at [] None = Ok (state [] [])

-- the end of a proof
abbrev pub qed : State → Result State StepFault
qed s = qed_at (goals_of s) (find_brace s.frames)

-- the beginning of the proof of a statement
abbrev pub begin : Formula → State
begin a = state (goal [] a ∷ []) []

-- a block: its statement, its inner sentences and Qed, all Good
abbrev pub block : {R : Type 0} → (Formula → Option (ℕ × ℕ)) → (Goal → R → Result Refinement Fault) → List Declaration →
    Formula → List (Inner R) → Result State StepFault
block large typed E a ts = and_then (run_all large typed E ts (begin a)) qed

-- a state fits an environment and a goal: a tree of kernel rules leads from the goal to its goals
abbrev pub FitsState : List Declaration → Goal → State → Type 0
FitsState E g s = Leads E (sequent g ∷ []) (goals_of s)

-- what types the arguments of refinements gives typed ones
abbrev pub IsTyping : {R : Type 0} → List Declaration → (Goal → R → Result Refinement Fault) → Type 0
IsTyping {R} E typed = (g : Goal) (x : R) (r : Refinement) → Formed E (sequent g) → typed g x ≡ Ok r → IsTypedRow E g.slots r
