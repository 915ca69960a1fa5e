-- What a row answers, from what its parts answer.
use Rattle.std.proofs.Common.{◌≡◌, List, Result, Ok, Err, refl, sym, ap, subst, ◌∙◌}
use Rattle.fol_theory.specs.Syntax.{Formula}
use Rattle.fol_theory.specs.Contexts.{variables}
use Rattle.fol_theory.specs.Slots.{Slot, entries}
use Rattle.base_core.specs.Answers.{and_then}
use Rattle.env_theory.specs.Declarations.{Declaration}
use Rattle.env_theory.specs.Typing.{Environment, WellFormed}
use Rattle.env_theory.specs.Heads.{head_form}
use Rattle.env_theory.specs.Normal.{Same}
use Rattle.env_theory.proofs.Lawfuls.{head_formed}
use Rattle.logic_theory.specs.Goals.{Goal}
use Rattle.logic_theory.specs.Rules.{seq, Formed}
use Rattle.elab_theory.specs.Faults.{Fault as TypingFault}
use Rattle.elab_core.specs.declared.fault.ElabFault.{ElabFault}
use Rattle.elab_core.specs.declared.fault.ElabFault.TheVariants as typing
use Rattle.elab_core.specs.Faults.{Faulty}
use Rattle.vern_sentence.specs.Trees as sentence
use Rattle.tactic_theory.specs.Faults.{Fault, from_typing}
use Rattle.tactic_theory.specs.Refinements.{Part, Refinement, row}
use Rattle.tactic_theory.specs.States.{Frame, row_fault, refined, typed_then}
use Rattle.tactic_theory.specs.Typing.{typed}
use Rattle.script_theory.specs.Sizes.{large}
use Rattle.evidence_core.specs.Answers.{Fails}
use Rattle.evidence_core.proofs.Heads.{head_same}
use Rattle.tac_base.specs.declared.fault.TacFault.{TacFault}
use Rattle.tac_base.specs.declared.fault.TacFault.TheVariants.{NoGoal, NoSuchHyp, NotOfForm, CannotMatch, NameTaken, Elab, TooLarge, NoMemory}
use Rattle.tac_base.specs.Faults.{told_as, RefusesTyping, Refuses}
use Rattle.tac_base.specs.Openings.{Made, Opens, left_by, measured}
use Rattle.tac_base.proofs.Opened.{left_wanted}

-- ---- faults

refuses_typing : {X Y F G : Type 0} (f : Fault → F) (g : Fault → G) (e : ElabFault) (w : Result X F) (v : Result Y G)
    → ((z : Fault) → w ≡ Err (f z) → v ≡ Err (g z)) → RefusesTyping f e w → RefusesTyping g e v
refuses_typing f g (typing.UnknownName p) w v k h = k _ h
refuses_typing f g (typing.WrongKind p) w v k h = k _ h
refuses_typing f g (typing.WrongSort p) w v k h = k _ h
refuses_typing f g (typing.WrongArity p) w v k h = k _ h
refuses_typing f g (typing.AlreadyDeclared p) w v k h = k _ h
refuses_typing f g typing.NotOfForm w v k h = h
refuses_typing f g (typing.TooLarge n m) w v k h = h
refuses_typing f g typing.NoMemory w v k h = h

-- what has the same faults refuses with the same ones
pub refuses_with : {X Y F G : Type 0} (f : Fault → F) (g : Fault → G) (e : TacFault) (w : Result X F) (v : Result Y G)
    → ((z : Fault) → w ≡ Err (f z) → v ≡ Err (g z)) → Refuses f e w → Refuses g e v
refuses_with f g NoGoal w v k h = k _ h
refuses_with f g NoSuchHyp w v k h = k _ h
refuses_with f g NotOfForm w v k h = k _ h
refuses_with f g CannotMatch w v k h = k _ h
refuses_with f g NameTaken w v k h = k _ h
refuses_with f g (Elab e) w v k h = refuses_typing f g e w v k h
refuses_with f g (TooLarge n m) w v k h = k _ h
refuses_with f g NoMemory w v k h = h

-- the first fault stands
pub refuses_then : {X Y : Type 0} (e : TacFault) (w : Result X Fault) (k : X → Result Y Fault) → Refuses (λ f. f) e w
    → Refuses (λ f. f) e (and_then w k)
refuses_then e w k h = refuses_with (λ f. f) (λ f. f) e w (and_then w k) (λ z q. ap (λ v. and_then v k) q) h

-- a fault of typing
pub typing_refuses : {X : Type 0} (f : ElabFault) (w : Result X TypingFault) → Faulty f w → Refuses (λ z. z) (told_as f) (from_typing w)
typing_refuses (typing.UnknownName p) w h = ap from_typing h
typing_refuses (typing.WrongKind p) w h = ap from_typing h
typing_refuses (typing.WrongSort p) w h = ap from_typing h
typing_refuses (typing.WrongArity p) w h = ap from_typing h
typing_refuses (typing.AlreadyDeclared p) w h = ap from_typing h
typing_refuses typing.NotOfForm w h = absurd h
typing_refuses (typing.TooLarge n m) w h = absurd h
typing_refuses typing.NoMemory w h = tt

-- a fault of evidence
pub evidence_refuses : {X : Type 0} (f : ElabFault) (w : Result X Fault) → Fails f w → Refuses (λ z. z) (told_as f) w
evidence_refuses (typing.UnknownName p) w h = h
evidence_refuses (typing.WrongKind p) w h = h
evidence_refuses (typing.WrongSort p) w h = h
evidence_refuses (typing.WrongArity p) w h = h
evidence_refuses (typing.AlreadyDeclared p) w h = h
evidence_refuses typing.NotOfForm w h = h
evidence_refuses (typing.TooLarge n m) w h = absurd h
evidence_refuses typing.NoMemory w h = tt

-- ---- rows

-- what is made for the form that is there
pub row_opens : (E : List Declaration) (g : Goal) (form : Formula → Result (List Part) Fault) (h k : Formula) (ps : List Part) (m n : Made)
    → h ≡ k → form k ≡ Ok ps → m ≡ n → Opens E g ps n → (qs : List Part) × (form h ≡ Ok qs) × Opens E g qs m
row_opens E g form h k ps m n e w is o = (ps, ap form e ∙ w, subst (Opens E g ps) (sym is) o)

-- the head form of the goal is well formed, and the same
pub headed : (E : List Declaration) → Environment E → (c : List Slot) (g : Formula) → Formed E (seq (entries c) g) → (h : Formula)
    → head_form E g ≡ h → WellFormed E (variables (entries c)) h × Same E h g
headed E x c g f h e = (
  subst (WellFormed E (variables (entries c))) e (head_formed E x (variables (entries c)) g f.1),
  subst (λ z. Same E z g) e (head_same E x (variables (entries c)) g f.1),
)

-- ---- a refinement of the first goal

-- the row of a refinement with its arguments typed
abbrev pub wanted_of : List Declaration → Goal → sentence.Refinement → Result (List Part) Fault
wanted_of E g x = and_then (typed E g x) (row E g.slots g.shown)

measured_typed : (E : List Declaration) (g : Goal) (r : Result Refinement Fault)
    → measured E (and_then r (row E g.slots g.shown)) ≡ typed_then (large E) E g r
measured_typed E g (Ok r) = refl
measured_typed E g (Err e) = refl

-- what opens to the parts that are wanted leaves open what the refinement does
pub opened_step : (E : List Declaration) (g : Goal) (x : sentence.Refinement) (ps : List Part) (m : Made) → wanted_of E g x ≡ Ok ps
    → Opens E g ps m → left_by E g m ≡ typed_then (large E) E g (typed E g x)
opened_step E g x ps m e o = left_wanted E g ps m o ∙ ap (measured E) (sym e) ∙ measured_typed E g (typed E g x)

-- a fault is that of the refinement
pub refused_step : (E : List Declaration) (g : Goal) (x : sentence.Refinement) (gs : List Goal) (fs : List Frame) (e : TacFault)
    → Refuses (λ f. f) e (measured E (wanted_of E g x)) → Refuses row_fault e (refined gs fs (typed_then (large E) E g (typed E g x)))
refused_step E g x gs fs e h = refuses_with (λ f. f) row_fault e (measured E (wanted_of E g x))
    (refined gs fs (typed_then (large E) E g (typed E g x)))
    (λ z q. ap (refined gs fs) (sym (measured_typed E g (typed E g x)) ∙ q)) h
