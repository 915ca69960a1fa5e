-- What keeps a state fitting.
use Rattle.std.proofs.Common.{◌≡◌, List, [], ◌∷◌, ◌++◌, drop, sym, ap, subst, ◌∙◌, append_assoc}
use Rattle.env_theory.specs.Declarations.{Declaration}
use Rattle.fol_theory.specs.Slots.{names}
use Rattle.logic_theory.specs.Rules.{Rule, leaf, Follows}
use Rattle.logic_theory.specs.Goals.{Goal, goal, sequent, goals}
use Rattle.logic_theory.specs.Grafts.{graft}
use Rattle.logic_theory.proofs.Grafting.{label_names, names_entries, follows_graft, goals_graft}
use Rattle.tactic_theory.specs.States.{Frame, state, goals_behind, goals_of}
use Rattle.proof_state.specs.States.{refined}

-- rules follow from a goal, and leave these goals open
abbrev pub LeadsTo : List Declaration → Goal → List Rule → List Goal → Type 0
LeadsTo E g rs hs = Follows E rs (sequent g ∷ []) × (goals rs (sequent g ∷ []) ≡ hs)

-- the same tree with the same goals
pub kept : {rs qs : List Rule} {hs ks : List Goal} (E : List Declaration) (g : Goal) → qs ≡ rs → ks ≡ hs → LeadsTo E g rs hs → LeadsTo E g qs ks
kept {rs} {qs} {hs} {ks} E g e k h = subst (λ z. LeadsTo E g z ks) (sym e) (subst (LeadsTo E g rs) (sym k) h)

-- the goal alone, left open with the names of its slots
pub begun : {rs : List Rule} {gs hs : List Goal} {fs : List Frame} (E : List Declaration) (g : Goal) → rs ≡ leaf (names g.slots) ∷ []
    → gs ≡ g ∷ hs → hs ≡ [] → fs ≡ [] → LeadsTo E g rs (goals_of (state gs fs))
begun {fs = fs} E g e k n m =
    kept E g e (ap (λ z. z ++ goals_behind fs) (k ∙ ap (λ z. g ∷ z) n) ∙ ap (λ z. g ∷ goals_behind z) m)
    ((names_entries g.slots, tt), λ i. goal (label_names g.slots i) g.shown ∷ [])

-- a part that follows from the first goal, at the first leaf
pub grafted_leads : {h : Goal} {fs hs : List Goal} (E : List Declaration) (g : Goal) (ps rs : List Rule) (qs : List Frame) → fs ≡ h ∷ hs
    → Follows E ps (sequent h ∷ []) → LeadsTo E g rs (fs ++ goals_behind qs) → LeadsTo E g (graft ps rs) (refined ps fs ++ goals_behind qs)
grafted_leads {h} {fs} {hs} E g ps rs qs e p w =
    let others = hs ++ goals_behind qs in
    let open_now : goals rs (sequent g ∷ []) ≡ h ∷ others = w.1 ∙ ap (λ z. z ++ goals_behind qs) e in (
      follows_graft E ps others h p rs (sequent g ∷ []) w.0 open_now,
      goals_graft E ps others h p rs (sequent g ∷ []) w.0 open_now
          ∙ sym (append_assoc (goals ps (sequent h ∷ [])) hs (goals_behind qs))
          ∙ sym (ap (λ z. refined ps z ++ goals_behind qs) e),
    )

-- the goals that a part leaves open, and then the others
pub refined_is : {g : Goal} {new gs hs : List Goal} (ps : List Rule) → gs ≡ g ∷ hs → new ≡ goals ps (sequent g ∷ [])
    → new ++ drop 1 gs ≡ refined ps gs
refined_is {g} {new} {gs} {hs} ps e is = ap (λ z. new ++ drop 1 z) e ∙ ap (λ z. z ++ hs) is ∙ sym (ap (refined ps) e)
