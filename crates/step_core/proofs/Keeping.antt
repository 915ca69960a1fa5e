-- What is kept of an open proof, by the steps of its sentences and at its end.
use Rattle.std.proofs.Common.{◌≡◌, ◌↔◌, ℕ, Bool, false, IsTrue, List, [], ◌∷◌, ◌++◌, map, Option, Some, None, Result, Ok, Err, IfOk, sym, ap, subst, ◌∙◌}
use Rattle.fol_theory.specs.Syntax.{Formula}
use Rattle.std.proofs.lemmas.Bool.{false≢true}
use Rattle.term_core.specs.Formula.{meaning}
use Rattle.env_theory.specs.Declarations.{Declaration, find}
use Rattle.env_theory.specs.Typing.{WellFormed}
use Rattle.logic_theory.specs.Rules.{Rule, seq, Every, Formed, Follows}
use Rattle.logic_theory.specs.Goals.{Goal, goal, sequent, goals}
use Rattle.logic_theory.specs.Proofs.{IsProof}
use Rattle.logic_theory.proofs.Grafting.{goals_leaves, opens_formed}
use Rattle.tactic_theory.specs.States.{goals_of, goals_behind}
use Rattle.proof_state.specs.declared.state.State.{State}
use Rattle.proof_state.specs.States.{state_of, rules_of, Fits}
use Rattle.tac_base.specs.Sites.{FirstFormed}
use Rattle.step_core.specs.declared.proof.Lemma.{Lemma}
use Rattle.step_core.specs.declared.proof.OpenProof.{OpenProof}
use Rattle.step_core.specs.declared.proof.OpenProof.TheVariants.{Of}
use Rattle.step_core.specs.declared.refusal.Refusal.{Refusal}
use Rattle.step_core.specs.Proofs.{statement_of, IsLemma, IsKeptIf, IsNext}

-- the first focused goal of a state that fits is well formed
pub first_formed : (E : List Declaration) (a : Formula) (s : State) → WellFormed E [] a → Fits E (goal [] a) s
    → FirstFormed E (state_of s).focused
first_formed E a s w f = go (state_of s).focused (opens_formed E (goal [] a) (goals_of (state_of s)) (record {
  tree = rules_of s;
  follows = f.0;
  leaves = f.1;
}) (tt, w))
  where
    go : (gs : List Goal) → Every (Formed E) (map sequent (gs ++ goals_behind (state_of s).frames)) → FirstFormed E gs
    go [] h = tt
    go (g ∷ gs) h = h.0

-- the tree of a state that fits and has no goals is a proof
pub is_proof : (E : List Declaration) (g : Goal) (s : State) → Fits E g s → goals_of (state_of s) ≡ []
    → IsProof E (rules_of s) (sequent g)
is_proof E g s f e = (f.0, sym (goals_leaves E (rules_of s) (sequent g ∷ []) f.0) ∙ ap (map sequent) (f.1 ∙ e))

-- a state with the same goals and rules fits where the other does
pub fits_still : (E : List Declaration) (g : Goal) (s u : State) → state_of u ≡ state_of s → rules_of u ≡ rules_of s → Fits E g s
    → Fits E g u
fits_still E g s u e k f = (
  subst (λ rs. Follows E rs (sequent g ∷ [])) (sym k) f.0,
  ap (λ rs. goals rs (sequent g ∷ [])) k ∙ f.1 ∙ ap goals_of (sym e),
)

-- a lemma with the same statement is kept where its state fits
pub same_lemma : (E : List Declaration) (l m : Lemma) → statement_of m ≡ statement_of l → IsLemma E l
    → Fits E (goal [] (meaning l.formula)) m.state → IsLemma E m
same_lemma E l m e k f = record {
  new = subst (λ (w : List ℕ × Formula). find E w.0 ≡ None) (sym e) k.new;
  formed = subst (λ (w : List ℕ × Formula). WellFormed E [] w.1) (sym e) k.formed;
  fits = subst (λ (w : List ℕ × Formula). Fits E (goal [] w.1) m.state) (sym e) f;
}

-- an equal lemma is kept
pub copied_lemma : (E : List Declaration) (l m : Lemma) → m.name ≡ l.name → meaning m.formula ≡ meaning l.formula
    → state_of m.state ≡ state_of l.state → rules_of m.state ≡ rules_of l.state → IsLemma E l → IsLemma E m
copied_lemma E l m n a e k h = same_lemma E l m (λ i. (n i, a i)) h (fits_still E (goal [] (meaning l.formula)) l.state m.state e k h.fits)

-- the state behind a sentence goes on fitting the statement of the open proof
pub next_kept : (E F : List Declaration) (p : Option OpenProof) (l : Lemma) (r : Result State Refusal) → F ≡ E → p ≡ Some (Of l)
    → IsKeptIf E p → IfOk r (λ s. (g : Goal) → Fits F g l.state → Fits F g s) → IfOk r (λ s. IsNext E p s)
next_kept E F p l (Err e) d q k f = tt
next_kept E F p l (Ok s) d q k f =
    let m : IsLemma E l = subst (IsKeptIf E) q k in
    subst (λ z. IsNext E z s) (sym q) (subst (λ D. (g : Goal) → Fits D g l.state → Fits D g s) d f (goal [] (meaning l.formula)) m.fits)

pub next_formed : (E F : List Declaration) (p : Option OpenProof) (l : Lemma) → F ≡ E → p ≡ Some (Of l) → IsKeptIf E p
    → FirstFormed F (state_of l.state).focused
next_formed E F p l d q k =
    let m : IsLemma E l = subst (IsKeptIf E) q k in
    subst (λ D. FirstFormed D (state_of l.state).focused) (sym d) (first_formed E (meaning l.formula) l.state m.formed m.fits)

-- the kernel doesn't refuse the tree of a finished proof
pub never_refused : (E : List Declaration) (a b : Formula) (s : State) (rs : List Rule) (r : Bool) → Fits E (goal [] a) s
    → goals_of (state_of s) ≡ [] → b ≡ a → rs ≡ rules_of s → (IsTrue r ↔ IsProof E rs (seq [] b)) → r ≡ false → ⊥
never_refused E a b s rs r f n e k w q =
    let p : IsProof E (rules_of s) (seq [] a) = is_proof E (goal [] a) s f n in
    let o : IsProof E rs (seq [] b) = subst (λ z. IsProof E z (seq [] b)) (sym k) (subst (λ z. IsProof E (rules_of s) (seq [] z)) (sym e) p) in
    false≢true (sym q ∙ w.1 o)

pub ruleset keeping = (copied_lemma, same_lemma)
