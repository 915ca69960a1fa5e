-- A refinement of the first focused goal of a state.
use Rattle.std.proofs.Common.{◌≡◌, List, ◌∷◌, Result, refl, sym, ap, subst, ◌∙◌}
use Rattle.std.specs.Global.{Vec}
use Rattle.env_theory.specs.Declarations.{Declaration}
use Rattle.logic_theory.specs.Goals.{Goal}
use Rattle.vern_sentence.specs.Trees as sentence
use Rattle.vern_parse.specs.declared.raw.RawName.{RawName}
use Rattle.vern_parse.specs.declared.raw.RawTac.{RawTac}
use Rattle.vern_parse.specs.declared.raw.RawTac.TheVariants.{Intros}
use Rattle.vern_parse.specs.Sentences.{refinement}
use Rattle.tactic_theory.specs.States.{State, row_fault, refined, typed_then, inner_of, by_refinement, refine_first, run_one}
use Rattle.tactic_theory.specs.Typing.{typed}
use Rattle.script_theory.specs.Sizes.{large}
use Rattle.proof_state.specs.declared.state.State.{State as Kept}
use Rattle.proof_state.specs.States.{state_of}
use Rattle.tac_base.specs.declared.fault.TacFault.{TacFault}
use Rattle.tac_base.specs.Faults.{Gives}

-- a refinement that isn't intros is one row
pub inner_other : (t : RawTac) → ((xs : Vec RawName) → t ≡ Intros xs → ⊥) → inner_of (refinement t) ≡ by_refinement (refinement t)
inner_other (Intros xs) n = absurd (n xs refl)
inner_other t n = refl

pub first_runs : (E D : List Declaration) (g h : Goal) (gs : List Goal) (s : State) (x : sentence.Refinement) (r : Result Kept TacFault)
    → D ≡ E → h ≡ g → s.focused ≡ g ∷ gs → inner_of x ≡ by_refinement x
    → ((ks : List Goal) → s.focused ≡ h ∷ ks → Gives state_of row_fault r (refined ks s.frames (typed_then (large D) D h (typed D h x))))
    → Gives state_of row_fault r (run_one (large E) (typed E) E (inner_of x) s)
first_runs E D g h gs s x r e k is one z =
    let w = subst (λ F. Gives state_of row_fault r (refined gs s.frames (typed_then (large F) F h (typed F h x)))) e
    (z gs (is ∙ ap (λ y. y ∷ gs) (sym k))) in
    let v = subst (λ y. Gives state_of row_fault r (refined gs s.frames (typed_then (large E) E y (typed E y x)))) k w in
    subst (λ i. Gives state_of row_fault r (run_one (large E) (typed E) E i s)) (sym one)
    (subst (λ l. Gives state_of row_fault r (refine_first (large E) (typed E) E l s.frames x)) (sym is) v)
