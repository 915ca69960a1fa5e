-- Sorts of parameters, of variables, and of lists of terms.
use Rattle.std.proofs.Common.{◌≡◌, ◌↔◌, ℕ, suc, List, [], ◌∷◌, length, refl, sym, ap, subst, ◌∙◌}
use Rattle.fol_theory.specs.Syntax.{Term as Meaning, var}
use Rattle.term_core.specs.declared.term.Term.{Term}
use Rattle.term_core.specs.declared.term.Term.TheOpen as layer
use Rattle.term_core.specs.declared.term.Term.TheVariants as made
use Rattle.term_core.specs.declared.term.Term.TheFolds.{fold-roll-Term}
use Rattle.term_core.specs.Term.{meaning, meaning_step, list_meaning}
use Rattle.env_theory.specs.Declarations.{Declaration}
use Rattle.env_theory.specs.Typing.{At, HasSort, HaveSorts}
use Rattle.env_theory.proofs.Sorts.{at_unique}

-- as many terms as sorts
pub as_many : (E : List Declaration) (V : List (List ℕ)) (ts : List Term) (ss : List (List ℕ)) → HaveSorts E V (list_meaning ts) ss
    → length ts ≡ length ss
as_many E V [] [] h = refl
as_many E V [] (s ∷ ss) h = absurd h
as_many E V (t ∷ ts) [] h = absurd h
as_many E V (t ∷ ts) (s ∷ ss) h = ap suc (as_many E V ts ss h.1)

meaning_Var : (i : ℕ) → meaning (made.Var i) ≡ var i
meaning_Var i = ap meaning (sym (made.rolls-Var i)) ∙ fold-roll-Term Meaning meaning_step (layer.Var i)

-- a variable has the sort that is found for it
pub variable_has : (E : List Declaration) (V : List (List ℕ)) (t : Term) (i : ℕ) (r s : List ℕ) (P : Type 0) → t ≡ made.Var i → At V i r
    → P ↔ (r ≡ s) → P ↔ HasSort E V (meaning t) s
variable_has E V t i r s P e h q =
    let m : meaning t ≡ var i = ap meaning e ∙ meaning_Var i in (
      (λ p. subst (λ z. HasSort E V z s) (sym m) (subst (At V i) (q.0 p) h)),
      (λ k. q.1 (at_unique V i r s h (subst (λ z. HasSort E V z s) m k))),
    )
