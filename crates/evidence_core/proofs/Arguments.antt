-- Evidence applied to the arguments of a list, one after another.
use Rattle.std.proofs.Common.{◌≡◌, ℕ, suc, ◌+◌, ◌<◌, List, [], ◌∷◌, length, drop, get_or, map, sym, ap, subst, ◌∙◌, arith}
use Rattle.std.proofs.Math.Seq.{drop-cons}
use Rattle.vern_grammar.specs.Trees.{expressions}
use Rattle.vern_parse.specs.declared.raw.RawExpr.{RawExpr}
use Rattle.vern_parse.specs.Meaning.{expression}
use Rattle.fol_theory.specs.Slots.{Slot}
use Rattle.base_core.specs.Answers.{and_then}
use Rattle.env_theory.specs.Declarations.{Declaration}
use Rattle.elab_core.specs.declared.fault.ElabFault.{ElabFault}
use Rattle.tactic_theory.specs.Evidence.{Evidence}
use Rattle.tactic_theory.specs.Typing.{with_arguments}
use Rattle.evidence_core.specs.Answers.{Fails}
use Rattle.evidence_core.specs.Showings.{Showing, Comes, StandsFor, applied}
use Rattle.evidence_core.proofs.Refused.{fails_first}

-- what is left of the arguments makes of what is there what all make of what was
abbrev pub Remains : List Declaration → List Slot → Evidence → Showing → List RawExpr → List RawExpr → Type 0
Remains E c e s xs ys = (d : Evidence) × Comes E c d s
    × (with_arguments E c (expressions (map expression xs)) d ≡ with_arguments E c (expressions (map expression ys)) e)

element_at : {X : Type 0} (xs : List X) (i : ℕ) (x : X) → i < length xs → x ≡ get_or xs i x → drop i xs ≡ x ∷ drop (i + 1) xs
element_at xs i x h e = let more : suc i ≡ i + 1 = omega arith in drop-cons xs i x h ∙ ap (λ y. y ∷ drop (suc i) xs) (sym e)
    ∙ ap (λ k. x ∷ drop k xs) more

module _ (E : List Declaration) (c : List Slot) (e : Evidence) (ys : List RawExpr) where
  -- the next argument is the first of what is left
  next_is : (i : ℕ) (y : RawExpr) → i < length ys → y ≡ get_or ys i y → (d : Evidence)
      → with_arguments E c (expressions (map expression (drop i ys))) d
      ≡ and_then (applied E c d (expression y)) (λ q. with_arguments E c (expressions (map expression (drop (i + 1) ys))) q)
  next_is i y h k d = ap (λ l. with_arguments E c (expressions (map expression l)) d) (element_at ys i y h k)

  pub one_taken : (i : ℕ) (y : RawExpr) (s t : Showing) → i < length ys → y ≡ get_or ys i y → Remains E c e s (drop i ys) ys
      → ((d : Evidence) → Comes E c d s → StandsFor E c (applied E c d (expression y)) t) → Remains E c e t (drop (i + 1) ys) ys
  one_taken i y s t h k r f =
      let q = f r.0 r.1 in (
        q.0,
        q.2,
        sym (ap (λ z. and_then z (λ p. with_arguments E c (expressions (map expression (drop (i + 1) ys))) p)) q.1)
            ∙ sym (next_is i y h k r.0) ∙ r.2,
      )

  pub one_refused : (i : ℕ) (y : RawExpr) (s : Showing) (g : ElabFault) → i < length ys → y ≡ get_or ys i y
      → Remains E c e s (drop i ys) ys → ((d : Evidence) → Comes E c d s → Fails g (applied E c d (expression y)))
      → Fails g (with_arguments E c (expressions (map expression ys)) e)
  one_refused i y s g h k r f = subst (Fails g) (sym (next_is i y h k r.0) ∙ r.2)
      (fails_first g (applied E c r.0 (expression y)) (λ q. with_arguments E c (expressions (map expression (drop (i + 1) ys))) q)
      (f r.0 r.1))

  pub all_taken : (s : Showing) (xs : List RawExpr) → xs ≡ [] → Remains E c e s xs ys
      → StandsFor E c (with_arguments E c (expressions (map expression ys)) e) s
  all_taken s xs h r = (r.0, sym r.2 ∙ ap (λ l. with_arguments E c (expressions (map expression l)) r.0) h, r.1)
