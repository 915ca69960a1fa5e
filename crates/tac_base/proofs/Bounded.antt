-- Rules one after another, of which binders in the formulas that they name go less than so deep.
use Rattle.std.proofs.Common.{◌≡◌, ℕ, suc, ◌+◌, ◌<◌, ◌≤◌, ◌^◌, List, [], ◌∷◌, length, drop, get_or, map, sym, ap, subst, ◌∙◌, arith}
use Rattle.std.proofs.Math.Seq.{drop-cons}
use Rattle.std.proofs.lemmas.List.{length-map}
use Rattle.fol_theory.specs.Syntax.{Formula}
use Rattle.fol_theory.specs.Contexts.{variables, Sequent}
use Rattle.fol_theory.specs.Measures.{depth}
use Rattle.env_theory.specs.Declarations.{Declaration}
use Rattle.logic_theory.specs.Rules.{Rule, leaf, step, Formed, Follows}
use Rattle.proof_tree.specs.Bounds.{AreBelow}
use Rattle.proof_tree.specs.Meaning.{meaning, meanings}
use Rattle.proof_tree.specs.declared.rule.Rule.{Rule as Made}
use Rattle.proof_tree.specs.Places.{AtPlaces, IndicesFit}
use Rattle.proof_tree.proofs.Indices.{indices_fit}
use Rattle.tac_base.specs.Low.{IsLow}

below_cons : (d : ℕ) (r : Rule) (rs : List Rule) → IsLow d r → AreBelow d rs → AreBelow d (r ∷ rs)
below_cons d (leaf ns) rs h k = k
below_cons d (step r) rs h k = (h, k)

-- a rule before the others
pub one_low : {A : Type 0} (d : ℕ) (f : A → Made) (rs : List A) (i : ℕ) (x : A) → i < length rs → x ≡ get_or rs i x → IsLow d (meaning (f x))
    → AreBelow d (meanings (map f (drop (i + 1) rs))) → AreBelow d (meanings (map f (drop i rs)))
one_low {A} d f rs i x h e l k =
    let more : i + 1 ≡ suc i = omega arith in
    let whole : drop i rs ≡ x ∷ drop (suc i) rs = drop-cons rs i x h ∙ ap (λ y. y ∷ drop (suc i) rs) (sym e) in
    subst (λ ls. AreBelow d (meanings (map f ls))) (sym whole) (below_cons d (meaning (f x)) (meanings (map f (drop (suc i) rs))) l
    (subst (λ j. AreBelow d (meanings (map f (drop j rs)))) more k))

-- ---- no index passes

pub fitting : {A : Type 0} (E : List Declaration) (p : Sequent) (f : A → Made) (xs : List A) (t : List Made) (a : Formula) (most n : ℕ)
    → map f xs ≡ t → n ≡ length xs → p.goal ≡ a → length (variables p.context) ≤ most → Formed E p → Follows E (meanings t) (p ∷ [])
    → depth a < 2 ^ 32 → AreBelow (2 ^ 32) (meanings (map f xs)) → most + n + 2 ^ 32 < 2 ^ 64 → AtPlaces IndicesFit (meanings t) (p ∷ [])
fitting E p f xs t a most n e k g l h w d b r =
    let long : length (meanings t) ≡ n =
    ap (λ z. length (meanings z)) (sym e) ∙ length-map (map f xs) meaning ∙ length-map xs f ∙ sym k in
    let deep : depth p.goal < 2 ^ 32 = subst (λ z. depth z < 2 ^ 32) (sym g) d in
    indices_fit E (2 ^ 32) most (meanings t) (p ∷ []) w (h, tt) ((l, omega (arith, deep)), tt)
    (subst (λ z. AreBelow (2 ^ 32) (meanings z)) e b) (omega (arith, long, r))
