-- What is left of a formula, at terms with which it fits a goal: the tree leads from the goal to the premises.
use Rattle.std.proofs.Common.{◌≡◌, ℕ, ◌+◌, true, List, [], ◌∷◌, ◌++◌, map, flat_map, length, reverse, append-nil, Some, refl, sym, ap, subst, ◌∙◌, arith}
use Rattle.fol_theory.specs.Syntax.{Term, Formula}
use Rattle.fol_theory.specs.Substitution.{replace}
use Rattle.fol_theory.specs.Contexts.{variables}
use Rattle.fol_theory.specs.Slots.{Slot, entries, names}
use Rattle.match_theory.specs.Instances.{fill}
use Rattle.match_theory.specs.Places.{occurs, all_below}
use Rattle.match_theory.proofs.Occurring.{formula_occurs, below_all}
use Rattle.env_theory.specs.Declarations.{Declaration}
use Rattle.env_theory.specs.Typing.{WellFormed, Environment, Fits}
use Rattle.env_theory.specs.Heads.{head_form}
use Rattle.env_theory.specs.Normal.{normal, Same}
use Rattle.env_theory.proofs.Keeps.{normal_formed}
use Rattle.env_theory.proofs.Lawfuls.{head_formed}
use Rattle.env_theory.proofs.Sameness.{same_replace, alike_same}
use Rattle.logic_theory.specs.Goals.{goal, goals}
use Rattle.logic_theory.specs.Proofs.{IsProof}
use Rattle.logic_theory.specs.Rules.{Rule, seq, Follows}
use Rattle.tactic_theory.specs.Strips.{Strip, Stripped, unstripped as none, quantifier, premise, strip, all_strips, fitting, FitsGoal}
use Rattle.tactic_theory.specs.Refinements.{opened, put_in, premise_parts}
use Rattle.tactic_theory.proofs.Instanced.{fits_instance}
use Rattle.tactic_theory.proofs.Stripped.{strips_stripped, fitting_stripped, fitting_least}
use Rattle.strip_core.specs.Trees.{Descent, unstripped, descend, through}
use Rattle.strip_core.proofs.Settled.{normal_same}
use Rattle.strip_core.proofs.Descents.{reached}

-- ---- the new goals

premise_goals : (c : List Slot) (ts : List Term) (ps : List Formula) → map (goal c) (map (replace (fill ts)) ps) ≡ map opened (premise_parts c ts ps)
premise_goals c ts [] = refl
premise_goals c ts (p ∷ ps) = ap (λ l. goal c (replace (fill ts) p) ∷ l) (premise_goals c ts ps)

pub premises_put_in : (c : List Slot) (ts : List Term) (ps : List Formula)
    → map (replace (fill ts)) ps ≡ flat_map put_in (premise_parts c ts ps)
premises_put_in c ts [] = refl
premises_put_in c ts (p ∷ ps) = ap (λ l. replace (fill ts) p ∷ l) (premises_put_in c ts ps)

-- ---- what is left

-- what is left is well formed
pub rest_formed : (E : List Declaration) → Environment E → (V : List (List ℕ)) (a : Formula) → WellFormed E V a → (s : Strip)
    → Stripped E a s → WellFormed E (s.sorts ++ V) s.rest
rest_formed E x V a w s none = w
rest_formed E x V a w s (quantifier u r y b k q) =
    (subst (WellFormed E (u.sorts ++ V)) q (head_formed E x (u.sorts ++ V) u.rest (rest_formed E x V a w u k))).1
rest_formed E x V a w s (premise u p b k q) =
    (subst (WellFormed E (u.sorts ++ V)) q (head_formed E x (u.sorts ++ V) u.rest (rest_formed E x V a w u k))).1

module _ (E : List Declaration) (x : Environment E) (V : List (List ℕ)) (s : Strip) (ts : List Term) (g : Formula)
    (m : WellFormed E (s.sorts ++ V) s.rest) (w : WellFormed E V g) (k : FitsGoal E g s ts) where
  -- with the terms it is the same as the goal
  pub fits_same : Same E (replace (fill ts) s.rest) g
  fits_same =
      sym (same_replace E (fill ts) (normal E s.rest) s.rest (normal_same E x (s.sorts ++ V) s.rest m))
      ∙ alike_same E (replace (fill ts) (normal E s.rest)) (normal E g) k.1
      ∙ normal_same E x V g w

  -- and the terms have the sorts of the open variables, where each of these occurs
  pub fits_sorts : all_below (length s.sorts) (λ i. occurs i (normal E s.rest)) ≡ true → Fits E (fill ts) (s.sorts ++ V) V
  fits_sorts o = fits_instance E s.sorts V ts (normal E s.rest) (normal E g) k (normal_formed E x (s.sorts ++ V) s.rest m)
      (normal_formed E x V g w)
      (λ i h. formula_occurs i (normal E s.rest) (below_all (length s.sorts) (λ j. occurs j (normal E s.rest)) o i h))

-- ---- the tree

-- The tree of a part and the strips of a formula leads from what is left, with these terms, to its premises.
pub record LeadsOn (E : List Declaration) (c : List Slot) (part : List Rule) (s : Strip) (ts : List Term) (d : Descent) (z : Formula) : Type 0 where
  pub follows : Follows E (through part (names c) d) (seq (entries c) z ∷ [])
  pub leaves : goals (through part (names c) d) (seq (entries c) z ∷ []) ≡ map opened (premise_parts c ts s.premises)
  pub formulas : d.premises ≡ flat_map put_in (premise_parts c ts s.premises)

module _ (E : List Declaration) (x : Environment E) (c : List Slot) (a : Formula) (w : WellFormed E (variables (entries c)) a)
    (part : List Rule) (heads : (b : Formula) → WellFormed E (variables (entries c)) b → Same E (head_form E b) b)
    (lead : (z : Formula) → Same E a z → IsProof E part (seq (entries c) z)) where
  pub leads_on : (s : Strip) → Stripped E a s → (ts : List Term) → length ts ≡ length s.sorts
      → Fits E (fill ts) (s.sorts ++ variables (entries c)) (variables (entries c)) → (z : Formula) → Same E (replace (fill ts) s.rest) z
      → LeadsOn E c part s ts (descend (length s.sorts + length s.premises) E (reverse ts) (unstripped a)) z
  leads_on s st ts e f z q =
      let m = reached E x c a part heads lead w s st ts e f in
      let n : ℕ = length s.sorts + length s.premises in
      let whole : descend n E (reverse ts) (unstripped a) ≡ m.to =
      (λ i. descend (no_more n i) E (sym (append-nil (reverse ts)) i) (unstripped a)) ∙ m.by 0 [] in
      let up = m.is.led z (subst (λ y. Same E y z) (sym m.is.rest) q) in
      subst (λ d. LeadsOn E c part s ts d z) (sym whole) (record {
        follows = up.0;
        leaves = up.1 ∙ ap (map (goal c)) m.is.premises ∙ premise_goals c ts s.premises;
        formulas = m.is.premises ∙ premises_put_in c ts s.premises;
      })
    where
      no_more : (n : ℕ) → n ≡ n + 0
      no_more n = omega arith

  -- the first strip that fits a goal, where each open variable occurs in what is left
  pub fitting_leads : (g : Formula) → WellFormed E (variables (entries c)) g → (s : Strip) (ts : List Term)
      → fitting E g (all_strips E a) ≡ Some (s, ts) → all_below (length s.sorts) (λ i. occurs i (normal E s.rest)) ≡ true
      → LeadsOn E c part s ts (descend (length s.sorts + length s.premises) E (reverse ts) (unstripped a)) g
  fitting_leads g k s ts e o =
      let V : List (List ℕ) = variables (entries c) in
      let st = fitting_stripped E a g (all_strips E a) (strips_stripped _ E a (strip [] [] a) none) (s, ts) e in
      let fit = (fitting_least E g (all_strips E a) (s, ts) e).is in
      let m = rest_formed E x V a w s st in
      leads_on s st ts fit.0 (fits_sorts E x V s ts g m k fit o) g (fits_same E x V s ts g m k fit)
