-- That indices fit along the rules of a tree, and that leaves have names.
use Rattle.std.proofs.Common.{◌≡◌, ℕ, ◌+◌, ◌<◌, ◌^◌, List, [], ◌∷◌, ◌++◌, length, sym, ap, arith}
use Rattle.fol_theory.specs.Syntax.{Term, Formula}
use Rattle.fol_theory.specs.Substitution.{replace, shift, substitute, next, first, under, instantiate}
use Rattle.fol_theory.specs.Measures.{depth}
use Rattle.fol_theory.specs.Contexts.{Entry, variables, Sequent}
use Rattle.fol_theory.proofs.AtIndex.{first_put, next_raise}
use Rattle.fol_theory.proofs.Entries.{without_variables}
use Rattle.fol_theory.proofs.Sizes.{depth_kept}
use Rattle.env_theory.specs.Declarations.{Declaration}
use Rattle.env_theory.specs.Typing.{HasSort, WellFormed}
use Rattle.env_theory.proofs.Sorts.{formula_reach, replace_formed, fits_first, fits_next}
use Rattle.logic_theory.specs.Rules.{Step, hyp, known, true_i, false_e, and_i, and_e, or_i1, or_i2, or_e, imp_i, imp_e, cut, conv}
use Rattle.logic_theory.specs.Rules.{all_i, ex_e, all_e, ex_i, eq_i, eq_e, drop, Rule, leaf, step, seq, children}
use Rattle.logic_theory.specs.Rules.{Every, Formed, Asks, Follows}
use Rattle.logic_theory.proofs.Trees.{children_formed, every_join}
use Rattle.proof_tree.specs.Places.{AtPlaces, NamesEntries, InstanceFits, LiftFits, IndicesFit}
use Rattle.proof_tree.specs.Bounds.{IsWithin, NamesBelow, AreBelow}

-- an instance and a formula under one variable more, by index
pub substitute_first : (b : Formula) (t : Term) → substitute 0 t b ≡ instantiate b t
substitute_first b t = ap (λ σ. replace σ b) (sym (first_put t))

pub shift_once : (a : Formula) → shift 0 1 a ≡ under a
shift_once a = ap (λ σ. replace σ a) (sym next_raise)

pub ruleset by_index = (substitute_first, shift_once)

-- ---- a tree that follows the rules has a name for each entry at its leaves

pub follows_named : (E : List Declaration) (rs : List Rule) (gs : List Sequent) → Follows E rs gs → AtPlaces NamesEntries rs gs
follows_named E [] [] p = tt
follows_named E [] (g ∷ gs) p = absurd p
follows_named E (leaf ns ∷ rs) [] p = absurd p
follows_named E (step r ∷ rs) [] p = absurd p
follows_named E (leaf ns ∷ rs) (g ∷ gs) p = (p.0, follows_named E rs gs p.1)
follows_named E (step r ∷ rs) (g ∷ gs) p = (tt, follows_named E rs (children r g.context g.goal ++ gs) p.1)

-- ---- what is well formed has indices below its variables and binders

pub instance_fits : (E : List Declaration) (V : List (List ℕ)) (s : List ℕ) (b : Formula) (t : Term) → WellFormed E (s ∷ V) b
    → HasSort E V t s → length V + depth b < 2 ^ 64 → InstanceFits b t
instance_fits E V s b t w h k =
    let f = replace_formed E (first t) (s ∷ V) V (fits_first E V t s h) b w in
    let r = formula_reach E V (instantiate b t) f in
    (omega (arith, k), omega (arith, r, depth_kept (first t) b, k))

pub lift_fits : (E : List Declaration) (V : List (List ℕ)) (a : Formula) → WellFormed E V a → length V + depth a < 2 ^ 64 → LiftFits a
lift_fits E V a w k =
    let f = replace_formed E next V ([] ∷ V) (fits_next E [] V) a w in
    let r = formula_reach E ([] ∷ V) (under a) f in
    (omega (arith, k), omega (arith, r, depth_kept next a, k))

module _ (E : List Declaration) (d : ℕ) where
  -- at one rule
  pub step_fits : (n : ℕ) (r : Step) (c : List Entry) (g : Formula) → Asks E r c g → WellFormed E (variables c) g → NamesBelow d r
      → IsWithin n d (seq c g) → n + d < 2 ^ 64 → IndicesFit (step r) (seq c g)
  step_fits n (hyp i) c g q w b h k = tt
  step_fits n (known m) c g q w b h k = tt
  step_fits n true_i c g q w b h k = tt
  step_fits n false_e c g q w b h k = tt
  step_fits n (and_i x y) c g q w b h k = tt
  step_fits n (and_e x y) c g q w b h k = tt
  step_fits n (or_i1 x y) c g q w b h k = tt
  step_fits n (or_i2 x y) c g q w b h k = tt
  step_fits n (or_e x y) c g q w b h k = tt
  step_fits n (imp_i x y) c g q w b h k = tt
  step_fits n (imp_e x) c g q w b h k = tt
  step_fits n (all_i s x) c g q w b h k = tt
  step_fits n (all_e s x t) c g q w b h k = tt
  step_fits n (ex_i s x t) c g q w b h k = instance_fits E (variables c) s x t q.0.1 q.1 (omega (arith, b, h.0, k))
  step_fits n (ex_e s x) c g q w b h k = lift_fits E (variables c) g w (omega (arith, h.0, h.1, k))
  step_fits n (eq_i s t) c g q w b h k = tt
  step_fits n (eq_e s x t u) c g q w b h k = instance_fits E (variables c) s x u q.1 q.2.2 (omega (arith, b, h.0, k))
  step_fits n (cut x) c g q w b h k = tt
  step_fits n (drop i) c g q w b h k = tt
  step_fits n (conv x) c g q w b h k = tt

  -- a rule leads to sequents with one variable more at the most
  children_within : (n : ℕ) (r : Step) (c : List Entry) (g : Formula) → NamesBelow d r → IsWithin n d (seq c g)
      → Every (IsWithin (n + 1) d) (children r c g)
  children_within n (hyp i) c g b h = tt
  children_within n (known m) c g b h = tt
  children_within n true_i c g b h = tt
  children_within n false_e c g b h = ((omega (arith, h.0), omega arith), tt)
  children_within n (and_i x y) c g b h = ((omega (arith, h.0), omega (arith, b.0)), ((omega (arith, h.0), omega (arith, b.1)), tt))
  children_within n (and_e x y) c g b h =
      ((omega (arith, h.0), omega (arith, b.0, b.1)), ((omega (arith, h.0), omega (arith, h.1)), tt))
  children_within n (or_i1 x y) c g b h = ((omega (arith, h.0), omega (arith, b.0)), tt)
  children_within n (or_i2 x y) c g b h = ((omega (arith, h.0), omega (arith, b.1)), tt)
  children_within n (or_e x y) c g b h = (
    (omega (arith, h.0), omega (arith, b.0, b.1)),
    ((omega (arith, h.0), omega (arith, h.1)), ((omega (arith, h.0), omega (arith, h.1)), tt)),
  )
  children_within n (imp_i x y) c g b h = ((omega (arith, h.0), omega (arith, b.1)), tt)
  children_within n (imp_e x) c g b h = ((omega (arith, h.0), omega (arith, b, h.1)), ((omega (arith, h.0), omega (arith, b)), tt))
  children_within n (all_i s x) c g b h = ((omega (arith, h.0), omega (arith, b)), tt)
  children_within n (all_e s x t) c g b h = ((omega (arith, h.0), omega (arith, b)), tt)
  children_within n (ex_i s x t) c g b h = ((omega (arith, h.0), omega (arith, b, depth_kept (first t) x)), tt)
  children_within n (ex_e s x) c g b h =
      ((omega (arith, h.0), omega (arith, b)), ((omega (arith, h.0), omega (arith, h.1, depth_kept next g)), tt))
  children_within n (eq_i s t) c g b h = tt
  children_within n (eq_e s x t u) c g b h =
      ((omega (arith, h.0), omega (arith, b, depth_kept (first u) x)), ((omega (arith, h.0), omega arith), tt))
  children_within n (cut x) c g b h = ((omega (arith, h.0), omega (arith, b)), ((omega (arith, h.0), omega (arith, h.1)), tt))
  children_within n (drop i) c g b h = ((omega (arith, h.0, ap length (without_variables c i)), omega (arith, h.1)), tt)
  children_within n (conv x) c g b h = ((omega (arith, h.0), omega (arith, b)), tt)

  others_within : (n : ℕ) (gs : List Sequent) → Every (IsWithin n d) gs → Every (IsWithin (n + 1) d) gs
  others_within n [] h = tt
  others_within n (g ∷ gs) h = ((omega (arith, h.0.0), h.0.1), others_within n gs h.1)

  -- where variables, rules and binders are fewer than 2 ^ 64 together
  pub indices_fit : (n : ℕ) (rs : List Rule) (gs : List Sequent) → Follows E rs gs → Every (Formed E) gs → Every (IsWithin n d) gs
      → AreBelow d rs → n + length rs + d < 2 ^ 64 → AtPlaces IndicesFit rs gs
  indices_fit n [] [] p f w b k = tt
  indices_fit n [] (g ∷ gs) p f w b k = absurd p
  indices_fit n (leaf ns ∷ rs) [] p f w b k = absurd p
  indices_fit n (step r ∷ rs) [] p f w b k = absurd p
  indices_fit n (leaf ns ∷ rs) (g ∷ gs) p f w b k = (tt, indices_fit n rs gs p.1 f.1 w.1 b (omega (arith, k)))
  indices_fit n (step r ∷ rs) (g ∷ gs) p f w b k = (
    step_fits n r g.context g.goal p.0 f.0.1 b.0 w.0 (omega (arith, k)),
    indices_fit (n + 1) rs (children r g.context g.goal ++ gs) p.1
        (every_join (Formed E) (children r g.context g.goal) gs (children_formed E r g.context g.goal p.0 f.0.0 f.0.1) f.1)
        (every_join (IsWithin (n + 1) d) (children r g.context g.goal) gs (children_within n r g.context g.goal b.0 w.0) (others_within n gs w.1))
        b.1 (omega (arith, k)),
  )
