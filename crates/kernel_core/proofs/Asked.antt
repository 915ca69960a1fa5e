-- What rules ask of hypotheses, of what is stated, and of instances.
use Rattle.std.proofs.Common.{◌≡◌, ◌↔◌, ℕ, ◌+◌, ◌-◌, ◌^◌, ◌≤◌, ◌<◌, Bool, IsTrue, nat_lt, List, [], ◌∷◌, Some, ap, subst, ◌∙◌, arith}
use Rattle.std.proofs.lemmas.Bool.{ltb-true, lt-ltb}
use Rattle.fol_theory.specs.Syntax.{Term, Formula}
use Rattle.fol_theory.specs.Substitution.{first, instantiate}
use Rattle.fol_theory.specs.Measures.{depth}
use Rattle.fol_theory.specs.Contexts.{Entry, variables, count, Sequent, IsHypothesis}
use Rattle.fol_theory.proofs.Numbers.{hypothesis_below, hypothesis_once, hypothesis_there}
use Rattle.env_theory.specs.Declarations.{Declaration, stated, find}
use Rattle.env_theory.specs.Typing.{Environment, HasSort, WellFormed}
use Rattle.env_theory.specs.Normal.{Same}
use Rattle.env_theory.proofs.Sorts.{replace_formed, fits_first}
use Rattle.env_theory.proofs.Declared.{declares_found}
use Rattle.env_theory.proofs.Members.{found_name}
use Rattle.logic_theory.specs.Rules.{FormedContext, hyp, ex_i, eq_e, Asks}
use Rattle.logic_theory.proofs.Trees.{is_member, hypotheses_formed}
use Rattle.proof_tree.specs.Places.{InstanceFits, LiftFits}
use Rattle.proof_tree.proofs.Indices.{instance_fits, lift_fits}
use Rattle.kernel_core.specs.Stacks.{IsReady}

-- a number that is too great is that of no hypothesis
pub no_hypothesis : (c : List Entry) (i : ℕ) → count c ≤ i → (a : Formula) → IsHypothesis c i a → ⊥
no_hypothesis c i h a k = absurd (omega (arith, h, hypothesis_below c i a k))

-- a smaller one is that of one
pub there_is : (c : List Entry) (i n : ℕ) → n ≡ count c → IsTrue (nat_lt i n) ↔ ((a : Formula) × IsHypothesis c i a)
there_is c i n e = (
  (λ t. hypothesis_there c i (omega (arith, e, ltb-true i n t))),
  (λ q. lt-ltb i n (omega (arith, e, hypothesis_below c i q.0 q.1))),
)

-- a hypothesis is well formed under all variables
pub hypothesis_formed : (E : List Declaration) (c : List Entry) (i : ℕ) (a : Formula) → FormedContext E c → IsHypothesis c i a
    → WellFormed E (variables c) a
hypothesis_formed E c i a f h = hypotheses_formed E c a f (is_member c i a h)

-- a formula that is found as stated has the name, and is closed
pub found_stated : (E : List Declaration) → Environment E → (n m : List ℕ) (a : Formula) → find E n ≡ Some (stated m a)
    → (find E n ≡ Some (stated n a)) × WellFormed E [] a
found_stated E e n m a h = (
  h ∙ ap (λ k. Some (stated k a)) (found_name E n (stated m a) h),
  declares_found E e n (stated m a) h,
)

-- an instance is well formed
pub instance_formed : (E : List Declaration) (V : List (List ℕ)) (s : List ℕ) (b : Formula) (t : Term) → WellFormed E (s ∷ V) b
    → HasSort E V t s → WellFormed E V (instantiate b t)
instance_formed E V s b t w h = replace_formed E (first t) (s ∷ V) V (fits_first E V t s h) b w

-- a hypothesis shows the goal exactly where it is the same
pub hypothesis_asked : (E : List Declaration) (c : List Entry) (g : Formula) (i : ℕ) (a : Formula) → IsHypothesis c i a → (b : Bool)
    → IsTrue b ↔ Same E a g → IsTrue b ↔ Asks E (hyp i) c g
hypothesis_asked E c g i a h b k = (
  (λ t. (a, h, k.0 t)),
  (λ q. k.1 (subst (λ z. Same E z g) (hypothesis_once c i q.0 a q.1 h) q.2)),
)

-- ---- that 64 bits hold the indices of what is made

pub instance_room : (E : List Declaration) (g : Sequent) (n : ℕ) (s : List ℕ) (b : Formula) (t : Term) → IsReady E n g
    → Asks E (ex_i s b t) g.context g.goal → n + depth b < 2 ^ 64 - 1 → InstanceFits b t
instance_room E g n s b t r q k = instance_fits E (variables g.context) s b t q.0.1 q.1 (omega (arith, r.1, k))

pub equation_room : (E : List Declaration) (g : Sequent) (n : ℕ) (s : List ℕ) (b : Formula) (t u : Term) → IsReady E n g
    → Asks E (eq_e s b t u) g.context g.goal → n + depth b < 2 ^ 64 - 1 → InstanceFits b u
equation_room E g n s b t u r q k = instance_fits E (variables g.context) s b u q.1 q.2.2 (omega (arith, r.1, k))

pub goal_room : (E : List Declaration) (g : Sequent) (n : ℕ) → IsReady E n g → n + depth g.goal < 2 ^ 64 - 1 → LiftFits g.goal
goal_room E g n r k = lift_fits E (variables g.context) g.goal r.0.1 (omega (arith, r.1, k))
