-- A tree that names only Stated declarations that are kept is one over the environment without the others.
use Rattle.std.proofs.Common.{◌≡◌, ℕ, Bool, true, List, [], ◌∷◌, ◌++◌}
use Rattle.fol_theory.specs.Syntax.{Formula, truth, equal, both, either, implies, all, ex}
use Rattle.fol_theory.specs.Contexts.{Entry, variables, Sequent}
use Rattle.fol_theory.specs.Substitution.{instantiate}
use Rattle.env_theory.specs.Declarations.{Declaration}
use Rattle.env_theory.specs.Thinned.{thinned}
use Rattle.env_theory.proofs.Thinning.{thinned_same, thinned_is_sort, thinned_sort, thinned_formed, kept_stays}
use Rattle.logic_theory.specs.Rules.{
  Step,
  hyp,
  known,
  true_i,
  false_e,
  and_i,
  and_e,
  or_i1,
  or_i2,
  or_e,
  imp_i,
  imp_e,
  cut,
  conv,
  all_i,
  ex_e,
  all_e,
  ex_i,
  eq_i,
  eq_e,
  drop,
  plain,
  Rule,
  leaf,
  step,
  children,
  Asks,
  Follows,
}
use Rattle.logic_theory.specs.Named.{UsesKept}

module _ (keep : List ℕ → Bool) (E : List Declaration) where
  -- the names of a rule that is no Stated one ask nothing
  abbrev KeptBy : Step → Type 0
  KeptBy (known n) = keep n ≡ true
  KeptBy r = Unit {0}

  asks_kept : (r : Step) (c : List Entry) (g : Formula) → KeptBy r → Asks E r c g → Asks (thinned keep E) r c g
  asks_kept (hyp i) c g k q = (q.0, q.1, thinned_same keep E q.0 g q.2)
  asks_kept (known n) c g k q = (q.0, kept_stays keep E n n q.0 k q.1, thinned_formed keep E [] q.0 q.2, thinned_same keep E q.0 g q.3)
  asks_kept true_i c g k q = thinned_same keep E truth g q
  asks_kept false_e c g k q = tt
  asks_kept (and_i a b) c g k q = (thinned_formed keep E (variables c) (both a b) q.0, thinned_same keep E (both a b) g q.1)
  asks_kept (and_e a b) c g k q = thinned_formed keep E (variables c) (both a b) q
  asks_kept (or_i1 a b) c g k q = (thinned_formed keep E (variables c) (either a b) q.0, thinned_same keep E (either a b) g q.1)
  asks_kept (or_i2 a b) c g k q = (thinned_formed keep E (variables c) (either a b) q.0, thinned_same keep E (either a b) g q.1)
  asks_kept (or_e a b) c g k q = thinned_formed keep E (variables c) (either a b) q
  asks_kept (imp_i a b) c g k q = (thinned_formed keep E (variables c) (implies a b) q.0, thinned_same keep E (implies a b) g q.1)
  asks_kept (imp_e a) c g k q = thinned_formed keep E (variables c) a q
  asks_kept (all_i s b) c g k q = (thinned_formed keep E (variables c) (all s plain b) q.0, thinned_same keep E (all s plain b) g q.1)
  asks_kept (all_e s b t) c g k q = (
    thinned_formed keep E (variables c) (all s plain b) q.0,
    thinned_sort keep E (variables c)
        t s q.1,
    thinned_same keep E (instantiate b t) g q.2,
  )
  asks_kept (ex_i s b t) c g k q = (
    thinned_formed keep E (variables c) (ex s plain b) q.0,
    thinned_sort keep E (variables c) t
        s q.1,
    thinned_same keep E (ex s plain b) g q.2,
  )
  asks_kept (ex_e s b) c g k q = thinned_formed keep E (variables c) (ex s plain b) q
  asks_kept (eq_i s t) c g k q =
      (thinned_is_sort keep E s q.0, thinned_sort keep E (variables c) t s q.1, thinned_same keep E (equal s t t) g q.2)
  asks_kept (eq_e s b t u) c g k q = (
    thinned_is_sort keep E s q.0,
    thinned_formed keep E (s ∷ variables c) b q.1,
    thinned_formed keep E (variables c) (equal s t u) q.2,
    thinned_same keep E (instantiate b t) g q.3,
  )
  asks_kept (cut a) c g k q = thinned_formed keep E (variables c) a q
  asks_kept (drop i) c g k q = q
  asks_kept (conv a) c g k q = (thinned_formed keep E (variables c) a q.0, thinned_same keep E a g q.1)

  first_kept : (r : Step) (rs : List Rule) → UsesKept keep (step r ∷ rs) → KeptBy r × UsesKept keep rs
  first_kept (known n) rs u = u
  first_kept r rs u = (tt, u)

  pub follows_kept : (rs : List Rule) (gs : List Sequent) → UsesKept keep rs → Follows E rs gs → Follows (thinned keep E) rs gs
  follows_kept [] [] u p = p
  follows_kept [] (g ∷ gs) u p = absurd p
  follows_kept (leaf ns ∷ rs) [] u p = absurd p
  follows_kept (step r ∷ rs) [] u p = absurd p
  follows_kept (leaf ns ∷ rs) (g ∷ gs) u p = (p.0, follows_kept rs gs u p.1)
  follows_kept (step r ∷ rs) (g ∷ gs) u p = let k = first_kept r rs u in (
    asks_kept r g.context g.goal k.0 p.0,
    follows_kept rs (children r g.context g.goal ++ gs) k.1 p.1,
  )
