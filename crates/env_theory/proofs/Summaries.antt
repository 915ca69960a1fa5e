-- What the row of a definition tells of its normal form: whether that is a parameter, and which.
use Rattle.std.proofs.Common.{◌≡◌, ℕ, List, [], refl, sym, ap, ◌∙◌, arith}
use Rattle.std.proofs.lemmas.Bool.Decides.{nat_tests}
use Rattle.fol_theory.specs.Syntax.{Term, var, app}
use Rattle.env_theory.specs.Declarations.{Declaration}
use Rattle.env_theory.specs.Typing.{HasSort, Environment}
use Rattle.env_theory.specs.Normal.{normal_term}
use Rattle.env_theory.specs.Count.{by_nodes, Table, node, count_term, count_terms, nothing, only, table}
use Rattle.env_theory.proofs.Scales.{nodes_laws}
use Rattle.env_theory.proofs.Weaker.{puts}
use Rattle.env_theory.proofs.Counts.{rows_term}

module _ (E : List Declaration) (x : Environment E) (V : List (List ℕ)) (t : Term) (s : List ℕ) (h : HasSort E V t s) where
  own_part : count_term by_nodes (Table.functions (table by_nodes E)) 1 nothing t ≡ count_term by_nodes [] 1 nothing (normal_term E t)
  own_part = rows_term by_nodes nodes_laws E E (puts E x) 1 nothing V t s h

  -- a term whose normal form is a variable has no node of its own,
  pub own_nothing : (i : ℕ) → normal_term E t ≡ var i → count_term by_nodes (Table.functions (table by_nodes E)) 1 nothing t ≡ 0
  own_nothing i e = own_part ∙ ap (count_term by_nodes [] 1 nothing) e

  a_node : (n : ℕ) → node by_nodes 1 n ≡ 0 → ⊥
  a_node n e = omega (arith, e)

  is_variable : (u : Term) → normal_term E t ≡ u → count_term by_nodes [] 1 nothing u ≡ 0 → (i : ℕ) × (normal_term E t ≡ var i)
  is_variable (var i) e k = (i, e)
  is_variable (app f ts) e k = absurd (a_node (count_terms by_nodes [] 1 nothing ts) k)

  -- and only such a term;
  pub own_variable : count_term by_nodes (Table.functions (table by_nodes E)) 1 nothing t ≡ 0 → (i : ℕ) × (normal_term E t ≡ var i)
  own_variable k = is_variable (normal_term E t) refl (sym own_part ∙ k)

  -- the variable is the one that stands in it once, where the others don't
  pub variable_uses : (i : ℕ) → normal_term E t ≡ var i → (k : ℕ)
      → count_term by_nodes (Table.functions (table by_nodes E)) 0 (only k) t ≡ only k i
  variable_uses i e k = rows_term by_nodes nodes_laws E E (puts E x) 0 (only k) V t s h ∙ ap (count_term by_nodes [] 0 (only k)) e

-- so it is found by its count
pub used_is : (i k : ℕ) → only k i ≡ 1 → i ≡ k
used_is i k e = grind (arith, nat_tests)
