-- The three passes over a chain of arrows that is a formula, and the sorts of one that isn't.
use Rattle.std.specs.Prelude.{ℕ, ◌+◌, max, List, [], ◌∷◌, ◌++◌, Result, Ok, Err}
use Rattle.vern_grammar.specs.Trees.{Shape, set, prop, arrow, plain}
use Rattle.fol_theory.specs.Syntax.{Formula, truth, implies}
use Rattle.env_theory.specs.Declarations.{Declaration}
use Rattle.base_core.specs.Answers.{and_then}
use Rattle.elab_theory.specs.Faults.{Fault, wrong_kind}
use Rattle.elab_theory.specs.Sentences.{Last as Meaning, a_predicate, a_function, a_formula, sort_part}
use Rattle.elab_theory.specs.Sizes.{nodes_in, height_in}
use Rattle.elab_core.specs.declared.shape.Last.{Last}
use Rattle.elab_core.specs.declared.shape.Last.TheVariants.{Predicate, Function, Formula as Statement}
use Rattle.elab_core.specs.Checked.{fits_formula}
use Rattle.elab_core.specs.Built.{formula_built}

-- what the last part makes of a chain
abbrev pub last_as : Last → Meaning
last_as Predicate = a_predicate
last_as (Function s) = a_function s
last_as Statement = a_formula

-- sorts and those of the parts before the last, each looked up in turn
abbrev pub sorts_added : List Declaration → List (List ℕ) → Shape → Result (List (List ℕ)) Fault
sorts_added E ss (set p) = Ok ss
sorts_added E ss (prop p) = Ok ss
sorts_added E ss (arrow a x) = and_then (sort_part E a) (λ s. sorts_added E (ss ++ (s ∷ [])) x)
sorts_added E ss (plain a) = Ok ss

-- the first fault of a chain that is a formula
abbrev pub fits_chain : List Declaration → Shape → Result (Unit {0}) Fault
fits_chain E (set p) = Err (wrong_kind p)
fits_chain E (prop p) = Err (wrong_kind p)
fits_chain E (arrow a x) = and_then (fits_formula E [] a) (λ _. fits_chain E x)
fits_chain E (plain a) = fits_formula E [] a

-- its nodes
abbrev pub chain_nodes : Shape → ℕ
chain_nodes (set p) = 0
chain_nodes (prop p) = 0
chain_nodes (arrow a x) = nodes_in a + chain_nodes x + 1
chain_nodes (plain a) = nodes_in a

-- its height
abbrev pub chain_height : Shape → ℕ
chain_height (set p) = 0
chain_height (prop p) = 0
chain_height (arrow a x) = max (height_in a) (chain_height x) + 1
chain_height (plain a) = height_in a

-- the formula itself
abbrev pub chain_built : List Declaration → Shape → Formula
chain_built E (set p) = truth
chain_built E (prop p) = truth
chain_built E (arrow a x) = implies (formula_built E [] a) (chain_built E x)
chain_built E (plain a) = formula_built E [] a
