-- How many nodes and which height the formula of an expression has, told from the expression alone.
use Rattle.std.specs.Prelude.{ℕ, ◌+◌, max, length, List, [], ◌∷◌}
use Rattle.vern_grammar.specs.Trees.{
  Operator,
  implication,
  equivalence,
  disjunction,
  conjunction,
  equation,
  inequation,
  Name,
  Group,
  Expression,
  constant,
  application,
  binary,
  negation,
  quantified,
  Expressions,
}
use Rattle.vern_grammar.specs.Trees as tree

-- how many names groups bind
abbrev pub names_in : List Group → ℕ
names_in [] = 0
names_in (g ∷ gs) = length g.names + names_in gs

-- the nodes of two formulas, or of two terms, joined by an operator
abbrev pub operator_nodes : Operator → ℕ → ℕ → ℕ
operator_nodes implication m n = m + n + 1
operator_nodes equivalence m n = (m + n + 1) + (n + m + 1) + 1
operator_nodes disjunction m n = m + n + 1
operator_nodes conjunction m n = m + n + 1
operator_nodes equation m n = m + n + 1
operator_nodes inequation m n = (m + n + 1) + 1 + 1

-- the height of two formulas, or of two terms, joined by an operator
abbrev pub operator_height : Operator → ℕ → ℕ → ℕ
operator_height implication m n = max m n + 1
operator_height equivalence m n = max m n + 1 + 1
operator_height disjunction m n = max m n + 1
operator_height conjunction m n = max m n + 1
operator_height equation m n = max m n + 1
operator_height inequation m n = max m n + 1 + 1

abbrev mutual
  -- the nodes of the formula or term
  pub nodes_in : Expression → ℕ
  nodes_in (constant b p) = 1
  nodes_in (application x ys p) = all_nodes_in ys + 1
  nodes_in (binary op a b p) = operator_nodes op (nodes_in a) (nodes_in b)
  nodes_in (negation a p) = nodes_in a + 1 + 1
  nodes_in (quantified q gs a p) = nodes_in a + names_in gs

  -- the nodes of all arguments
  pub all_nodes_in : Expressions → ℕ
  all_nodes_in tree.nil = 0
  all_nodes_in (tree.cons a es) = nodes_in a + all_nodes_in es

abbrev mutual
  -- the height of the formula or term
  pub height_in : Expression → ℕ
  height_in (constant b p) = 1
  height_in (application x ys p) = all_height_in ys + 1
  height_in (binary op a b p) = operator_height op (height_in a) (height_in b)
  height_in (negation a p) = max (height_in a) 1 + 1
  height_in (quantified q gs a p) = height_in a + names_in gs

  -- the height of the highest argument
  pub all_height_in : Expressions → ℕ
  all_height_in tree.nil = 0
  all_height_in (tree.cons a es) = max (height_in a) (all_height_in es)
