-- How many nodes a term or a formula has, how high it is, which indices stand in it, and how deep its binders go.
use Rattle.std.specs.Prelude.{ℕ, ◌+◌, ◌-◌, max}
use Rattle.fol_theory.specs.Syntax.{Term, var, app, Terms, nil, cons, Formula, truth, falsity, pred, equal, both, either, implies, all, ex}

-- ---- nodes: each variable, application, predicate, equation, connective, quantifier, True and False is one

abbrev mutual
  -- the nodes of a term
  pub term_nodes : Term → ℕ
  term_nodes (var i) = 1
  term_nodes (app f ts) = terms_nodes ts + 1

  -- the nodes of a list of terms, together
  pub terms_nodes : Terms → ℕ
  terms_nodes nil = 0
  terms_nodes (cons t ts) = term_nodes t + terms_nodes ts

-- the nodes of a formula
abbrev pub nodes : Formula → ℕ
nodes truth = 1
nodes falsity = 1
nodes (pred p ts) = terms_nodes ts + 1
nodes (equal s t u) = term_nodes t + term_nodes u + 1
nodes (both a b) = nodes a + nodes b + 1
nodes (either a b) = nodes a + nodes b + 1
nodes (implies a b) = nodes a + nodes b + 1
nodes (all s x a) = nodes a + 1
nodes (ex s x a) = nodes a + 1

-- ---- height: the nodes on the longest way from the whole down to a leaf, which has height 1

abbrev mutual
  -- the height of a term
  pub term_height : Term → ℕ
  term_height (var i) = 1
  term_height (app f ts) = terms_height ts + 1

  -- the height of the highest of a list of terms, or 0 where there is none
  pub terms_height : Terms → ℕ
  terms_height nil = 0
  terms_height (cons t ts) = max (term_height t) (terms_height ts)

-- the height of a formula
abbrev pub height : Formula → ℕ
height truth = 1
height falsity = 1
height (pred p ts) = terms_height ts + 1
height (equal s t u) = max (term_height t) (term_height u) + 1
height (both a b) = max (height a) (height b) + 1
height (either a b) = max (height a) (height b) + 1
height (implies a b) = max (height a) (height b) + 1
height (all s x a) = height a + 1
height (ex s x a) = height a + 1

-- ---- reach: one more than the greatest index that stands in it, or 0 where none does

abbrev mutual
  -- the reach of a term
  pub term_reach : Term → ℕ
  term_reach (var i) = i + 1
  term_reach (app f ts) = terms_reach ts

  -- the greatest reach of a list of terms
  pub terms_reach : Terms → ℕ
  terms_reach nil = 0
  terms_reach (cons t ts) = max (term_reach t) (terms_reach ts)

-- the reach of a formula, an index under binders counted as it is written
abbrev pub reach : Formula → ℕ
reach truth = 0
reach falsity = 0
reach (pred p ts) = terms_reach ts
reach (equal s t u) = max (term_reach t) (term_reach u)
reach (both a b) = max (reach a) (reach b)
reach (either a b) = max (reach a) (reach b)
reach (implies a b) = max (reach a) (reach b)
reach (all s x a) = reach a
reach (ex s x a) = reach a

-- how many of the variables outside, counted from the newest, it takes to have all that stand in it: 0 where it is closed
abbrev pub range : Formula → ℕ
range truth = 0
range falsity = 0
range (pred p ts) = terms_reach ts
range (equal s t u) = max (term_reach t) (term_reach u)
range (both a b) = max (range a) (range b)
range (either a b) = max (range a) (range b)
range (implies a b) = max (range a) (range b)
range (all s x a) = range a - 1
range (ex s x a) = range a - 1

-- how many binders stand around a place of it, at the most
abbrev pub depth : Formula → ℕ
depth truth = 0
depth falsity = 0
depth (pred p ts) = 0
depth (equal s t u) = 0
depth (both a b) = max (depth a) (depth b)
depth (either a b) = max (depth a) (depth b)
depth (implies a b) = max (depth a) (depth b)
depth (all s x a) = depth a + 1
depth (ex s x a) = depth a + 1
