-- The trees of expressions and shapes, each node with its span.
use Rattle.std.specs.Prelude.{ℕ, Bool, List, [], ◌∷◌}
use Rattle.vern_lex.specs.declared.span.Span.{Span}

-- `->`, `<->`, `\/`, `/\`, `=` and `<>`
pub data Operator : Type 0 where
  implication equivalence disjunction conjunction equation inequation : Operator

-- a name, where it stands
pub record Name : Type 0 where
  pub text : List ℕ
  pub span : Span

-- names and the sort of each
pub record Group : Type 0 where
  pub names : List Name
  pub sort : Name

-- A constant is `True` or `False`; an application of no arguments is a name alone; a quantifier is `forall` or `exists`. Of the two, the
-- flag is
-- true for the first.
mutual
  pub data Expression : Type 0 where
    constant : Bool → Span → Expression
    application : Name → Expressions → Span → Expression
    binary : Operator → Expression → Expression → Span → Expression
    negation : Expression → Span → Expression
    quantified : Bool → List Group → Expression → Span → Expression

  -- arguments, in order
  pub data Expressions : Type 0 where
    nil : Expressions
    cons : Expression → Expressions → Expressions

-- the expressions of a list, in order
abbrev pub expressions : List Expression → Expressions
expressions [] = nil
expressions (t ∷ ts) = cons t (expressions ts)

-- `Set`, `Prop`, an expression and an arrow before a shape, or any other expression
pub data Shape : Type 0 where
  set prop : Span → Shape
  arrow : Expression → Shape → Shape
  plain : Expression → Shape
