-- What may be wrong with an expression, and where.
use Rattle.vern_lex.specs.declared.span.Span.{Span}

-- Nothing has this name; what has it is of another kind than the one asked for; a term of another sort than the one asked
-- for; another number of arguments; a name that is declared already, or twice among the parameters. Each with its span.
pub data Fault : Type 0 where
  unknown_name wrong_kind wrong_sort wrong_arity already_declared : Span → Fault
