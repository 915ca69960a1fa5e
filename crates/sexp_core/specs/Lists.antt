-- Which values are lists.
use Rattle.std.specs.Prelude.{Bool, true, false}
use Rattle.sexp_theory.specs.Values.{Value, atom, list}

-- the value is a list
abbrev pub is_list : Value → Bool
is_list (atom bytes) = false
is_list (list vs) = true
