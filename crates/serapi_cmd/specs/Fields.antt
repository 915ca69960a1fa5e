-- The fields of a list.
use Rattle.std.specs.Prelude.{ℕ, List, Option, Some, None, Result, Ok, Err, codes, Bool, nat_eq}
use Rattle.std.specs.Cmp.Lexicographic.{pointwise}
use Rattle.sexp_theory.specs.Values.{Value, atom, list, Values, nil, cons}
use Rattle.serapi_cmd.specs.Faults.{Fault, bad_field}
use Rattle.base_core.specs.Answers.{and_then}

-- the one value of a list of one
abbrev pub one : Values → Option Value
one (cons v nil) = Some v
one other = None

-- the two values of a list of two
abbrev pub two : Values → Option (Value × Value)
two (cons v (cons w nil)) = Some (v, w)
two other = None

-- the atom and the value of a list of two whose first is an atom
abbrev pub pair : Value → Option (List ℕ × Value)
pair (list (cons (atom word) (cons v nil))) = Some (word, v)
pair other = None

-- an atom's bytes
abbrev pub text : Value → Result (List ℕ) Fault
text (atom bytes) = Ok bytes
text (list vs) = Err (bad_field (codes "text"))

-- the bytes are those of the word
abbrev pub is_word : List ℕ → List ℕ → Bool
is_word bytes word = pointwise nat_eq bytes word

-- each value is read behind what those before it have given; the first fault stands
abbrev pub read_each : {G : Type 0} → (G → Value → Result G Fault) → G → Values → Result G Fault
read_each read given nil = Ok given
read_each read given (cons v vs) = and_then (read given v) (λ more. read_each read more vs)
