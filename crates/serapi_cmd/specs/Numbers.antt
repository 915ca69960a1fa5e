-- Numbers.
use Rattle.std.specs.Prelude.{ℕ, ◌+◌, ◌*◌, List, [], ◌∷◌, Bool, false, ◌&&◌, nat_lt, Option, Some, None, Result, Ok, Err, if◌then◌else◌}
use Rattle.std.specs.List.{list_all}
use Rattle.std.specs.Str.Parse.{digits_value}
use Rattle.std.specs.Char.{digit_value}
use Rattle.sexp_theory.specs.Values.{Value, atom, list}
use Rattle.sexp_theory.specs.Signs.{is_decimal}
use Rattle.serapi_cmd.specs.Faults.{Fault, bad_number}

-- one or more decimal digits with a value below 2 ^ 64; zeros may stand first
abbrev pub is_number : List ℕ → Bool
is_number [] = false
is_number (b ∷ bs) = list_all is_decimal (b ∷ bs) && nat_lt (digits_value 10 (b ∷ bs)) 18446744073709551616

-- the number that bytes spell, if they spell one
abbrev pub number_of : List ℕ → Option ℕ
number_of bytes = if is_number bytes then Some (digits_value 10 bytes) else None

-- a number's value, or the fault that a value is no number
abbrev pub number : Value → Result ℕ Fault
number (atom bytes) = if is_number bytes then Ok (digits_value 10 bytes) else Err bad_number
number (list vs) = Err bad_number

-- the number with one digit more, where that is a digit and the number stays below 2 ^ 64
abbrev pub with_digit : ℕ → ℕ → Option ℕ
with_digit n b = if is_decimal b && nat_lt (n * 10 + digit_value b) 18446744073709551616 then Some (n * 10 + digit_value b) else None
