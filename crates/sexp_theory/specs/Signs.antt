-- The bytes that mean something.
use Rattle.std.specs.Prelude.{ℕ, ◌||◌, ◌==◌, Bool, not, nat_lt, if◌then◌else◌}
use Rattle.std.specs.Char.{digit_value}

-- tab, line feed, form feed, carriage return and space
abbrev pub is_blank : ℕ → Bool
is_blank b = b == 9 || b == 10 || b == 12 || b == 13 || b == 32

-- what ends a plain atom: a blank, a parenthesis, a quote, or the `;` of a comment
abbrev pub is_delimiter : ℕ → Bool
is_delimiter b = is_blank b || b == 34 || b == 40 || b == 41 || b == 59

-- a byte of a plain atom
abbrev pub is_plain : ℕ → Bool
is_plain b = not (is_delimiter b)

-- a decimal digit
abbrev pub is_decimal : ℕ → Bool
is_decimal b = nat_lt (digit_value b) 10

-- a hexadecimal digit, its letters large or small
abbrev pub is_hexadecimal : ℕ → Bool
is_hexadecimal b = nat_lt (digit_value b) 16

-- the byte that an escape with one letter stands for, or 256 where there is none
abbrev pub letter_value : ℕ → ℕ
letter_value b =
    if b == 110 then 10 else (if b == 116 then 9 else
    (if b == 114 then 13 else (if b == 98 then 8 else (if b == 34 then 34 else (if b == 92 then 92 else 256)))))
