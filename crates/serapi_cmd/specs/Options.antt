-- The options of an Add and of a Query.
use Rattle.std.specs.Prelude.{ℕ, ◌&&◌, List, Bool, true, false, not, Option, Some, None, is_some, unwrap_or, Result, Ok, Err}
use Rattle.std.specs.Prelude.{if◌then◌else◌, codes}
use Rattle.sexp_theory.specs.Values.{Value, atom, list, nil, cons}
use Rattle.serapi_cmd.specs.declared.command.AddOpts.{AddOpts}
use Rattle.serapi_cmd.specs.declared.command.QueryOpts.{QueryOpts}
use Rattle.serapi_cmd.specs.Faults.{Fault, bad_field}
use Rattle.base_core.specs.Answers.{and_then}
use Rattle.serapi_cmd.specs.Fields.{is_word, pair, read_each}
use Rattle.serapi_cmd.specs.Numbers.{number}

-- `true` or `false`
abbrev pub flag : Value → Result Bool Fault
flag (atom word) = if is_word word (codes "true") then Ok true else
    (if is_word word (codes "false") then Ok false else Err (bad_field (codes "verb")))
flag (list vs) = Err (bad_field (codes "verb"))

-- ---- the options of an Add, each at most once

-- those that are given so far, each with its value
pub record AddSettings : Type 0 where
  pub ontop : Option ℕ
  pub lim : Option ℕ
  pub verb : Option Bool

-- what one option more gives: `(ontop n)`, `(lim n)` or `(verb b)`, which isn't given yet
abbrev pub add_setting : AddSettings → List ℕ → Value → Result AddSettings Fault
add_setting given word v =
    if is_word word (codes "ontop") && not (is_some given.ontop) then and_then (number v) (λ n. Ok (record given { ontop = Some n }))
    else (if is_word word (codes "lim") && not (is_some given.lim) then and_then (number v) (λ n. Ok (record given { lim = Some n }))
    else (if is_word word (codes "verb") && not (is_some given.verb) then and_then (flag v) (λ b. Ok (record given { verb = Some b }))
    else Err (bad_field word)))

-- what one option more gives: a list of a word and a value
abbrev pub add_option : AddSettings → Value → Result AddSettings Fault
add_option given option = elim (pair option) [ Some p ↦ add_setting given p.0 p.1 | None ↦ Err (bad_field (codes "opts")) ]

-- none is given
abbrev pub no_add_option : AddSettings
no_add_option = record { ontop = None; lim = None; verb = None }

-- the options of an Add, where `verb` is false if it isn't given
abbrev pub add_opts : AddSettings → AddOpts
add_opts given = record { ontop = given.ontop; lim = given.lim; verb = unwrap_or given.verb false }

-- the options of an Add, or their first fault
abbrev pub add_options : Value → Result AddOpts Fault
add_options (atom word) = Err (bad_field (codes "opts"))
add_options (list options) = and_then (read_each add_option no_add_option options) (λ given. Ok (add_opts given))

-- ---- the options of a Query, each at most once

-- those that are given so far: `sid` with its value, and whether `pp` is
pub record QuerySettings : Type 0 where
  pub sid : Option ℕ
  pub pp : Bool

-- `(pp_format PpStr)`
abbrev pub is_format : Value → Bool
is_format (list (cons (atom word) (cons (atom format) nil))) = is_word word (codes "pp_format") && is_word format (codes "PpStr")
is_format other = false

-- the fields of `pp`: an empty list, or one of one format
abbrev pub is_printing : Value → Bool
is_printing (list nil) = true
is_printing (list (cons v nil)) = is_format v
is_printing other = false

-- what one option more gives: `(sid n)` or `(pp fields)`, which isn't given yet
abbrev pub query_setting : QuerySettings → List ℕ → Value → Result QuerySettings Fault
query_setting given word v =
    if is_word word (codes "sid") && not (is_some given.sid) then and_then (number v) (λ n. Ok (record given { sid = Some n }))
    else (if is_word word (codes "pp") && not given.pp && is_printing v then Ok (record given { pp = true })
    else Err (bad_field word))

-- what one option more gives: a list of a word and a value
abbrev pub query_option : QuerySettings → Value → Result QuerySettings Fault
query_option given option = elim (pair option) [ Some p ↦ query_setting given p.0 p.1 | None ↦ Err (bad_field (codes "opts")) ]

-- none is given
abbrev pub no_query_option : QuerySettings
no_query_option = record { sid = None; pp = false }

-- the options of a Query, or their first fault
abbrev pub query_options : Value → Result QueryOpts Fault
query_options (atom word) = Err (bad_field (codes "opts"))
query_options (list options) = and_then (read_each query_option no_query_option options) (λ given. Ok (record { sid = given.sid }))
