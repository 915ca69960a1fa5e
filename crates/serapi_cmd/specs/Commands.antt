-- What a value asks for: the tables of commands.
use Rattle.std.specs.Prelude.{ℕ, List, [], ◌∷◌, ◌++◌, Option, Some, None, option_map, Result, Ok, Err, if◌then◌else◌, codes}
use Rattle.std.specs.Fmt.{decimal}
use Rattle.sexp_theory.specs.Values.{Value, atom, list, Values, cons}
use Rattle.serapi_cmd.specs.declared.command.Command.{Command}
use Rattle.serapi_cmd.specs.declared.command.Command.TheVariants as command
use Rattle.serapi_cmd.specs.declared.command.QueryKind.{QueryKind}
use Rattle.serapi_cmd.specs.declared.command.QueryKind.TheVariants.{Goals, Ast, Env, Definition}
use Rattle.serapi_cmd.specs.declared.command.Tagged.{Tagged}
use Rattle.serapi_cmd.specs.Words.{Word, add_word, cancel_word, exec_word, query_word, join_word, quit_word, word_of}
use Rattle.serapi_cmd.specs.Faults.{Fault, unknown_command, bad_field}
use Rattle.base_core.specs.Answers.{and_then}
use Rattle.serapi_cmd.specs.Fields.{is_word, one, two, pair, text, read_each}
use Rattle.serapi_cmd.specs.Numbers.{number}
use Rattle.serapi_cmd.specs.Options.{add_options, query_options}

-- ---- the form of each command: what stands behind its word, from left to right

-- `(Add opts text)`
abbrev pub add : Values → Result Command Fault
add fields = elim (two fields) [
  | Some f ↦ and_then (add_options f.0) (λ opts. and_then (text f.1) (λ t. Ok (command.Add opts t)))
  | None ↦ Err (bad_field (codes "Add"))
]

-- one number more
abbrev pub add_id : List ℕ → Value → Result (List ℕ) Fault
add_id ids v = and_then (number v) (λ n. Ok (ids ++ n ∷ []))

-- a list of numbers, the ids of a Cancel
abbrev pub ids : Value → Result (List ℕ) Fault
ids (atom word) = Err (bad_field (codes "ids"))
ids (list vs) = read_each add_id [] vs

-- `(Cancel (n n n))`, with any number of numbers
abbrev pub cancel : Values → Result Command Fault
cancel fields = elim (one fields) [
  | Some v ↦ and_then (ids v) (λ ns. Ok (command.Cancel ns))
  | None ↦ Err (bad_field (codes "Cancel"))
]

-- `(Exec n)`
abbrev pub exec : Values → Result Command Fault
exec fields = elim (one fields) [
  | Some v ↦ and_then (number v) (λ n. Ok (command.Exec n))
  | None ↦ Err (bad_field (codes "Exec"))
]

-- `Goals`, `Ast`, `Env` or `(Definition name)`
abbrev pub plain_kind : List ℕ → Option QueryKind
plain_kind word =
    if is_word word (codes "Goals") then Some Goals
    else (if is_word word (codes "Ast") then Some Ast
    else (if is_word word (codes "Env") then Some Env else None))

-- `(Definition name)`
abbrev pub definition : Option (List ℕ × Value) → Option QueryKind
definition (Some (word, atom name)) = if is_word word (codes "Definition") then Some (Definition name) else None
definition other = None

-- the kind of a Query that a value is, if it is one
abbrev pub kind_of : Value → Option QueryKind
kind_of (atom word) = plain_kind word
kind_of (list vs) = definition (pair (list vs))

-- the same, or the fault that it is none
abbrev pub kind : Value → Result QueryKind Fault
kind v = elim (kind_of v) [ Some k ↦ Ok k | None ↦ Err (bad_field (codes "kind")) ]

-- `(Query opts kind)`
abbrev pub query : Values → Result Command Fault
query fields = elim (two fields) [
  | Some f ↦ and_then (query_options f.0) (λ opts. and_then (kind f.1) (λ k. Ok (command.Query opts k)))
  | None ↦ Err (bad_field (codes "Query"))
]

-- a list that begins with a command word; `Join` and `Quit` have no such form
abbrev pub list_form : Word → Values → Result Command Fault
list_form add_word fields = add fields
list_form cancel_word fields = cancel fields
list_form exec_word fields = exec fields
list_form query_word fields = query fields
list_form join_word fields = Err (bad_field (codes "Join"))
list_form quit_word fields = Err (bad_field (codes "Quit"))

-- ---- the first row that fits

-- the command that an atom alone is
abbrev pub atom_form : Word → Option Command
atom_form join_word = Some command.Join
atom_form quit_word = Some command.Quit
atom_form other = None

-- without a tag: the atom `Join` or `Quit`, or a list whose first element is an atom with a command word
abbrev pub untagged : Value → Option (Result Command Fault)
untagged (atom word) = elim (word_of word) [ Some w ↦ option_map Ok (atom_form w) | None ↦ None ]
untagged (list (cons (atom word) fields)) = option_map (λ w. list_form w fields) (word_of word)
untagged other = None

-- a command that was read, with its tag
abbrev pub tagged : List ℕ → Result Command Fault → Result Tagged Fault
tagged tag read = and_then read (λ c. Ok (record { tag = tag; command = c }))

-- with a tag: a list of an atom and what is a command without one
abbrev pub with_tag : Option (List ℕ × Value) → Result Tagged Fault
with_tag None = Err unknown_command
with_tag (Some (tag, v)) = elim (untagged v) [ Some read ↦ tagged tag read | None ↦ Err unknown_command ]

-- what the value of the item with a number is read as
abbrev pub reading : ℕ → Value → Result Tagged Fault
reading n v = elim (untagged v) [ Some read ↦ tagged (decimal n) read | None ↦ with_tag (pair v) ]
