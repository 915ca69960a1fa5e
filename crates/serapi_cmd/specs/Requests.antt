-- The requests of an input: its items in order, each with its number, up to and with the first Quit.
use Rattle.std.specs.Prelude.{ℕ, ◌+◌, List, [], ◌∷◌, Bool, true, false, Ok, Err}
use Rattle.base_core.specs.Lists.{through}
use Rattle.sexp_theory.specs.Values.{Value}
use Rattle.sexp_theory.specs.Items.{Item, value_item, bad_item, items_of, end_of, whole_text, most_bytes}
use Rattle.sexp_theory.specs.declared.input.BadKind.{BadKind}
use Rattle.sexp_theory.specs.declared.input.BadKind.TheVariants.{StrayClose, BadEscape, TooDeep, TooLong, HashBar}
use Rattle.sexp_theory.specs.declared.input.InputEnd.{InputEnd}
use Rattle.serapi_cmd.specs.declared.command.Command.{Command}
use Rattle.serapi_cmd.specs.declared.command.Command.TheVariants.{Quit}
use Rattle.serapi_cmd.specs.declared.request.InputFault.{InputFault}
use Rattle.serapi_cmd.specs.declared.request.InputFault.TheVariants as input
use Rattle.serapi_cmd.specs.declared.request.Request.{Request}
use Rattle.serapi_cmd.specs.declared.request.Request.TheVariants.{Do, Bad}
use Rattle.serapi_cmd.specs.Faults.{Fault, unknown_command, bad_field, bad_number}
use Rattle.serapi_cmd.specs.Commands.{reading}

-- how a fault of a value stands in a request
abbrev pub command_fault : Fault → InputFault
command_fault unknown_command = input.UnknownCommand
command_fault (bad_field name) = input.BadField name
command_fault bad_number = input.BadNumber

-- how a bad place of the text stands in a request
abbrev pub reader_fault : BadKind → InputFault
reader_fault StrayClose = input.StrayClose
reader_fault BadEscape = input.BadEscape
reader_fault TooDeep = input.TooDeep
reader_fault TooLong = input.TooLong
reader_fault HashBar = input.HashBar

-- the request of the item with a number that is no command, at an offset
abbrev pub bad : ℕ → InputFault → ℕ → Request
bad n kind offset = Bad (record { number = n; kind = kind; offset = offset })

-- the request of a value: what it is read as; the offset of a fault is that of its first byte
abbrev pub value_request : ℕ → Value → ℕ → Request
value_request n v first = elim (reading n v) [ Ok t ↦ Do t | Err fault ↦ bad n (command_fault fault) first ]

-- the request of the item with a number
abbrev pub request_of : ℕ → Item → Request
request_of n (value_item v first behind) = value_request n v first
request_of n (bad_item offset kind) = bad n (reader_fault kind) offset

-- the requests of items, numbered on from the first one's number
abbrev pub all_requests_from : ℕ → List Item → List Request
all_requests_from n [] = []
all_requests_from n (item ∷ items) = request_of n item ∷ all_requests_from (n + 1) items

-- the command is Quit
abbrev pub ends_session : Command → Bool
ends_session Quit = true
ends_session other = false

-- the request is the command Quit
abbrev pub is_quit : Request → Bool
is_quit (Do tagged) = ends_session tagged.command
is_quit (Bad line) = false

-- the same up to and with the first Quit
abbrev pub requests_from : ℕ → List Item → List Request
requests_from n items = through is_quit (all_requests_from n items)

-- the requests in the bytes, which are (ended) the whole input or its beginning
abbrev pub requests : Bool → List ℕ → List Request
requests ended bytes = requests_from 0 (items_of most_bytes ended (whole_text bytes))

-- how an input ends
abbrev pub input_end : List ℕ → InputEnd
input_end bytes = end_of most_bytes (whole_text bytes)
