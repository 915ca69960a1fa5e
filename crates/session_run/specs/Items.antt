-- The requests in the bytes of the input.
use Rattle.std.specs.Prelude.{ℕ, List, [], ◌∷◌, Bool, false, ◌||◌}
use Rattle.serapi_cmd.specs.Requests.{requests, is_quit}
use Rattle.serapi_cmd.specs.declared.request.Request.{Request}

-- requests in order
abbrev pub Requests : Type 0
Requests = List Request

-- the requests in the bytes, which are the whole input where `ended` holds: each item is one, up to and with the first Quit
abbrev pub requests_in : List ℕ → Bool → List Request
requests_in bytes ended = requests ended bytes

-- one of the requests is Quit
abbrev pub has_quit : List Request → Bool
has_quit [] = false
has_quit (q ∷ qs) = is_quit q || has_quit qs
