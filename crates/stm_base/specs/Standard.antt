-- What standard output has gathered of a line.
use Rattle.std.specs.Prelude.{◌≡◌, ℕ, List, [], ◌∷◌, true, nat_eq, Option, option_map}
use Rattle.std.specs.List.{ends_with}
use Rattle.std.specs.Io.Buffered.{writer_buffer}
use Rattle.stm_base.specs.declared.standard.StdSink.{StdSink}

-- the bytes that were taken and aren't sent; none where a write has failed
abbrev pub gathered : StdSink → Option (List ℕ)
gathered sink = option_map writer_buffer sink.stdout

-- the last byte is a newline
abbrev pub EndsLine : List ℕ → Type 0
EndsLine bytes = ends_with nat_eq bytes (10 ∷ []) ≡ true
