-- The end of a history, and the bytes that it renders.
use Rattle.std.specs.Prelude.{ℕ, List, [], ◌∷◌, Bool, true, false}
use Rattle.serapi_ans.specs.Lines.{lines_text}
use Rattle.doc_theory.specs.Histories.{Event, shut}
use Rattle.doc_core.specs.Histories.{render}

-- the event is the end
abbrev pub is_end : Event → Bool
is_end shut = true
is_end other = false

-- the last of the events is the end; where there is none, b
abbrev pub closed_from : Bool → List Event → Bool
closed_from b [] = b
closed_from b (e ∷ es) = closed_from (is_end e) es

-- the last event is the end
abbrev pub is_closed : List Event → Bool
is_closed h = closed_from false h

-- the bytes of all lines of a history, in order
abbrev pub rendered : List Event → List ℕ
rendered h = lines_text (render h)
