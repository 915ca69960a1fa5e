-- Histories: which are legal, and what they write.
use Rattle.std.specs.Prelude.{◌≡◌, ℕ, ◌+◌, List, [], ◌∷◌, ◌++◌, Bool, true, false}
use Rattle.serapi_cmd.specs.Requests.{is_quit}
use Rattle.serapi_cmd.specs.declared.request.Request.{Request}
use Rattle.serapi_ans.specs.declared.line.Line.{Line}
use Rattle.doc_theory.specs.Documents.{Document, empty}
use Rattle.doc_theory.specs.Answers.{Cut}
use Rattle.doc_theory.specs.Histories.{Event, command, shut, IsNumbered}
use Rattle.hist_core.specs.Events.{kept_lines}
use Rattle.doc_core.specs.Answers.{MayBe, answer}

-- where a history stands: its document, how many commands there were, whether the last was Quit, and whether it is closed
pub record Standing : Type 0 where
  pub document : Document
  pub commands : ℕ
  pub quit : Bool
  pub closed : Bool

-- where the empty history stands, by the limit of sentences
abbrev pub start : ℕ → Standing
start limit = record { document = empty limit; commands = 0; quit = false; closed = false }

-- where a history stands behind an event
abbrev pub step : Standing → Event → Standing
step p (command n q cut ls) = record {
  document = (answer p.document q cut).document;
  commands = p.commands + 1;
  quit = is_quit q;
  closed = p.closed;
}
step p shut = record { document = p.document; commands = p.commands; quit = p.quit; closed = true }
step p other = p

-- what a standing asks of a command: the history isn't closed, there was no Quit, the event has the number of the commands before, the
-- request may be cut so, and the lines are its answer
pub record IsCommand (p : Standing) (n : ℕ) (q : Request) (cut : Cut) (ls : List Line) : Type 0 where
  pub going : p.closed ≡ false
  pub no_quit : p.quit ≡ false
  pub number : n ≡ p.commands
  pub numbered : IsNumbered p.commands q
  pub may : MayBe p.document q cut
  pub lines : ls ≡ (answer p.document q cut).lines

-- what a standing asks of an event: of the other ones than commands and the end nothing meets it yet
abbrev pub Asks : Standing → Event → Type 0
Asks p (command n q cut ls) = IsCommand p n q cut ls
Asks p shut = p.closed ≡ false
Asks p other = ⊥

-- what a history leads to from a standing on
abbrev pub standing_from : Standing → List Event → Standing
standing_from p [] = p
standing_from p (e ∷ es) = standing_from (step p e) es

-- where a history stands
abbrev pub standing : ℕ → List Event → Standing
standing limit h = standing_from (start limit) h

-- from a standing on, each event is one that is asked for
abbrev pub LegalFrom : Standing → List Event → Type 0
LegalFrom p [] = Unit {0}
LegalFrom p (e ∷ es) = Asks p e × LegalFrom (step p e) es

-- each event is one that is asked for where it stands
abbrev pub Legal : ℕ → List Event → Type 0
Legal limit h = LegalFrom (start limit) h

-- the lines of all events, in order
abbrev pub render : List Event → List Line
render [] = []
render (e ∷ es) = kept_lines e ++ render es

-- the event that a standing asks for
abbrev pub asked : Standing → Request → Cut → Event
asked p q cut = command p.commands q cut (answer p.document q cut).lines
