-- The events that entries stand for.
use Rattle.std.specs.Prelude.{List, []}
use Rattle.serapi_ans.specs.declared.line.Line.{Line}
use Rattle.doc_theory.specs.Answers as theory
use Rattle.doc_theory.specs.Histories.{
  Event,
  command,
  claim,
  none_waiting,
  returned,
  lose,
  join_answered,
  join_not_yet,
  join_stopped,
  shut,
}
use Rattle.hist_core.specs.declared.entry.Cut.{Cut}
use Rattle.hist_core.specs.declared.entry.Cut.TheVariants.{Whole, After}
use Rattle.hist_core.specs.declared.entry.Entry.{Entry}
use Rattle.hist_core.specs.declared.entry.Entry.TheVariants.{Command, Close}

-- how far a request went
abbrev pub cut_of : Cut → theory.Cut
cut_of Whole = theory.whole
cut_of (After n) = theory.after n

-- the event that an entry stands for
abbrev pub event : Entry → Event
event (Command n q cut ls) = command n q (cut_of cut) ls
event Close = shut

-- the lines that an event keeps: those of a command
abbrev pub kept_lines : Event → List Line
kept_lines (command n q cut ls) = ls
kept_lines (claim s n) = []
kept_lines (none_waiting s) = []
kept_lines (returned s n kept) = []
kept_lines (lose s n) = []
kept_lines join_answered = []
kept_lines (join_not_yet n s) = []
kept_lines join_stopped = []
kept_lines shut = []
