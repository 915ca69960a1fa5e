-- What the type of a session keeps.
use Rattle.std.specs.Prelude.{◌≡◌, ℕ, List, length}
use Rattle.stm_base.specs.Output.{Output, IsPut, fresh}
use Rattle.doc_theory.specs.Histories.{Event, requests}
use Rattle.doc_core.specs.Kept.{Held, at}
use Rattle.session_run.specs.Numbers.{LIVE_LIMIT}
use Rattle.session_run.specs.Closing.{is_closed, rendered}

-- a session's history and its Out
pub record Session : Type 0 where
  pub history : List Event
  pub output : Output

-- the document has the limit of sentences and is closed where the history's last event is the end, so many requests were answered, and what
-- the history renders is put
pub record IsKept (d : Held) (count : ℕ) (output : Output) : Type 0 where
  pub limit : d.limit ≡ LIVE_LIMIT
  pub closed : (at d).closed ≡ is_closed d.history
  pub counted : count ≡ length (requests d.history)
  pub put : IsPut (fresh output) (rendered d.history) output

-- the same sink as `new` got it
pub record Continues (old new : Output) : Type 0 where
  pub written : new.first_written ≡ old.first_written
  pub faults : new.first_faults ≡ old.first_faults
