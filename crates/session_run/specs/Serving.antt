-- Words of the serving loop. They speak of requests and unread bytes alone, and know neither documents nor histories.
use Rattle.std.specs.Prelude.{◌≡◌, ℕ, ◌≤◌, ◌<◌, ◌⊎◌, List, [], ◌∷◌, ◌++◌, length, take, drop, Bool, true, false, if◌then◌else◌}
use Rattle.std.specs.Prelude.{Option, Some, None, IfSome}
use Rattle.std.specs.Io.KnownBytes.{IsAtEnd}
use Rattle.base_core.specs.Lists.{Begins}
use Rattle.stm_base.specs.Counts.{Rose}
use Rattle.sexp_theory.specs.Items.{Unread, items_of, end_of, next_item, fed, most_bytes, end_offset}
use Rattle.sexp_theory.specs.declared.input.InputEnd.{InputEnd}
use Rattle.sexp_core.specs.Readers.{Reading}
use Rattle.serapi_cmd.specs.Requests.{input_end, requests_from, is_quit}
use Rattle.serapi_cmd.specs.declared.request.Request.{Request}
use Rattle.session_run.specs.Items.{requests_in, has_quit}
use Rattle.session_run.specs.Headline.{IsTaken}
use Rattle.session_run.specs.declared.party.Answered.{Answered}
use Rattle.session_run.specs.declared.party.Answered.TheVariants.{More, Quit, Lost}
use Rattle.session_run.specs.declared.serve.Service.{Service}
use Rattle.session_run.specs.declared.serve.Stop.{Stop}
use Rattle.session_run.specs.declared.serve.Stop.TheVariants as stop
use Rattle.session_run.specs.Numbers.{INPUT_LIMIT}

-- ---- what was answered, and what is unread

-- in the middle of serving: the requests that were answered, and the bytes that are unread
pub record Midway : Type 0 where
  pub asked : List Request
  pub unread : Unread

-- in the middle with these
abbrev pub midway : List Request → Unread → Midway
midway k u = record { asked = k; unread = u }

-- the requests in what is unread and what comes behind it, where no Quit was answered
abbrev pub behind : Midway → List ℕ → Bool → List Request
behind m more ended = if has_quit m.asked then [] else requests_from (length m.asked) (items_of most_bytes ended (fed m.unread more))

-- the requests that were answered and the unread bytes went on together, whatever comes behind
abbrev pub Went : Midway → Midway → Type 0
Went m l = (more : List ℕ) (ended : Bool) → m.asked ++ behind m more ended ≡ l.asked ++ behind l more ended

-- the input ends in the same way behind both
abbrev pub EndsAlike : Unread → Unread → Type 0
EndsAlike u v = (more : List ℕ) → end_of most_bytes (fed u more) ≡ end_of most_bytes (fed v more)

-- these requests are in front of those that were to come
abbrev pub Leads : Midway → List Request → Type 0
Leads m k = (rest : List ℕ → Bool → List Request)
    × ((more : List ℕ) (ended : Bool) → m.asked ++ behind m more ended ≡ k ++ rest more ended)

-- n bytes of all were taken: they are the requests that were answered and the unread bytes
pub record ReadingOf (all : List ℕ) (now : Option (List ℕ)) (n : ℕ) (m : Midway) : Type 0 where
  pub within : n ≤ length all
  pub rest : now ≡ Some (drop n all)
  pub reads : (more : List ℕ) (ended : Bool) → requests_in (take n all ++ more) ended ≡ m.asked ++ behind m more ended
  pub ends : (more : List ℕ) → input_end (take n all ++ more) ≡ end_of most_bytes (fed m.unread more)

-- the same, of a source that tells its bytes; of another it says nothing
abbrev pub IsReading : Option (List ℕ) → Option (List ℕ) → ℕ → Midway → Type 0
IsReading None now n m = Unit {0}
IsReading (Some all) now n m = ReadingOf all now n m

-- all that was fed was answered as far as it holds whole items
pub record IsIdle (r : Reading) (taken_bytes : ℕ) : Type 0 where
  pub none : next_item most_bytes false r.unread ≡ None
  pub limit : r.limit ≡ most_bytes
  pub offset : end_offset r.unread ≡ taken_bytes

-- ---- what an answer makes of the requests, and of whether the last of them was left without its end

-- what one request makes of them
abbrev pub Takes : Answered → List Request → Request → List Request → Bool → Type 0
Takes More h q k left = (k ≡ h ++ q ∷ []) × (is_quit q ≡ false) × (left ≡ false)
Takes Quit h q k left = (k ≡ h ++ q ∷ []) × (is_quit q ≡ true) × (left ≡ false)
Takes (Lost loss) h q k left = (k ≡ h) ⊎ (k ≡ h ++ q ∷ [])

-- what the whole items of the unread bytes make of them
abbrev pub Passes : Answered → Midway → Midway → Bool → Type 0
Passes More m l left = Went m l × EndsAlike m.unread l.unread × (has_quit l.asked ≡ false) × (left ≡ false)
Passes Quit m l left = Went m l × (has_quit l.asked ≡ true) × (left ≡ false)
Passes (Lost loss) m l left = Leads m l.asked

-- A, unless no more could be answered
abbrev pub Unless : Answered → Type 0 → Type 0
Unless More A = A
Unless Quit A = A
Unless (Lost loss) A = Unit {0}

-- the requests in what is unread at the end of the input, where no Quit was answered
abbrev pub last_requests : Midway → List Request
last_requests m = requests_from (length m.asked) (items_of most_bytes true m.unread)

-- why the serving stops at the end of the input, behind what may have been its last item
abbrev pub stop_after : Answered → InputEnd → Stop
stop_after More end = stop.End end
stop_after Quit end = stop.Quit
stop_after (Lost loss) end = stop.Lost loss

-- what the end of the input makes of the requests
abbrev pub Finishes : Stop → Midway → List Request → Bool → Type 0
Finishes stop.Quit m k left = (m.asked ++ last_requests m ≡ k) × (has_quit k ≡ true) × (left ≡ false)
Finishes (stop.End end) m k left =
    (m.asked ++ last_requests m ≡ k) × (has_quit k ≡ false) × (end ≡ end_of most_bytes m.unread) × (left ≡ false)
Finishes stop.Fault m k left = ⊥
Finishes stop.Limit m k left = ⊥
Finishes (stop.Lost loss) m k left = Begins k (m.asked ++ last_requests m)

-- ---- how the serving stopped

-- a source at two moments: the bytes that it has left, where it tells them, and its count of faults
pub record Between : Type 0 where
  pub left_before : Option (List ℕ)
  pub left_after : Option (List ℕ)
  pub faults_before : ℕ
  pub faults_after : ℕ

-- a source between these
abbrev pub between : Option (List ℕ) → Option (List ℕ) → ℕ → ℕ → Between
between a b r s = record { left_before = a; left_after = b; faults_before = r; faults_after = s }

-- all that was asked in the bytes was answered
abbrev pub IsAll : Option (List ℕ) → ℕ → Bool → List Request → Type 0
IsAll before n at_end k = IfSome before (λ all. k ≡ requests_in (take n all) at_end)

-- what each way to stop says of the source, of the requests that were answered, and of whether the last was left
abbrev pub HasStopped : Stop → Between → ℕ → Bool → List Request → Bool → Type 0
HasStopped stop.Quit s n at_end k left =
    IsAll s.left_before n at_end k × (has_quit k ≡ true) × (s.faults_after ≡ s.faults_before) × (left ≡ false)
HasStopped (stop.End end) s n at_end k left =
    IsAll s.left_before n at_end k × (has_quit k ≡ false) × (s.faults_after ≡ s.faults_before) × (at_end ≡ true)
    × IfSome s.left_before (λ all. input_end (take n all) ≡ end) × (left ≡ false)
HasStopped stop.Fault s n at_end k left =
    IsAll s.left_before n at_end k × (has_quit k ≡ false) × Rose s.faults_before s.faults_after × (at_end ≡ false) × (n < INPUT_LIMIT)
    × (left ≡ false)
HasStopped stop.Limit s n at_end k left =
    IsAll s.left_before n at_end k × (has_quit k ≡ false) × (s.faults_after ≡ s.faults_before) × (at_end ≡ false) × (n ≡ INPUT_LIMIT)
    × (left ≡ false)
HasStopped (stop.Lost loss) s n at_end k left =
    IfSome s.left_before (λ all. Begins k (requests_in (take n all) at_end)) × (s.faults_after ≡ s.faults_before)

-- what was served of a source, in the requests that were answered
pub record Served (s : Between) (v : Service) (k : List Request) (left : Bool) : Type 0 where
  pub taken_bytes : IfSome s.left_before (λ all. IsTaken all s.left_after v.taken)
  pub limit : v.taken ≤ INPUT_LIMIT
  pub nothing_left : v.at_end ≡ true → IsAtEnd s.left_after
  pub stopped : HasStopped v.stop s v.taken v.at_end k left

-- A, unless no more could be answered
abbrev pub UnlessLost : Stop → Type 0 → Type 0
UnlessLost stop.Quit A = A
UnlessLost (stop.End end) A = A
UnlessLost stop.Fault A = A
UnlessLost stop.Limit A = A
UnlessLost (stop.Lost loss) A = Unit {0}
