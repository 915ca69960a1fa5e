-- Histories of claims, results and lost workers among the commands: which are legal, what they write, and what one thread reads of them.
use Rattle.std.specs.Prelude.{
  ◌≡◌,
  ℕ,
  suc,
  ◌≤◌,
  List,
  [],
  ◌∷◌,
  ◌++◌,
  map,
  Bool,
  true,
  false,
  not,
  ◌&&◌,
  ◌||◌,
  nat_eq,
  if◌then◌else◌,
  Option,
  Some,
  None,
}
use Rattle.line_theory.specs.Lists.{has, chosen}
use Rattle.doc_theory.specs.Documents.{Document, empty, Home, outside, body_of, is_state, bodies, report}
use Rattle.doc_theory.specs.Checks.{Check, Work, works, judged, before}
use Rattle.serapi_cmd.specs.declared.command.Command.{Command}
use Rattle.serapi_cmd.specs.declared.command.Command.TheVariants as cmd
use Rattle.serapi_cmd.specs.declared.request.Request.{Request}
use Rattle.serapi_cmd.specs.declared.request.Request.TheVariants.{Do, Bad}
use Rattle.serapi_cmd.specs.Requests.{is_quit}
use Rattle.serapi_ans.specs.declared.line.Line.{Line}
use Rattle.serapi_ans.specs.declared.line.Line.TheVariants.{OutOfMemory, Completed}
use Rattle.doc_theory.specs.Answers.{Cut, whole, after, answer, steps, joined, feedbacks, Fate, ended, halted, left, Outcomes}

-- ---- the table of tasks

pub data Progress : Type 0 where
  waiting : Progress
  held : ℕ → Progress
  done : Progress

-- a row: its number, the lemma of its block, the work as it was when it was asked for, and how it stands
pub record Row (State : Type 0) : Type 0 where
  pub number : ℕ
  pub block : ℕ
  pub work : Work State
  pub progress : Progress

-- a claim that is out: its seat, the number of its row, and the work that it was given
pub record Pair (State : Type 0) : Type 0 where
  pub seat : ℕ
  pub number : ℕ
  pub work : Work State

-- the rows in the order of their numbers, the next number, and what was claimed and neither settled nor lost since
pub record Table (State : Type 0) : Type 0 where
  pub rows : List (Row State)
  pub next : ℕ
  pub out : List (Pair State)

abbrev pub retable : {State : Type 0} → Table State → List (Row State) → List (Pair State) → Table State
retable t rows out = record { rows = rows; next = t.next; out = out }

-- a row goes with its block, and with each change of it
abbrev pub withdraw : {State : Type 0} → Document → Table State → Table State
withdraw d t = retable t (chosen (λ r. has r.block (bodies d)) t.rows) t.out

abbrev pub blocks : {State : Type 0} → List (Row State) → List ℕ
blocks rows = map (λ r. r.block) rows

abbrev pub new_row : {State : Type 0} → Table State → Work State → Row State
new_row t w = record { number = t.next; block = w.lemma; work = w; progress = waiting }

-- each of these blocks without a row gets one
abbrev pub post_one : {State : Type 0} → Bool → Work State → Table State → Table State
post_one true w t = t
post_one false w t = record { rows = t.rows ++ new_row t w ∷ []; next = suc t.next; out = t.out }

abbrev pub post : {State : Type 0} → List (Work State) → Table State → Table State
post [] t = t
post (w ∷ ws) t = post ws (post_one (has w.lemma (blocks t.rows)) w t)

-- the delegated blocks whose closers stand at or before an id
abbrev pub up_to_closers : {State : Type 0} → Check State → Document → ℕ → List (Work State)
up_to_closers L d i = chosen (λ w. has w.closer.id (map (λ j. j.mark.id) (before i (judged L d)))) (works L d)

-- what a command asks for, in the document that it left
abbrev pub asked_for : {State : Type 0} → Check State → Document → Command → Cut → List (Work State)
asked_for L d (cmd.Exec i) whole = if is_state i d then up_to_closers L d i else []
asked_for L d cmd.Join whole = works L d
asked_for L d other cut = []

abbrev pub asks : {State : Type 0} → Check State → Document → Request → Cut → List (Work State)
asks L d (Do t) cut = asked_for L d t.command cut
asks L d (Bad b) cut = []

-- a row with a number gets another progress
abbrev pub with_progress : {State : Type 0} → ℕ → Progress → List (Row State) → List (Row State)
with_progress n s rows = map (λ r. record {
  number = r.number;
  block = r.block;
  work = r.work;
  progress = if nat_eq n r.number
      then s else r.progress;
}) rows

-- the block of a row
abbrev pub block_of : {State : Type 0} → ℕ → List (Row State) → ℕ
block_of n [] = 0
block_of n (r ∷ rs) = if nat_eq n r.number then r.block else block_of n rs

abbrev pub is_by : ℕ → Progress → Bool
is_by s waiting = false
is_by s (held t) = nat_eq s t
is_by s done = false

-- whether a row is held by a seat
abbrev pub is_held : {State : Type 0} → ℕ → ℕ → List (Row State) → Bool
is_held s n [] = false
is_held s n (r ∷ rs) = (nat_eq n r.number && is_by s r.progress) || is_held s n rs

-- the least number that waits
abbrev pub first_of : Progress → ℕ → Option ℕ → Option ℕ
first_of waiting n other = Some n
first_of (held s) n other = other
first_of done n other = other

abbrev pub least_waiting : {State : Type 0} → List (Row State) → Option ℕ
least_waiting [] = None
least_waiting (r ∷ rs) = first_of r.progress r.number (least_waiting rs)

-- the least number that isn't done, with the seat that holds it
pub data Rest : Type 0 where
  all_done : Rest
  not_done : ℕ → Option ℕ → Rest

abbrev pub rest_of : Progress → ℕ → Rest → Rest
rest_of waiting n other = not_done n None
rest_of (held s) n other = not_done n (Some s)
rest_of done n other = other

abbrev pub least_left : {State : Type 0} → List (Row State) → Rest
least_left [] = all_done
least_left (r ∷ rs) = rest_of r.progress r.number (least_left rs)

abbrev pub is_pair : {State : Type 0} → ℕ → ℕ → Pair State → Bool
is_pair s n p = nat_eq s p.seat && nat_eq n p.number

abbrev pub without : {State : Type 0} → ℕ → ℕ → List (Pair State) → List (Pair State)
without s n out = chosen (λ p. not (is_pair s n p)) out

abbrev pub is_out : {State : Type 0} → ℕ → ℕ → List (Pair State) → Bool
is_out s n [] = false
is_out s n (p ∷ ps) = is_pair s n p || is_out s n ps

-- a claim is given the work of its row
abbrev pub taken : {State : Type 0} → ℕ → ℕ → List (Row State) → List (Pair State)
taken s n [] = []
taken s n (r ∷ rs) = if nat_eq n r.number then record { seat = s; number = n; work = r.work } ∷ [] else taken s n rs

-- ---- histories

-- a command with its number, cut and lines; a claim of a seat that got a task, or found none; a result, kept or not; a task that was
-- lost; a Join that was answered, that has to wait for this row, or that memory stopped; and the end
pub data Event : Type 0 where
  command : ℕ → Request → Cut → List Line → Event
  claim : ℕ → ℕ → Event
  none_waiting : ℕ → Event
  returned : ℕ → ℕ → Bool → Event
  lose : ℕ → ℕ → Event
  join_answered : Event
  join_not_yet : ℕ → Option ℕ → Event
  join_stopped : Event
  shut : Event

pub data Mode : Type 0 where
  idle : Mode
  joining : List ℕ → Mode
  over : Mode

-- where a history stands
pub record Standing (State : Type 0) : Type 0 where
  pub document : Document
  pub table : Table State
  pub mode : Mode
  pub commands : ℕ
  pub quit : Bool

abbrev pub start : {State : Type 0} → ℕ → Standing State
start limit = record { document = empty limit; table = record { rows = []; next = 0; out = [] }; mode = idle; commands = 0; quit = false }

abbrev pub moved : {State : Type 0} → Standing State → Document → Table State → Mode → Standing State
moved p d t m = record { document = d; table = t; mode = m; commands = p.commands; quit = p.quit }

-- a whole Join waits for its end
abbrev pub mode_of : List ℕ → Command → Cut → Mode
mode_of tag cmd.Join whole = joining tag
mode_of tag c cut = idle

abbrev pub mode_after : Request → Cut → Mode
mode_after (Do t) cut = mode_of t.tag t.command cut
mode_after (Bad b) cut = idle

abbrev pub done_by : {State : Type 0} → Check State → Standing State → Request → Cut → Document → Standing State
done_by L p q cut d = record {
  document = d;
  table = post (asks L d q cut) (withdraw d p.table);
  mode = mode_after q cut;
  commands = suc p.commands;
  quit = is_quit q;
}

-- a kept result tells its block, and its row is done
abbrev pub settled : {State : Type 0} → Standing State → ℕ → ℕ → Bool → Standing State
settled p s n true = moved p (report (block_of n p.table.rows) p.document) (retable p.table (with_progress n done p.table.rows)
    (without s n p.table.out)) p.mode
settled p s n false = moved p p.document (retable p.table p.table.rows (without s n p.table.out)) p.mode

abbrev pub given_back : {State : Type 0} → Bool → ℕ → List (Row State) → List (Row State)
given_back true n rows = with_progress n waiting rows
given_back false n rows = rows

-- the standing behind an event
abbrev pub step : {State : Type 0} → Check State → Standing State → Event → Standing State
step L p (command n q cut ls) = done_by L p q cut (answer L p.document q cut).document
step L p (claim s n) = moved p p.document (retable p.table (with_progress n (held s) p.table.rows)
    (p.table.out ++ taken s n p.table.rows)) p.mode
step L p (none_waiting s) = p
step L p (returned s n kept) = settled p s n kept
step L p (lose s n) = moved p p.document (retable p.table (given_back (is_held s n p.table.rows) n p.table.rows)
    (without s n p.table.out)) p.mode
step L p join_answered = moved p p.document p.table idle
step L p (join_not_yet n s) = p
step L p join_stopped = moved p p.document p.table idle
step L p shut = moved p p.document (retable p.table [] p.table.out) over

-- ---- which are legal

abbrev pub IsIdle : Mode → Type 0
IsIdle idle = Unit {0}
IsIdle (joining tag) = ⊥
IsIdle over = ⊥

abbrev pub IsJoining : Mode → Type 0
IsJoining idle = ⊥
IsJoining (joining tag) = Unit {0}
IsJoining over = ⊥

abbrev pub IsGoing : Mode → Type 0
IsGoing idle = Unit {0}
IsGoing (joining tag) = Unit {0}
IsGoing over = ⊥

-- a bad item knows its number
abbrev pub IsNumbered : ℕ → Request → Type 0
IsNumbered n (Do t) = Unit {0}
IsNumbered n (Bad b) = b.number ≡ n

-- a cut command has done no more than its steps; Quit and a bad item are never cut
abbrev pub CommandMayBe : {State : Type 0} → Check State → Document → Command → Cut → Type 0
CommandMayBe L d c whole = Unit {0}
CommandMayBe L d cmd.Quit (after n) = ⊥
CommandMayBe L d c (after n) = n ≤ steps L d c

abbrev pub MayBe : {State : Type 0} → Check State → Document → Request → Cut → Type 0
MayBe L d (Do t) cut = CommandMayBe L d t.command cut
MayBe L d (Bad b) whole = Unit {0}
MayBe L d (Bad b) (after k) = ⊥

pub record IsCommand {State : Type 0} (L : Check State) (p : Standing State) (n : ℕ) (q : Request) (cut : Cut) (ls : List Line)
    : Type 0 where
  pub idle : IsIdle p.mode
  pub no_quit : p.quit ≡ false
  pub number : n ≡ p.commands
  pub numbered : IsNumbered p.commands q
  pub may : MayBe L p.document q cut
  pub lines : ls ≡ (answer L p.document q cut).lines

-- what a standing asks of an event
abbrev pub Asks : {State : Type 0} → Check State → Standing State → Event → Type 0
Asks L p (command n q cut ls) = IsCommand L p n q cut ls
Asks L p (claim s n) = IsGoing p.mode × (least_waiting p.table.rows ≡ Some n)
Asks L p (none_waiting s) = IsGoing p.mode × (least_waiting p.table.rows ≡ None)
Asks L p (returned s n kept) = IsGoing p.mode × ((is_out s n p.table.out ≡ true) × (kept ≡ is_held s n p.table.rows))
Asks L p (lose s n) = IsGoing p.mode × (is_out s n p.table.out ≡ true)
Asks L p join_answered = IsJoining p.mode × (least_left p.table.rows ≡ all_done)
Asks L p (join_not_yet n s) = IsJoining p.mode × (least_left p.table.rows ≡ not_done n s)
Asks L p join_stopped = IsJoining p.mode
Asks L p shut = IsGoing p.mode

abbrev pub standing_from : {State : Type 0} → Check State → Standing State → List Event → Standing State
standing_from L p [] = p
standing_from L p (e ∷ es) = standing_from L (step L p e) es

abbrev pub LegalFrom : {State : Type 0} → Check State → Standing State → List Event → Type 0
LegalFrom L p [] = Unit {0}
LegalFrom L p (e ∷ es) = Asks L p e × LegalFrom L (step L p e) es

-- what a history has led to, from the start
abbrev pub standing : {State : Type 0} → Check State → ℕ → List Event → Standing State
standing L limit h = standing_from L (start limit) h

-- each event is one that the standing before it asks for
abbrev pub Legal : {State : Type 0} → Check State → ℕ → List Event → Type 0
Legal L limit h = LegalFrom L (start limit) h

-- ---- what they write

abbrev pub is_home : ℕ → Home → Bool
is_home n outside = false
is_home n (body_of m) = nat_eq n m

-- the verdicts that checking the live document in order gives the inside and the closer of a block
abbrev pub result_lines : {State : Type 0} → Check State → Document → ℕ → List Line
result_lines L d n = feedbacks 1 (chosen (λ j. is_home n j.mark.home) (judged L d))

abbrev pub kept_lines : {State : Type 0} → Check State → Standing State → ℕ → Bool → List Line
kept_lines L p n true = result_lines L p.document (block_of n p.table.rows)
kept_lines L p n false = []

abbrev pub joined_lines : {State : Type 0} → Check State → Document → Mode → List Line
joined_lines L d idle = []
joined_lines L d (joining tag) = joined L d tag ∷ Completed tag ∷ []
joined_lines L d over = []

abbrev pub stopped_lines : Mode → List Line
stopped_lines idle = []
stopped_lines (joining tag) = OutOfMemory tag ∷ Completed tag ∷ []
stopped_lines over = []

-- the lines of an event but for those of results
abbrev pub stripped : {State : Type 0} → Check State → Standing State → Event → List Line
stripped L p (command n q cut ls) = ls
stripped L p (claim s n) = []
stripped L p (none_waiting s) = []
stripped L p (returned s n kept) = []
stripped L p (lose s n) = []
stripped L p join_answered = joined_lines L p.document p.mode
stripped L p (join_not_yet n s) = []
stripped L p join_stopped = stopped_lines p.mode
stripped L p shut = []

-- the lines of an event
abbrev pub written : {State : Type 0} → Check State → Standing State → Event → List Line
written L p (returned s n kept) = kept_lines L p n kept
written L p e = stripped L p e

abbrev pub render_from : {State : Type 0} → Check State → Standing State → List Event → List Line
render_from L p [] = []
render_from L p (e ∷ es) = written L p e ++ render_from L (step L p e) es

abbrev pub strip_from : {State : Type 0} → Check State → Standing State → List Event → List Line
strip_from L p [] = []
strip_from L p (e ∷ es) = stripped L p e ++ strip_from L (step L p e) es

-- the lines of a history, and those without its result lines
abbrev pub render : {State : Type 0} → Check State → ℕ → List Event → List Line
render L limit h = render_from L (start limit) h

abbrev pub strip : {State : Type 0} → Check State → ℕ → List Event → List Line
strip L limit h = strip_from L (start limit) h

-- ---- what one thread reads of them

abbrev pub requests : List Event → List Request
requests [] = []
requests (command n q cut ls ∷ es) = q ∷ requests es
requests (claim s n ∷ es) = requests es
requests (none_waiting s ∷ es) = requests es
requests (returned s n kept ∷ es) = requests es
requests (lose s n ∷ es) = requests es
requests (join_answered ∷ es) = requests es
requests (join_not_yet n s ∷ es) = requests es
requests (join_stopped ∷ es) = requests es
requests (shut ∷ es) = requests es

-- how a Join ended behind which these events stand
abbrev pub fate : List Event → Fate
fate [] = left
fate (command n q cut ls ∷ es) = left
fate (claim s n ∷ es) = fate es
fate (none_waiting s ∷ es) = fate es
fate (returned s n kept ∷ es) = fate es
fate (lose s n ∷ es) = fate es
fate (join_answered ∷ es) = ended
fate (join_not_yet n s ∷ es) = fate es
fate (join_stopped ∷ es) = halted
fate (shut ∷ es) = left

abbrev pub outcomes : List Event → List Outcomes
outcomes [] = []
outcomes (command n q cut ls ∷ es) = record { cut = cut; fate = fate es } ∷ outcomes es
outcomes (claim s n ∷ es) = outcomes es
outcomes (none_waiting s ∷ es) = outcomes es
outcomes (returned s n kept ∷ es) = outcomes es
outcomes (lose s n ∷ es) = outcomes es
outcomes (join_answered ∷ es) = outcomes es
outcomes (join_not_yet n s ∷ es) = outcomes es
outcomes (join_stopped ∷ es) = outcomes es
outcomes (shut ∷ es) = outcomes es
