-- The answer to a request is the same of the document as one thread has it, and so is what is written, results aside.
use Rattle.std.proofs.Common.{
  ◌≡◌,
  ℕ,
  List,
  [],
  ◌∷◌,
  ◌++◌,
  map,
  length,
  Bool,
  true,
  false,
  nat_eq,
  ◌||◌,
  if◌then◌else◌,
  Option,
  Some,
  None,
  refl,
  sym,
  ap,
  ◌∙◌,
}
use Rattle.serapi_ans.specs.declared.line.Line.TheVariants.{Ack, Added, Canceled, Completed, CoqExn, EditAt, Joined}
use Rattle.serapi_ans.specs.declared.line.Line.{Line}
use Rattle.serapi_ans.specs.declared.line.Exn.TheVariants as exn
use Rattle.serapi_cmd.specs.declared.command.Command.TheVariants as cmd
use Rattle.serapi_cmd.specs.declared.command.Command.{Command}
use Rattle.serapi_cmd.specs.declared.request.Request.{Request}
use Rattle.serapi_cmd.specs.declared.request.Request.TheVariants.{Do, Bad}
use Rattle.line_theory.specs.Lists.{has, chosen}
use Rattle.doc_theory.specs.Documents.{Document, cursor, is_state, report}
use Rattle.doc_theory.specs.Editing.{Edited, unknown, refused_by, changed, remove, Tried, refused, added, attempt}
use Rattle.doc_theory.specs.Checks.{Check, Judged, judged, judged_from, before, path, Piece, piece, unread}
use Rattle.doc_theory.specs.Answers.{
  Cut,
  whole,
  after,
  cut_to,
  told_of,
  Ran,
  put_line,
  add_step,
  add_all,
  limited,
  is_on_top,
  Removed,
  treat,
  put_edit,
  cancel_step,
  cancel_all,
  due,
  all_due,
  feedbacks,
  first_wrong,
  asked_at,
  sid_of,
  Answer,
  answered,
  told_to,
  closing_of,
  perform,
  last_lines,
  answer,
  faults,
  joined,
  Fate,
  ended,
  halted,
  left,
  Outcomes,
  ending,
  closing,
  answers_from,
  answers,
}
use Rattle.doc_theory.specs.Histories.{
  Standing,
  start,
  Event,
  command,
  claim,
  none_waiting,
  returned,
  lose,
  join_answered,
  join_not_yet,
  join_stopped,
  shut,
  Mode,
  idle,
  joining,
  over,
  step,
  mode_of,
  mode_after,
  IsIdle,
  IsCommand,
  LegalFrom,
  Legal,
  block_of,
  joined_lines,
  stopped_lines,
  strip_from,
  strip,
  requests,
  fate,
  outcomes,
}
use Rattle.doc_theory.proofs.Forgotten.{forget, marks_forget, ids_forget, cursor_forget, tell_forget, report_forget}
use Rattle.doc_theory.proofs.Located.{forget_edited, remove_forget, outcome_forget, lost_forget, forget_tried, attempt_forget}

-- ---- what only looks

judged_forget : {State : Type 0} (L : Check State) (d : Document) → judged L (forget d) ≡ judged L d
judged_forget L d = ap (judged_from L L.start) (marks_forget d)

is_state_forget : (i : ℕ) (d : Document) → is_state i (forget d) ≡ is_state i d
is_state_forget i d = ap (λ ns. nat_eq 1 i || has i ns) (ids_forget d)

due_forget : {State : Type 0} (L : Check State) (d : Document) (i : ℕ) → due L (forget d) i ≡ due L d i
due_forget L d i = ap (λ js. chosen (λ j. j.mark.due) (before i js)) (judged_forget L d)

all_due_forget : {State : Type 0} (L : Check State) (d : Document) → all_due L (forget d) ≡ all_due L d
all_due_forget L d = ap (chosen (λ j. j.mark.due)) (judged_forget L d)

joined_forget : {State : Type 0} (L : Check State) (d : Document) (tag : List ℕ) → joined L (forget d) tag ≡ joined L d tag
joined_forget L d tag = λ i. Joined tag (length (marks_forget d i)) (faults (judged_forget L d i))

on_top_forget : (o : Option ℕ) (d : Document) → is_on_top o (forget d) ≡ is_on_top o d
on_top_forget None d = refl
on_top_forget (Some n) d = ap (λ c. nat_eq c n) (cursor_forget d)

sid_forget : (o : Option ℕ) (d : Document) → sid_of o (forget d) ≡ sid_of o d
sid_forget None d = cursor_forget d
sid_forget (Some n) d = refl

-- ---- what changes

abbrev pub forget_ran : Ran → Ran
forget_ran r = record { document = forget r.document; lines = r.lines; stop = r.stop }

add_step_forget : (tag : List ℕ) (p q : ℕ) (d : Document) (e : Tried) (more : Document → Ran)
    → ((d : Document) → more (forget d) ≡ forget_ran (more d))
    → add_step tag p q (forget d) (forget_tried e) more ≡ forget_ran (add_step tag p q d e more)
add_step_forget tag p q d (refused e) more h = refl
add_step_forget tag p q d (added e i t) more h = ap (put_line (Added tag i p q t)) (h e)

add_all_forget : (tag : List ℕ) (ps : List Piece) (d : Document) → add_all tag ps (forget d) ≡ forget_ran (add_all tag ps d)
add_all_forget tag [] d = refl
add_all_forget tag (unread p ∷ ps) d = refl
add_all_forget tag (piece p q x ∷ ps) d = ap (λ e. add_step tag p q (forget d) e (add_all tag ps)) (attempt_forget d p x)
    ∙ add_step_forget tag p q d (attempt d p x) (add_all tag ps) (add_all_forget tag ps)

abbrev pub forget_removed : Removed → Removed
forget_removed r = record { document = forget r.document; lines = r.lines; gone = r.gone; treated = r.treated; stop = r.stop }

cancel_step_forget : (tag : List ℕ) (i : ℕ) (d : Document) (e : Edited) (more : Document → Removed)
    → ((d : Document) → more (forget d) ≡ forget_removed (more d))
    → cancel_step tag i (forget d) (forget_edited e) more ≡ forget_removed (cancel_step tag i d e more)
cancel_step_forget tag i d unknown more h = ap treat (h d)
cancel_step_forget tag i d (refused_by k) more h = refl
cancel_step_forget tag i d (changed e) more h = λ j. put_edit (EditAt tag (outcome_forget e j)) (lost_forget d e j) (h e j)

cancel_all_forget : (tag : List ℕ) (is : List ℕ) (d : Document) → cancel_all tag is (forget d) ≡ forget_removed (cancel_all tag is d)
cancel_all_forget tag [] d = refl
cancel_all_forget tag (i ∷ is) d = ap (λ e. cancel_step tag i (forget d) e (cancel_all tag is)) (remove_forget d i)
    ∙ cancel_step_forget tag i d (remove d i) (cancel_all tag is) (cancel_all_forget tag is)

-- ---- the answer

-- an answer with the document as one thread has it
abbrev pub seen : Answer → Answer
seen a = record { document = forget a.document; lines = a.lines }

if_seen : (b : Bool) (x y u v : Answer) → x ≡ seen u → y ≡ seen v → (if b then x else y) ≡ seen (if b then u else v)
if_seen true x y u v h k = h
if_seen false x y u v h k = k

told_forget : {State : Type 0} (L : Check State) (js : List (Judged State)) (d : Document) → told_to js (forget d) ≡ forget (told_to js d)
told_forget L js d = tell_forget (map (λ j. j.mark.id) js) d

perform_forget : {State : Type 0} (L : Check State) (d : Document) (tag : List ℕ) (c : Command) (cut : Cut)
    → perform L (forget d) tag c cut ≡ seen (perform L d tag c cut)
perform_forget L d tag (cmd.Add opts text) cut =
    ap (λ b. if b then answered (add_all tag (cut_to cut (limited opts.lim (L.pieces text))) (forget d)).document
    ((add_all tag (cut_to cut (limited opts.lim (L.pieces text))) (forget d)).lines ++ told_of cut tag
    (add_all tag (cut_to cut (limited opts.lim (L.pieces text))) (forget d)).stop)
    else answered (forget d) (told_of cut tag (Some (exn.NotTip (cursor (forget d)))))) (on_top_forget opts.ontop d)
    ∙ if_seen (is_on_top opts.ontop d) _ _ (answered (add_all tag (cut_to cut (limited opts.lim (L.pieces text)))
    d).document ((add_all tag (cut_to cut (limited opts.lim (L.pieces text))) d).lines ++ told_of cut tag
    (add_all tag (cut_to cut (limited opts.lim (L.pieces text))) d).stop))
    (answered d (told_of cut tag (Some (exn.NotTip (cursor d)))))
    (ap (λ r. answered r.document (r.lines ++ told_of cut tag r.stop))
    (add_all_forget tag (cut_to cut (limited opts.lim (L.pieces text))) d))
    (ap (λ n. answered (forget d) (told_of cut tag (Some (exn.NotTip n)))) (cursor_forget d))
perform_forget L d tag (cmd.Cancel is) cut =
    ap (λ r. answered r.document (r.lines ++ Canceled tag r.gone ∷ told_of cut tag r.stop)) (cancel_all_forget tag (cut_to cut is) d)
perform_forget L d tag (cmd.Exec i) cut =
    (λ j. if is_state_forget i d j
    then answered (told_to (cut_to cut (due_forget L d i j)) (forget d)) (feedbacks 0 (cut_to cut (due_forget L d i j))
    ++ told_of cut tag (first_wrong (path (before i (judged_forget L d j)))))
    else answered (forget d) (told_of cut tag (Some (exn.NoSuchState i))))
    ∙ if_seen (is_state i d) _ _ (answered (told_to (cut_to cut (due L d i)) d) (feedbacks 0 (cut_to cut (due L d i))
    ++ told_of cut tag (first_wrong (path (before i (judged L d))))))
    (answered d (told_of cut tag (Some (exn.NoSuchState i))))
    (ap (λ e. answered e (feedbacks 0 (cut_to cut (due L d i)) ++ told_of cut tag (first_wrong (path (before i (judged L d))))))
    (told_forget L (cut_to cut (due L d i)) d))
    refl
perform_forget L d tag (cmd.Query opts q) whole =
    ap (λ n. if is_state n (forget d) then answered (forget d) (asked_at L tag q L.start None (before n (judged L (forget d)))
    ∷ []) else answered (forget d) (CoqExn tag (exn.NoSuchState n) ∷ [])) (sid_forget opts.sid d)
    ∙ (λ j. if is_state_forget (sid_of opts.sid d) d j then answered (forget d)
    (asked_at L tag q L.start None (before (sid_of opts.sid d) (judged_forget L d j)) ∷ []) else answered (forget d)
    (CoqExn tag (exn.NoSuchState (sid_of opts.sid d)) ∷ []))
    ∙ if_seen (is_state (sid_of opts.sid d) d) _ _
    (answered d (asked_at L tag q L.start None (before (sid_of opts.sid d) (judged L d)) ∷ []))
    (answered d (CoqExn tag (exn.NoSuchState (sid_of opts.sid d)) ∷ [])) refl refl
perform_forget L d tag (cmd.Query opts q) (after n) = refl
perform_forget L d tag cmd.Join cut =
    ap (λ js. answered (told_to (cut_to cut js) (forget d)) (feedbacks 0 (cut_to cut js))) (all_due_forget L d)
    ∙ ap (λ e. answered e (feedbacks 0 (cut_to cut (all_due L d)))) (told_forget L (cut_to cut (all_due L d)) d)
perform_forget L d tag cmd.Quit cut = refl

pub answer_forget : {State : Type 0} (L : Check State) (d : Document) (q : Request) (cut : Cut)
    → answer L (forget d) q cut ≡ seen (answer L d q cut)
answer_forget L d (Do t) cut = ap (λ a. answered a.document (Ack t.tag ∷ a.lines ++ last_lines t.tag t.command cut))
    (perform_forget L d t.tag t.command cut)
answer_forget L d (Bad b) cut = refl

-- ---- a history

-- what a Join that is open still writes, in the document as one thread has it
abbrev pub pending : {State : Type 0} → Check State → Document → Mode → List Event → List Line
pending L d idle h = []
pending L d (joining tag) h = ending L d tag (fate h)
pending L d over h = []

-- what one thread answers from a standing on
abbrev pub rest : {State : Type 0} → Check State → Standing State → List Event → List Line
rest L p h = pending L (forget p.document) p.mode h ++ answers_from L (forget p.document) (requests h) (outcomes h)

ending_forget : {State : Type 0} (L : Check State) (d : Document) (tag : List ℕ) (f : Fate) → ending L (forget d) tag f ≡ ending L d tag f
ending_forget L d tag ended = ap (λ l. l ∷ Completed tag ∷ []) (joined_forget L d tag)
ending_forget L d tag halted = refl
ending_forget L d tag left = refl

-- behind a command the Join that it opens is pending
pending_command : {State : Type 0} (L : Check State) (d : Document) (tag : List ℕ) (c : Command) (cut : Cut) (es : List Event)
    → closing_of L d tag c cut (fate es) ≡ pending L d (mode_of tag c cut) es
pending_command L d tag (cmd.Add opts text) cut es = refl
pending_command L d tag (cmd.Cancel is) cut es = refl
pending_command L d tag (cmd.Exec i) cut es = refl
pending_command L d tag (cmd.Query opts q) cut es = refl
pending_command L d tag cmd.Join whole es = refl
pending_command L d tag cmd.Join (after n) es = refl
pending_command L d tag cmd.Quit cut es = refl

pending_behind : {State : Type 0} (L : Check State) (d : Document) (q : Request) (cut : Cut) (es : List Event)
    → closing L d q (record { cut = cut; fate = fate es }) ≡ pending L d (mode_after q cut) es
pending_behind L d (Do t) cut es = pending_command L d t.tag t.command cut es
pending_behind L d (Bad b) cut es = refl

idle_pending : {State : Type 0} (L : Check State) (d : Document) (m : Mode) (h : List Event) → IsIdle m → pending L d m h ≡ []
idle_pending L d idle h i = refl
idle_pending L d (joining tag) h i = absurd i
idle_pending L d over h i = refl

same_pending : {State : Type 0} (L : Check State) (d : Document) (m : Mode) (h k : List Event) → fate h ≡ fate k
    → pending L d m h ≡ pending L d m k
same_pending L d idle h k e = refl
same_pending L d (joining tag) h k e = ap (ending L d tag) e
same_pending L d over h k e = refl

nothing_pending : {State : Type 0} (L : Check State) (d : Document) (m : Mode) (h : List Event) → fate h ≡ left → pending L d m h ≡ []
nothing_pending L d idle h e = refl
nothing_pending L d (joining tag) h e = ap (ending L d tag) e
nothing_pending L d over h e = refl

answered_pending : {State : Type 0} (L : Check State) (d : Document) (m : Mode) (es : List Event)
    → joined_lines L d m ≡ pending L (forget d) m (join_answered ∷ es)
answered_pending L d idle es = refl
answered_pending L d (joining tag) es = sym (ending_forget L d tag ended)
answered_pending L d over es = refl

stopped_pending : {State : Type 0} (L : Check State) (d : Document) (m : Mode) (es : List Event)
    → stopped_lines m ≡ pending L (forget d) m (join_stopped ∷ es)
stopped_pending L d idle es = refl
stopped_pending L d (joining tag) es = refl
stopped_pending L d over es = refl

module _ {State : Type 0} (L : Check State) (p : Standing State) where
  -- what one thread answers doesn't depend on events that end no Join and leave what one thread has
  quiet : (d : Document) (es hs : List Event) → forget d ≡ forget p.document
      → fate es ≡ fate hs
      → requests es ≡ requests hs → outcomes es ≡ outcomes hs
      → pending L (forget d) p.mode es ++ answers_from L (forget d) (requests es) (outcomes es) ≡ rest L p hs
  quiet d es hs e f r o = (λ i. pending L (e i) p.mode es ++ answers_from L (e i) (r i) (o i))
      ∙ ap (λ z. z ++ answers_from L (forget p.document) (requests hs) (outcomes hs)) (same_pending L (forget p.document) p.mode es hs f)

  -- a command's lines, and what one thread answers behind it
  after_command : (n : ℕ) (q : Request) (cut : Cut) (ls : List Line) (es : List Event)
      → IsCommand L p n q cut ls
      → ls ++ rest L (step L p (command n q cut ls)) es ≡ rest L p (command n q cut ls ∷ es)
  after_command n q cut ls es h =
      let a = answer L p.document q cut in
      let o : Outcomes = record { cut = cut; fate = fate es } in
      let behind : Document → List Line = λ d. answers_from L d (requests es) (outcomes es) in
      let one : ls ++ rest L (step L p (command n q cut ls)) es ≡ a.lines ++ (pending L (forget a.document) (mode_after q cut) es
      ++ behind (forget a.document)) =
      ap (λ z. z ++ (pending L (forget a.document) (mode_after q cut) es ++ behind (forget a.document))) h.lines in
      let two : a.lines ++ (pending L (forget a.document) (mode_after q cut) es ++ behind (forget a.document)) ≡ a.lines
      ++ (closing L (forget a.document) q o ++ behind (forget a.document)) =
      ap (λ z. a.lines ++ (z ++ behind (forget a.document))) (sym (pending_behind L (forget a.document) q cut es)) in
      let three : a.lines ++ (closing L (forget a.document) q o ++ behind (forget a.document)) ≡ answers_from L
      (forget p.document) (q ∷ requests es) (o ∷ outcomes es) =
      ap (λ b. b.lines ++ (closing L b.document q o ++ behind b.document)) (sym (answer_forget L p.document q cut)) in
      let four : answers_from L (forget p.document) (q ∷ requests es) (o ∷ outcomes es) ≡ rest L p (command n q cut ls ∷ es) =
      ap (λ z. z ++ answers_from L (forget p.document) (q ∷ requests es) (o ∷ outcomes es))
      (sym (idle_pending L (forget p.document) p.mode (command n q cut ls ∷ es) h.idle)) in
      one ∙ two ∙ three ∙ four

pub strip_rest : {State : Type 0} (L : Check State) (p : Standing State) (h : List Event) → LegalFrom L p h
    → strip_from L p h ≡ rest L p h
strip_rest L p [] legal = ap (λ z. z ++ []) (sym (nothing_pending L (forget p.document) p.mode [] refl))
strip_rest L p (command n q cut ls ∷ es) legal =
    ap (λ z. ls ++ z) (strip_rest L (step L p (command n q cut ls)) es legal.1) ∙ after_command L p n q cut ls es legal.0
strip_rest L p (claim s n ∷ es) legal = strip_rest L (step L p (claim s n)) es legal.1
    ∙ quiet L p p.document es (claim s n ∷ es) refl refl refl refl
strip_rest L p (none_waiting s ∷ es) legal = strip_rest L p es legal.1 ∙ quiet L p p.document es (none_waiting s ∷ es) refl refl refl refl
strip_rest L p (returned s n true ∷ es) legal = strip_rest L (step L p (returned s n true)) es legal.1
    ∙ quiet L p (report (block_of n p.table.rows) p.document) es (returned s n true ∷ es)
    (report_forget (block_of n p.table.rows) p.document) refl refl refl
strip_rest L p (returned s n false ∷ es) legal = strip_rest L (step L p (returned s n false)) es legal.1
    ∙ quiet L p p.document es (returned s n false ∷ es) refl refl refl refl
strip_rest L p (lose s n ∷ es) legal = strip_rest L (step L p (lose s n)) es legal.1
    ∙ quiet L p p.document es (lose s n ∷ es) refl refl refl refl
strip_rest L p (join_answered ∷ es) legal = λ i. answered_pending L p.document p.mode es i ++ strip_rest L
    (step L p join_answered) es legal.1 i
strip_rest L p (join_not_yet n s ∷ es) legal = strip_rest L p es legal.1
    ∙ quiet L p p.document es (join_not_yet n s ∷ es) refl refl refl refl
strip_rest L p (join_stopped ∷ es) legal = λ i. stopped_pending L p.document p.mode es i ++ strip_rest L (step L p join_stopped)
    es legal.1 i
strip_rest L p (shut ∷ es) legal = strip_rest L (step L p shut) es legal.1
    ∙ ap (λ z. z ++ answers_from L (forget p.document) (requests es) (outcomes es))
    (sym (nothing_pending L (forget p.document) p.mode (shut ∷ es) refl))

pub one_thread : {State : Type 0} (L : Check State) (limit : ℕ) (h : List Event) → Legal L limit h
    → strip L limit h ≡ answers L limit (requests h) (outcomes h)
one_thread L limit h legal = strip_rest L (start limit) h legal
