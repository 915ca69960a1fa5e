-- At each standing of a history the live sentences were read.
use Rattle.std.proofs.Common.{ℕ, zero, suc, List, [], ◌∷◌, map, take, Bool, true, false, if◌then◌else◌, Option, Some, None}
use Rattle.serapi_cmd.specs.declared.command.Command.{Command}
use Rattle.serapi_cmd.specs.declared.command.Command.TheVariants as cmd
use Rattle.serapi_cmd.specs.declared.request.Request.{Request}
use Rattle.serapi_cmd.specs.declared.request.Request.TheVariants.{Do, Bad}
use Rattle.line_theory.specs.Lists.{Every}
use Rattle.script_theory.specs.Sentences.{Script}
use Rattle.doc_theory.specs.Documents.{Document, is_state, telling, reporting}
use Rattle.doc_theory.specs.Editing.{Edited, unknown, refused_by, changed, remove, Tried, refused, added, attempt}
use Rattle.doc_theory.specs.Invariants.{IfAdded, IfChanged}
use Rattle.doc_theory.specs.Checks.{Piece, piece, unread}
use Rattle.doc_theory.specs.Answers.{Cut, whole, after, cut_to, Ran, add_step, add_all, limited, is_on_top, Removed, cancel_step, cancel_all, due, all_due, sid_of, Answer, perform, answer}
use Rattle.doc_theory.specs.Histories.{Event, command, claim, none_waiting, returned, lose, join_answered, join_not_yet, join_stopped, shut, Standing, start, block_of, step, standing_from, standing}
use Rattle.check_theory.specs.Pieces.{pieces_of}
use Rattle.check_theory.specs.Language.{language}
use Rattle.check_theory.specs.Read.{IsReadPiece, DocumentRead}
use Rattle.check_theory.proofs.Reading.{pieces_read}
use Rattle.check_theory.proofs.Living.{attempt_read, remove_read, flagged_read}

-- ---- the first of some pieces

take_read : (n : ℕ) (ps : List Piece) → Every IsReadPiece ps → Every IsReadPiece (take n ps)
take_read zero ps h = tt
take_read (suc n) [] h = tt
take_read (suc n) (p ∷ ps) h = (h.0, take_read n ps h.1)

cut_read : (cut : Cut) (ps : List Piece) → Every IsReadPiece ps → Every IsReadPiece (cut_to cut ps)
cut_read whole ps h = h
cut_read (after n) ps h = take_read n ps h

limited_read : (lim : Option ℕ) (ps : List Piece) → Every IsReadPiece ps → Every IsReadPiece (limited lim ps)
limited_read None ps h = h
limited_read (Some n) ps h = take_read n ps h

-- ---- commands

module _ (tag : List ℕ) where
  add_step_read : (p q : ℕ) (d : Document) (e : Tried) (more : Document → Ran) → DocumentRead d → IfAdded DocumentRead e
      → ((d : Document) → DocumentRead d → DocumentRead (more d).document) → DocumentRead (add_step tag p q d e more).document
  add_step_read p q d (refused r) more h k f = h
  add_step_read p q d (added e i t) more h k f = f e k

  add_all_read : (ps : List Piece) → Every IsReadPiece ps → (d : Document) → DocumentRead d → DocumentRead (add_all tag ps d).document
  add_all_read [] r d h = h
  add_all_read (unread p ∷ ps) r d h = h
  add_all_read (piece p q x ∷ ps) r d h =
      add_step_read p q d (attempt d p x) (add_all tag ps) h (attempt_read d p x r.0 h) (add_all_read ps r.1)

  cancel_step_read : (i : ℕ) (d : Document) (e : Edited) (more : Document → Removed) → DocumentRead d → IfChanged DocumentRead e
      → ((d : Document) → DocumentRead d → DocumentRead (more d).document) → DocumentRead (cancel_step tag i d e more).document
  cancel_step_read i d unknown more h k f = f d h
  cancel_step_read i d (refused_by x) more h k f = h
  cancel_step_read i d (changed e) more h k f = f e k

  cancel_all_read : (is : List ℕ) (d : Document) → DocumentRead d → DocumentRead (cancel_all tag is d).document
  cancel_all_read [] d h = h
  cancel_all_read (i ∷ is) d h = cancel_step_read i d (remove d i) (cancel_all tag is) h (remove_read d i h) (cancel_all_read is)

if_read : (b : Bool) (x y : Answer) → DocumentRead x.document → DocumentRead y.document → DocumentRead (if b then x else y).document
if_read true x y h k = h
if_read false x y h k = k

perform_read : (d : Document) (tag : List ℕ) (c : Command) (cut : Cut) → DocumentRead d → DocumentRead (perform language d tag c cut).document
perform_read d tag (cmd.Add opts text) cut h =
    if_read (is_on_top opts.ontop d) _ _
    (add_all_read tag _ (cut_read cut (limited opts.lim (pieces_of text)) (limited_read opts.lim (pieces_of text) (pieces_read text))) d h) h
perform_read d tag (cmd.Cancel is) cut h = cancel_all_read tag (cut_to cut is) d h
perform_read d tag (cmd.Exec i) cut h =
    if_read (is_state i d) _ _ (flagged_read (telling (map (λ j. j.mark.id) (cut_to cut (due language d i)))) d h) h
perform_read d tag (cmd.Query opts q) whole h = if_read (is_state (sid_of opts.sid d) d) _ _ h h
perform_read d tag (cmd.Query opts q) (after n) h = h
perform_read d tag cmd.Join cut h = flagged_read (telling (map (λ j. j.mark.id) (cut_to cut (all_due language d)))) d h
perform_read d tag cmd.Quit cut h = h

answer_read : (d : Document) (q : Request) (cut : Cut) → DocumentRead d → DocumentRead (answer language d q cut).document
answer_read d (Do t) cut h = perform_read d t.tag t.command cut h
answer_read d (Bad b) cut h = h

-- ---- histories

step_read : (p : Standing Script) (e : Event) → DocumentRead p.document → DocumentRead (step language p e).document
step_read p (command n q cut ls) h = answer_read p.document q cut h
step_read p (claim s n) h = h
step_read p (none_waiting s) h = h
step_read p (returned s n true) h = flagged_read (reporting (block_of n p.table.rows)) p.document h
step_read p (returned s n false) h = h
step_read p (lose s n) h = h
step_read p join_answered h = h
step_read p (join_not_yet n s) h = h
step_read p join_stopped h = h
step_read p shut h = h

from_read : (p : Standing Script) (h : List Event) → DocumentRead p.document → DocumentRead (standing_from language p h).document
from_read p [] r = r
from_read p (e ∷ es) r = from_read (step language p e) es (step_read p e r)

pub standing_read : (limit : ℕ) (h : List Event) → DocumentRead (standing language limit h).document
standing_read limit h = from_read (start limit) h (tt, tt)
