-- Runs of the small check, with the lines that they write.
use Rattle.std.specs.Prelude.{ℕ, List, [], ◌∷◌, ◌++◌, map, true, false, Option, Some, None, codes}
use Rattle.serapi_cmd.specs.declared.command.Command.{Command}
use Rattle.serapi_cmd.specs.declared.command.Command.TheVariants as cmd
use Rattle.serapi_cmd.specs.declared.command.QueryKind.{QueryKind}
use Rattle.serapi_cmd.specs.declared.command.QueryKind.TheVariants.{Goals, Ast, Definition}
use Rattle.serapi_cmd.specs.declared.request.Request.{Request}
use Rattle.serapi_cmd.specs.declared.request.Request.TheVariants.{Do}
use Rattle.serapi_ans.specs.declared.line.Line.{Line}
use Rattle.serapi_ans.specs.declared.line.Line.TheVariants.{Ack, Added, Canceled, EditAt, ObjList, Joined, CoqExn, Completed, Feedback}
use Rattle.serapi_ans.specs.declared.line.EditLine.TheVariants.{NewTip, Focus}
use Rattle.serapi_ans.specs.declared.line.Exn.{Exn}
use Rattle.serapi_ans.specs.declared.line.Exn.TheVariants as exn
use Rattle.doc_theory.specs.Answers.{whole, after, ended, answers}
use Rattle.doc_theory.specs.Histories.{Event, command, claim, returned, lose, join_answered, join_not_yet}
use Rattle.doc_theory.specs.Toy.{toy}

-- ---- requests

abbrev pub asked : Command → Request
asked c = Do (record { tag = []; command = c })

abbrev pub adding : List ℕ → Request
adding text = asked (cmd.Add (record { ontop = None; lim = None; verb = false }) text)

abbrev pub adding_with : Option ℕ → Option ℕ → List ℕ → Request
adding_with ontop lim text = asked (cmd.Add (record { ontop = ontop; lim = lim; verb = false }) text)

abbrev pub canceling : List ℕ → Request
canceling is = asked (cmd.Cancel is)

abbrev pub executing : ℕ → Request
executing i = asked (cmd.Exec i)

abbrev pub asking : Option ℕ → QueryKind → Request
asking sid q = asked (cmd.Query (record { sid = sid }) q)

abbrev pub joining : Request
joining = asked cmd.Join

-- what is written for requests that are all answered whole
abbrev pub said : List Request → List Line
said qs = answers toy 1048576 qs (map (λ q. record { cut = whole; fate = ended }) qs)

-- ---- texts: a sentence's offsets, its kind (0 outside of proofs, 1 a lemma, 2 inside, 3 Qed, 5 Defined), and what it says

-- two parameters, a lemma and its proof, whose second refinement behind the split says this, and this closer
abbrev pub text_with : ℕ → ℕ → List ℕ
text_with t k =
    0 ∷ 19 ∷ 0 ∷ 0 ∷ 20 ∷ 39 ∷ 0 ∷ 0 ∷ 40 ∷ 67 ∷ 1 ∷ 0 ∷ 68 ∷ 74 ∷ 2 ∷ 0 ∷ 75 ∷ 83 ∷ 2 ∷ 0 ∷ 84 ∷ 104 ∷ 2 ∷ 0
    ∷ 105 ∷ 111 ∷ 2 ∷ 1 ∷ 112 ∷ 120 ∷ 2 ∷ t ∷ 121 ∷ 129 ∷ 2 ∷ 2 ∷ 130 ∷ 134 ∷ k ∷ 0 ∷ []

abbrev pub first_text : List ℕ
first_text = text_with 2 3

-- one of its refinements doesn't match
abbrev pub faulty_text : List ℕ
faulty_text = text_with 3 3

abbrev pub faulty_defined : List ℕ
faulty_defined = text_with 3 5

-- a second lemma, proved by the statement of the first
abbrev pub second_text : List ℕ
second_text = 0 ∷ 27 ∷ 1 ∷ 0 ∷ 28 ∷ 34 ∷ 2 ∷ 0 ∷ 35 ∷ 43 ∷ 2 ∷ 4 ∷ 44 ∷ 48 ∷ 3 ∷ 0 ∷ []

-- ---- lines

abbrev pub between : List Line → List Line
between ls = Ack [] ∷ ls ++ Completed [] ∷ []

abbrev pub plus : ℕ → ℕ → ℕ → Line
plus i p q = Added [] i p q None

abbrev pub refusal : Exn → Line
refusal e = CoqExn [] e

abbrev pub right : ℕ → ℕ → Line
right r i = Feedback i r None

abbrev pub wrongly : ℕ → ℕ → List ℕ → Line
wrongly r i t = Feedback i r (Some t)

abbrev pub no_match : List ℕ
no_match = codes "cannot match"

abbrev pub by_fault : ℕ → List ℕ
by_fault i = codes "blocked by " ++ i ∷ []

abbrev pub one_goal : List ℕ
one_goal = 1 ∷ codes " goals left"

abbrev pub first_added : List Line
first_added = between (plus 2 0 19 ∷ plus 3 20 39 ∷ plus 4 40 67 ∷ plus 5 68 74 ∷ plus 6 75 83 ∷ plus 7 84 104
    ∷ plus 8 105 111 ∷ plus 9 112 120 ∷ plus 10 121 129 ∷ plus 11 130 134 ∷ [])

abbrev pub second_added : List Line
second_added = between (plus 12 0 27 ∷ plus 13 28 34 ∷ plus 14 35 43 ∷ plus 15 44 48 ∷ [])

abbrev pub outside_told : List Line
outside_told = between (right 0 2 ∷ right 0 3 ∷ right 0 4 ∷ [])

-- ---- a proof that is right: an Exec tells what isn't checked apart, and a Join the rest

abbrev pub plain_requests : List Request
plain_requests = adding first_text ∷ executing 11 ∷ joining ∷ []

abbrev pub plain_lines : List Line
plain_lines = first_added ++ outside_told ++ between (Joined [] 10 [] ∷ [])

abbrev pub plain_run : List Event
plain_run = command 0 (adding first_text) whole first_added ∷ command 1 (executing 11) whole outside_told
    ∷ command 2 joining whole (Ack [] ∷ []) ∷ claim 0 0 ∷ returned 0 0 true ∷ join_answered ∷ []

abbrev pub plain_written : List Line
plain_written = first_added ++ outside_told ++ (Ack [] ∷ right 1 5 ∷ right 1 6 ∷ right 1 7 ∷ right 1 8 ∷ right 1 9 ∷ right 1 10 ∷ right 1 11
    ∷ Joined [] 10 [] ∷ Completed [] ∷ [])

-- ---- a proof with a fault: what follows in it is blocked

abbrev pub first_faults : List (ℕ × List ℕ)
first_faults = (9, no_match) ∷ (10, by_fault 9) ∷ (11, by_fault 9) ∷ []

abbrev pub faulty_results : List Line
faulty_results = right 1 5 ∷ right 1 6 ∷ right 1 7 ∷ right 1 8 ∷ wrongly 1 9 no_match ∷ wrongly 1 10 (by_fault 9)
    ∷ wrongly 1 11 (by_fault 9) ∷ []

abbrev pub faulty_run : List Event
faulty_run = command 0 (adding faulty_text) whole first_added ∷ command 1 (executing 11) whole outside_told
    ∷ command 2 joining whole (Ack [] ∷ []) ∷ claim 0 0 ∷ returned 0 0 true ∷ join_answered ∷ []

abbrev pub faulty_written : List Line
faulty_written = first_added ++ outside_told ++ Ack [] ∷ faulty_results ++ Joined [] 10 first_faults ∷ Completed [] ∷ []

-- the statement of a lemma whose proof failed is kept: a second lemma uses it
abbrev pub kept_run : List Event
kept_run = command 0 (adding faulty_text) whole first_added ∷ command 1 (adding second_text) whole second_added
    ∷ command 2 (executing 15) whole (between (right 0 2 ∷ right 0 3 ∷ right 0 4 ∷ right 0 12 ∷ [])) ∷ command 3 joining whole (Ack [] ∷ [])
    ∷ claim 0 0 ∷ returned 0 0 true ∷ claim 0 1 ∷ returned 0 1 true ∷ join_answered ∷ []

abbrev pub kept_written : List Line
kept_written = first_added ++ second_added ++ between (right 0 2 ∷ right 0 3 ∷ right 0 4 ∷ right 0 12 ∷ []) ++ Ack [] ∷ faulty_results
    ++ right 1 13 ∷ right 1 14 ∷ right 1 15 ∷ Joined [] 14 first_faults ∷ Completed [] ∷ []

-- that of a failed Defined isn't, and its block isn't checked apart
abbrev pub defined_told : List Line
defined_told = between (right 0 2 ∷ right 0 3 ∷ right 0 4 ∷ right 0 5 ∷ right 0 6 ∷ right 0 7 ∷ right 0 8 ∷ wrongly 0 9 no_match
    ∷ wrongly 0 10 (by_fault 9) ∷ wrongly 0 11 (by_fault 9) ∷ refusal (exn.Check 9 no_match) ∷ [])

abbrev pub defined_run : List Event
defined_run = command 0 (adding faulty_defined) whole first_added ∷ command 1 (adding second_text) whole second_added
    ∷ command 2 (executing 11) whole defined_told ∷ command 3 joining whole (Ack [] ∷ right 0 12 ∷ []) ∷ claim 0 0
    ∷ returned 0 0 true ∷ join_answered ∷ []

abbrev pub defined_written : List Line
defined_written = first_added ++ second_added ++ defined_told ++ Ack [] ∷ right 0 12 ∷ right 1 13
    ∷ wrongly 1 14 (codes "unknown name") ∷ wrongly 1 15 (by_fault 14)
    ∷ Joined [] 14 (first_faults ++ (14, codes "unknown name") ∷ (15, by_fault 14) ∷ []) ∷ Completed [] ∷ []

-- an Exec inside of a block checks and tells nothing of it, and names its first fault, whether the block's result came or not
abbrev pub inside_told : List Line
inside_told = between (refusal (exn.Check 9 no_match) ∷ [])

abbrev pub before_result : List Event
before_result = command 0 (adding faulty_text) whole first_added ∷ command 1 (executing 11) whole outside_told ∷ claim 1 0
    ∷ command 2 (executing 10) whole inside_told ∷ []

abbrev pub behind_result : List Event
behind_result = command 0 (adding faulty_text) whole first_added ∷ command 1 (executing 11) whole outside_told ∷ claim 1 0
    ∷ returned 1 0 true
    ∷ command 2 (executing 10) whole inside_told ∷ []

-- ---- edits

-- a sentence inside of a closed proof is removed: a zone is opened, and what stands behind it stays
abbrev pub zone_requests : List Request
zone_requests = adding first_text ∷ adding second_text ∷ canceling (8 ∷ []) ∷ []

abbrev pub zone_lines : List Line
zone_lines = first_added ++ second_added ++ between (EditAt [] (Focus 4 11 15) ∷ Canceled [] (8 ∷ 9 ∷ 10 ∷ []) ∷ [])

-- the kept closer is told; then sentences come into the zone, and a state in it is asked for
abbrev pub inside_requests : List Request
inside_requests = executing 11 ∷ adding (0 ∷ 6 ∷ 2 ∷ 1 ∷ 7 ∷ 15 ∷ 2 ∷ 2 ∷ []) ∷ asking (Some 17) Goals ∷ []

abbrev pub inside_lines : List Line
inside_lines = between (right 0 2 ∷ right 0 3 ∷ right 0 4 ∷ right 0 5 ∷ right 0 6 ∷ right 0 7 ∷ wrongly 0 11 one_goal
    ∷ refusal (exn.Check 11 one_goal) ∷ [])
    ++ between (plus 16 0 6 ∷ plus 17 7 15 ∷ []) ++ between (ObjList [] ((1 ∷ []) ∷ []) ∷ [])

-- Defined can't close a zone; Qed does, with the kept closer's id
abbrev pub closing_requests : List Request
closing_requests = adding (0 ∷ 8 ∷ 5 ∷ 0 ∷ []) ∷ adding (0 ∷ 8 ∷ 2 ∷ 2 ∷ 9 ∷ 13 ∷ 3 ∷ 0 ∷ []) ∷ []

abbrev pub closing_lines : List Line
closing_lines = between (refusal (exn.BadCloser 0 11) ∷ []) ++ between (plus 18 0 8 ∷ Added [] 11 9 13 (Some 15) ∷ [])

-- the kept closer and what stands behind it can't be removed, and what comes behind them isn't treated
abbrev pub tail_requests : List Request
tail_requests = canceling (13 ∷ 7 ∷ []) ∷ []

abbrev pub tail_lines : List Line
tail_lines = between (Canceled [] [] ∷ refusal (exn.ZoneOpen 13 11) ∷ [])

-- all but the lemma of a proof is removed; then nothing of it lives
abbrev pub twice_requests : List Request
twice_requests = adding first_text ∷ canceling (5 ∷ 5 ∷ 1 ∷ 99 ∷ []) ∷ []

abbrev pub twice_lines : List Line
twice_lines = first_added ++ between (EditAt [] (Focus 4 11 11) ∷ Canceled [] (5 ∷ 6 ∷ 7 ∷ 8 ∷ 9 ∷ 10 ∷ []) ∷ [])

-- the kept closer is told again when its zone has changed
abbrev pub again_requests : List Request
again_requests = executing 11 ∷ []

abbrev pub again_lines : List Line
again_lines = between (right 0 16 ∷ right 0 17 ∷ wrongly 0 11 one_goal ∷ refusal (exn.Check 11 one_goal) ∷ [])

-- the block is delegated again: an Exec tells nothing inside of it
abbrev pub closed_requests : List Request
closed_requests = adding (0 ∷ 8 ∷ 2 ∷ 2 ∷ 9 ∷ 13 ∷ 3 ∷ 0 ∷ []) ∷ executing 15 ∷ []

abbrev pub closed_lines : List Line
closed_lines = between (plus 18 0 8 ∷ Added [] 11 9 13 (Some 15) ∷ []) ++ between (right 0 12 ∷ [])

-- a Query without an id asks for the state at the cursor, which in a zone isn't the tip
abbrev pub cursor_requests : List Request
cursor_requests = asking None Goals ∷ asking (Some 15) Goals ∷ adding (0 ∷ 6 ∷ 2 ∷ 1 ∷ 7 ∷ 15 ∷ 2 ∷ 2 ∷ []) ∷ asking None Ast ∷ []

abbrev pub cursor_lines : List Line
cursor_lines = between (ObjList [] ((1 ∷ []) ∷ []) ∷ []) ++ between (ObjList [] ((0 ∷ []) ∷ []) ∷ [])
    ++ between (plus 16 0 6 ∷ plus 17 7 15 ∷ [])
    ++ between (ObjList [] ((2 ∷ []) ∷ []) ∷ [])

-- a sentence outside of proofs is removed: all behind it goes, and a new one comes behind what is left
abbrev pub alone_requests : List Request
alone_requests = adding first_text ∷ canceling (3 ∷ []) ∷ executing 4 ∷ adding (0 ∷ 19 ∷ 0 ∷ 0 ∷ []) ∷ executing 12 ∷ []

abbrev pub alone_lines : List Line
alone_lines = first_added
    ++ between (EditAt [] (NewTip 2) ∷ Canceled [] (3 ∷ 4 ∷ 5 ∷ 6 ∷ 7 ∷ 8 ∷ 9 ∷ 10 ∷ 11 ∷ []) ∷ [])
    ++ between (refusal (exn.NoSuchState 4) ∷ []) ++ between (plus 12 0 19 ∷ []) ++ between (right 0 2 ∷ right 0 12 ∷ [])

-- ---- refusals, and what is asked of a state

abbrev pub refused_requests : List Request
refused_requests = adding first_text ∷ executing 99 ∷ adding_with (Some 4) None (0 ∷ 4 ∷ 3 ∷ 0 ∷ []) ∷ adding (0 ∷ 4 ∷ 3 ∷ 0 ∷ [])
    ∷ asking None (Definition (122 ∷ [])) ∷ asking (Some 8) Ast ∷ canceling (11 ∷ []) ∷ adding (0 ∷ 19 ∷ 0 ∷ 0 ∷ [])
    ∷ adding (0 ∷ 4 ∷ 7 ∷ 0 ∷ []) ∷ []

abbrev pub refused_lines : List Line
refused_lines = first_added ++ between (refusal (exn.NoSuchState 99) ∷ []) ++ between (refusal (exn.NotTip 11) ∷ [])
    ++ between (refusal (exn.NoOpenProof 0) ∷ [])
    ++ between (refusal (exn.UnknownName (122 ∷ [])) ∷ []) ++ between (ObjList [] ((1 ∷ []) ∷ []) ∷ [])
    ++ between (EditAt [] (NewTip 10) ∷ Canceled [] (11 ∷ []) ∷ [])
    ++ between (refusal (exn.ProofOpen 0 4) ∷ []) ++ between (refusal (exn.Parse 0) ∷ [])

-- as many as the limit are taken, and as many as were asked for; a command that is cut has done its first steps
abbrev pub limited_lines : List Line
limited_lines = answers toy 2 (adding (0 ∷ 19 ∷ 0 ∷ 0 ∷ 20 ∷ 39 ∷ 0 ∷ 0 ∷ 40 ∷ 59 ∷ 0 ∷ 0 ∷ []) ∷ [])
    (record { cut = whole; fate = ended } ∷ [])

abbrev pub chosen_lines : List Line
chosen_lines = said (adding_with None (Some 1) first_text ∷ [])

abbrev pub cut_lines : List Line
cut_lines = answers toy 1048576 (adding first_text ∷ canceling (11 ∷ 10 ∷ []) ∷ []) (record { cut = whole; fate = ended }
    ∷ record { cut = after 1; fate = ended } ∷ [])

-- none is taken where none was asked for, not even to be read; but where the client is mistaken on the cursor, that is told
abbrev pub none_requests : List Request
none_requests = adding_with None (Some 0) first_text ∷ adding_with None (Some 0) (0 ∷ 4 ∷ 7 ∷ 0 ∷ [])
    ∷ adding_with (Some 4) (Some 0) first_text ∷ []

abbrev pub none_lines : List Line
none_lines = between [] ++ between [] ++ between (refusal (exn.NotTip 1) ∷ [])

-- ---- late results

-- a late result of a block that was edited since is dropped, and the new task's is kept
abbrev pub late : List Event
late = command 0 (adding first_text) whole first_added ∷ command 1 (executing 11) whole outside_told ∷ claim 1 0
    ∷ command 2 (canceling (8 ∷ [])) whole (between (EditAt [] (Focus 4 11 11) ∷ Canceled [] (8 ∷ 9 ∷ 10 ∷ []) ∷ []))
    ∷ command 3 (adding (0 ∷ 6 ∷ 2 ∷ 1 ∷ 7 ∷ 15 ∷ 2 ∷ 3 ∷ 16 ∷ 24 ∷ 2 ∷ 2 ∷ 25 ∷ 29 ∷ 3 ∷ 0 ∷ [])) whole
    (between (plus 12 0 6 ∷ plus 13 7 15 ∷ plus 14 16 24 ∷ Added [] 11 25 29 (Some 11) ∷ []))
    ∷ command 4 joining whole (Ack [] ∷ []) ∷ join_not_yet 1 None ∷ claim 1 1 ∷ join_not_yet 1 (Some 1) ∷ returned 1 0 false
    ∷ returned 1 1 true ∷ join_answered ∷ []

abbrev pub late_before : List Line
late_before = first_added ++ outside_told ++ between (EditAt [] (Focus 4 11 11) ∷ Canceled [] (8 ∷ 9 ∷ 10 ∷ []) ∷ [])
    ++ between (plus 12 0 6 ∷ plus 13 7 15 ∷ plus 14 16 24 ∷ Added [] 11 25 29 (Some 11) ∷ []) ++ Ack [] ∷ []

abbrev pub late_results : List Line
late_results = right 1 5 ∷ right 1 6 ∷ right 1 7 ∷ right 1 12 ∷ wrongly 1 13 no_match ∷ wrongly 1 14 (by_fault 13)
    ∷ wrongly 1 11 (by_fault 13) ∷ []

abbrev pub late_joined : List Line
late_joined = Joined [] 10 ((13, no_match) ∷ (14, by_fault 13) ∷ (11, by_fault 13) ∷ []) ∷ Completed [] ∷ []

-- a task that was lost waits again, and another seat's claim gives it
abbrev pub lost_run : List Event
lost_run = command 0 (adding first_text) whole first_added ∷ command 1 (executing 11) whole outside_told ∷ claim 1 0 ∷ lose 1 0
    ∷ claim 2 0 ∷ returned 2 0 true ∷ []

-- a block that was edited and closed again: its result goes in the order of the document, not of the ids
abbrev pub edited_run : List Event
edited_run = command 0 (adding first_text) whole first_added
    ∷ command 1 (canceling (8 ∷ [])) whole (between (EditAt [] (Focus 4 11 11) ∷ Canceled [] (8 ∷ 9 ∷ 10 ∷ []) ∷ []))
    ∷ command 2 (adding (0 ∷ 6 ∷ 2 ∷ 1 ∷ 7 ∷ 15 ∷ 2 ∷ 2 ∷ 16 ∷ 24 ∷ 2 ∷ 2 ∷ 25 ∷ 29 ∷ 3 ∷ 0 ∷ [])) whole
    (between (plus 12 0 6 ∷ plus 13 7 15 ∷ plus 14 16 24 ∷ Added [] 11 25 29 (Some 11) ∷ []))
    ∷ command 3 (executing 11) whole outside_told ∷ claim 1 0 ∷ returned 1 0 true ∷ []

abbrev pub edited_results : List Line
edited_results = right 1 5 ∷ right 1 6 ∷ right 1 7 ∷ right 1 12 ∷ right 1 13 ∷ right 1 14 ∷ right 1 11 ∷ []

-- a zone is opened in a block that its result has told: what stays in it is told again, now by an Exec
abbrev pub opened_run : List Event
opened_run = command 0 (adding first_text) whole first_added ∷ command 1 (executing 11) whole outside_told ∷ claim 1 0
    ∷ returned 1 0 true
    ∷ command 2 (canceling (8 ∷ [])) whole (between (EditAt [] (Focus 4 11 11) ∷ Canceled [] (8 ∷ 9 ∷ 10 ∷ []) ∷ []))
    ∷ command 3 (executing 7) whole (between (right 0 5 ∷ right 0 6 ∷ right 0 7 ∷ [])) ∷ []
