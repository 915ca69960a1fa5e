-- What is built is answered as doc_theory says.
use Rattle.std.proofs.Common.{◌≡◌, ℕ, zero, suc, List, [], ◌∷◌, ◌++◌, take, Option, Some, None, true, not, ◌&&◌, is_some}
use Rattle.std.proofs.Common.{if◌then◌else◌, refl, sym, ap, ◌∙◌}
use Rattle.serapi_cmd.specs.declared.command.AddOpts.{AddOpts}
use Rattle.serapi_cmd.specs.declared.command.Command.{Command}
use Rattle.serapi_cmd.specs.declared.command.Command.TheVariants as cmd
use Rattle.serapi_cmd.specs.declared.request.Request.{Request}
use Rattle.serapi_cmd.specs.declared.request.Request.TheVariants.{Do, Bad}
use Rattle.serapi_ans.specs.declared.line.Line.{Line}
use Rattle.serapi_ans.specs.declared.line.Line.TheVariants.{Ack, Added}
use Rattle.serapi_ans.specs.declared.line.Exn.TheVariants as exn
use Rattle.doc_theory.specs.Documents.{Document, cursor}
use Rattle.doc_theory.specs.Editing.{Tried, refused, added, attempt}
use Rattle.doc_theory.specs.Checks.{Check, Piece, piece, unread}
use Rattle.doc_theory.specs.Answers as theory
use Rattle.doc_theory.specs.Answers.{Answer, Cut, add_step, after, answered, cut_to, is_on_top, limited, put_line, stopped}
use Rattle.doc_theory.specs.Answers.{told_of, whole}
use Rattle.doc_core.specs.Pieces.{pieces_of}
use Rattle.doc_core.specs.Answers.{AreBuilt, IsBuilt, IsBuiltCommand, add_all, answer, is_simple, last_lines, perform, told}

step_same : (tag : List ℕ) (p q : ℕ) (d : Document) (cs : List Piece) (r : Tried)
    → ((f : Document) → add_all tag cs f ≡ theory.add_all tag cs f)
    → add_step tag p q d r (add_all tag cs) ≡ add_step tag p q d r (theory.add_all tag cs)
step_same tag p q d cs (refused x) more = refl
step_same tag p q d cs (added f i t) more = ap (put_line (Added tag i p q t)) (more f)

run_same : (tag : List ℕ) (cs : List Piece) (d : Document) → AreBuilt cs → add_all tag cs d ≡ theory.add_all tag cs d
run_same tag [] d h = refl
run_same tag (unread p ∷ cs) d h = refl
run_same tag (piece p q x ∷ cs) d h =
    ap (λ b. add_step tag p q d (if b then attempt d p x else refused exn.Unsupported) (add_all tag cs)) h.0
    ∙ step_same tag p q d cs (attempt d p x) (λ f. run_same tag cs f h.1)

taken : (n : ℕ) (cs : List Piece) → AreBuilt cs → AreBuilt (take n cs)
taken zero cs h = tt
taken (suc n) [] h = tt
taken (suc n) (unread p ∷ cs) h = tt
taken (suc n) (piece p q x ∷ cs) h = (h.0, taken n cs h.1)

cut_built : (cut : Cut) (cs : List Piece) → AreBuilt cs → AreBuilt (cut_to cut cs)
cut_built whole cs h = h
cut_built (after n) cs h = taken n cs h

no_ontop : (a b : Option ℕ) → (not (is_some a) && not (is_some b)) ≡ true → a ≡ None
no_ontop None b h = refl
no_ontop (Some x) b h = cc

no_lim : (a b : Option ℕ) → (not (is_some a) && not (is_some b)) ≡ true → b ≡ None
no_lim a None h = refl
no_lim None (Some x) h = cc
no_lim (Some y) (Some x) h = cc

-- doc_theory's answer to an Add by its parts
abbrev added_by : Document → List ℕ → Cut → Option ℕ → Option ℕ → List Piece → Answer
added_by d tag cut ontop lim cs =
    if is_on_top ontop d then told tag cut (theory.add_all tag (cut_to cut (limited lim cs)) d)
    else answered d (told_of cut tag (Some (exn.NotTip (cursor d))))

add_same : {State : Type 0} (L : Check State) (d : Document) (tag : List ℕ) (opts : AddOpts) (text : List ℕ) (cut : Cut)
    → L.pieces text ≡ pieces_of text → is_simple opts ≡ true → AreBuilt (pieces_of text)
    → perform d tag (cmd.Add opts text) cut ≡ theory.perform L d tag (cmd.Add opts text) cut
add_same L d tag opts text cut pieces simple built =
    let run = run_same tag (cut_to cut (pieces_of text)) d (cut_built cut (pieces_of text) built) in
    let mine : perform d tag (cmd.Add opts text) cut ≡ told tag cut (theory.add_all tag (cut_to cut (pieces_of text)) d) =
    ap (λ b. if b then told tag cut (add_all tag (cut_to cut (pieces_of text)) d)
    else told tag cut (stopped d (Some exn.Unsupported))) simple
    ∙ ap (told tag cut) run in
    let its : theory.perform L d tag (cmd.Add opts text) cut ≡ told tag cut (theory.add_all tag (cut_to cut (pieces_of text)) d) =
    ap (λ o. added_by d tag cut o opts.lim (L.pieces text)) (no_ontop opts.ontop opts.lim simple)
    ∙ ap (λ l. added_by d tag cut None l (L.pieces text)) (no_lim opts.ontop opts.lim simple) ∙ ap (added_by d tag cut None None) pieces in
    mine ∙ sym its

-- with the first line and the last ones
abbrev whole_answer : (tag : List ℕ) (a : Answer) (last : List Line) → Answer
whole_answer tag a last = answered a.document (Ack tag ∷ (a.lines ++ last))

last_of_add : (tag : List ℕ) (opts : AddOpts) (text : List ℕ) (cut : Cut)
    → last_lines tag cut ≡ theory.last_lines tag (cmd.Add opts text) cut
last_of_add tag opts text whole = refl
last_of_add tag opts text (after n) = refl

last_of_quit : (tag : List ℕ) (cut : Cut) → last_lines tag cut ≡ theory.last_lines tag cmd.Quit cut
last_of_quit tag whole = refl
last_of_quit tag (after n) = refl

by_command : {State : Type 0} (L : Check State) (d : Document) (tag : List ℕ) (c : Command) (cut : Cut)
    → ((text : List ℕ) → L.pieces text ≡ pieces_of text) → IsBuiltCommand c
    → whole_answer tag (perform d tag c cut) (last_lines tag cut)
    ≡ whole_answer tag (theory.perform L d tag c cut) (theory.last_lines tag c cut)
by_command L d tag (cmd.Add opts text) cut pieces built =
    ap (λ a. whole_answer tag a (last_lines tag cut)) (add_same L d tag opts text cut (pieces text) built.0 built.1)
    ∙ ap (whole_answer tag (theory.perform L d tag (cmd.Add opts text) cut)) (last_of_add tag opts text cut)
by_command L d tag cmd.Quit cut pieces built = ap (whole_answer tag (answered d [])) (last_of_quit tag cut)
by_command L d tag (cmd.Cancel is) cut pieces built = absurd built
by_command L d tag (cmd.Exec i) cut pieces built = absurd built
by_command L d tag (cmd.Query opts k) cut pieces built = absurd built
by_command L d tag cmd.Join cut pieces built = absurd built

pub is_theory : {State : Type 0} (L : Check State) (d : Document) (q : Request) (cut : Cut)
    → ((text : List ℕ) → L.pieces text ≡ pieces_of text) → IsBuilt q → answer d q cut ≡ theory.answer L d q cut
is_theory L d (Bad b) cut pieces built = refl
is_theory L d (Do t) cut pieces built = by_command L d t.tag t.command cut pieces built
