-- Each command leaves the work of each delegated block that is still there as it was.
use Rattle.std.proofs.Common.{◌≡◌, ℕ, List, [], ◌∷◌, ◌++◌, map, Bool, true, false, if◌then◌else◌, Some, None, sym, subst}
use Rattle.serapi_ans.specs.declared.line.Line.TheVariants.{CoqExn}
use Rattle.serapi_ans.specs.declared.line.Exn.TheVariants as exn
use Rattle.serapi_cmd.specs.declared.command.Command.TheVariants as cmd
use Rattle.serapi_cmd.specs.declared.command.Command.{Command}
use Rattle.serapi_cmd.specs.declared.request.Request.{Request}
use Rattle.serapi_cmd.specs.declared.request.Request.TheVariants.{Do, Bad}
use Rattle.line_theory.specs.Lists.{has}
use Rattle.doc_theory.specs.Lists.{Member}
use Rattle.doc_theory.specs.Documents.{Home, flagged, Document, is_state, telling, bodies}
use Rattle.doc_theory.specs.Checks.{Check, Laws, Judged, judged, before, path, Work, works}
use Rattle.doc_theory.specs.Answers.{
  Cut,
  whole,
  after,
  cut_to,
  told_of,
  limited,
  is_on_top,
  due,
  all_due,
  feedbacks,
  first_wrong,
  asked_at,
  sid_of,
  Answer,
  answered,
  told_to,
  perform,
  answer,
}
use Rattle.doc_theory.specs.Invariants.{Sound}
use Rattle.doc_theory.proofs.Added.{add_all_grows}
use Rattle.doc_theory.proofs.Removed.{cancel_all_keeps}
use Rattle.doc_theory.proofs.Flags.{works_flagged, sound_flagged}

-- each delegated block of the first document that is delegated in the second has the work that it had, and the second is sound
pub record Onward {State : Type 0} (L : Check State) (d e : Document) : Type 0 where
  pub works : (w : Work State) → Member w (works L d) → has w.lemma (bodies e) ≡ true → Member w (works L e)
  pub sound : Sound e

pub same_onward : {State : Type 0} (L : Check State) (d : Document) → Sound d → Onward L d d
same_onward L d s = record { works = λ w m h. m; sound = s }

pub flagged_onward : {State : Type 0} (L : Check State) (rule : Home → ℕ → Bool → Bool) (d : Document) → Sound d
    → Onward L d (flagged rule d)
flagged_onward L rule d s = record { works = λ w m h. subst (Member w) (sym (works_flagged L rule d)) m; sound = sound_flagged rule d s }

told_onward : {State : Type 0} (L : Check State) (js : List (Judged State)) (d : Document) → Sound d → Onward L d (told_to js d)
told_onward L js d s = flagged_onward L (telling (map (λ j. j.mark.id) js)) d s

if_onward : {State : Type 0} (L : Check State) (d : Document) (b : Bool) (x y : Answer) → Onward L d x.document → Onward L d y.document
    → Onward L d (if b then x else y).document
if_onward L d true x y h k = h
if_onward L d false x y h k = k

perform_onward : {State : Type 0} (L : Check State) → Laws L → (d : Document) (tag : List ℕ) (c : Command) (cut : Cut) → Sound d
    → Onward L d (perform L d tag c cut).document
perform_onward L laws d tag (cmd.Add opts text) cut s = if_onward L d (is_on_top opts.ontop d) _ _
    (let g = add_all_grows L laws tag (cut_to cut (limited opts.lim (L.pieces text))) d s in
    record { works = λ w m h. g.works w m; sound = g.sound }) (same_onward L d s)
perform_onward L laws d tag (cmd.Cancel is) cut s = let k = cancel_all_keeps L laws tag (cut_to cut is) d s in
    record { works = k.works; sound = k.sound }
perform_onward L laws d tag (cmd.Exec i) cut s = if_onward L d (is_state i d)
    (answered (told_to (cut_to cut (due L d i)) d) (feedbacks 0 (cut_to cut (due L d i)) ++ told_of cut tag
    (first_wrong (path (before i (judged L d))))))
    (answered d (told_of cut tag (Some (exn.NoSuchState i)))) (told_onward L (cut_to cut (due L d i)) d s) (same_onward L d s)
perform_onward L laws d tag (cmd.Query opts q) whole s = if_onward L d (is_state (sid_of opts.sid d) d)
    (answered d (asked_at L tag q L.start None (before (sid_of opts.sid d) (judged L d)) ∷ []))
    (answered d (CoqExn tag (exn.NoSuchState (sid_of opts.sid d)) ∷ [])) (same_onward L d s) (same_onward L d s)
perform_onward L laws d tag (cmd.Query opts q) (after n) s = same_onward L d s
perform_onward L laws d tag cmd.Join cut s = told_onward L (cut_to cut (all_due L d)) d s
perform_onward L laws d tag cmd.Quit cut s = same_onward L d s

pub answer_onward : {State : Type 0} (L : Check State) → Laws L → (d : Document) (q : Request) (cut : Cut) → Sound d
    → Onward L d (answer L d q cut).document
answer_onward L laws d (Do t) cut s = perform_onward L laws d t.tag t.command cut s
answer_onward L laws d (Bad b) cut s = same_onward L d s
