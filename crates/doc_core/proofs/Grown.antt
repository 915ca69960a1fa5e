-- Histories with one more event at their end.
use Rattle.std.proofs.Common.{◌≡◌, ℕ, ◌<◌, List, [], ◌∷◌, ◌++◌, true, false, Bool, refl, sym, ap, ◌∙◌, subst}
use Rattle.std.proofs.Common.{append_assoc, append-nil}
use Rattle.serapi_cmd.specs.declared.request.Request.{Request}
use Rattle.serapi_ans.specs.declared.line.Line.{Line}
use Rattle.doc_theory.specs.Documents.{Document}
use Rattle.doc_theory.specs.Answers.{Cut}
use Rattle.doc_theory.specs.Histories.{
  Event,
  command,
  claim,
  none_waiting,
  returned,
  lose,
  join_answered,
  join_not_yet,
  join_stopped,
  shut,
  IsNumbered,
  requests,
  outcomes,
}
use Rattle.hist_core.specs.Events.{kept_lines}
use Rattle.doc_core.specs.Answers.{MayBe, answer, answers, answers_from}
use Rattle.doc_core.specs.Histories.{Standing, start, step, IsCommand, Asks, standing_from, standing, LegalFrom, Legal, render}
use Rattle.doc_core.specs.Kept.{IsAnswered, IsKept}

pub standing-grown : (p : Standing) (es : List Event) (e : Event) → standing_from p (es ++ e ∷ []) ≡ step (standing_from p es) e
standing-grown p [] e = refl
standing-grown p (x ∷ es) e = standing-grown (step p x) es e

pub legal-grown : (p : Standing) (es : List Event) (e : Event) → LegalFrom p es → Asks (standing_from p es) e
    → LegalFrom p (es ++ e ∷ [])
legal-grown p [] e l a = (a, tt)
legal-grown p (x ∷ es) e l a = (l.0, legal-grown (step p x) es e l.1 a)

pub render-grown : (es : List Event) (e : Event) → render (es ++ e ∷ []) ≡ render es ++ kept_lines e
render-grown [] e = append-nil (kept_lines e)
render-grown (x ∷ es) e = ap (λ t. kept_lines x ++ t) (render-grown es e)
    ∙ sym (append_assoc (kept_lines x) (render es) (kept_lines e))

-- what a legal history has written is what the one-thread document answers
answered_from : (p : Standing) (es : List Event) → LegalFrom p es
    → render es ≡ answers_from p.document (requests es) (outcomes es)
answered_from p [] l = refl
answered_from p (command n q cut ls ∷ es) l =
    ap (λ z. z ++ render es) l.0.lines ∙ ap (λ t. (answer p.document q cut).lines ++ t) (answered_from (step p (command n q cut ls)) es l.1)
answered_from p (shut ∷ es) l = answered_from (step p shut) es l.1
answered_from p (claim s n ∷ es) l = absurd l.0
answered_from p (none_waiting s ∷ es) l = absurd l.0
answered_from p (returned s n kept ∷ es) l = absurd l.0
answered_from p (lose s n ∷ es) l = absurd l.0
answered_from p (join_answered ∷ es) l = absurd l.0
answered_from p (join_not_yet n s ∷ es) l = absurd l.0
answered_from p (join_stopped ∷ es) l = absurd l.0

pub is_answered : (limit : ℕ) (h : List Event) → Legal limit h → render h ≡ answers limit (requests h) (outcomes h)
is_answered limit h l = answered_from (start limit) h l

-- ---- what a document keeps

-- a request is answered
pub kept_command : {h : List Event} {spare more n : ℕ} {d e : Document} {b : Bool} {q : Request} {cut : Cut} {ls : List Line}
    → IsKept h spare d b → (standing d.limit h).closed ≡ false → (standing d.limit h).quit ≡ false → n ≡ (standing d.limit h).commands
    → IsNumbered n q → IsAnswered d q cut ls e → e.limit ≡ d.limit → 0 < more → IsKept (h ++ command n q cut ls ∷ []) more e b
kept_command {h} {spare} {more} {n} {d} {e} {b} {q} {cut} {ls} k going no_quit number numbered a same room =
    let grown : List Event = h ++ command n q cut ls ∷ [] in
    let at : standing d.limit grown ≡ step (standing d.limit h) (command n q cut ls) =
    standing-grown (start d.limit) h (command n q cut ls) in
    let asks : IsCommand (standing d.limit h) n q cut ls = record {
      going = going;
      no_quit = no_quit;
      number = number;
      numbered = subst (λ m. IsNumbered m q) number numbered;
      may = subst (λ z. MayBe z q cut) k.document a.may;
      lines = a.lines ∙ ap (λ z. (answer z q cut).lines) k.document;
    } in
    let legal : Legal d.limit grown = legal-grown (start d.limit) h (command n q cut ls) k.legal asks in
    record {
      legal = subst (λ z. Legal z grown) (sym same) legal;
      document = a.document ∙ ap (λ z. (answer z q cut).document) k.document ∙ sym (ap (λ (s : Standing). s.document) at)
          ∙ ap (λ z. (standing z grown).document) (sym same);
      closed = k.closed ∙ sym (ap (λ (s : Standing). s.closed) at) ∙ ap (λ z. (standing z grown).closed) (sym same);
      room = λ going_on. room;
    }

-- the history is ended
pub kept_closed : {h : List Event} {spare more : ℕ} {d : Document} {b : Bool} → IsKept h spare d b → (standing d.limit h).closed ≡ false
    → IsKept (h ++ shut ∷ []) more d true
kept_closed {h} {spare} {more} {d} {b} k going =
    let at = standing-grown (start d.limit) h shut in
    record {
      legal = legal-grown (start d.limit) h shut k.legal going;
      document = k.document ∙ sym (ap (λ (s : Standing). s.document) at);
      closed = sym (ap (λ (s : Standing). s.closed) at);
      room = λ (never : true ≡ false). cc;
    }
