use Rattle.std.proofs.Common.{sym, ap, ◌∙◌, codes, map, [], ◌∷◌, ◌++◌}
use Rattle.sexp_theory.specs.Values.{atom}
use Rattle.sexp_theory.specs.Writing.{text}
use Rattle.serapi_ans.specs.declared.line.Line.TheVariants as lines
use Rattle.serapi_ans.specs.Lines.{answer_value, added_value, number, pair, list_of, edit_value, string_value, exn_value, line_text}
use Rattle.serapi_ans.proofs.Putting.{put_as, put_answer}
use Rattle.serapi_ans.proofs.write.write_line.Goals as goal

pub returns-in-Ack : goal.returns-in-Ack
returns-in-Ack g c =
    put_as c.write_word.ensures (ap (λ t. text (answer_value t (atom (codes "Ack"))) ++ 10 ∷ []) c.as_slice.ensures
    ∙ ap line_text (sym c.in-Ack.is))

pub returns-in-Added : goal.returns-in-Added
returns-in-Added g c =
    put_as (put_answer c.as_slice-in-Added.result.now
    (added_value c.in-Added.id c.in-Added.from c.in-Added.to c.in-Added.tip) c.begin_answer.ensures c.put_added.ensures
    c.end_answer.ensures)
    (ap (λ t. text (answer_value t (added_value c.in-Added.id c.in-Added.from c.in-Added.to c.in-Added.tip)) ++ 10 ∷ [])
    c.as_slice-in-Added.ensures ∙ ap line_text (sym c.in-Added.is))

pub returns-in-Canceled : goal.returns-in-Canceled
returns-in-Canceled g c =
    put_as (put_answer c.as_slice-in-Canceled.result.now
    (pair (codes "Canceled") (list_of (map number c.as_slice-in-Canceled-2.result.now))) c.begin_answer-in-Canceled.ensures
    c.put_canceled.ensures c.end_answer-in-Canceled.ensures)
    (ap (λ l. text (answer_value c.as_slice-in-Canceled.result.now (pair (codes "Canceled") (list_of (map number l)))) ++ 10 ∷ [])
    c.as_slice-in-Canceled-2.ensures ∙ ap (λ t. text
    (answer_value t (pair (codes "Canceled") (list_of (map number c.in-Canceled.ids)))) ++ 10 ∷ []) c.as_slice-in-Canceled.ensures
    ∙ ap line_text (sym c.in-Canceled.is))

pub returns-in-EditAt : goal.returns-in-EditAt
returns-in-EditAt g c =
    put_as (put_answer c.as_slice-in-EditAt.result.now (pair (codes "EditAt") (edit_value c.in-EditAt.edit))
    c.begin_answer-in-EditAt.ensures c.put_edit_at.ensures c.end_answer-in-EditAt.ensures)
    (ap (λ t. text (answer_value t (pair (codes "EditAt") (edit_value c.in-EditAt.edit))) ++ 10 ∷ []) c.as_slice-in-EditAt.ensures
    ∙ ap line_text (sym c.in-EditAt.is))

pub returns-in-ObjList : goal.returns-in-ObjList
returns-in-ObjList g c =
    put_as (put_answer c.as_slice-in-ObjList.result.now
    (pair (codes "ObjList") (list_of (map string_value c.as_slice-in-ObjList-2.result.now))) c.begin_answer-in-ObjList.ensures
    c.put_texts.ensures c.end_answer-in-ObjList.ensures)
    (ap (λ l. text (answer_value c.as_slice-in-ObjList.result.now (pair (codes "ObjList") (list_of (map string_value l)))) ++ 10 ∷ [])
    c.as_slice-in-ObjList-2.ensures ∙ ap (λ t. text
    (answer_value t (pair (codes "ObjList") (list_of (map string_value c.in-ObjList.texts)))) ++ 10 ∷ [])
    c.as_slice-in-ObjList.ensures ∙ ap line_text (sym c.in-ObjList.is))

pub returns-in-Joined : goal.returns-in-Joined
returns-in-Joined g c =
    put_as c.write_joined.ensures
    (ap (λ t. line_text (lines.Joined t c.in-Joined.sentences c.as_slice-in-Joined-2.result.now)) c.as_slice-in-Joined.ensures
    ∙ ap (λ l. line_text (lines.Joined c.in-Joined.tag c.in-Joined.sentences l)) c.as_slice-in-Joined-2.ensures
    ∙ ap line_text (sym c.in-Joined.is))

pub returns-in-CoqExn : goal.returns-in-CoqExn
returns-in-CoqExn g c =
    put_as (put_answer c.as_slice-in-CoqExn.result.now (pair (codes "CoqExn") (exn_value c.in-CoqExn.exn))
    c.begin_answer-in-CoqExn.ensures c.put_refusal.ensures c.end_answer-in-CoqExn.ensures)
    (ap (λ t. text (answer_value t (pair (codes "CoqExn") (exn_value c.in-CoqExn.exn))) ++ 10 ∷ []) c.as_slice-in-CoqExn.ensures
    ∙ ap line_text (sym c.in-CoqExn.is))

pub returns-in-OutOfMemory : goal.returns-in-OutOfMemory
returns-in-OutOfMemory g c =
    put_as c.write_word-in-OutOfMemory.ensures
    (ap (λ t. text (answer_value t (atom (codes "OutOfMemory"))) ++ 10 ∷ []) c.as_slice-in-OutOfMemory.ensures
    ∙ ap line_text (sym c.in-OutOfMemory.is))

pub returns-in-Completed : goal.returns-in-Completed
returns-in-Completed g c =
    put_as c.write_word-in-Completed.ensures
    (ap (λ t. text (answer_value t (atom (codes "Completed"))) ++ 10 ∷ []) c.as_slice-in-Completed.ensures
    ∙ ap line_text (sym c.in-Completed.is))

pub returns-in-Feedback : goal.returns-in-Feedback
returns-in-Feedback g c =
    put_as c.write_verdict.ensures (ap line_text (sym c.in-Feedback.is))

pub returns-in-BadInput : goal.returns-in-BadInput
returns-in-BadInput g c =
    put_as c.write_bad.ensures (ap line_text (sym c.in-BadInput.is))
