use Rattle.std.proofs.Common.{◌≡◌, Some, None, Ok, Err, sym, subst, ◌∙◌, arith}
use Rattle.vern_lex.specs.Comments.{outside}
use Rattle.vern_lex.specs.Sentences.{next_sentence}
use Rattle.vern_lex.proofs.Cutting.{IsCut, cut-begun, cut-grown, cut-done, cut-faulted}
use Rattle.vern_lex.proofs.sentences.cut_sentences.Goals as goal

pub sentences-init : goal.sentences-init
sentences-init c = subst (λ spans. IsCut c.args.text.now spans 0) (sym c.new-spans.ensures.items) (cut-begun c.args.text.now)

pub sentences-smaller : goal.sentences-smaller
sentences-smaller c =
    let found : next_sentence c.sentences.at (outside c.split_at.result.1.now) ≡ Some (Ok c.in-Ok.span) = cc in
    let grown = cut-grown c.args.text.now c.split_at.result.1.now c.sentences.spans.items c.sentences.at c.in-Ok.span c.sentences.invariant
    c.split_at.ensures.back found in
    omega (arith, grown.1, grown.0.within)

pub sentences-preserved : goal.sentences-preserved
sentences-preserved c =
    let found : next_sentence c.sentences.at (outside c.split_at.result.1.now) ≡ Some (Ok c.in-Ok.span) = cc in
    let grown = cut-grown c.args.text.now c.split_at.result.1.now c.sentences.spans.items c.sentences.at c.in-Ok.span c.sentences.invariant
    c.split_at.ensures.back found in
    subst (λ spans. IsCut c.args.text.now spans c.in-Ok.span.to) (sym c.in_ok-push-in-Ok.ensures.items) grown.0

pub returns-in-Err : goal.returns-in-Err
returns-in-Err c =
    let found : next_sentence c.sentences.at (outside c.split_at.result.1.now) ≡ Some (Err c.in-Err.fault) = cc in
    c.cut_up_to.ensures ∙ cut-faulted c.args.text.now c.split_at.result.1.now c.sentences.spans.items c.sentences.at c.in-Err.fault
    c.sentences.invariant c.split_at.ensures.back found

pub returns : goal.returns
returns c =
    let none : next_sentence c.sentences.at (outside c.split_at.result.1.now) ≡ None = cc in
    c.cut_up_to-2.ensures ∙ cut-done c.args.text.now c.split_at.result.1.now c.sentences.spans.items c.sentences.at c.sentences.invariant
    c.split_at.ensures.back none
