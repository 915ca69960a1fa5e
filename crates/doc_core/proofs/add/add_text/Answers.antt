use Rattle.std.proofs.Common.{◌∙◌, ap, sym, subst, rules, Option, Ok}
use Rattle.serapi_ans.specs.declared.line.Exn.{Exn}
use Rattle.vern_lex.specs.Sentences.{sentences_of}
use Rattle.vern_lex.specs.declared.sentences.SentenceCut.{SentenceCut}
use Rattle.doc_core.specs.Pieces.{pieces_of, unread_from}
use Rattle.doc_core.specs.Kept.{Adds, refusal_of}
use Rattle.doc_core.proofs.Adding.{adds_end, begun_at, one_more, one_refused, one_short}
use Rattle.doc_core.proofs.add.add_text.Goals as goal

pub loop-span-preserved : goal.loop-span-preserved
loop-span-preserved c =
    let text = c.args.text.now in (
      one_more (begun_at text c.as_slice-span-items.result.now c.loop-span.span-index _ (unread_from (sentences_of text).fault)
          c.loop-span-test.true c.loop-span.invariant.0) (rw c.in-Ok-None.field-0-is at c.in-Ok-None.ensures.adds),
      c.in-Ok-None.ensures.room,
      search rules,
    )

pub returns-in-Ok-Some-clause-adds : goal.returns-in-Ok-Some-clause-adds
returns-in-Ok-Some-clause-adds c =
    let text = c.args.text.now in
    one_refused (begun_at text c.as_slice-span-items.result.now c.loop-span.span-index _ (unread_from (sentences_of text).fault)
    c.loop-span-test.true c.loop-span.invariant.0) (rw c.in-Ok-Some.field-0-is at c.in-Ok-Some.ensures.adds)

pub returns-in-Err-clause-adds : goal.returns-in-Err-clause-adds
returns-in-Err-clause-adds c = one_short c.in-Err.field-0 c.loop-span.invariant.0 c.in-Err.ensures.adds

pub returns-clause-adds : goal.returns-clause-adds
returns-clause-adds c =
    let text = c.args.text.now in
    subst (λ (x : Option Exn). Adds (Ok x) c.args.tag.now (pieces_of text) c.args.script.now c.args.lines.now.items c.loop-span.script
    c.loop-span.lines.items) (sym (c.refusal_of.ensures ∙ ap (λ (s : SentenceCut). refusal_of s.fault) c.in_ok-cut.ensures))
    (adds_end text c.as_slice-span-items.result.now c.loop-span.span-index (sentences_of text).fault c.loop-span-test.false
    c.loop-span.invariant.0)
