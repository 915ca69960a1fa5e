use Rattle.std.proofs.Common.{◌+◌, ◌++◌, drop, refl, sym, ap, ◌∙◌}
use Rattle.sexp_theory.specs.Writing.{text}
use Rattle.serapi_ans.specs.Lines.{string_value}
use Rattle.sexp_core.proofs.Putting.{put_more}
use Rattle.serapi_ans.specs.Pieces.{string_texts}
use Rattle.serapi_ans.proofs.Putting.{element_at, all_put}
use Rattle.serapi_ans.proofs.write.put_strings.Goals as goal

pub loop-text-preserved : goal.loop-text-preserved
loop-text-preserved g c =
    let rest = drop c.loop-text.text-index c.args.texts.now in
    let more = drop (c.loop-text.text-index + 1) c.args.texts.now in
    put_more (string_texts rest) (string_texts more) c.loop-text.invariant c.put_named.ensures
    (ap string_texts (element_at c.args.texts.now c.loop-text.text-index c.text-item.result c.loop-text-test.true c.text-item.is)
    ∙ ap (λ b. text (string_value b) ++ string_texts more) (sym c.as_slice.ensures))

pub returns : goal.returns
returns g c = all_put string_texts _ c.args.texts.now c.loop-text.text-index refl c.loop-text-test.false c.loop-text.invariant
