use Rattle.std.proofs.lemmas.Result.{err_from_is_err_and}
use Rattle.std.proofs.Common.{◌∙◌, arith}
use Rattle.vern_grammar.specs.Machine.{at}
use Rattle.vern_parse.specs.Meaning.{frames, mode}
use Rattle.vern_parse.proofs.Loops.{loop_next, stops}
use Rattle.vern_parse.proofs.read.read.Goals as goal

pub returns-in_err-mode-clause-fault : goal.returns-in_err-mode-clause-fault
returns-in_err-mode-clause-fault c =
    let p = err_from_is_err_and c.from_residual.result c.from_residual.ensures.1 in
    rw (p.1, p.2) (stops c.args.sentence.now c.args.tokens.now c.tokens.i _ _ (at (mode c.tokens.mode) (frames c.tokens.stack))
    (omega arith) c.tokens.invariant.0 c.in_err-mode.field-0.0 _ c.in_err-mode.ensures.exact)

pub tokens-preserved : goal.tokens-preserved
tokens-preserved c = (
  loop_next c.args.sentence.now c.args.tokens.now c.tokens.i _ _ (at (mode c.tokens.mode) (frames c.tokens.stack))
      (omega arith) c.tokens.invariant.0 ∙ c.in_ok-mode.ensures.exact,
  c.in_ok-mode.ensures.bounded,
)
