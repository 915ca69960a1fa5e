use Rattle.std.proofs.lemmas.Result.{err_from_is_err_and}
use Rattle.std.proofs.Common.{ap, ◌∙◌, ◌∷◌}
use Rattle.vern_grammar.specs.Machine.{outline}
use Rattle.vern_parse.specs.Meaning.{frames}
use Rattle.vern_parse.proofs.Loops.{gives_shape, lacks_shape, stops_shape}
use Rattle.vern_parse.proofs.read.shape.Goals as goal

pub returns-in_err-mode-clause-fault : goal.returns-in_err-mode-clause-fault
returns-in_err-mode-clause-fault c = let p = err_from_is_err_and c.from_residual-in_err-mode.result c.from_residual-in_err-mode.ensures.1 in
    rw (p.1, p.2) (stops_shape c.in_err-mode.field-0.0 _ _ _ (ap frames c.in_ok-push.ensures
    ∙ ap (λ x. outline ∷ frames x) c.new-stack.ensures) c.in_err-mode.ensures.fault)

pub returns-in-Ok-clause-tree : goal.returns-in-Ok-clause-tree
returns-in-Ok-clause-tree c = gives_shape _ _ _ _ _ (ap frames c.in_ok-push.ensures
    ∙ ap (λ x. outline ∷ frames x) c.new-stack.ensures) c.in_ok-mode.ensures.state c.in-Ok.ensures

pub returns-in-Err-Refused-clause-fault : goal.returns-in-Err-Refused-clause-fault
returns-in-Err-Refused-clause-fault c = lacks_shape _ _ _ _ (ap frames c.in_ok-push.ensures
    ∙ ap (λ x. outline ∷ frames x) c.new-stack.ensures) c.in_ok-mode.ensures.state
    (rw c.in-Err-Refused.field-0-is at c.in-Err-Refused.ensures)
