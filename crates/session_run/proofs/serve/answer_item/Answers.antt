use Rattle.std.proofs.Common.{◌≡◌, length, ap, ◌∙◌, subst}
use Rattle.sexp_core.specs.Readers.{item_meaning}
use Rattle.serapi_cmd.specs.Requests.{request_of}
use Rattle.session_run.specs.Serving.{Takes}
use Rattle.session_run.proofs.serve.answer_item.Goals as goal

pub returns-clause-takes : goal.returns-clause-takes
returns-clause-takes g c =
    let P = g.P.Party in
    let h = P.asked c.args.party.now in
    let same : c.in-Ok.request ≡ request_of (length h) (item_meaning c.args.item) = c.in-Ok.ensures
    ∙ ap (λ n. request_of n (item_meaning c.args.item)) c.next_number-number.ensures in
    subst (λ q. Takes c.answer.result h q (P.asked c.answer.new.self) (P.left c.answer.new.self)) same c.answer.ensures.takes
