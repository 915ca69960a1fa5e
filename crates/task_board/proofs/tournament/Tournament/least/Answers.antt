use Rattle.std.proofs.Common.{◌≡◌, ◌≤◌, get_or, sym, ◌∙◌, subst, ap, arith}
use Rattle.task_board.specs.Places.{nothing}
use Rattle.task_board.proofs.Winners.{root-least}
use Rattle.task_board.proofs.tournament.Tournament.least.Goals as goal

pub returns : goal.returns
returns c =
    let nodes = c.self.inside.nodes.items in
    let is : c.root.result ≡ get_or nodes 1 0 = c.root.ensures.is ∙ ap (λ ns. get_or ns 1 0) c.deref.ensures.value in
    let few : get_or nodes 1 0 ≤ nothing = subst (λ n. n ≤ nothing) is c.root.ensures.fits in
    rw (← c.self.view_is) (is ∙ root-least c.self.inside.places nodes c.self.invariant (omega arith) few)
