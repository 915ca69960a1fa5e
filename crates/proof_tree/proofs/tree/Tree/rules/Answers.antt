use Rattle.std.proofs.Common.{◌++◌, map, reverse, ap, sym, ◌∙◌}
use Rattle.proof_tree.specs.Chains.{linked}
use Rattle.proof_tree.proofs.Grafted.{onto_reverse, turned}
use Rattle.proof_tree.proofs.tree.Tree.rules.Goals as goal

pub returns : goal.returns
returns c =
    let closed = linked c.self.inside.closed in
    let first = c.in_ok-all.ensures ∙ ap (λ z. map (λ r. r.now) z ++ closed) c.new.ensures.items in
    let back = ap (map (λ r. r.now)) c.reverse.ensures.items ∙ turned (λ r. r.now) c.in_ok-all.all.items ∙ ap reverse first in
    c.in_ok-whole.ensures ∙ ap (λ z. z ++ linked c.self.inside.open) back
    ∙ sym (onto_reverse closed (linked c.self.inside.open)) ∙ c.self.view_is
