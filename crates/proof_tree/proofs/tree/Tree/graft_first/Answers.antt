use Rattle.std.proofs.Common.{◌++◌, ap, subst, sym, ◌∙◌}
use Rattle.logic_theory.specs.Grafts.{graft}
use Rattle.proof_tree.specs.Meaning.{meanings, HasLeaf}
use Rattle.proof_tree.specs.Chains.{linked, onto, AreSteps}
use Rattle.proof_tree.proofs.Grafted.{steps_append, grafted}
use Rattle.proof_tree.proofs.tree.Tree.graft_first.Goals as goal

pub settled-requires : goal.settled-requires
settled-requires c =
    subst AreSteps (sym (c.in_ok-closed.ensures ∙ ap (λ z. linked c.part.inside.closed ++ z) c.in_ok-copy.ensures))
    (steps_append (linked c.part.inside.closed) (linked c.self.inside.closed) c.part.invariant.0 c.self.invariant.0)

pub returns-clause-ok : goal.returns-clause-ok
returns-clause-ok c =
    let closed = c.in_ok-closed.ensures ∙ ap (λ z. linked c.part.inside.closed ++ z) c.in_ok-copy.ensures in
    let open_part = c.in_ok-opened.ensures in
    let whole = c.drop.view_is ∙ c.in_ok-self-inside.ensures ∙ (λ j. onto (closed j) (open_part j)) in
    let leaf = subst (λ z. HasLeaf (meanings z)) (sym c.self.view_is) c.requires.leaf in
    ap meanings whole
    ∙ grafted (linked c.part.inside.closed) (linked c.part.inside.open) (linked c.self.inside.closed) (linked c.self.inside.open)
    (linked c.in_ok-rest.rest) c.self.invariant leaf c.in_ok-rest.ensures
    ∙ (λ j. graft (meanings (c.part.view_is j)) (meanings (c.self.view_is j)))
