use Rattle.std.proofs.Common.{sym, ap, ◌∙◌}
use Rattle.env_core.specs.Meaning.{declarations}
use Rattle.vern_parse.specs.Meaning.{expression}
use Rattle.elab_core.specs.Checked.{fits}
use Rattle.elab_core.proofs.Bodies.{term_made}
use Rattle.elab_core.proofs.define.term_under.Goals as goal

pub returns : goal.returns
returns c =
    let sort = c.args.sort.now in
    let found = c.in_ok-found.found.now in
    term_made (declarations c.args.env.now) c.args.params.now sort (expression c.args.raw.now) found
    c.size_of_tree-size.result.nodes c.size_of_tree-size.result.height c.in_ok-build_term.field-0 c.in_ok-found.ensures
    (ap (λ p. fits sort p found) (sym c.span_of_tree.ensures) ∙ c.in_ok-fit.ensures)
    c.size_of_tree-size.ensures.nodes c.size_of_tree-size.ensures.height (λ w. let k = c.passes.ensures.1 w in cc)
    c.in_ok-build_term.ensures
