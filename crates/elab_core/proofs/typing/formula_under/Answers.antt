use Rattle.std.proofs.Common.{ap, ◌∙◌}
use Rattle.env_core.specs.Meaning.{declarations}
use Rattle.vern_parse.specs.Meaning.{expression}
use Rattle.elab_core.specs.Scopes.{locals}
use Rattle.elab_core.specs.Built.{formula_built}
use Rattle.elab_core.proofs.Typed.{types_built}
use Rattle.elab_core.proofs.typing.formula_under.Goals as goal

pub returns : goal.returns
returns c =
    let e = declarations c.args.env.now in
    let a = expression c.args.raw.now in
    record {
      answer = types_built e (locals c.args.context.now c.args.binders.now.items) a c.size_of_tree-size.result.nodes
          c.size_of_tree-size.result.height c.in_ok-build_formula.field-0 c.in_ok-check_formula.ensures.fault
          c.size_of_tree-size.ensures.nodes c.size_of_tree-size.ensures.height (λ w. let k = c.passes.ensures.1 w in cc)
          (c.in_ok-build_formula.ensures.value
          ∙ ap (λ bs. formula_built e (locals c.args.context.now bs) a) c.in_ok-check_formula.ensures.kept);
      kept = c.in_ok-build_formula.ensures.kept ∙ c.in_ok-check_formula.ensures.kept;
    }
