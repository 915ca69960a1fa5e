use Rattle.std.proofs.Common.{map, ap, ◌∙◌}
use Rattle.fol_theory.specs.Substitution.{replace_term}
use Rattle.match_theory.specs.Instances.{fill}
use Rattle.term_core.specs.Term.{meaning, list_meaning}
use Rattle.env_core.proofs.Results.{if_ok}
use Rattle.tac_eq.proofs.Arguments.{term_arguments_put}
use Rattle.tac_eq.proofs.expand.put_in_term.Goals as goal

pub returns : goal.returns
returns c =
    let b = meaning c.args.body.now in
    let same = ap (λ l. replace_term (fill (map meaning l)) b) c.deref.ensures.value
    ∙ term_arguments_put c.args.parameters b (map meaning c.in_ok-terms.terms.items) (list_meaning c.args.ts.now) c.requires
    c.in_ok-terms.ensures in
    if_ok c.fill_term.result (λ r e. e ∙ same) c.fill_term.ensures
