use Rattle.std.proofs.Common.{refl, sym, ap, ◌∙◌}
use Rattle.match_theory.specs.Matching.{and_then, give}
use Rattle.match_core.specs.declared.found.Found.{Found}
use Rattle.match_core.specs.Tables.{table}
use Rattle.match_core.proofs.Patterns.{given_new, lower_outside}
use Rattle.match_core.proofs.found.give.Goals as goal

pub returns-else-not-is_outside : goal.returns-else-not-is_outside
returns-else-not-is_outside c =
    let xs = c.args.found.now in
    let f : Found = record { term = c.args.target; binders = c.args.binders } in
    let outside = sym c.is_outside.ensures ∙ c.if-not-is_outside.false in
    sym (ap (λ o. and_then o (λ t. give c.args.index t (table xs)))
    (lower_outside c.args.binders c.args.target.now f outside refl refl)
    ∙ given_new xs c.args.index _ f c.requires c.in-None.is)
