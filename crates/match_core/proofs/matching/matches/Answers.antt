use Rattle.std.proofs.Common.{◌≡◌, List, map, Option, Some, None, rules, sym, ◌∙◌, arith}
use Rattle.std.proofs.lemmas.Grind.{common_steps}
use Rattle.std.proofs.lemmas.Option.{none-some}
use Rattle.fol_theory.specs.Syntax.{Term}
use Rattle.match_theory.specs.Matching.{matches}
use Rattle.match_theory.proofs.Matched.{matches_sound, matches_complete}
use Rattle.term_core.specs.Term as term
use Rattle.term_core.specs.Formula.{meaning}
use Rattle.match_core.proofs.matching.matches.Goals as goal

pub returns-then-branch-clause-instance : goal.returns-then-branch-clause-instance
returns-then-branch-clause-instance c =
    let a = meaning c.args.pattern.now in
    let b = meaning c.args.target.now in
    let ts = map term.meaning c.in_ok-chosen.field-0.items in
    let e : ◌≡◌ {A = Option (List Term)} (Some ts) (matches c.args.open_vars a b) = first_of (search rules, grind (arith, common_steps)) in
    matches_sound c.args.open_vars a b ts (sym e)

pub returns-clause-instance : goal.returns-clause-instance
returns-clause-instance c =
    let a = meaning c.args.pattern.now in
    let b = meaning c.args.target.now in
    let e : ◌≡◌ {A = Option (List Term)} None (matches c.args.open_vars a b) = first_of (search rules, grind (arith, common_steps)) in
    λ ts h. let w = matches_complete c.args.open_vars a b ts h in none-some w.0 (e ∙ w.1)
