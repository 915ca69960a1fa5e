use Rattle.std.proofs.Common.{◌≡◌, List, map, Option, Some, None, rules, sym, arith}
use Rattle.std.proofs.lemmas.Grind.{common_steps}
use Rattle.fol_theory.specs.Syntax.{Term}
use Rattle.match_theory.specs.Places.{find_instance, places}
use Rattle.match_theory.proofs.Placed.{first_sound, first_complete}
use Rattle.term_core.specs.Term as term
use Rattle.term_core.specs.Formula.{meaning}
use Rattle.match_core.proofs.places.find_instance.Goals as goal

pub returns-then-branch-clause-first : goal.returns-then-branch-clause-first
returns-then-branch-clause-first c =
    let p = term.meaning c.args.pattern.now in
    let a = meaning c.args.goal.now in
    let ts = map term.meaning c.in_ok-chosen.field-0.items in
    let e : ◌≡◌ {A = Option (List Term)} (Some ts) (find_instance c.args.open_vars p a) = first_of (search rules, grind (arith, common_steps)) in
    first_sound c.args.open_vars p (places 0 a) ts (sym e)

pub returns-clause-first : goal.returns-clause-first
returns-clause-first c =
    let p = term.meaning c.args.pattern.now in
    let a = meaning c.args.goal.now in
    let e : ◌≡◌ {A = Option (List Term)} None (find_instance c.args.open_vars p a) = first_of (search rules, grind (arith, common_steps)) in
    first_complete c.args.open_vars p (places 0 a) (sym e)
