use Rattle.std.proofs.Common.{◌≡◌, take, ap, ◌∙◌, arith}
use Rattle.std.proofs.lemmas.Grind.{common_steps}
use Rattle.term_core.specs.Term.{list_meaning}
use Rattle.env_core.specs.Meaning.{declaration}
use Rattle.tac_eq.proofs.Expanded.{all_expanded}
use Rattle.tac_eq.proofs.expand.+expand_term.Goals as goal

pub expand_terms-returns : goal.expand_terms-returns
expand_terms-returns t c =
    let all : take c.loop-t.t-index c.args.ts.now ≡ c.args.ts.now = grind (arith, common_steps) in
    ap list_meaning c.in_ok-from_vec.ensures
    ∙ all_expanded (declaration c.args.decl.now) c.loop-t.made.items c.args.ts.now (take c.loop-t.t-index c.args.ts.now) all c.loop-t.invariant
