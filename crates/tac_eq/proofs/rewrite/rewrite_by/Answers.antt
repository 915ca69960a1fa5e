use Rattle.std.proofs.Common.{◌≡◌, Some, map, length, vec_len, option_map, sym, ap, subst, ◌∙◌, rules}
use Rattle.std.proofs.lemmas.List.{length-reverse}
use Rattle.match_theory.specs.Places.{find_instance}
use Rattle.tactic_theory.specs.Evidence.{is_met}
use Rattle.tactic_theory.specs.Refinements.{rewrite_found}
use Rattle.term_core.specs.Term.{meaning}
use Rattle.strip_core.specs.Meaning.{strip_of}
use Rattle.tac_base.specs.Openings.{Answers}
use Rattle.tac_base.specs.Sites.{env_of, goal_at}
use Rattle.tac_eq.proofs.rewrite.rewrite_by.Goals as goal

pub returns-in-Some : goal.returns-in-Some
returns-in-Some c =
    let E = env_of c.args.site.now in
    let g = goal_at c.args.site.now in
    let from = meaning c.args.sides.now.from.now in
    let counted : vec_len c.args.strip.now.sorts ≡ length c.args.strip.now.sorts.items = search rules in
    let many = length-reverse c.args.strip.now.sorts.items ∙ sym (c.len-open.ensures ∙ counted) in
    let found = ap (λ ts. Some (map meaning ts)) c.deref.ensures.value
    ∙ ap (option_map (λ ts. map meaning ts.items)) (sym c.in-Some.is)
    ∙ c.in_ok-find_instance.ensures.value ∙ ap (λ n. find_instance n from g.shown) (sym many) in
    λ e k. subst (λ o. Answers E g c.rewrite_with.result (rewrite_found g.slots (is_met E g.slots e) (strip_of c.args.strip.now) from
    (meaning c.args.sides.now.to.now) g.shown o)) found (c.rewrite_with.ensures e k)
