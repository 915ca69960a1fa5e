use Rattle.std.proofs.Common.{[], ◌∷◌, ◌++◌, map, sym, ap, ◌∙◌}
use Rattle.std.proofs.lemmas.List.{map_push}
use Rattle.term_core.specs.Term.{meaning}
use Rattle.match_core.proofs.Known.{chosen_more}
use Rattle.match_core.proofs.found.chosen.Goals as goal

pub loop-known-preserved : goal.loop-known-preserved
loop-known-preserved c =
    ap (map meaning) c.in_ok-push.ensures.items ∙ map_push meaning c.loop-known.terms.items c.in_ok-choice_of.field-0
    ∙ (λ i. c.loop-known.invariant i ++ c.in_ok-choice_of.ensures i ∷ [])
    ∙ sym (chosen_more c.args.found.now c.loop-known.known-index c.known-item.result c.loop-known-test.true c.known-item.is)
