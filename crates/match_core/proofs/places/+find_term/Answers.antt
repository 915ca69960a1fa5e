use Rattle.std.proofs.Common.{◌+◌, length, drop, refl, sym, ap, ◌∙◌}
use Rattle.match_theory.specs.Matching.{blank}
use Rattle.match_theory.specs.Places.{first_instance, term_places, terms_places}
use Rattle.term_core.specs.Term.{meaning, list_meaning}
use Rattle.match_core.proofs.Finds.{found_first, found_later, first_more}
use Rattle.match_core.proofs.places.+find_term.Goals as goal

pub find_in_terms-returns-then-find_in_term-clause-found : goal.find_in_terms-returns-then-find_in_term-clause-found
find_in_terms-returns-then-find_in_term-clause-found t c =
    let n = length c.args.found.now in
    let p = meaning c.args.pattern.now in
    let here = c.if-find_in_term.ensures.found
    ∙ ap (λ k. first_instance k p (term_places c.args.binders (meaning c.t-item.result))) c.loop-t.auto.found in
    found_first c.find_in_term.new.found (first_instance n p (term_places c.args.binders (meaning c.t-item.result)))
    (first_instance n p (terms_places c.args.binders (list_meaning (drop (c.loop-t.t-index + 1) c.args.ts.now)))) here
    ∙ sym (first_more n p c.args.binders c.args.ts.now c.loop-t.t-index c.t-item.result c.loop-t-test.true c.t-item.is)
    ∙ c.loop-t.invariant.1

pub find_in_terms-loop-t-preserved : goal.find_in_terms-loop-t-preserved
find_in_terms-loop-t-preserved t c =
    let n = length c.args.found.now in
    let p = meaning c.args.pattern.now in
    let here = c.if-find_in_term.ensures.found
    ∙ ap (λ k. first_instance k p (term_places c.args.binders (meaning c.t-item.result))) c.loop-t.auto.found in (
      c.if-find_in_term.ensures.blank refl ∙ ap blank c.loop-t.auto.found,
      found_later c.find_in_term.new.found (first_instance n p (term_places c.args.binders (meaning c.t-item.result)))
          (first_instance n p (terms_places c.args.binders (list_meaning (drop (c.loop-t.t-index + 1) c.args.ts.now)))) here
          ∙ sym (first_more n p c.args.binders c.args.ts.now c.loop-t.t-index c.t-item.result c.loop-t-test.true c.t-item.is)
          ∙ c.loop-t.invariant.1,
    )
