use Rattle.std.proofs.Common.{◌++◌, sym, ◌∙◌}
use Rattle.term_print.proofs.Scopes.{numeral_is}
use Rattle.term_print.proofs.scope.numbered.Goals as goal

pub returns : goal.returns
returns c =
    let clones = c.in_ok-bytes.ensures.items_if_clones_equal (λ x y e. e) ∙ c.as_slice.ensures in
    let digits = c.as_bytes.ensures.value ∙ c.format-digits.ensures.text ∙ sym (numeral_is c.args.number c.ranges.number.fits) in
    c.from_shared.ensures ∙ c.in_ok-bytes-2.ensures ∙ c.in_ok-extend_from_slice.ensures.items ∙ (λ i. clones i ++ digits i)
