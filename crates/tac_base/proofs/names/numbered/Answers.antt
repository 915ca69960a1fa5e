use Rattle.std.proofs.Common.{◌++◌, ◌∙◌}
use Rattle.tac_base.proofs.names.numbered.Goals as goal

pub returns : goal.returns
returns c =
    let clones = c.in_ok-bytes.ensures.items_if_clones_equal (λ x y e. e) ∙ c.as_slice.ensures in
    let digits = c.as_bytes.ensures.value ∙ c.format-digits.ensures.text in
    c.from_shared.ensures ∙ c.in_ok-bytes-2.ensures ∙ c.in_ok-extend_from_slice.ensures.items ∙ (λ i. clones i ++ digits i)
