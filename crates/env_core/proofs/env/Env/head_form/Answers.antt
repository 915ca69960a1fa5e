use Rattle.std.proofs.Common.{◌≡◌, length, vec_len, sym, ap, ◌∙◌, rules}
use Rattle.term_core.specs.Formula as formula
use Rattle.env_theory.specs.Heads.{head_form}
use Rattle.env_core.specs.Meaning.{declarations}
use Rattle.env_core.specs.Filled.{scope_of, formula_filled}
use Rattle.env_core.proofs.Filling.{none_from_length, unfilled}
use Rattle.env_core.proofs.Results.{if_ok}
use Rattle.env_core.proofs.env.Env.head_form.Goals as goal

pub returns-then-is_empty : goal.returns-then-is_empty
returns-then-is_empty c =
    let n : vec_len c.head_of.new.frames ≡ length c.head_of.new.frames.items = search rules in
    let none = none_from_length c.head_of.new.frames.items _ n (sym c.if-is_empty.ensures) in
    let h = sym (unfilled c.head_of.new.frames.items (formula.meaning c.in_ok-head.head.now) none) ∙ c.in_ok-head.ensures
    ∙ unfilled c.new-frames.result.items (head_form (declarations c.args.self.now) (formula.meaning c.args.a.now))
    c.new-frames.ensures.items in
    if_ok c.copy.result (λ r e. e ∙ h) c.copy.ensures

pub returns : goal.returns
returns c =
    let h = ap (λ fs. formula_filled (scope_of fs) 0 (formula.meaning c.in_ok-head.head.now)) c.as_slice.ensures.value ∙ c.in_ok-head.ensures
    ∙ unfilled c.new-frames.result.items (head_form (declarations c.args.self.now) (formula.meaning c.args.a.now))
    c.new-frames.ensures.items in
    if_ok c.fill.result (λ r e. e ∙ h) c.fill.ensures
