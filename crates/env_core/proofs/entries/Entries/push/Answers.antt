use Rattle.std.proofs.Common.{◌≡◌, ◌++◌, ◌∷◌, [], take, length, ap, subst, sym, ◌∙◌, arith}
use Rattle.env_core.specs.Layers.{AreApart, stacked}
use Rattle.env_core.proofs.Stacked.{put_on}
use Rattle.env_core.proofs.entries.Entries.push.Goals as goal

pub gathered-requires : goal.gathered-requires
gathered-requires c =
    let pushed = c.in_ok-push.ensures.ok ∙ (λ j. c.in_ok-new.ensures.ok j ∷ c.new-newest.ensures j) in
    let older = ap (stacked []) c.deref.ensures.value ∙ c.self.view_is in
    subst AreApart (sym (ap (λ z. z ++ stacked [] c.deref.result.now) pushed ∙ ap (λ z. c.args.entry ∷ z) older))
    (c.requires, subst AreApart c.self.view_is c.self.invariant.0)

pub invariant_of-self-2 : goal.invariant_of-self-2
invariant_of-self-2 c =
    let pushed = c.in_ok-push.ensures.ok ∙ (λ j. c.in_ok-new.ensures.ok j ∷ c.new-newest.ensures j) in
    let older = ap (stacked []) c.deref.ensures.value ∙ c.self.view_is in
    let whole = ap (λ z. z ++ stacked [] c.deref.result.now) pushed ∙ ap (λ z. c.args.entry ∷ z) older in
    let put = put_on c.deref.result.now c.put_behind.new.layers.items c.in_ok-kept.kept c.in_ok-new-2.field-0 c.gathered.new.newest
    (c.push.new.self ++ stacked [] c.deref.result.now)
    (c.in_ok-put_behind.ensures.ok ∙ ap (λ ls. take c.in_ok-kept.kept ls ++ (c.in_ok-new-2.field-0 ∷ [])) (sym c.deref.ensures.value))
    c.in_ok-new-2.ensures.ok c.in_ok-kept.ensures.whole ∙ whole in (
      subst AreApart (sym put) (c.requires, subst AreApart c.self.view_is c.self.invariant.0),
      omega (arith, ap length put, c.self.invariant.1, ap length c.self.view_is),
    )

pub returns-clause-ok : goal.returns-clause-ok
returns-clause-ok c =
    let pushed = c.in_ok-push.ensures.ok ∙ (λ j. c.in_ok-new.ensures.ok j ∷ c.new-newest.ensures j) in
    let older = ap (stacked []) c.deref.ensures.value ∙ c.self.view_is in
    let whole = ap (λ z. z ++ stacked [] c.deref.result.now) pushed ∙ ap (λ z. c.args.entry ∷ z) older in
    put_on c.deref.result.now c.put_behind.new.layers.items c.in_ok-kept.kept c.in_ok-new-2.field-0 c.gathered.new.newest
    (c.push.new.self ++ stacked [] c.deref.result.now)
    (c.in_ok-put_behind.ensures.ok ∙ ap (λ ls. take c.in_ok-kept.kept ls ++ (c.in_ok-new-2.field-0 ∷ [])) (sym c.deref.ensures.value))
    c.in_ok-new-2.ensures.ok c.in_ok-kept.ensures.whole ∙ whole
