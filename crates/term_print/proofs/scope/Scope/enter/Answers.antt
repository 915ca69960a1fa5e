use Rattle.std.proofs.Common.{◌≡◌, [], ◌∷◌, ◌++◌, false, if◌then◌else◌, ap, ◌∙◌}
use Rattle.elab_theory.specs.Sentences.{is_among}
use Rattle.term_print.proofs.scope.Scope.enter.Goals as goal

pub returns : goal.returns
returns g c =
    let x = c.args.name in
    let keys = c.self.inside.bound.keys in
    let new : is_among x keys ≡ false = ap (λ s. is_among x s.bound) c.self.view_is ∙ c.requires.new in
    let more = c.in_ok-insert.ensures.keys ∙ ap (λ t. if t then keys else keys ++ (x ∷ [])) new ∙
    ap (λ s. s.bound ++ (x ∷ [])) c.self.view_is in
    λ i. record { bound = more i; outer = (c.self.view_is i).outer; taken = (c.self.view_is i).taken }
