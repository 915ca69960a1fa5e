use Rattle.std.proofs.Common.{ap, sym, ◌∙◌}
use Rattle.elab_theory.specs.Sentences.{is_among}
use Rattle.term_print.proofs.Scopes.{used_bound, used_outer, used_taken}
use Rattle.term_print.proofs.scope.Scope.is_used.Goals as goal

pub returns-then-contains : goal.returns-then-contains
returns-then-contains g c =
    let x = c.args.name.now in
    let bound = ap (λ s. is_among x s.bound) (sym c.self.view_is) ∙ sym c.contains.ensures in
    sym (used_bound x c.args.self.now (bound ∙ c.if-contains.true))

pub returns-then-is_among : goal.returns-then-is_among
returns-then-is_among g c =
    let x = c.args.name.now in
    let bound = ap (λ s. is_among x s.bound) (sym c.self.view_is) ∙ sym c.contains.ensures in
    let outer = ap (λ s. is_among x s.outer) (sym c.self.view_is) ∙ sym c.is_among.ensures in
    sym (used_outer x c.args.self.now (bound ∙ c.if-contains.false) (outer ∙ c.if-is_among.true))

pub returns : goal.returns
returns g c =
    let x = c.args.name.now in
    let bound = ap (λ s. is_among x s.bound) (sym c.self.view_is) ∙ sym c.contains.ensures in
    let outer = ap (λ s. is_among x s.outer) (sym c.self.view_is) ∙ sym c.is_among.ensures in
    let taken = ap (λ s. is_among x s.taken) c.self.view_is in
    c.is_taken.ensures ∙ taken ∙ sym (used_taken x c.args.self.now (bound ∙ c.if-contains.false) (outer ∙ c.if-is_among.false))
