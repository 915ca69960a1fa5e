use Rattle.std.proofs.Common.{◌≡◌, ◌≤◌, false, subst, sym, arith}
use Rattle.doc_core.specs.Kept.{Held, IsKept, at}
use Rattle.doc_core.proofs.Grown.{kept_command}
use Rattle.doc_core.proofs.document.Document.command.Goals as goal

pub invariant_of-self-2 : goal.invariant_of-self-2
invariant_of-self-2 g c =
    let s = c.self.inside in
    subst (λ h. IsKept h c.push_reserved.new.self.spare c.answer_request.new.script s.closed) (sym c.push_reserved.ensures.items)
    (kept_command c.self.invariant
    (subst (λ (d : Held). (at d).closed ≡ false) (sym c.self.view_is) c.requires.going)
    (subst (λ (d : Held). (at d).quit ≡ false) (sym c.self.view_is) c.requires.no_quit)
    (subst (λ (d : Held). c.args.number ≡ (at d).commands) (sym c.self.view_is) c.requires.number)
    c.requires.numbered c.in_ok-cut.ensures.ok c.answer_request.ensures.limit
    (let two = subst (λ (d : Held). 2 ≤ d.spare) (sym c.self.view_is) c.requires.reserved in omega (arith, two, c.push_reserved.ensures.spare)))
