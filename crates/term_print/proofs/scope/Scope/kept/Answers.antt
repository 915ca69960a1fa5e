use Rattle.std.proofs.Common.{sym, subst}
use Rattle.term_print.specs.Output.{names_outside, AreUsed}
use Rattle.term_print.proofs.scope.Scope.kept.Goals as goal

pub returns-in-Some : goal.returns-in-Some
returns-in-Some g c =
    let x = c.args.name.now in
    let n = c.in-Some.count.now in
    subst (λ s. AreUsed x n (names_outside s)) c.self.view_is (c.self.invariant x n (sym c.in-Some.ensures.value))
