use Rattle.std.proofs.Common.{◌≡◌, true, ap, sym, ◌∙◌}
use Rattle.elab_theory.specs.Sentences.{is_among}
use Rattle.print_theory.specs.Names.{numbered}
use Rattle.term_print.specs.Output.{names_outside}
use Rattle.term_print.proofs.Scopes.{one_try_more}
use Rattle.term_print.proofs.scope.Scope.count_outside.Goals as goal

pub loop-k-preserved : goal.loop-k-preserved
loop-k-preserved g c =
    let s = c.args.self.now in
    let x = c.args.name.now in
    let used : is_among (numbered x c.loop-k.k) (names_outside s) ≡ true = ap (λ y. is_among y (names_outside s))
    (sym c.in_ok-candidate.ensures) ∙ sym c.is_outside.ensures ∙ c.if-not-is_outside.false in
    one_try_more x (names_outside s) c.loop-k.k used c.loop-k.invariant

pub loop-k-init : goal.loop-k-init
loop-k-init g c = c.requires
