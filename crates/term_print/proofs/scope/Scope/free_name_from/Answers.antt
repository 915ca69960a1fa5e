use Rattle.std.proofs.Common.{◌≡◌, false, true, ap, sym, ◌∙◌}
use Rattle.elab_theory.specs.Sentences.{is_among}
use Rattle.print_theory.specs.Names.{numbered}
use Rattle.print_theory.proofs.Picks.{free_by_tries}
use Rattle.term_print.specs.Output.{used_names}
use Rattle.term_print.proofs.Scopes.{one_try_more}
use Rattle.term_print.proofs.scope.Scope.free_name_from.Goals as goal

pub returns-then-not-is_used : goal.returns-then-not-is_used
returns-then-not-is_used g c =
    let s = c.args.self.now in
    let x = c.args.name.now in
    let unused : is_among (numbered x c.loop-k.k) (used_names s) ≡ false = ap (λ y. is_among y (used_names s))
    (sym c.in_ok-candidate.ensures) ∙ sym c.is_used.ensures ∙ c.if-not-is_used.true in
    c.in_ok-candidate.ensures ∙ free_by_tries x (used_names s) c.loop-k.k unused c.loop-k.invariant

pub loop-k-preserved : goal.loop-k-preserved
loop-k-preserved g c =
    let s = c.args.self.now in
    let x = c.args.name.now in
    let used : is_among (numbered x c.loop-k.k) (used_names s) ≡ true = ap (λ y. is_among y (used_names s))
    (sym c.in_ok-candidate.ensures) ∙ sym c.is_used.ensures ∙ c.if-not-is_used.false in
    one_try_more x (used_names s) c.loop-k.k used c.loop-k.invariant

pub loop-k-init : goal.loop-k-init
loop-k-init g c = c.requires
