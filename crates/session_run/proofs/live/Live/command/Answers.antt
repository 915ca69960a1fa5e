use Rattle.std.proofs.Common.{◌∷◌, [], ◌++◌, ap, ◌∙◌, arith}
use Rattle.doc_theory.specs.Histories.{requests}
use Rattle.session_run.specs.Closing.{is_closed}
use Rattle.session_run.specs.Kept.{Session}
use Rattle.session_run.proofs.Grown.{command_asks, command_numbered, command_open, kept-command, kept-same, may-answer}
use Rattle.session_run.proofs.live.Live.command.Goals as goal

pub command-requires-clause-no_quit : goal.command-requires-clause-no_quit
command-requires-clause-no_quit g c =
    let e = c.in_ok-reserve.ensures in
    let same = ap (λ (s : Session). s.history) c.self.view_is in
    (may-answer {e = c.reserve.new.self} c.self.invariant e.history e.limit same c.requires.ready c.requires.going c.requires.numbered).no_quit

pub command-requires-clause-number : goal.command-requires-clause-number
command-requires-clause-number g c =
    let e = c.in_ok-reserve.ensures in
    let same = ap (λ (s : Session). s.history) c.self.view_is in
    (may-answer {e = c.reserve.new.self} c.self.invariant e.history e.limit same c.requires.ready c.requires.going c.requires.numbered).number

pub overflow_add-self : goal.overflow_add-self
overflow_add-self g c =
    let e = c.in_ok-reserve.ensures in
    omega (
      arith,
      command_numbered (kept-same c.self.invariant e.history e.limit) c.in_ok-done.ensures.takes c.in_ok-done.ensures.numbered,
    )

pub invariant_of-self-2 : goal.invariant_of-self-2
invariant_of-self-2 g c =
    let e = c.in_ok-reserve.ensures in
    let same = ap (λ (s : Session). s.history) c.self.view_is in
    kept-command (kept-same c.self.invariant e.history e.limit) (ap is_closed (e.history ∙ same) ∙ c.requires.ready)
    c.in_ok-done.ensures.takes c.in_ok-done.ensures.limit

pub returns-clause-ok : goal.returns-clause-ok
returns-clause-ok g c =
    let same = ap (λ (s : Session). s.history) c.self.view_is in
    command_asks c.in_ok-done.ensures.takes
    ∙ ap (λ h. requests h ++ c.args.request ∷ []) (c.in_ok-reserve.ensures.history ∙ same)

pub returns-clause-ready : goal.returns-clause-ready
returns-clause-ready g c = command_open c.in_ok-done.ensures.takes
