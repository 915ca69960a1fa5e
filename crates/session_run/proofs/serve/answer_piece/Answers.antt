use Rattle.std.proofs.Common.{refl}
use Rattle.sexp_theory.specs.Items.{fed}
use Rattle.session_run.specs.Serving.{Midway}
use Rattle.session_run.proofs.Progress.{passes-memory}
use Rattle.session_run.proofs.serve.answer_piece.Goals as goal

pub returns-in-Err-clause-passes : goal.returns-in-Err-clause-passes
returns-in-Err-clause-passes g c =
    let P = g.P.Party in
    let m : Midway = record { asked = P.asked c.args.party.now; unread = fed c.args.reader.now.unread c.args.piece.now } in
    passes-memory m m (λ more ended. refl)
