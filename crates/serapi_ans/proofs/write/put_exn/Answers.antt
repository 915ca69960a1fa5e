use Rattle.std.proofs.Common.{sym, ap, ◌∙◌, codes}
use Rattle.sexp_theory.specs.Values.{atom}
use Rattle.sexp_theory.specs.Writing.{text}
use Rattle.serapi_ans.specs.Lines.{number, pair, triple, exn_value}
use Rattle.serapi_ans.proofs.Putting.{put_as}
use Rattle.serapi_ans.proofs.write.put_exn.Goals as goal

pub returns-in-Parse : goal.returns-in-Parse
returns-in-Parse g c =
    put_as c.put_numbered.ensures (ap (λ e. text (exn_value e)) (sym c.in-Parse.is))

pub returns-in-NoOpenProof : goal.returns-in-NoOpenProof
returns-in-NoOpenProof g c =
    put_as c.put_numbered-in-NoOpenProof.ensures (ap (λ e. text (exn_value e)) (sym c.in-NoOpenProof.is))

pub returns-in-ProofOpen : goal.returns-in-ProofOpen
returns-in-ProofOpen g c =
    put_as c.put_numbered_twice.ensures (ap (λ e. text (exn_value e)) (sym c.in-ProofOpen.is))

pub returns-in-BadCloser : goal.returns-in-BadCloser
returns-in-BadCloser g c =
    put_as c.put_numbered_twice-in-BadCloser.ensures (ap (λ e. text (exn_value e)) (sym c.in-BadCloser.is))

pub returns-in-NotTip : goal.returns-in-NotTip
returns-in-NotTip g c =
    put_as c.put_numbered-in-NotTip.ensures (ap (λ e. text (exn_value e)) (sym c.in-NotTip.is))

pub returns-in-NoSuchState : goal.returns-in-NoSuchState
returns-in-NoSuchState g c =
    put_as c.put_numbered-in-NoSuchState.ensures (ap (λ e. text (exn_value e)) (sym c.in-NoSuchState.is))

pub returns-in-ZoneOpen : goal.returns-in-ZoneOpen
returns-in-ZoneOpen g c =
    put_as c.put_numbered_twice-in-ZoneOpen.ensures (ap (λ e. text (exn_value e)) (sym c.in-ZoneOpen.is))

pub returns-in-TooMany : goal.returns-in-TooMany
returns-in-TooMany g c =
    put_as c.put_numbered-in-TooMany.ensures (ap (λ e. text (exn_value e)) (sym c.in-TooMany.is))

pub returns-in-Check : goal.returns-in-Check
returns-in-Check g c =
    put_as c.put_numbered_text.ensures (ap (λ b. text (triple (codes "Check") (number c.in-Check.id) (atom b))) c.as_slice.ensures
    ∙ ap (λ e. text (exn_value e)) (sym c.in-Check.is))

pub returns-in-UnknownName : goal.returns-in-UnknownName
returns-in-UnknownName g c =
    put_as c.put_named.ensures (ap (λ b. text (pair (codes "UnknownName") (atom b))) c.as_slice-in-UnknownName.ensures
    ∙ ap (λ e. text (exn_value e)) (sym c.in-UnknownName.is))

pub returns-in-Unsupported : goal.returns-in-Unsupported
returns-in-Unsupported g c =
    put_as c.put.ensures (ap (λ e. text (exn_value e)) (sym c.in-Unsupported.is))
