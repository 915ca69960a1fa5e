-- What commands and requests come to.
use Rattle.std.proofs.Common.{◌≡◌, ◌≤◌, ℕ, List, [], length, take, Option, Some, Result, Ok, Err}
use Rattle.std.proofs.Common.{true, if◌then◌else◌, ap, ◌∙◌, append-nil, arith}
use Rattle.base_core.specs.declared.no_memory.NoMemory.{NoMemory}
use Rattle.serapi_cmd.specs.declared.command.AddOpts.{AddOpts}
use Rattle.serapi_cmd.specs.declared.command.Command.TheVariants as cmd
use Rattle.serapi_ans.specs.declared.line.Line.{Line}
use Rattle.serapi_ans.specs.declared.line.Exn.{Exn}
use Rattle.serapi_ans.specs.declared.line.Exn.TheVariants as exn
use Rattle.doc_theory.specs.Documents.{Document}
use Rattle.doc_theory.specs.Answers.{answered, after, stopped, whole}
use Rattle.doc_core.specs.Pieces.{pieces_of}
use Rattle.doc_core.specs.Answers.{add_all, is_simple, steps, told}
use Rattle.doc_core.specs.Kept.{Adds, Performs}
use Rattle.doc_core.proofs.Adding.{alike}

-- an Add that is built
pub performs_add : (tag : List ℕ) (opts : AddOpts) (text : List ℕ) (d e : Document) (ls ms : List Line)
    (result : Result (Option Exn) NoMemory) → is_simple opts ≡ true → Adds result tag (pieces_of text) d ls e ms
    → Performs result tag (cmd.Add opts text) d ls e ms
performs_add tag opts text d e ls ms (Ok x) simple (ks, lines, run) = (
  ks,
  lines,
  ap (λ b. if b then told tag whole (add_all tag (pieces_of text) d)
      else told tag whole (stopped d (Some exn.Unsupported))) simple
      ∙ ap (told tag whole) run,
)
performs_add tag opts text d e ls ms (Err short) simple (ks, lines, run, within) =
    let cut = after (length ks) in
    let all : steps d (cmd.Add opts text) ≡ length (add_all [] (pieces_of text) d).lines =
    ap (λ b. if b then length (add_all [] (pieces_of text) d).lines else 0) simple in
    let count = alike tag (pieces_of text) d in
    let may : length ks ≤ steps d (cmd.Add opts text) = omega (arith, all, count, within) in (
      ks,
      lines,
      ap (λ b. if b then told tag cut (add_all tag (take (length ks) (pieces_of text)) d)
          else told tag cut (stopped d (Some exn.Unsupported))) simple
          ∙ ap (told tag cut) run ∙ ap (answered e) (append-nil ks),
      may,
    )
