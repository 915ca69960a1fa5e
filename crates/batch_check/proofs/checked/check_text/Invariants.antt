use Rattle.std.proofs.Common.{◌≡◌, ◌++◌, drop, map}
use Rattle.vern_lex.specs.Sentences.{sentences_of}
use Rattle.batch_check.specs.Batch.{batch, piece_of, unread_from}
use Rattle.batch_check.specs.Run.{begun, found, found_with, progress_of}
use Rattle.batch_check.proofs.checked.check_text.Given as goal

abbrev pub invariant-loop-span : goal.invariant-loop-span
invariant-loop-span l =
    found (progress_of l.run) (map (piece_of l.text) (drop l.span-index l.span-items) ++ unread_from (sentences_of l.text).fault)
    ≡ found_with begun (batch l.text)
