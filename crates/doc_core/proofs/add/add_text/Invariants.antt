use Rattle.std.proofs.Common.{◌≡◌, ◌≤◌, ◌++◌, drop, map}
use Rattle.vern_lex.specs.Sentences.{sentences_of}
use Rattle.doc_core.specs.Pieces.{piece_of, pieces_of, unread_from}
use Rattle.doc_core.proofs.Adding.{Begun}
use Rattle.doc_core.proofs.add.add_text.Given as goal

abbrev pub invariant-loop-span : goal.invariant-loop-span
invariant-loop-span l =
    Begun l.tag (pieces_of l.text) l.initial.script l.initial.lines.items
    (map (piece_of l.text) (drop l.span-index l.span-items) ++ unread_from (sentences_of l.text).fault) l.script l.lines.items
    × (2 ≤ l.lines.spare) × (l.script.limit ≡ l.initial.script.limit)
