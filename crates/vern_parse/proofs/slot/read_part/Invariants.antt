use Rattle.std.proofs.Common.{◌≡◌, ◌-◌, List, length}
use Rattle.vern_grammar.specs.Kinds.{Lexeme}
use Rattle.vern_grammar.specs.Machine.{State, at, want}
use Rattle.vern_parse.specs.Answers.{Bounded}
use Rattle.vern_parse.specs.Meaning.{frames, mode}
use Rattle.vern_parse.specs.Pieces.{cut_in}
use Rattle.vern_parse.specs.Sources.{rest}
use Rattle.vern_parse.proofs.slot.read_part.Given as goal

abbrev pub invariant-tokens : goal.invariant-tokens
invariant-tokens l =
    (◌≡◌ {A = State × List Lexeme} (cut_in l.part (at (mode l.mode) (frames l.stack)) (rest l.source l.at))
    (cut_in l.part (at want (frames l.fn.stack)) (rest l.source l.fn.at)))
    × Bounded l.mode l.stack

abbrev pub decreases-tokens : goal.decreases-tokens
decreases-tokens l = length l.source.0 - l.at
