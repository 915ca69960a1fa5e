use Rattle.std.proofs.Common.{◌≡◌, take, Some}
use Rattle.vern_grammar.specs.Kinds.{lexemes}
use Rattle.vern_grammar.specs.Machine.{at, run, start}
use Rattle.vern_parse.specs.Meaning.{frames, mode}
use Rattle.vern_parse.specs.Answers.{Bounded}
use Rattle.vern_parse.proofs.read.read.Given as goal

abbrev pub invariant-tokens : goal.invariant-tokens
invariant-tokens l = (run (start (frames l.fn.stack)) (lexemes l.sentence (take l.i l.tokens)) ≡ Some (at (mode l.mode) (frames l.stack)))
    × Bounded l.mode l.stack
