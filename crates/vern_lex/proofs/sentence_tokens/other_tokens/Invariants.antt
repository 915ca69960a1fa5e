use Rattle.std.proofs.Common.{◌-◌, length, MatchOption}
use Rattle.vern_lex.specs.Closers.{IsTable}
use Rattle.vern_lex.proofs.Lexing.{IsRead}
use Rattle.vern_lex.proofs.sentence_tokens.other_tokens.Given as goal

abbrev pub invariant-tokens : goal.invariant-tokens
invariant-tokens l = IsRead l.sentence l.found.items l.at × MatchOption l.kept (Unit {0}) (λ t. IsTable l.sentence t.items)

abbrev pub decreases-tokens : goal.decreases-tokens
decreases-tokens l = length l.sentence - l.at
