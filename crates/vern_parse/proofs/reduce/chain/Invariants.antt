use Rattle.std.proofs.Common.{◌≡◌, length}
use Rattle.vern_grammar.specs.Machine.{chain}
use Rattle.vern_parse.specs.Meaning.{frames, shape}
use Rattle.vern_parse.proofs.reduce.chain.Given as goal

abbrev pub invariant-links : goal.invariant-links
invariant-links l = chain (shape l.shape) (frames l.stack) ≡ chain (shape l.fn.last) (frames l.fn.stack)

abbrev pub decreases-links : goal.decreases-links
decreases-links l = length l.stack
