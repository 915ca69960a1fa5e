use Rattle.std.proofs.Common.{◌↔◌, map}
use Rattle.env_theory.specs.Compare.{Agree, AllAgree, pairs_left}
use Rattle.env_core.specs.Meaning.{declarations}
use Rattle.conv_core.specs.Pairs.{pair_of, StandingPairs}
use Rattle.conv_core.proofs.compare.agree.Given as goal

abbrev pub invariant-loop-pair : goal.invariant-loop-pair
invariant-loop-pair l = StandingPairs (declarations l.env) l.frames.items l.stack.items ×
    (AllAgree (declarations l.env) (map (pair_of l.frames.items) l.stack.items) ↔ Agree (declarations l.env)
    (pair_of l.fn.frames.items l.start))

abbrev pub decreases-loop-pair : goal.decreases-loop-pair
decreases-loop-pair l = pairs_left (declarations l.env) (map (pair_of l.frames.items) l.stack.items)
