use Rattle.std.proofs.Common.{◌≡◌, ◌+◌, ◌*◌, take, map}
use Rattle.term_core.specs.Term.{meaning, list_meaning}
use Rattle.env_theory.specs.Scopes.{value}
use Rattle.env_theory.specs.Machine.{left, lefts}
use Rattle.env_core.specs.Meaning.{declarations}
use Rattle.conv_core.specs.Frames.{scope_of}
use Rattle.conv_core.proofs.read.+read.Given as goal

abbrev pub decreases-read_term : goal.decreases-read_term
decreases-read_term l = 2 * left (declarations l.env.now) (scope_of l.frames.now.items l.scope) (meaning l.t.now)

abbrev pub decreases-read_terms : goal.decreases-read_terms
decreases-read_terms l = 2 * lefts (declarations l.env.now) (scope_of l.frames.now.items l.scope) (list_meaning l.ts.now) + 1

abbrev pub invariant-read_terms-loop-t : goal.invariant-read_terms-loop-t
invariant-read_terms-loop-t l =
    (l.frames.items ≡ l.fn.frames.items) ×
    (map meaning l.made.items ≡ map (value (declarations l.env) (scope_of l.fn.frames.items l.scope) l.by) (map meaning
    (take l.t-index l.ts)))
