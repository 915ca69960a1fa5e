use Rattle.std.proofs.Common.{◌≡◌, ◌≤◌, take, sym, ap, subst, ◌∙◌, arith}
use Rattle.std.proofs.lemmas.Grind.{common_steps}
use Rattle.term_core.specs.Term.{meaning, list_meaning}
use Rattle.env_theory.specs.Machine.{left, lefts}
use Rattle.env_core.specs.Meaning.{declarations}
use Rattle.conv_core.specs.Frames.{scope_of}
use Rattle.conv_core.specs.Heads.{Standing}
use Rattle.conv_core.proofs.Elements.{element, all_made}
use Rattle.conv_core.proofs.read.+read.Goals as goal

pub read_terms-read_term-requires : goal.read_terms-read_term-requires
read_terms-read_term-requires t c =
    let w = element (declarations c.args.env.now) c.args.frames.now.items c.args.scope c.args.by c.args.ts.now c.loop-t.t-index
    c.t-item.result c.requires.standing c.loop-t-test.true c.t-item.is in
    let s = subst (λ fs. Standing (declarations c.args.env.now) fs c.args.scope c.args.by (meaning c.t-item.result))
    (sym c.loop-t.invariant.0) w.0 in
    let l = subst (λ fs. left (declarations c.args.env.now) (scope_of fs c.args.scope) (meaning c.t-item.result) ≤ lefts
    (declarations c.args.env.now) (scope_of c.args.frames.now.items c.args.scope) (list_meaning c.args.ts.now))
    (sym c.loop-t.invariant.0) w.1 in
    (omega (arith, c.decreases, l), (c.requires.environment, s))

pub read_terms-returns-clause-values : goal.read_terms-returns-clause-values
read_terms-returns-clause-values t c =
    let all : take c.loop-t.t-index c.args.ts.now ≡ c.args.ts.now = grind (arith, common_steps) in
    ap list_meaning c.in_ok-from_vec.ensures
    ∙ all_made (declarations c.args.env.now) (scope_of c.args.frames.now.items c.args.scope) c.args.by c.args.ts.now
    (take c.loop-t.t-index c.args.ts.now) c.loop-t.made.items all c.loop-t.invariant.1
