use Rattle.std.proofs.Common.{◌≡◌, ◌++◌, true, false, decimal, ap, sym, ◌∙◌, arith}
use Rattle.term_core.specs.Context.{slots}
use Rattle.env_core.specs.Meaning.{declarations}
use Rattle.tactic_theory.specs.Names.{is_taken}
use Rattle.tac_base.proofs.Taken.{fresh_numbered, one_try_more}
use Rattle.tac_base.proofs.names.first_free.Goals as goal

pub returns-then-not-is_taken : goal.returns-then-not-is_taken
returns-then-not-is_taken c =
    let E = declarations c.args.env.now in
    let l = slots c.args.context.now in
    let x = c.args.name.now in
    let free : is_taken E l (x ++ decimal c.loop-k.k) ≡ false = ap (is_taken E l) (sym c.in_ok-candidate.ensures) ∙ sym c.is_taken.ensures
    ∙ c.if-not-is_taken.true in
    c.in_ok-candidate.ensures ∙ sym (fresh_numbered E l x c.loop-k.k (omega arith) c.requires free c.loop-k.invariant)

pub loop-k-preserved : goal.loop-k-preserved
loop-k-preserved c =
    let E = declarations c.args.env.now in
    let l = slots c.args.context.now in
    let x = c.args.name.now in
    let taken : is_taken E l (x ++ decimal c.loop-k.k) ≡ true = ap (is_taken E l) (sym c.in_ok-candidate.ensures) ∙ sym c.is_taken.ensures
    ∙ c.if-not-is_taken.false in
    one_try_more E l x c.loop-k.k taken c.loop-k.invariant
