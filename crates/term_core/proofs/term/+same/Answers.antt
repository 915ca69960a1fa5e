use Rattle.std.proofs.Common.{rules, ◌≡◌, ap, sym, ◌∙◌, arith}
use Rattle.term_core.specs.Term.{meaning, list_meaning}
use Rattle.term_core.proofs.Equals.{same_at, same_length}
use Rattle.term_core.proofs.term.+same.Goals as goal

pub same_all-returns-then-not-same : goal.same_all-returns-then-not-same
same_all-returns-then-not-same t c =
    let k = λ (e : list_meaning c.args.xs.now ≡ list_meaning c.args.ys.now).
    ap meaning c.index-xs-i.is
    ∙ same_at c.args.xs.now c.args.ys.now c.loop-i.i c.index-xs-i.result c.index-ys-i.result (omega arith) (omega arith) e
    ∙ ap meaning (sym c.index-ys-i.is) in
    search rules

pub same_all-returns-then-xs-ys : goal.same_all-returns-then-xs-ys
same_all-returns-then-xs-ys t c =
    let k = same_length c.args.xs.now c.args.ys.now in
    search rules
