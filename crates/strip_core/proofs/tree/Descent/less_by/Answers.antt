use Rattle.std.proofs.Common.{map, reverse, take, sym, ap, ◌∙◌, arith}
use Rattle.fol_theory.specs.Syntax.{all}
use Rattle.term_core.specs.Formula.{meaning}
use Rattle.term_core.specs.Term as term
use Rattle.term_core.proofs.Variants.{meaning_All}
use Rattle.strip_core.specs.Descents.{descent_of}
use Rattle.strip_core.specs.Trees.{one_less}
use Rattle.strip_core.proofs.Taken.{last_taken}
use Rattle.strip_core.proofs.tree.Descent.less_by.Goals as goal

pub returns-in_ok-put_term-in-All-clause-less : goal.returns-in_ok-put_term-in-All-clause-less
returns-in_ok-put_term-in-All-clause-less c =
    let ts = reverse (map term.meaning (take c.args.left c.args.terms.now)) in
    let d = descent_of c.args.self.now in
    let head = ap meaning c.in-All.is ∙ meaning_All c.in-All.sort c.in-All.field-1 c.in-All.body
    ∙ ap (λ b. all c.in-All.sort c.in-All.field-1 (meaning b)) (sym c.deref.ensures) in
    λ others.
    ap (λ h. one_less others h ts d) head
    ∙ ap (λ us. one_less others (all c.in-All.sort c.in-All.field-1 (meaning c.deref.result.now)) us d)
    (last_taken term.meaning c.args.terms.now c.args.left c.index-terms-left.result (omega (arith, c.if-left-eq0.false)) c.requires
    c.index-terms-left.is)
    ∙ ap (others _) (sym c.in_ok-put_term-in-All.ensures)
