use Rattle.std.proofs.Common.{◌≡◌, length, sym, subst, ◌∙◌, rules}
use Rattle.env_core.specs.Meaning.{declaration, declarations}
use Rattle.env_core.specs.Summaries.{SummaryOf}
use Rattle.env_core.proofs.Results.{if_ok}
use Rattle.env_core.proofs.Summing.{term_declared, formula_declared, other_summary}
use Rattle.env_core.proofs.summary.summary_of.Goals as goal

pub term_summary-requires-clause-sort : goal.term_summary-requires-clause-sort
term_summary-requires-clause-sort c =
    let w = term_declared (declarations c.args.env.now) c.args.decl.now _ c.in-DefFun.params _ c.in-DefFun.body c.in-DefFun.is
    c.requires.declares in
    let size : c.len.result ≡ length c.in-DefFun.params.items = search rules in
    (w.0, w.1, w.2, w.3 ∙ sym size)

pub returns-in-DefFun : goal.returns-in-DefFun
returns-in-DefFun c = if_ok c.term_summary.result
    (λ y h. subst (λ d. SummaryOf (declarations c.args.env.now) (declaration d) y) (sym c.in-DefFun.is) h) c.term_summary.ensures

pub formula_summary-requires : goal.formula_summary-requires
formula_summary-requires c =
    let w = formula_declared (declarations c.args.env.now) c.args.decl.now _ c.in-DefPred.params c.in-DefPred.body c.in-DefPred.is
    c.requires.declares in
    let size : c.len-in-DefPred.result ≡ length c.in-DefPred.params.items = search rules in
    (w.0, w.1, w.2 ∙ sym size)

pub returns-in-DefPred : goal.returns-in-DefPred
returns-in-DefPred c = if_ok c.formula_summary.result
    (λ y h. subst (λ d. SummaryOf (declarations c.args.env.now) (declaration d) y) (sym c.in-DefPred.is) (h.0, h.1, tt))
    c.formula_summary.ensures

pub returns-in_default : goal.returns-in_default
returns-in_default c = other_summary (declarations c.args.env.now) c.args.decl.now _ (λ n ps r b e. c.in_default.not-DefFun n ps r b e)
    (λ n ps b e. c.in_default.not-DefPred n ps b e)
