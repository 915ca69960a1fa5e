use Rattle.std.proofs.Common.{sym, subst, ◌∙◌}
use Rattle.line_theory.specs.Shapes.{block}
use Rattle.vcs_graph.specs.Parts.{IsBlock}
use Rattle.vcs_graph.proofs.Cuts.{last_one, cut_open}
use Rattle.vcs_graph.proofs.cut.reopen_last.Goals as goal

pub returns-in-Some-clause-table : goal.returns-in-Some-clause-table
returns-in-Some-clause-table c = λ f l b d e h.
    let s = last_one c.pop.new.self.items f c.in-Some.segment (block l b d) (sym c.in-Some.ensures.items ∙ e) in
    let y : IsBlock c.in-Some.segment = subst IsBlock (sym s) tt in
    cut_open c.args.items.now.items c.pop.new.self.items c.in-Some.segment c.unclose-lemma.result.0
    c.unclose-lemma.result.1.items c.put_back.new.self c.shorten.new.self c.in-Some.ensures.items
    c.unclose-lemma.ensures.lemma (c.unclose-lemma.ensures.inside y) c.put_back.ensures (c.unclose-lemma.ensures.table y)
    c.shorten.ensures.table h
