use Rattle.std.proofs.Common.{ap, sym, ◌∙◌, arith}
use Rattle.print_theory.specs.Names.{name_of}
use Rattle.term_print.specs.Output.{all_names, names_onto}
use Rattle.term_print.proofs.Scopes.{name_outer, name_bound}
use Rattle.term_print.proofs.scope.Scope.name_of.Goals as goal

pub returns-then-index-count : goal.returns-then-index-count
returns-then-index-count g c =
    let h = c.if-index-count.true in
    let outer = c.self.inside.outer.now in
    let bound = c.as_slice-bound.result.now in
    c.as_slice.ensures ∙ c.index-bound-count.is ∙ sym (name_bound outer bound c.args.index c.index-bound-count.result (omega (arith, h)))
    ∙ ap (λ ys. name_of (names_onto outer ys) c.args.index) c.as_slice-bound.ensures.keys ∙
    ap (λ s. name_of (all_names s) c.args.index) c.self.view_is

pub returns-else-index-count : goal.returns-else-index-count
returns-else-index-count g c =
    let h = c.if-index-count.false in
    let outer = c.self.inside.outer.now in
    let bound = c.as_slice-bound.result.now in
    c.name_at.ensures ∙ sym (name_outer outer bound c.args.index (omega (arith, h)))
    ∙ ap (λ ys. name_of (names_onto outer ys) c.args.index) c.as_slice-bound.ensures.keys ∙
    ap (λ s. name_of (all_names s) c.args.index) c.self.view_is
