use Rattle.std.proofs.Common.{drop, ap, sym, ◌∙◌, arith}
use Rattle.line_theory.specs.Edits.{seat}
use Rattle.vcs_graph.specs.declared.site.Site.TheVariants as site
use Rattle.vcs_graph.specs.Table.{all_places}
use Rattle.vcs_graph.specs.GraphView.{line_of}
use Rattle.vcs_graph.specs.Sites.{seat_site, place_site, open_part_site}
use Rattle.vcs_graph.proofs.Seated.{kept_none, site_plain, site_ahead, site_zone, site_behind}
use Rattle.vcs_graph.proofs.graph.Graph.site.Goals as goal

pub returns-in_default : goal.returns-in_default
returns-in_default c =
    ap seat_site (sym (kept_none c.self.invariant.kept c.args.id
    (sym (c.find.ensures (all_places c.self.inside.items.items c.self.inside.ending) c.self.invariant.kept.table) ∙ c.in_default.is)))
    ∙ ap (λ y. seat_site (seat c.args.id y)) c.self.view_is

pub returns-in_default-zone : goal.returns-in_default-zone
returns-in_default-zone c =
    let h = sym (c.find.ensures (all_places c.self.inside.items.items c.self.inside.ending) c.self.invariant.kept.table) ∙ c.in-Some.is in
    c.part_site.ensures ∙ (ap (λ y. place_site c.in-Some.place.part (drop c.in-Some.place.item y)) c.as_slice.ensures.value
    ∙ (site_plain c.args.id c.in-Some.place c.self.inside.items.items c.self.inside.ending h
    ∙ (ap (λ y. seat_site (seat c.args.id (line_of c.self.inside.items.items c.self.inside.ending y)))
    (sym c.in_default-zone.is) ∙ ap (λ y. seat_site (seat c.args.id y)) c.self.view_is)))

pub returns-then-place-zone : goal.returns-then-place-zone
returns-then-place-zone c =
    let h = sym (c.find.ensures (all_places c.self.inside.items.items c.self.inside.ending) c.self.invariant.kept.table) ∙ c.in-Some.is in
    c.part_site-then-place-zone.ensures ∙ (ap (λ y. place_site c.in-Some.place.part (drop c.in-Some.place.item y))
    c.as_slice-then-place-zone.ensures.value
    ∙ (site_ahead (rw c.in-Some-zone.is at c.self.invariant.kept) c.args.id c.in-Some.place h c.if-place-zone.true
    ∙ (ap (λ y. seat_site (seat c.args.id (line_of c.self.inside.items.items c.self.inside.ending y))) (sym c.in-Some-zone.is) ∙
    ap (λ y. seat_site (seat c.args.id y)) c.self.view_is)))

pub returns-then-place-zone-2 : goal.returns-then-place-zone-2
returns-then-place-zone-2 c =
    let h = sym (c.find.ensures (all_places c.self.inside.items.items c.self.inside.ending) c.self.invariant.kept.table) ∙ c.in-Some.is in
    c.open_site.ensures ∙ (ap (open_part_site c.in-Some.place.part) c.stop-stop.ensures
    ∙ (site_zone (rw c.in-Some-zone.is at c.self.invariant.kept) c.args.id c.in-Some.place h (omega arith)
    c.index.result.now c.index.ensures
    ∙ (ap (λ y. seat_site (seat c.args.id (line_of c.self.inside.items.items c.self.inside.ending y))) (sym c.in-Some-zone.is) ∙
    ap (λ y. seat_site (seat c.args.id y)) c.self.view_is)))

pub returns-else-place-zone-2 : goal.returns-else-place-zone-2
returns-else-place-zone-2 c =
    let h = sym (c.find.ensures (all_places c.self.inside.items.items c.self.inside.ending) c.self.invariant.kept.table) ∙ c.in-Some.is in
    ap site.Behind c.stop-stop.ensures
    ∙ (site_behind (rw c.in-Some-zone.is at c.self.invariant.kept) c.args.id c.in-Some.place h (omega arith)
    c.index.result.now c.index.ensures
    ∙ (ap (λ y. seat_site (seat c.args.id (line_of c.self.inside.items.items c.self.inside.ending y))) (sym c.in-Some-zone.is) ∙
    ap (λ y. seat_site (seat c.args.id y)) c.self.view_is))
