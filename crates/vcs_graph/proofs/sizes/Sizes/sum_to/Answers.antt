use Rattle.std.proofs.Common.{◌≡◌, ◌-◌, ◌/◌, get_or, length, ap, ◌∙◌, arith}
use Rattle.std.proofs.lemmas.Grind.{get_or_default_zero}
use Rattle.vcs_graph.specs.Sums.{sum_to}
use Rattle.vcs_graph.proofs.Sums.{sum_to_le, front_even, front_run, front_small, front_odd, front_ends}
use Rattle.vcs_graph.proofs.sizes.Sizes.sum_to.Goals as goal
use Rattle.vcs_graph.proofs.sizes.Sizes.sum_to.Goals.{then-rest-eq1, else-rest-eq1}

pub overflow_sub-left : goal.overflow_sub-left
overflow_sub-left c = let r = front_run c.loop-rest.invariant (omega arith) in omega (arith, r.0, r.1)

pub index-requires : goal.index-requires
index-requires c =
    let r = front_run c.loop-rest.invariant (omega arith) in
    omega (arith, r.0, r.1, c.loop-rest.invariant.within, c.self.inside.sums.ok.0, c.self.invariant.same)

pub overflow_add-total : goal.overflow_add-total
overflow_add-total c =
    let r = front_run c.loop-rest.invariant (omega arith) in
    let x = c.index.ensures ∙ get_or_default_zero c.self.inside.sums.items (c.loop-rest.left - 1) c.index.result.now
    (omega (arith, r.0, r.1, c.loop-rest.invariant.within, c.self.invariant.same)) in
    let s = front_small c.loop-rest.invariant c.self.invariant (c.loop-rest.rest / 2) c.index.result.now (omega arith) x in
    omega (
      arith,
      s.0,
      c.loop-rest.invariant.is_total,
      c.self.invariant.few,
      sum_to_le c.args.count (length c.self.inside.sizes.items) c.self.inside.sizes.items (omega (
        arith,
        c.requires,
        ap length c.self.view_is,
      )),
    )

pub overflow_sub-left-then-rest-eq1 : goal.overflow_sub-left-then-rest-eq1
overflow_sub-left-then-rest-eq1 c = let r = front_run c.loop-rest.invariant (omega arith) in omega (arith, r.0, r.1)

pub overflow_mul-run : goal.overflow_mul-run
overflow_mul-run c =
    let r = front_run c.loop-rest.invariant (omega arith) in
    omega (arith, r.0, r.1, c.loop-rest.invariant.within, c.self.inside.sizes.ok.0, c.self.inside.sizes.small)

pub loop-rest-preserved : goal.loop-rest-preserved
loop-rest-preserved c = elim c.if-rest-eq1.branch [
  | then-rest-eq1 w ↦
      let r = front_run c.loop-rest.invariant (omega arith) in
      let x = w.index.ensures ∙ get_or_default_zero c.self.inside.sums.items (c.loop-rest.left - 1) w.index.result.now
      (omega (arith, r.0, r.1, c.loop-rest.invariant.within, c.self.invariant.same)) in
      rw (w.total-is, w.left-is) (front_odd c.loop-rest.invariant c.self.invariant (c.loop-rest.rest / 2) w.index.result.now _
      (omega (arith, w.if-rest-eq1.true)) x (omega arith))
  | else-rest-eq1 w ↦ rw (w.total-is, w.left-is) (front_even c.loop-rest.invariant (c.loop-rest.rest / 2) _
      (omega (arith, w.if-rest-eq1.false)) (omega arith))
]

pub returns : goal.returns
returns c = front_ends c.loop-rest.invariant (omega arith) ∙ ap (sum_to c.args.count) c.self.view_is
