use Rattle.std.proofs.Common.{◌≡◌, ◌+◌, ◌-◌, length, sym, ap, subst, ◌∙◌, arith}
use Rattle.vcs_graph.specs.Sums.{sum_to, EndsRun}
use Rattle.vcs_graph.proofs.Sums.{sum_to_le, run_within, sums_push}
use Rattle.vcs_graph.proofs.sizes.Sizes.push.Goals as goal

pub overflow_sub-count : goal.overflow_sub-count
overflow_sub-count c = let r = run_within c.run_of.ensures in omega (arith, r.1)

pub sum_to-before-requires : goal.sum_to-before-requires
sum_to-before-requires c =
    let r = run_within c.run_of.ensures in
    omega (arith, r.0, r.1, c.len-count.ensures, c.self.inside.sizes.ok.0, ap length c.self.view_is)

pub overflow_sub-sum : goal.overflow_sub-sum
overflow_sub-sum c =
    let r = run_within c.run_of.ensures in
    omega (
      arith,
      c.sum_to-before.ensures,
      c.sum_to.ensures,
      sum_to_le (c.len-count.result + 1 - c.run_of.result) c.len-count.result c.args.self.now (omega (arith, r.0)),
    )

pub invariant_of-self-2 : goal.invariant_of-self-2
invariant_of-self-2 c =
    let n : c.len-count.result ≡ length c.self.inside.sizes.items = c.len-count.ensures ∙ c.self.inside.sizes.ok.0 in
    let r : EndsRun (length c.self.inside.sizes.items + 1) c.run_of.result = subst (λ y. EndsRun (y + 1) c.run_of.result) n
    c.run_of.ensures in
    let a = c.sum_to.ensures ∙ (ap (λ y. sum_to y c.args.self.now) n ∙
    ap (sum_to (length c.self.inside.sizes.items)) (sym c.self.view_is)) in
    let b = c.sum_to-before.ensures ∙ (ap (λ y. sum_to (y + 1 - c.run_of.result) c.args.self.now) n ∙
    ap (sum_to (length c.self.inside.sizes.items + 1 - c.run_of.result)) (sym c.self.view_is)) in
    rw (c.in_ok-push-2.ensures.items, c.in_ok-reserve-2.ensures.items, c.in_ok-push.ensures.items, c.in_ok-reserve.ensures.items)
    (sums_push c.self.inside.sums.items c.self.inside.sizes.items c.args.size
    (c.sum_to.result - c.sum_to-before.result + c.args.size) c.run_of.result c.self.invariant r (omega (arith, a, b))
    (rw (← c.self.view_is) at c.requires))
