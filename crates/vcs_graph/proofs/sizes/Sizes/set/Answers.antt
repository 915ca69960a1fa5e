use Rattle.std.proofs.Common.{◌≡◌, ◌+◌, ◌-◌, ◌/◌, ◌≤◌, ◌<◌, get_or, length, refl, ap, ◌∙◌, arith}
use Rattle.std.proofs.lemmas.Grind.{get_or_default_zero}
use Rattle.vcs_graph.proofs.Sums.{setting_run, setting_holds, setting_small, setting_even, setting_odd, setting_ends}
use Rattle.vcs_graph.proofs.sizes.Sizes.set.Goals as goal
use Rattle.vcs_graph.proofs.sizes.Sizes.set.Goals.{then-rest-eq0, else-rest-eq0}

pub invariant_of-self : goal.invariant_of-self
invariant_of-self c =
    let past : length c.args.self.now < c.loop-right.right = omega (
      arith,
      c.len.ensures,
      c.loop-right.self-inside.sums.ok.0,
      c.loop-right.invariant.sums.same,
    ) in
    rw c.loop-right.invariant.sizes (setting_ends c.loop-right.invariant.sums c.requires.within past c.requires.small)

pub overflow_sub-index : goal.overflow_sub-index
overflow_sub-index c =
    let s = c.loop-right.invariant.sums in
    let within : c.loop-right.right ≤ length c.args.self.now = omega (
      arith,
      c.len.ensures,
      c.loop-right.self-inside.sums.ok.0,
      s.same,
    ) in
    let o = c.index-old.ensures ∙ (get_or_default_zero c.self.inside.sizes.items c.args.place c.index-old.result.now
    (omega (arith, c.requires.within, ap length c.self.view_is)) ∙ ap (λ y. get_or y c.args.place 0) c.self.view_is) in
    let x = c.index.ensures ∙ get_or_default_zero c.loop-right.self-inside.sums.items (c.loop-right.right - 1) c.index.result.now
    (omega (arith, within, s.same, s.high)) in
    let h = setting_holds s c.requires.within (c.loop-right.rest / 2) (omega (arith, c.if-rest-eq0.true)) within in
    omega (arith, h, o, x)

pub overflow_add-index : goal.overflow_add-index
overflow_add-index c =
    let s = c.loop-right.invariant.sums in
    let within : c.loop-right.right ≤ length c.args.self.now = omega (
      arith,
      c.len.ensures,
      c.loop-right.self-inside.sums.ok.0,
      s.same,
    ) in
    let o = c.index-old.ensures ∙ (get_or_default_zero c.self.inside.sizes.items c.args.place c.index-old.result.now
    (omega (arith, c.requires.within, ap length c.self.view_is)) ∙ ap (λ y. get_or y c.args.place 0) c.self.view_is) in
    let x = c.index.ensures ∙ get_or_default_zero c.loop-right.self-inside.sums.items (c.loop-right.right - 1) c.index.result.now
    (omega (arith, within, s.same, s.high)) in
    let h = setting_small s c.requires.within (c.loop-right.rest / 2) (omega (arith, c.if-rest-eq0.true)) within in
    omega (arith, h, o, x, c.requires.small)

pub overflow_add-right-then-rest-eq0 : goal.overflow_add-right-then-rest-eq0
overflow_add-right-then-rest-eq0 c =
    let r = setting_run c.loop-right.invariant.sums c.requires.within in
    omega (arith, r.0, r.1, c.len.ensures, c.loop-right.self-inside.sums.ok.0, c.loop-right.self-inside.sums.small)

pub overflow_mul-run : goal.overflow_mul-run
overflow_mul-run c =
    let r = setting_run c.loop-right.invariant.sums c.requires.within in
    omega (arith, r.0, r.1, c.len.ensures, c.loop-right.self-inside.sums.ok.0, c.loop-right.self-inside.sums.small)

pub loop-right-preserved : goal.loop-right-preserved
loop-right-preserved c =
    let s = c.loop-right.invariant.sums in
    let within : c.loop-right.right ≤ length c.args.self.now = omega (
      arith,
      c.len.ensures,
      c.loop-right.self-inside.sums.ok.0,
      s.same,
    ) in
    let o = c.index-old.ensures ∙ (get_or_default_zero c.self.inside.sizes.items c.args.place c.index-old.result.now
    (omega (arith, c.requires.within, ap length c.self.view_is)) ∙ ap (λ y. get_or y c.args.place 0) c.self.view_is) in
    elim c.if-rest-eq0.branch [
      | then-rest-eq0 w ↦
          let x = w.index.ensures ∙ get_or_default_zero c.loop-right.self-inside.sums.items (c.loop-right.right - 1)
          w.index.result.now (omega (arith, within, s.same, s.high)) in
          rw (w.self-inside-is, w.right-is) (record {
            sizes = c.loop-right.invariant.sizes;
            sums = setting_even s c.requires.within (c.loop-right.rest / 2) (w.index.result.now - c.index-old.result.now
                + c.args.size) _ _ (omega (arith, w.if-rest-eq0.true)) within (omega (arith, o, x)) (omega arith) refl;
          })
      | else-rest-eq0 w ↦ rw (w.self-inside-is, w.right-is) (record {
        sizes = c.loop-right.invariant.sizes;
        sums = setting_odd s c.requires.within (c.loop-right.rest / 2) _ (omega (arith, w.if-rest-eq0.false)) (omega arith);
      })
    ]
