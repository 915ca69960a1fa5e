use Rattle.std.proofs.Common.{◌+◌, ◌-◌, drop, sym, subst, refl, length-drop, arith}
use Rattle.vern_lex.proofs.Tables.{IsBegun, closers-within, table_grown}
use Rattle.vern_lex.proofs.comments.closers_table.Goals as goal

pub closers_here-here-requires : goal.closers_here-here-requires
closers_here-here-requires c =
    omega (
      arith,
      c.ends.invariant.is_second,
      closers-within (drop (c.ends.place + 1) c.args.text.now),
      length-drop (c.ends.place + 1) c.args.text.now,
    )

pub ends-preserved : goal.ends-preserved
ends-preserved c =
    subst (λ table. IsBegun c.args.text.now table (c.ends.place - 1) c.closers_here-here.result c.ends.next)
    (sym c.in_ok-push-2.ensures.items)
    (table_grown c.split_at.result.1.now (c.ends.place - 1) c.closers_here-here.result c.ends.invariant c.ends-test.true refl
    c.split_at.ensures.back c.closers_here-here.ensures)
