use Rattle.std.proofs.Common.{arith}
use Rattle.std.proofs.lemmas.List.Sums.{prefix_len-le-length}
use Rattle.sexp_theory.specs.Writing.{is_itself}
use Rattle.sexp_core.proofs.Putting.{put_run, put_one}
use Rattle.sexp_core.proofs.writer.put_quoted.Goals as goal

pub split_at-requires : goal.split_at-requires
split_at-requires g c = omega (arith, c.run_length.ensures, prefix_len-le-length is_itself c.loop-first.rest.now)

pub loop-first-preserved-then-is_itself : goal.loop-first-preserved-then-is_itself
loop-first-preserved-then-is_itself g c =
    put_run c.loop-first.rest.now c.run_length.result c.loop-first.invariant c.put.ensures c.run_length.ensures
    c.split_at.ensures.front c.split_at.ensures.back

pub loop-first-preserved : goal.loop-first-preserved
loop-first-preserved g c = put_one c.loop-first.rest.now c.in-Some.behind.now c.in-Some.first.now c.loop-first.invariant
    c.put_escape.ensures c.in-Some.ensures.cases.0
