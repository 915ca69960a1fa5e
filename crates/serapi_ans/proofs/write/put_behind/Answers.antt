use Rattle.std.proofs.Common.{◌+◌, drop, refl, ap}
use Rattle.sexp_core.proofs.Putting.{put_more}
use Rattle.serapi_ans.specs.Pieces.{numbers_behind}
use Rattle.serapi_ans.proofs.Putting.{both, number_at, all_put}
use Rattle.serapi_ans.proofs.write.put_behind.Goals as goal

pub loop-id-preserved : goal.loop-id-preserved
loop-id-preserved g c =
    let rest = drop c.loop-id.id-index c.args.ids.now in
    let more = drop (c.loop-id.id-index + 1) c.args.ids.now in
    put_more (numbers_behind rest) (numbers_behind more) c.loop-id.invariant (both c.put.ensures c.put_number.ensures)
    (ap numbers_behind (number_at c.args.ids.now c.loop-id.id-index c.loop-id-test.true))

pub returns : goal.returns
returns g c = all_put numbers_behind _ c.args.ids.now c.loop-id.id-index refl c.loop-id-test.false c.loop-id.invariant
