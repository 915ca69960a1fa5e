use Rattle.std.proofs.Common.{◌+◌, drop}
use Rattle.sexp_core.proofs.Putting.{put_in_parentheses, put_value, value_at, nesting_behind}
use Rattle.sexp_core.proofs.writer.+write.Goals as goal

pub write-returns-in-List : goal.write-returns-in-List
write-returns-in-List g t c = put_in_parentheses c.in-List.sexps c.in-List.is c.deref.ensures.value c.put.ensures
    c.write_all.ensures c.put-in-List.ensures

pub write_all-loop-sexp-preserved : goal.write_all-loop-sexp-preserved
write_all-loop-sexp-preserved g t c =
    let sexp = c.sexp-item.result in
    let rest = drop c.loop-sexp.sexp-index c.args.sexps.now in
    let more = drop (c.loop-sexp.sexp-index + 1) c.args.sexps.now in
    let next = value_at c.args.sexps.now c.loop-sexp.sexp-index sexp c.loop-sexp-test.true c.sexp-item.is in
    record {
      put = put_value c.loop-sexp.before sexp rest more c.loop-sexp.invariant.put c.put_between.ensures c.write.ensures next;
      deep = nesting_behind sexp rest more next c.loop-sexp.invariant.deep;
    }
