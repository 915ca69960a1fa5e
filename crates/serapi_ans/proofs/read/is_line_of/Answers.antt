use Rattle.serapi_ans.proofs.Readings.{with_end}
use Rattle.serapi_ans.proofs.read.is_line_of.Goals as goal

pub returns-then-last-eq10 : goal.returns-then-last-eq10
returns-then-last-eq10 c = with_end c.args.line.now c.in-Some.front.now c.args.bytes.now c.in-Some.last.now c.are_same.result
    c.in-Some.ensures.cases.0 c.if-last-eq10.true c.are_same.ensures
