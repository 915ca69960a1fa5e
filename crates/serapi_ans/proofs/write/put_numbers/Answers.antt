use Rattle.serapi_ans.proofs.Putting.{put_no_number, put_some_numbers}
use Rattle.serapi_ans.proofs.write.put_numbers.Goals as goal

pub returns-in-Some : goal.returns-in-Some
returns-in-Some g c =
    put_some_numbers c.args.ids.now c.in-Some.first.now c.in-Some.behind.now c.in-Some.ensures.cases.0 c.put_number.ensures
    c.put_behind.ensures

pub returns-in_default : goal.returns-in_default
returns-in_default g c =
    put_no_number c.args.ids.now c.in_default.ensures.cases
