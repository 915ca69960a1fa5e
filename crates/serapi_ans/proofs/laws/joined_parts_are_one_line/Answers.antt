use Rattle.serapi_ans.proofs.Putting.{joined_text}
use Rattle.serapi_ans.proofs.laws.joined_parts_are_one_line.Goals as goal

pub returns : goal.returns
returns c = joined_text
