use Rattle.serapi_ans.proofs.Told.{same_lines, all_lines}
use Rattle.serapi_ans.proofs.laws.no_line_begins_another.Goals as goal

pub returns-clause-one : goal.returns-clause-one
returns-clause-one c = same_lines

pub returns-clause-all : goal.returns-clause-all
returns-clause-all c = all_lines
