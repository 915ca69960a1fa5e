use Rattle.std.proofs.Common.{sym, ◌∙◌}
use Rattle.sexp_theory.proofs.Found.{is_found, is_found_behind_line}
use Rattle.sexp_theory.proofs.Computed.{found_text, behind_text}
use Rattle.sexp_theory.proofs.reads.reading_is_computed.Goals as goal

pub returns-clause-computed : goal.returns-clause-computed
returns-clause-computed c = λ limit at text z. found_text text limit at z

pub returns-clause-is : goal.returns-clause-is
returns-clause-is c = is_found

pub returns-clause-one : goal.returns-clause-one
returns-clause-one c = λ limit at text f g h k. sym (is_found limit at text f h) ∙ is_found limit at text g k

pub returns-clause-line_computed : goal.returns-clause-line_computed
returns-clause-line_computed c = λ limit at text z. behind_text text limit at z

pub returns-clause-line_is : goal.returns-clause-line_is
returns-clause-line_is c = is_found_behind_line
