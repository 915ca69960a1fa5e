use Rattle.sexp_theory.proofs.Texts as texts
use Rattle.sexp_theory.proofs.round_trip.texts_are_lines_of_one_value.Goals as goal

pub returns-clause-one : goal.returns-clause-one
returns-clause-one c = texts.one_text

pub returns-clause-some : goal.returns-clause-some
returns-clause-some c = texts.some_bytes

pub returns-clause-printed : goal.returns-clause-printed
returns-clause-printed c = texts.text_bytes

pub returns-clause-no_line_end : goal.returns-clause-no_line_end
returns-clause-no_line_end c = texts.no_line_end
