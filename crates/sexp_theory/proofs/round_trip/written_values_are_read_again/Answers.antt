use Rattle.std.proofs.Common.{◌∷◌}
use Rattle.sexp_theory.proofs.ReadAgain as written
use Rattle.sexp_theory.proofs.Texts as texts
use Rattle.sexp_theory.proofs.round_trip.written_values_are_read_again.Goals as goal

pub returns-clause-before_a_delimiter : goal.returns-clause-before_a_delimiter
returns-clause-before_a_delimiter c limit at v b rest h deep fits e = written.value_found limit at v (b ∷ rest) h deep fits e

pub returns-clause-whatever_follows : goal.returns-clause-whatever_follows
returns-clause-whatever_follows c = written.whole_found

pub returns-clause-at_the_end : goal.returns-clause-at_the_end
returns-clause-at_the_end c = texts.at_the_end

pub returns-clause-alone : goal.returns-clause-alone
returns-clause-alone c = texts.sole_taken

pub returns-clause-line : goal.returns-clause-line
returns-clause-line c = texts.line_taken
