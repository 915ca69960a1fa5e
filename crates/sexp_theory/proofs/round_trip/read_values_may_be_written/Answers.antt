use Rattle.sexp_theory.proofs.Depths as depths
use Rattle.sexp_theory.proofs.round_trip.read_values_may_be_written.Goals as goal

pub returns-clause-of_bytes : goal.returns-clause-of_bytes
returns-clause-of_bytes c = depths.item_of_bytes

pub returns-clause-shallow : goal.returns-clause-shallow
returns-clause-shallow c = depths.item_shallow
