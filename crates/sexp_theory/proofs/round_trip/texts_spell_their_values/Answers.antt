use Rattle.sexp_theory.proofs.TextSpelled as spelled
use Rattle.sexp_theory.proofs.round_trip.texts_spell_their_values.Goals as goal

pub returns : goal.returns
returns c = spelled.spells_text
