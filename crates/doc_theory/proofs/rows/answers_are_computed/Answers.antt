use Rattle.std.proofs.Common.{refl}
use Rattle.doc_theory.proofs.Toys as toys
use Rattle.doc_theory.proofs.rows.answers_are_computed.Goals as goal

pub returns-clause-laws : goal.returns-clause-laws
returns-clause-laws c = toys.toy_laws

pub returns-clause-plain : goal.returns-clause-plain
returns-clause-plain c = refl

pub returns-clause-zone : goal.returns-clause-zone
returns-clause-zone c = refl

pub returns-clause-inside : goal.returns-clause-inside
returns-clause-inside c = refl

pub returns-clause-closing : goal.returns-clause-closing
returns-clause-closing c = refl

pub returns-clause-tail : goal.returns-clause-tail
returns-clause-tail c = refl

pub returns-clause-twice : goal.returns-clause-twice
returns-clause-twice c = refl

pub returns-clause-again : goal.returns-clause-again
returns-clause-again c = refl

pub returns-clause-closed : goal.returns-clause-closed
returns-clause-closed c = refl

pub returns-clause-refused : goal.returns-clause-refused
returns-clause-refused c = refl

pub returns-clause-limited : goal.returns-clause-limited
returns-clause-limited c = refl

pub returns-clause-chosen : goal.returns-clause-chosen
returns-clause-chosen c = refl

pub returns-clause-cut : goal.returns-clause-cut
returns-clause-cut c = refl

pub returns-clause-cursor : goal.returns-clause-cursor
returns-clause-cursor c = refl

pub returns-clause-alone : goal.returns-clause-alone
returns-clause-alone c = refl

pub returns-clause-none : goal.returns-clause-none
returns-clause-none c = refl
