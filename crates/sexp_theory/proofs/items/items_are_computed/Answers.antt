use Rattle.std.proofs.Common.{sym, ◌∙◌}
use Rattle.sexp_theory.proofs.Taking as lemmas
use Rattle.sexp_theory.proofs.items.items_are_computed.Goals as goal

pub returns-clause-first : goal.returns-clause-first
returns-clause-first c = lemmas.item_is

pub returns-clause-none : goal.returns-clause-none
returns-clause-none c = lemmas.no_item_is

pub returns-clause-items_computed : goal.returns-clause-items_computed
returns-clause-items_computed c = lemmas.items_computed

pub returns-clause-items_are : goal.returns-clause-items_are
returns-clause-items_are c = lemmas.items_are

pub returns-clause-items_one : goal.returns-clause-items_one
returns-clause-items_one c = λ limit ended u items others h k. sym (lemmas.items_are limit ended u items h)
    ∙ lemmas.items_are limit ended u others k

pub returns-clause-end_computed : goal.returns-clause-end_computed
returns-clause-end_computed c = lemmas.end_computed

pub returns-clause-end_is : goal.returns-clause-end_is
returns-clause-end_is c = lemmas.end_is
