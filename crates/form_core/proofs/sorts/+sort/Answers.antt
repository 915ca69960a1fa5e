use Rattle.fol_theory.specs.Contexts.{variables}
use Rattle.fol_theory.specs.Slots.{entries}
use Rattle.std.proofs.Common.{IsTrue, sym, ◌∙◌}
use Rattle.term_core.specs.Context.{slots}
use Rattle.env_core.specs.Meaning.{declarations}
use Rattle.form_core.proofs.Arguments.{as_many, variable_has}
use Rattle.env_core.specs.Sorts.{sorts_as}
use Rattle.form_core.proofs.sorts.+sort.Goals as goal

pub has_sort-returns-in-Some : goal.has_sort-returns-in-Some
has_sort-returns-in-Some t c = variable_has (declarations c.args.env.now) (variables (entries (slots c.args.context.now))) c.args.t.now
    c.in-Var.i c.in-Some.found.now c.args.sort.now (IsTrue c.same.result) c.in-Var.is c.in-Some.ensures c.same.ensures

pub have_sorts-returns-then-ts-len : goal.have_sorts-returns-then-ts-len
have_sorts-returns-then-ts-len t c = (
  (λ h. cc),
  (λ h. absurd (c.if-ts-len.true (as_many (declarations c.args.env.now) (variables (entries (slots c.args.context.now))) c.args.ts.now
      (sorts_as c.args.sorts) h ∙ sym c.len.ensures))),
)
