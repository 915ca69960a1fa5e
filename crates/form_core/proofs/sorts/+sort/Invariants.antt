use Rattle.std.proofs.Common.{◌≡◌, ◌↔◌, length, drop}
use Rattle.fol_theory.specs.Contexts.{variables}
use Rattle.fol_theory.specs.Slots.{entries}
use Rattle.term_core.specs.Context.{slots}
use Rattle.term_core.specs.Term.{list_meaning}
use Rattle.env_theory.specs.Typing.{HaveSorts}
use Rattle.env_core.specs.Meaning.{declarations}
use Rattle.env_core.specs.Sorts.{sorts_as}
use Rattle.form_core.proofs.sorts.+sort.Given as goal

abbrev pub invariant-have_sorts-loop-i : goal.invariant-have_sorts-loop-i
invariant-have_sorts-loop-i l = (length l.ts ≡ length (sorts_as l.sorts))
    × (HaveSorts (declarations l.env) (variables (entries (slots l.context))) (list_meaning (drop l.i l.ts)) (drop l.i (sorts_as l.sorts))
    ↔ HaveSorts (declarations l.env) (variables (entries (slots l.context))) (list_meaning l.ts) (sorts_as l.sorts))
