use Rattle.std.proofs.Common.{Some, sym, ap, ◌∙◌}
use Rattle.term_core.specs.Context.{slots, slot_meaning}
use Rattle.tactic_theory.specs.Names.{number_of}
use Rattle.tac_base.proofs.Taken.{number_none, number_found}
use Rattle.tac_base.proofs.names.hypothesis_named.Goals as goal

pub returns-in-None : goal.returns-in-None
returns-in-None c = sym (number_none (slots c.args.context.now) c.args.name.now c.in-None.ensures)

pub returns-in-Var : goal.returns-in-Var
returns-in-Var c =
    let d = slots c.in-Some.older.now in
    sym (number_found (slots c.args.context.now) d c.args.name.now (slot_meaning c.in-Some.slot.now) c.in-Some.ensures
    ∙ ap (λ s. number_of ((slot_meaning s).entry) d) c.in-Var.is)

pub returns-in-Hyp : goal.returns-in-Hyp
returns-in-Hyp c =
    let d = slots c.in-Some.older.now in
    ap Some c.count.ensures ∙ sym (number_found (slots c.args.context.now) d c.args.name.now (slot_meaning c.in-Some.slot.now)
    c.in-Some.ensures ∙ ap (λ s. number_of ((slot_meaning s).entry) d) c.in-Hyp.is)
