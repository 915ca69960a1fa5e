use Rattle.std.proofs.Common.{subst, ◌∙◌}
use Rattle.term_core.specs.Context.{slots, slot_meaning}
use Rattle.term_core.specs.Formula.{meaning}
use Rattle.vern_parse.specs.Meaning.{name}
use Rattle.tactic_theory.specs.Names.{hypothesis_named}
use Rattle.evidence_core.specs.Answers.{Tells}
use Rattle.evidence_core.specs.Meaning.{so_far}
use Rattle.evidence_core.specs.Places.{context_of, env_of}
use Rattle.evidence_core.proofs.Starting.{begun_global, begun_variable, number_below, assumed_stands}
use Rattle.evidence_core.proofs.start.begin.Goals as goal

pub returns-in-None : goal.returns-in-None
returns-in-None c = subst (Tells so_far (env_of c.args.place.now) (context_of c.args.place.now) c.global.result)
    (begun_global (env_of c.args.place.now) (context_of c.args.place.now) (name c.args.x.now) c.from_shared-name.result
    (c.from_shared-name.ensures ∙ c.in_ok-share.ensures) c.in-None.ensures)
    (c.global.ensures (context_of c.args.place.now) (hypothesis_named (context_of c.args.place.now) c.args.x.now.text))

pub returns-in-Var : goal.returns-in-Var
returns-in-Var c = begun_variable (env_of c.args.place.now) (context_of c.args.place.now) (name c.args.x.now) c.from_shared-name.result
    (c.from_shared-name.ensures ∙ c.in_ok-share.ensures) (slots c.in-Some.older.now) (slot_meaning c.in-Some.slot.now) c.in-Var.name
    c.in-Var.sort c.in-Some.ensures (λ i. slot_meaning (c.in-Var.is i))

pub hypothesis-requires-clause-below : goal.hypothesis-requires-clause-below
hypothesis-requires-clause-below c = number_below (env_of c.args.place.now) (context_of c.args.place.now) (name c.args.x.now)
    c.from_shared-name.result (c.from_shared-name.ensures ∙ c.in_ok-share.ensures) (slots c.in-Some.older.now)
    (slot_meaning c.in-Some.slot.now) c.in-Hyp.name (meaning c.in-Hyp.formula) c.in-Some.ensures (λ i. slot_meaning (c.in-Hyp.is i))
    c.count-number.result c.count-number.ensures

pub returns : goal.returns
returns c = assumed_stands (env_of c.args.place.now) (context_of c.args.place.now) (name c.args.x.now)
    c.from_shared-name.result (c.from_shared-name.ensures ∙ c.in_ok-share.ensures) (slots c.in-Some.older.now)
    (slot_meaning c.in-Some.slot.now) c.in-Hyp.name (meaning c.in-Hyp.formula) c.in-Some.ensures (λ i. slot_meaning (c.in-Hyp.is i))
    c.count-number.result c.in_ok-hypothesis-in-Hyp.ensures.0 (so_far c.in_ok-hypothesis-in-Hyp.field-0)
    c.count-number.ensures c.in_ok-hypothesis-in-Hyp.ensures.1 c.in_ok-hypothesis-in-Hyp.ensures.2
