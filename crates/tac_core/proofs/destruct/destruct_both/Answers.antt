use Rattle.std.proofs.Common.{subst}
use Rattle.vern_parse.specs.Meaning.{expression}
use Rattle.term_core.specs.Context.{slots}
use Rattle.tactic_theory.specs.Evidence.{is_met}
use Rattle.tactic_theory.specs.Refinements.{destruct_pair, pair_form, row}
use Rattle.tactic_theory.specs.Typing.{evidence_of}
use Rattle.tac_base.specs.Openings.{Answers}
use Rattle.tac_base.specs.Sites.{env_of, goal_at}
use Rattle.tac_core.proofs.Destructs.{apart_row}
use Rattle.tac_core.proofs.Exacts.{evidence_answered}
use Rattle.tac_core.proofs.destruct.destruct_both.Goals as goal

pub returns-in_ok-name_of-in-Ok-2 : goal.returns-in_ok-name_of-in-Ok-2
returns-in_ok-name_of-in-Ok-2 c =
    let E = env_of c.args.site.now in
    let g = goal_at c.args.site.now in
    let w = c.in-Ok.ensures in
    let r = c.pair.result in
    let m = c.in_ok-name_of-in-Ok.field-0 in
    let n = c.in_ok-name_of-in-Ok-2.field-0 in
    evidence_answered E g (evidence_of E g.slots (expression c.args.raw.now))
    (λ e. destruct_pair e c.args.first.now.text c.args.second.now.text) w.0 w.1 r
    (subst (λ z. Answers E g r (row E g.slots g.shown (destruct_pair w.0 z c.args.second.now.text))) c.in_ok-name_of-in-Ok.ensures
    (subst (λ z. Answers E g r (row E g.slots g.shown (destruct_pair w.0 m z))) c.in_ok-name_of-in-Ok-2.ensures
    (subst (Answers E g r) (apart_row E g.slots (slots c.in_ok-kept-in-Ok.kept) w.0 c.in-Ok.evidence
    (λ k h. pair_form E k (is_met E g.slots w.0) m n g.shown h) w.2 c.in_ok-kept-in-Ok.ensures)
    (c.pair.ensures (is_met E g.slots w.0) w.2.met))))
