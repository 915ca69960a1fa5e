use Rattle.std.proofs.Common.{map, sym, subst, ◌∙◌}
use Rattle.term_core.specs.Term.{meaning}
use Rattle.evidence_core.specs.Meaning.{pairs}
use Rattle.evidence_core.specs.Pairs.{AreSame}
use Rattle.strip_core.specs.Meaning.{strip_of}
use Rattle.tac_base.specs.Openings.{Opens}
use Rattle.tac_base.specs.Sites.{env_of, goal_at}
use Rattle.tac_core.proofs.Applied.{given_rules, left_formed, applied_opens}
use Rattle.tac_core.proofs.apply.apply_at.Goals as goal

pub all_occur-requires-clause-formed : goal.all_occur-requires-clause-formed
all_occur-requires-clause-formed c =
    left_formed (env_of c.args.site.now) (goal_at c.args.site.now) c.args.site.now.variables c.requires.ready c.args.evidence.now
    c.requires.given.0 c.requires.given.1 (strip_of c.args.strip.now) (map meaning c.args.terms.now) c.requires.fits

pub applied-requires : goal.applied-requires
applied-requires c = given_rules (env_of c.args.site.now) (goal_at c.args.site.now).slots c.requires.given.0 c.args.evidence.now
    c.requires.given.1

pub returns : goal.returns
returns c = λ e k.
    let E = env_of c.args.site.now in
    let g = goal_at c.args.site.now in
    let same = subst (λ ps. AreSame E (pairs ps)) c.deref.ensures.value (c.in_ok-are_same.ensures.0 c.if-not-branch.false) in
    let w = applied_opens E g c.args.site.now.variables c.requires.ready c.args.evidence.now e k (strip_of c.args.strip.now)
    (map meaning c.args.terms.now) c.requires.fits same
    (sym c.if-not-branch-2.false ∙ c.in_ok-all_occur.ensures) in
    (w.0, w.1, subst (Opens E g w.0) (sym c.in_ok-applied.ensures) w.2)
