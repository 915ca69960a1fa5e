use Rattle.std.proofs.Common.{◌≡◌, map, length, vec_len, sym, ap, subst, ◌∙◌, rules}
use Rattle.std.proofs.lemmas.List.{length-reverse}
use Rattle.match_theory.specs.Places.{all_below, occurs_in_term}
use Rattle.tactic_theory.specs.Refinements.{is_open}
use Rattle.term_core.specs.Term.{meaning}
use Rattle.evidence_core.specs.Meaning.{pairs}
use Rattle.evidence_core.specs.Pairs.{AreSame}
use Rattle.strip_core.specs.Meaning.{strip_of}
use Rattle.tac_base.specs.Openings.{Opens}
use Rattle.tac_base.specs.Sites.{env_of, goal_at}
use Rattle.tac_eq.proofs.Shown.{given_rules}
use Rattle.tac_eq.proofs.Equated.{from_sorted, rewritten_opens}
use Rattle.tac_eq.proofs.rewrite.rewrite_with.Goals as goal

pub rewritten-requires-clause-of_evidence : goal.rewritten-requires-clause-of_evidence
rewritten-requires-clause-of_evidence c = given_rules (env_of c.args.site.now) (goal_at c.args.site.now).slots c.requires.given.0
    c.args.evidence.now c.requires.given.1

pub rewritten-requires-clause-sorted : goal.rewritten-requires-clause-sorted
rewritten-requires-clause-sorted c =
    let sides = c.args.sides.now in
    let counted : vec_len c.args.strip.now.sorts ≡ length c.args.strip.now.sorts.items = search rules in
    let many = length-reverse c.args.strip.now.sorts.items ∙ sym (c.len-open.ensures ∙ counted) in
    let unlike = ap (λ n. is_open n (meaning sides.from.now)) many ∙ sym c.is_open.ensures ∙ c.if-is_open.false in
    let each = ap (λ n. all_below n (λ i. occurs_in_term i (meaning sides.from.now))) many ∙ sym c.all_below.ensures
    ∙ c.if-not-all_below.false in
    from_sorted (env_of c.args.site.now) (goal_at c.args.site.now) c.args.site.now.variables c.requires.ready c.args.evidence.now
    c.requires.given.0 c.requires.given.1 (strip_of c.args.strip.now) c.requires.first sides.back sides.sort.now (meaning sides.from.now)
    (meaning sides.to.now) c.requires.head (map meaning c.args.terms.now) c.requires.found unlike each

pub returns : goal.returns
returns c = λ e k.
    let E = env_of c.args.site.now in
    let g = goal_at c.args.site.now in
    let sides = c.args.sides.now in
    let counted : vec_len c.args.strip.now.sorts ≡ length c.args.strip.now.sorts.items = search rules in
    let many = length-reverse c.args.strip.now.sorts.items ∙ sym (c.len-open.ensures ∙ counted) in
    let unlike = ap (λ n. is_open n (meaning sides.from.now)) many ∙ sym c.is_open.ensures ∙ c.if-is_open.false in
    let each = ap (λ n. all_below n (λ i. occurs_in_term i (meaning sides.from.now))) many ∙ sym c.all_below.ensures
    ∙ c.if-not-all_below.false in
    let same = subst (λ ps. AreSame E (pairs ps)) c.deref.ensures.value (c.in_ok-are_same.ensures.0 c.if-not-branch.false) in
    let w = rewritten_opens E g c.args.site.now.variables c.requires.ready c.args.evidence.now e k (strip_of c.args.strip.now)
    c.requires.first sides.back sides.sort.now (meaning sides.from.now) (meaning sides.to.now) c.requires.head
    (map meaning c.args.terms.now) c.requires.found unlike each same in
    (w.0, w.1, subst (Opens E g w.0) (sym c.in_ok-rewritten.ensures) w.2)
