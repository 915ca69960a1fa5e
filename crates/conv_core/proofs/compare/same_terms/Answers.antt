use Rattle.std.proofs.Common.{◌≡◌, ◌↔◌, sym, subst}
use Rattle.term_core.specs.Term.{meaning}
use Rattle.env_theory.specs.Scopes.{value}
use Rattle.env_theory.specs.Normal.{normal_term}
use Rattle.env_core.specs.Meaning.{declarations}
use Rattle.conv_core.specs.Frames.{scope_of}
use Rattle.conv_core.specs.Heads.{Standing}
use Rattle.conv_core.proofs.Compares.{start_term, start_agree, through_same, if_ok}
use Rattle.conv_core.proofs.compare.same_terms.Goals as goal

pub agree-requires-clause-standing : goal.agree-requires-clause-standing
agree-requires-clause-standing c = (
  subst (λ fs. Standing (declarations c.args.env.now) fs 0 0 (meaning c.args.t.now)) (sym c.new-frames.ensures.items) (start_term
      (declarations c.args.env.now) (meaning c.args.t.now) c.requires.first c.requires.first_indices),
  subst (λ fs. Standing (declarations c.args.env.now) fs 0 0 (meaning c.args.u.now)) (sym c.new-frames.ensures.items) (start_term
      (declarations c.args.env.now) (meaning c.args.u.now) c.requires.second c.requires.second_indices),
)

pub returns : goal.returns
returns c =
    if_ok c.agree.result (λ r h. through_same h (subst (λ fs. (value (declarations c.args.env.now) (scope_of fs 0) 0
    (meaning c.args.t.now) ≡ value (declarations c.args.env.now) (scope_of fs 0) 0 (meaning c.args.u.now)) ↔ (normal_term
    (declarations c.args.env.now) (meaning c.args.t.now) ≡ normal_term (declarations c.args.env.now) (meaning c.args.u.now)))
    (sym c.new-frames.ensures.items) (start_agree (declarations c.args.env.now) (meaning c.args.t.now)
    (meaning c.args.u.now)))) c.agree.ensures
