use Rattle.std.proofs.Common.{◌≡◌, ◌↔◌, sym, subst}
use Rattle.fol_theory.specs.Printing.{unnamed}
use Rattle.term_core.specs.Formula.{meaning}
use Rattle.env_theory.specs.Scopes.{formula_value}
use Rattle.env_theory.specs.Normal.{Same}
use Rattle.env_core.specs.Meaning.{declarations}
use Rattle.conv_core.specs.Frames.{scope_of}
use Rattle.conv_core.specs.Formulas.{StandingFormula}
use Rattle.conv_core.proofs.Tops.{start}
use Rattle.conv_core.proofs.Compares.{start_formulas, through_same, if_ok}
use Rattle.conv_core.proofs.compare.same.Goals as goal

pub agree-requires-clause-standing : goal.agree-requires-clause-standing
agree-requires-clause-standing c = (
  subst (λ fs. StandingFormula (declarations c.args.env.now) fs 0 (meaning c.args.a.now)) (sym c.new-frames.ensures.items) (start
      (declarations c.args.env.now) (meaning c.args.a.now) c.requires.first c.requires.first_indices),
  subst (λ fs. StandingFormula (declarations c.args.env.now) fs 0 (meaning c.args.b.now)) (sym c.new-frames.ensures.items) (start
      (declarations c.args.env.now) (meaning c.args.b.now) c.requires.second c.requires.second_indices),
)

pub returns : goal.returns
returns c =
    if_ok c.agree.result (λ r h. through_same h (subst (λ fs. (unnamed (formula_value (declarations c.args.env.now) (scope_of fs 0)
    (meaning c.args.a.now)) ≡ unnamed (formula_value (declarations c.args.env.now) (scope_of fs 0) (meaning c.args.b.now)))
    ↔ Same (declarations c.args.env.now) (meaning c.args.a.now) (meaning c.args.b.now))
    (sym c.new-frames.ensures.items) (start_formulas (declarations c.args.env.now) (meaning c.args.a.now)
    (meaning c.args.b.now)))) c.agree.ensures
