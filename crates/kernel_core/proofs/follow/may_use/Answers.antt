use Rattle.std.proofs.Common.{◌↔◌, IsTrue, IfOk, sym, subst}
use Rattle.proof_tree.specs.Meaning.{meaning}
use Rattle.kernel_core.specs.Sites.{environment, sequent_at, AsksRule}
use Rattle.kernel_core.proofs.follow.may_use.Goals as goal

pub returns-in-Hyp : goal.returns-in-Hyp
returns-in-Hyp c = subst (λ r. IfOk c.hyp.result (λ b. IsTrue b ↔ AsksRule (environment c.args.site.now) (meaning r) (sequent_at c.args.site.now)))
    (sym c.in-Hyp.is) c.hyp.ensures

pub returns-in-Stated : goal.returns-in-Stated
returns-in-Stated c = subst (λ r. IfOk c.stated.result (λ b. IsTrue b ↔ AsksRule (environment c.args.site.now) (meaning r) (sequent_at c.args.site.now)))
    (sym c.in-Stated.is) c.stated.ensures

pub returns-in-AllE : goal.returns-in-AllE
returns-in-AllE c = subst (λ r. IfOk c.all_e.result (λ b. IsTrue b ↔ AsksRule (environment c.args.site.now) (meaning r) (sequent_at c.args.site.now)))
    (sym c.in-AllE.is) c.all_e.ensures

pub returns-in-EqE : goal.returns-in-EqE
returns-in-EqE c = subst (λ r. IfOk c.eq_e.result (λ b. IsTrue b ↔ AsksRule (environment c.args.site.now) (meaning r) (sequent_at c.args.site.now)))
    (sym c.in-EqE.is) c.eq_e.ensures

pub returns-in-Drop : goal.returns-in-Drop
returns-in-Drop c = subst (λ r. IfOk c.drop_hypothesis.result (λ b. IsTrue b ↔ AsksRule (environment c.args.site.now) (meaning r) (sequent_at c.args.site.now)))
    (sym c.in-Drop.is) c.drop_hypothesis.ensures
