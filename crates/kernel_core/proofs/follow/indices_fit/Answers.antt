use Rattle.std.proofs.Common.{sym, subst}
use Rattle.std.proofs.lemmas.Result.{IfOk-weaker}
use Rattle.term_core.specs.Formula as formula
use Rattle.term_core.specs.Term as term
use Rattle.proof_tree.specs.Meaning.{meaning}
use Rattle.proof_tree.specs.Places.{IndicesFit}
use Rattle.kernel_core.specs.Sites.{environment, sequent_at, AsksRule}
use Rattle.kernel_core.proofs.Asked.{instance_room, equation_room, goal_room}
use Rattle.kernel_core.proofs.follow.indices_fit.Goals as goal

pub returns-in-ExI : goal.returns-in-ExI
returns-in-ExI c =
    let E = environment c.args.site.now in
    let g = sequent_at c.args.site.now in
    IfOk-weaker c.binder_fits.result _ _ (λ x k. subst (λ r. IndicesFit (meaning r) g) (sym c.in-ExI.is)
    (instance_room E g c.args.site.now.most c.in-ExI.field-0 (formula.meaning c.in-ExI.body) (term.meaning c.in-ExI.field-2)
    c.requires.ready (subst (λ r. AsksRule E (meaning r) g) c.in-ExI.is c.requires.asked) k)) c.binder_fits.ensures.fits

pub returns-in-EqE : goal.returns-in-EqE
returns-in-EqE c =
    let E = environment c.args.site.now in
    let g = sequent_at c.args.site.now in
    IfOk-weaker c.binder_fits-in-EqE.result _ _ (λ x k. subst (λ r. IndicesFit (meaning r) g) (sym c.in-EqE.is)
    (equation_room E g c.args.site.now.most c.in-EqE.field-0 (formula.meaning c.in-EqE.body) (term.meaning c.in-EqE.field-2)
    (term.meaning c.in-EqE.field-3) c.requires.ready (subst (λ r. AsksRule E (meaning r) g) c.in-EqE.is c.requires.asked) k))
    c.binder_fits-in-EqE.ensures.fits

pub returns-in-ExE : goal.returns-in-ExE
returns-in-ExE c =
    IfOk-weaker c.binder_fits-in-ExE.result _ _ (λ x k. subst (λ r. IndicesFit (meaning r) (sequent_at c.args.site.now)) (sym c.in-ExE.is)
    (goal_room (environment c.args.site.now) (sequent_at c.args.site.now) c.args.site.now.most c.requires.ready k))
    c.binder_fits-in-ExE.ensures.fits
