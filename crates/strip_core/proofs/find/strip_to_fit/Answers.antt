use Rattle.std.proofs.Common.{map, option_map, ap}
use Rattle.tactic_theory.specs.Strips.{fitting}
use Rattle.env_core.specs.Meaning.{declarations}
use Rattle.term_core.specs.Formula.{meaning}
use Rattle.term_core.specs.Term as term
use Rattle.strip_core.specs.Drafts.{drafted}
use Rattle.strip_core.proofs.Found.{fits, fits_not, further_less, further_comes, last_ends}
use Rattle.strip_core.proofs.find.strip_to_fit.Goals as goal

pub returns-in-Some-clause-fits : goal.returns-in-Some-clause-fits
returns-in-Some-clause-fits c = λ g a n k.
    fits (declarations c.args.env.now) g (drafted c.loop-terms.draft) (meaning c.args.target.now.formula) _ n c.in_ok-terms.ensures a
    (map term.meaning c.in-Some.terms.items) (ap (option_map (λ ts. map term.meaning ts.items)) c.in-Some.is)
    (c.loop-terms.invariant.comes g a n k)

pub loop-terms-smaller : goal.loop-terms-smaller
loop-terms-smaller c =
    further_less (declarations c.args.env.now) c.environment.ensures c.args.variables (drafted c.loop-terms.draft)
    (drafted c.advance.new.self) c.in_ok-advance.field-0 c.loop-terms.invariant.stands c.in_ok-advance.ensures.turns c.in-Strip.is

pub loop-terms-preserved : goal.loop-terms-preserved
loop-terms-preserved c =
    let E = declarations c.args.env.now in
    let s = drafted c.loop-terms.draft in
    record {
      older = c.in_ok-advance.ensures.older;
      stands = c.in_ok-advance.ensures.stands c.args.variables c.loop-terms.invariant.stands;
      comes = λ g a n k.
          further_comes E c.environment.ensures c.args.variables s (drafted c.advance.new.self) c.in_ok-advance.field-0
          c.loop-terms.invariant.stands c.in_ok-advance.ensures.turns c.in-Strip.is (fitting E g) a
          (c.loop-terms.invariant.comes g a n k)
          (fits_not E g s (meaning c.args.target.now.formula) _ n c.in_ok-terms.ensures
          (ap (option_map (λ ts. map term.meaning ts.items)) c.in-None.is));
    }

pub returns-in_default-clause-fits : goal.returns-in_default-clause-fits
returns-in_default-clause-fits c = λ g a n k.
    let E = declarations c.args.env.now in
    let s = drafted c.loop-terms.draft in
    last_ends E c.environment.ensures c.args.variables s (drafted c.advance.new.self) c.in_ok-advance.field-0
    c.loop-terms.invariant.stands c.in_ok-advance.ensures.turns (fitting E g) a c.in_default.not-Strip (c.loop-terms.invariant.comes g a n k)
    (fits_not E g s (meaning c.args.target.now.formula) _ n c.in_ok-terms.ensures
    (ap (option_map (λ ts. map term.meaning ts.items)) c.in-None.is))
