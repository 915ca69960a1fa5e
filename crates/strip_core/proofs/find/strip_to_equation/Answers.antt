use Rattle.std.proofs.Common.{◌≡◌}
use Rattle.tactic_theory.specs.Strips.{equation}
use Rattle.env_core.specs.Meaning.{declarations}
use Rattle.strip_core.specs.declared.draft.Head.{Head}
use Rattle.strip_core.specs.declared.draft.Head.TheVariants.{Strip, Equation, Other}
use Rattle.strip_core.specs.Drafts.{drafted}
use Rattle.strip_core.proofs.Found.{further_less, further_comes, last_ends, equated, no_equation}
use Rattle.strip_core.proofs.find.strip_to_equation.Goals as goal

strip_is_none : (r : Head) → r ≡ Strip → r ≡ Equation → ⊥
strip_is_none r e h = cc

other_is_none : (r : Head) → r ≡ Other → r ≡ Equation → ⊥
other_is_none r e h = cc

other_is_last : (r : Head) → r ≡ Other → r ≡ Strip → ⊥
other_is_last r e h = cc

pub loop-smaller : goal.loop-smaller
loop-smaller c =
    further_less (declarations c.args.env.now) c.environment.ensures c.requires.stands.0 (drafted c.loop.draft) (drafted c.advance.new.self)
    c.in_ok-advance.field-0 (c.loop.invariant.stands c.requires.stands.0 c.requires.stands.1) c.in_ok-advance.ensures.turns c.in-Strip.is

pub loop-preserved : goal.loop-preserved
loop-preserved c =
    let E = declarations c.args.env.now in
    let s = drafted c.loop.draft in
    let t = drafted c.advance.new.self in
    let r = c.in_ok-advance.field-0 in
    let n = c.requires.stands.0 in
    let w = c.loop.invariant.stands n c.requires.stands.1 in
    record {
      older = c.in_ok-advance.ensures.older;
      stands = λ m k. c.in_ok-advance.ensures.stands m (c.loop.invariant.stands m k);
      comes = λ a k.
          further_comes E c.environment.ensures n s t r w c.in_ok-advance.ensures.turns c.in-Strip.is (equation E) a
          (c.loop.invariant.comes a k)
          (no_equation E c.environment.ensures n s t r w c.in_ok-advance.ensures.turns (strip_is_none r c.in-Strip.is));
    }

pub returns-in-Equation-clause-equates : goal.returns-in-Equation-clause-equates
returns-in-Equation-clause-equates c = λ a k.
    equated (declarations c.args.env.now) c.environment.ensures c.requires.stands.0 (drafted c.loop.draft) (drafted c.advance.new.self)
    c.in_ok-advance.field-0 (c.loop.invariant.stands c.requires.stands.0 c.requires.stands.1) c.in_ok-advance.ensures.turns a
    c.in-Equation.is (c.loop.invariant.comes a k)

pub returns-in-Other-clause-equates : goal.returns-in-Other-clause-equates
returns-in-Other-clause-equates c = λ a k.
    let E = declarations c.args.env.now in
    let s = drafted c.loop.draft in
    let t = drafted c.advance.new.self in
    let r = c.in_ok-advance.field-0 in
    let n = c.requires.stands.0 in
    let w = c.loop.invariant.stands n c.requires.stands.1 in
    last_ends E c.environment.ensures n s t r w c.in_ok-advance.ensures.turns (equation E) a (other_is_last r c.in-Other.is)
    (c.loop.invariant.comes a k)
    (no_equation E c.environment.ensures n s t r w c.in_ok-advance.ensures.turns (other_is_none r c.in-Other.is))

pub returns-in-Equation-clause-stands : goal.returns-in-Equation-clause-stands
returns-in-Equation-clause-stands c = λ n k. c.in_ok-advance.ensures.stands n (c.loop.invariant.stands n k)

pub returns-in-Other-clause-stands : goal.returns-in-Other-clause-stands
returns-in-Other-clause-stands c = λ n k. c.in_ok-advance.ensures.stands n (c.loop.invariant.stands n k)
