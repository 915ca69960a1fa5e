use Rattle.std.proofs.Common.{refl, sym, subst}
use Rattle.state_cache.specs.States.{IsCache}
use Rattle.state_cache.proofs.Entries.{seen, promoted-seen, valid-found_first}
use Rattle.state_cache.proofs.cache.StateCache.find.Goals as goal

pub invariant_of-self : goal.invariant_of-self
invariant_of-self g c =
    let found = promoted-seen c.args.id c.self.inside.cache c.get.follows.lender-at-none c.get.follows.holds-at-none c.self.invariant in
    subst IsCache (sym found) (valid-found_first c.args.id (seen c.self.inside.cache) c.self.invariant)

pub returns : goal.returns
returns g c =
    let found = promoted-seen c.args.id c.self.inside.cache c.get.follows.lender-at-none c.get.follows.holds-at-none c.self.invariant in
    rw (← c.self.view_is) (
      (refl, λ _. tt, found),
      record {
        to_front = tt;
        value = c.get.ensures.value;
        valid = valid-found_first c.args.id (seen c.self.inside.cache) c.self.invariant;
      },
    )
