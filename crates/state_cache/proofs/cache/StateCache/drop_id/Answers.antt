use Rattle.std.proofs.Common.{sym, subst}
use Rattle.state_cache.specs.States.{IsCache}
use Rattle.state_cache.proofs.Entries.{seen, pop-seen, valid-without}
use Rattle.state_cache.proofs.cache.StateCache.drop_id.Goals as goal

pub invariant_of-self : goal.invariant_of-self
invariant_of-self g c =
    let dropped = pop-seen c.args.id c.self.inside.cache c.pop.new.self c.pop.ensures.entries c.self.invariant in
    subst IsCache (sym dropped) (valid-without c.args.id (seen c.self.inside.cache) c.self.invariant)

pub returns-clause-without : goal.returns-clause-without
returns-clause-without g c =
    rw (← c.self.view_is) (pop-seen c.args.id c.self.inside.cache c.pop.new.self c.pop.ensures.entries c.self.invariant)

pub returns-clause-valid : goal.returns-clause-valid
returns-clause-valid g c = invariant_of-self g c
