use Rattle.std.proofs.Common.{sym, subst}
use Rattle.state_cache.specs.States.{IsCache}
use Rattle.state_cache.proofs.Entries.{seen, put-seen, valid-with_first}
use Rattle.state_cache.proofs.cache.StateCache.keep.Goals as goal

pub invariant_of-self : goal.invariant_of-self
invariant_of-self g c =
    let kept = put-seen c.args.id c.args.state c.self.inside.cache c.put.new.self c.in-Ok.ensures.entries c.self.invariant in
    subst IsCache (sym kept) (valid-with_first c.args.id c.args.state (seen c.self.inside.cache) c.self.invariant)

pub returns-in-Ok-clause-ok : goal.returns-in-Ok-clause-ok
returns-in-Ok-clause-ok g c =
    rw (← c.self.view_is) (put-seen c.args.id c.args.state c.self.inside.cache c.put.new.self c.in-Ok.ensures.entries c.self.invariant)

pub returns-in-Ok-clause-valid : goal.returns-in-Ok-clause-valid
returns-in-Ok-clause-valid g c = invariant_of-self g c
