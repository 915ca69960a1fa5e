use Rattle.strip_core.proofs.Premises.{premises_stand}
use Rattle.strip_core.proofs.draft.Draft.finish.Goals as goal

pub at_the_end-requires-clause-formed : goal.at_the_end-requires-clause-formed
at_the_end-requires-clause-formed c =
    premises_stand c.requires.stands.0 c.args.variables c.args.self c.requires.stands.1 c.in_ok-all.all c.open-opened.result
    c.as_slice.result.now c.in_ok-all.ensures c.open-opened.ensures c.as_slice.ensures.value
