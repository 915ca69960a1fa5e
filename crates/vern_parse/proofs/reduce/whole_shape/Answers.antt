use Rattle.vern_parse.proofs.Ends.{ends_shape}
use Rattle.vern_parse.proofs.reduce.whole_shape.Goals as goal

pub returns : goal.returns
returns c = ends_shape c.chain.result _ _ _ _ c.in_ok-value.ensures.whole c.in_ok-value.ensures.heads c.chain.ensures
