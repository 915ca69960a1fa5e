use Rattle.env_core.specs.Meaning.{declarations}
use Rattle.vern_parse.specs.Meaning.{shape}
use Rattle.elab_core.proofs.Chained.{chain_made}
use Rattle.elab_core.proofs.shape.chain.Goals as goal

pub returns : goal.returns
returns c =
    chain_made (declarations c.args.env.now) (shape c.args.y.now) c.size_of_chain-size.result.nodes c.size_of_chain-size.result.height
    c.in_ok-build_chain.field-0 c.in_ok-check_chain.ensures
    c.size_of_chain-size.ensures.nodes c.size_of_chain-size.ensures.height (λ w. let k = c.passes.ensures.1 w in cc)
    c.in_ok-build_chain.ensures
