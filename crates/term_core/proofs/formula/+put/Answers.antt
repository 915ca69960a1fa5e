use Rattle.std.proofs.Common.{rules}
use Rattle.term_core.specs.Term as term
use Rattle.term_core.proofs.Variants.{lift_put_more}
use Rattle.term_core.proofs.formula.+put.Goals as goal

pub put_body-put_part-requires : goal.put_body-put_part-requires
put_body-put_part-requires t c =
    let indices = rw (lift_put_more c.args.index (term.meaning c.args.value.now) c.args.binders) at c.requires.indices in
    search rules

pub put_body-returns : goal.put_body-returns
put_body-returns t c = rw (lift_put_more c.args.index (term.meaning c.args.value.now) c.args.binders) (search rules)
