use Rattle.term_core.specs.Formula.{meaning}
use Rattle.env_core.specs.Meaning.{declarations}
use Rattle.conv_core.proofs.Compares.{formula_later, if_ok}
use Rattle.conv_core.proofs.Splits.{heads_split}
use Rattle.conv_core.proofs.parts.split_formulas.Goals as goal

pub formula_head-requires-2-clause-standing : goal.formula_head-requires-2-clause-standing
formula_head-requires-2-clause-standing c =
    formula_later (declarations c.args.env.now) c.args.frames.now.items c.formula_head.new.frames.items c.in_ok-first.ensures.extends
    c.in_ok-first.ensures.ordered c.args.pair.now.second_scope (meaning c.args.pair.now.second.now) c.requires.standing.1

pub returns : goal.returns
returns c =
    let w = if_ok c.split_tops.result (heads_split (declarations c.args.env.now) c.requires.environment c.args.frames.now.items
    c.formula_head.new.frames.items c.formula_head-2.new.frames.items c.split_tops.new.frames.items c.in_ok-first.ensures.extends
    c.in_ok-second.ensures.extends c.in_ok-second.ensures.ordered c.args.pair.now.first_scope (meaning c.args.pair.now.first.now)
    c.args.pair.now.second_scope (meaning c.args.pair.now.second.now) c.requires.standing.0 c.requires.standing.1
    c.in_ok-first.first c.in_ok-second.second c.in_ok-first.ensures.head c.in_ok-second.ensures.head c.args.stack.now.items
    c.split_tops.new.stack.items) c.split_tops.ensures in
    record {
      ordered = if_ok c.split_tops.result (λ r h. h.0) w;
      extends = if_ok c.split_tops.result (λ r h. h.1) w;
      split = if_ok c.split_tops.result (λ r h. h.2) w;
    }
