use Rattle.std.proofs.Common.{◌++◌}
use Rattle.std.specs.Prelude.{codes}
use Rattle.std.specs.Fmt.{decimal}
use Rattle.step_core.proofs.Pieces.{joined_ok}
use Rattle.step_core.proofs.verdict.put_size.Goals as goal

pub returns : goal.returns
returns c =
    let n = decimal c.args.nodes in
    let h = decimal c.args.height in
    let between = codes " nodes, height " in
    joined_ok c.args.text.now.items (codes "too large: ") (n ++ (between ++ h)) _ _ c.in_ok-put.ensures
    (joined_ok _ n (between ++ h) _ _ c.in_ok-put_number.ensures (joined_ok _ between h _ _ c.in_ok-put-2.ensures c.put_number-2.ensures))
