use Rattle.term_print.proofs.Passed.{all_used, outside_moved, passed_kept, passed_put}
use Rattle.term_print.proofs.scope.Scope.pass.Goals as goal

pub invariant_of-self-in_err-insert : goal.invariant_of-self-in_err-insert
invariant_of-self-in_err-insert g c =
    passed_kept c.self.inside.passed c.insert.new.self _ c.in_err-insert.ensures.err c.self.invariant

pub invariant_of-self-2 : goal.invariant_of-self-2
invariant_of-self-2 g c =
    let x = c.args.name.now in
    let n = c.in_ok-count.count in
    let used = outside_moved x c.in_ok-copy.field-0 n _ _ c.in_ok-copy.ensures c.self.view_is c.in_ok-count.ensures in
    passed_put c.self.inside.passed c.insert.new.self c.in_ok-copy.field-0 n _ c.in_ok-insert.ensures.updates.0 used c.self.invariant

pub returns-clause-used : goal.returns-clause-used
returns-clause-used g c = all_used c.args.name.now c.in_ok-count.count c.args.self.now c.in_ok-count.ensures
