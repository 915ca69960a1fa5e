use Rattle.env_core.specs.Meaning.{declarations}
use Rattle.proof_tree.specs.Meaning.{meaning}
use Rattle.proof_tree.specs.Stacks.{waiting}
use Rattle.kernel_core.proofs.Steps.{next_proves, next_ready, on_top}
use Rattle.kernel_core.proofs.follow.next.Goals as goal

pub apply-requires : goal.apply-requires
apply-requires c = (on_top (declarations c.args.env.now) c.args.stack.now.items c.pop.new.self.items c.in-Some.place
    c.in-Some.ensures.items c.args.most c.requires).0

pub returns-in_ok-used-in-Some-clause-ready : goal.returns-in_ok-used-in-Some-clause-ready
returns-in_ok-used-in-Some-clause-ready c = next_ready (declarations c.args.env.now) c.args.stack.now.items c.pop.new.self.items
    c.in-Some.place c.in-Some.ensures.items c.args.most (meaning c.args.rule.now) (waiting c.apply.new.stack.items)
    c.in_ok-used-in-Some.used c.in_ok-used-in-Some.ensures c.requires

pub returns-in_ok-used-in-Some-clause-proves : goal.returns-in_ok-used-in-Some-clause-proves
returns-in_ok-used-in-Some-clause-proves c = next_proves (declarations c.args.env.now) c.args.stack.now.items c.pop.new.self.items
    c.in-Some.place c.in-Some.ensures.items (meaning c.args.rule.now) (waiting c.apply.new.stack.items)
    c.in_ok-used-in-Some.used c.in_ok-used-in-Some.ensures
