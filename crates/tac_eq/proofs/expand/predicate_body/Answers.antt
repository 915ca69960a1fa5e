use Rattle.std.proofs.Common.{sym}
use Rattle.tac_eq.proofs.Bodied.{predicate_put}
use Rattle.tac_eq.proofs.expand.predicate_body.Goals as goal

pub returns-then-eq : goal.returns-then-eq
returns-then-eq c = predicate_put c.args.decl.now c.in-DefPred.name c.in-DefPred.params c.in-DefPred.body c.args.p.now c.len.result
    c.in-DefPred.is (sym c.if-eq.ensures) c.len.ensures c.requires
