use Rattle.std.proofs.Common.{sym}
use Rattle.tac_eq.proofs.Bodied.{function_put}
use Rattle.tac_eq.proofs.expand.function_body.Goals as goal

pub returns-then-eq : goal.returns-then-eq
returns-then-eq c = function_put c.args.decl.now c.in-DefFun.name c.in-DefFun.params c.in-DefFun.result c.in-DefFun.body c.args.f.now
    c.len.result c.in-DefFun.is (sym c.if-eq.ensures) c.len.ensures c.requires
