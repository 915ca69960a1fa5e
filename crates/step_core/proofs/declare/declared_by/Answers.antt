use Rattle.std.proofs.Common.{map}
use Rattle.std.specs.Prelude.{option_map}
use Rattle.env_core.specs.Meaning.{declarations}
use Rattle.vern_parse.specs.Meaning.{expression, group, name, shape}
use Rattle.step_core.proofs.Judging.{typed_declares, typed_defines, declared_new, defined_new}
use Rattle.step_core.proofs.declare.declared_by.Goals as goal

pub judge-requires : goal.judge-requires
judge-requires c = typed_declares (declarations c.args.env.now) c.requires.environment (name c.in-Declare.x) (shape c.in-Declare.y) _
    c.declaration.ensures

pub judge-requires-in-Define : goal.judge-requires-in-Define
judge-requires-in-Define c = typed_defines (declarations c.args.env.now) c.requires.environment (name c.in-Define.x)
    (map group c.deref.result.now) (option_map (λ r. name r.now) c.as_ref.result) (expression c.in-Define.body) _ c.definition.ensures

pub returns-in-Declare-clause-new : goal.returns-in-Declare-clause-new
returns-in-Declare-clause-new c = declared_new (declarations c.args.env.now) c.requires.environment (name c.in-Declare.x)
    (shape c.in-Declare.y) _ (c.judge.ensures _ c.declaration.ensures)

pub returns-in-Define-clause-new : goal.returns-in-Define-clause-new
returns-in-Define-clause-new c = defined_new (declarations c.args.env.now) c.requires.environment (name c.in-Define.x)
    (map group c.deref.result.now) (option_map (λ r. name r.now) c.as_ref.result) (expression c.in-Define.body) _
    (c.judge-in-Define.ensures _ c.definition.ensures)
