use Rattle.vern_parse.specs.Sentences.{sentence}
use Rattle.vern_step.proofs.Trees.{answers, place_within}
use Rattle.vern_step.proofs.sentence.read_tree.Goals as goal

pub returns-in-Ok-clause-tree : goal.returns-in-Ok-clause-tree
returns-in-Ok-clause-tree c = answers c.args.bytes.now c.parse.result (rw c.in-Ok.ensures at c.parse.ensures.tree)
    (rw c.in-Ok.ensures at c.parse.ensures.fault)

pub returns-in-Ok-clause-within : goal.returns-in-Ok-clause-within
returns-in-Ok-clause-within c = place_within sentence c.args.bytes.now c.parse.result
    (answers c.args.bytes.now c.parse.result (rw c.in-Ok.ensures at c.parse.ensures.tree) (rw c.in-Ok.ensures at c.parse.ensures.fault))
