use Rattle.vern_parse.proofs.Parsed.{fault_is, free, is_read, is_refused, tree}
use Rattle.vern_parse.proofs.sentence.parse.Goals as goal

pub returns-clause-tree : goal.returns-clause-tree
returns-clause-tree c = tree c.args.sentence.now c.args.tokens.now c.sentence_from.result
    (rw (c.new.ensures, c.as_slice.ensures) at c.sentence_from.ensures)

pub returns-clause-fault : goal.returns-clause-fault
returns-clause-fault c = fault_is c.args.sentence.now c.args.tokens.now c.sentence_from.result
    (rw (c.new.ensures, c.as_slice.ensures) at c.sentence_from.ensures)

pub returns-clause-read : goal.returns-clause-read
returns-clause-read c = is_read c.args.sentence.now c.args.tokens.now c.sentence_from.result
    (rw (c.new.ensures, c.as_slice.ensures) at c.sentence_from.ensures)

pub returns-clause-refused : goal.returns-clause-refused
returns-clause-refused c = is_refused c.args.sentence.now c.args.tokens.now c.sentence_from.result
    (rw (c.new.ensures, c.as_slice.ensures) at c.sentence_from.ensures)

pub returns-clause-names : goal.returns-clause-names
returns-clause-names c = free c.args.sentence.now c.args.tokens.now c.sentence_from.result
    (rw (c.new.ensures, c.as_slice.ensures) at c.sentence_from.ensures) c.requires
