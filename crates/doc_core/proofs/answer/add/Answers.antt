use Rattle.std.proofs.Common.{◌∙◌, sym}
use Rattle.doc_core.proofs.Replies.{performs_add}
use Rattle.doc_core.proofs.answer.add.Goals as goal

pub returns-clause-performs : goal.returns-clause-performs
returns-clause-performs c = performs_add c.args.tag.now c.args.opts c.args.text.now c.args.script.now c.add_text.new.script c.args.lines.now.items
    c.add_text.new.lines.items c.add_text.result (sym c.is_simple.ensures ∙ c.if-not-is_simple.false) c.add_text.ensures.adds
