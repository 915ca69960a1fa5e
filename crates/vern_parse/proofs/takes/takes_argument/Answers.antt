use Rattle.vern_grammar.specs.Grammar.{application}
use Rattle.vern_parse.proofs.takes.takes_argument.Goals as goal

pub returns-in-Sign : goal.returns-in-Sign
returns-in-Sign c = λ x ys to span. rw (c.in-Sign.is) ((rw (c.in-Sign.is) at c.takes_behind.ensures) (application x ys to) x.span.from to span)

pub returns-in-Closing : goal.returns-in-Closing
returns-in-Closing c = λ x ys to span. rw (c.in-Closing.is)
    ((rw (c.in-Closing.is) at c.takes_behind-in-Closing.ensures) (application x ys to) x.span.from to span)
