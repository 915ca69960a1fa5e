use Rattle.elab_theory.specs.Expressions.{formula_of, term_of}
use Rattle.print_theory.specs.Trees.{spanless}
use Rattle.print_theory.proofs.Spans as spans
use Rattle.print_theory.proofs.Typed as typed
use Rattle.print_theory.proofs.typing.printed_text_is_typed_back.Goals as goal

pub returns-clause-formula : goal.returns-clause-formula
returns-clause-formula c = typed.formula_is_typed

pub returns-clause-term : goal.returns-clause-term
returns-clause-term c = typed.term_is_typed

pub returns-clause-once : goal.returns-clause-once
returns-clause-once c = typed.typed_once

pub returns-clause-formula_apart : goal.returns-clause-formula_apart
returns-clause-formula_apart c = typed.formula_stands_apart

pub returns-clause-term_apart : goal.returns-clause-term_apart
returns-clause-term_apart c = typed.term_stands_apart

pub returns-clause-formula_spans : goal.returns-clause-formula_spans
returns-clause-formula_spans c =
    λ E d t a. spans.same_ok (formula_of E d (spanless t)) (formula_of E d t) a (spans.formula_spanless E t d)

pub returns-clause-term_spans : goal.returns-clause-term_spans
returns-clause-term_spans c = λ E d t r. spans.same_ok (term_of E d (spanless t)) (term_of E d t) r (spans.term_spanless E d t)
