use Rattle.print_theory.proofs.Laws as laws
use Rattle.print_theory.proofs.texts.printed_text_reads_back.Goals as goal

pub returns-clause-formula : goal.returns-clause-formula
returns-clause-formula c = laws.formula_reads

pub returns-clause-term : goal.returns-clause-term
returns-clause-term c = laws.term_reads

pub returns-clause-formula_limit : goal.returns-clause-formula_limit
returns-clause-formula_limit c = laws.formula_limit

pub returns-clause-term_limit : goal.returns-clause-term_limit
returns-clause-term_limit c = laws.term_limit

pub returns-clause-once : goal.returns-clause-once
returns-clause-once c = laws.reads_once
