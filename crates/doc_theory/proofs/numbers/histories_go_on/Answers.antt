use Rattle.doc_theory.specs.Histories.{start}
use Rattle.doc_theory.proofs.Posted as posted
use Rattle.doc_theory.proofs.numbers.histories_go_on.Goals as goal

pub returns-clause-standing : goal.returns-clause-standing
returns-clause-standing g c = λ L limit h k. posted.standing_join L (start limit) h k

pub returns-clause-first : goal.returns-clause-first
returns-clause-first g c = λ L limit h k l. (posted.legal_parts L (start limit) h k l).0

pub returns-clause-rest : goal.returns-clause-rest
returns-clause-rest g c = λ L limit h k l. (posted.legal_parts L (start limit) h k l).1

pub returns-clause-whole : goal.returns-clause-whole
returns-clause-whole g c = λ L limit h k a b. posted.legal_join L (start limit) h k a b
