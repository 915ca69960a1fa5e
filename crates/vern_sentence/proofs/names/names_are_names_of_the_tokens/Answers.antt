use Rattle.vern_sentence.proofs.Named as laws
use Rattle.vern_sentence.proofs.names.names_are_names_of_the_tokens.Goals as goal

pub returns-clause-lexemes : goal.returns-clause-lexemes
returns-clause-lexemes c = laws.sentence_names

pub returns-clause-tokens : goal.returns-clause-tokens
returns-clause-tokens c = laws.token_names

pub returns-clause-free : goal.returns-clause-free
returns-clause-free c = laws.free_names
