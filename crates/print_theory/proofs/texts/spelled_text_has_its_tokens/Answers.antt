use Rattle.print_theory.proofs.Lexed as lexed
use Rattle.print_theory.proofs.Laws as laws
use Rattle.print_theory.proofs.texts.spelled_text_has_its_tokens.Goals as goal

pub returns-clause-tokens : goal.returns-clause-tokens
returns-clause-tokens c = lexed.spelled_tokens

pub returns-clause-once : goal.returns-clause-once
returns-clause-once c = laws.spelled_once
