use Rattle.env_theory.proofs.Members as members
use Rattle.env_theory.proofs.Declared as declared
use Rattle.env_theory.proofs.Evaluates as evaluates
use Rattle.env_theory.proofs.Weaker as weaker
use Rattle.env_theory.proofs.Skips as skips
use Rattle.env_theory.proofs.finding.names_find_declarations.Goals as goal

pub returns-clause-name : goal.returns-clause-name
returns-clause-name c = members.found_name

pub returns-clause-member : goal.returns-clause-member
returns-clause-member c = members.found_member

pub returns-clause-found : goal.returns-clause-found
returns-clause-found c = members.member_found

pub returns-clause-none : goal.returns-clause-none
returns-clause-none c = members.member_other

pub returns-clause-declares : goal.returns-clause-declares
returns-clause-declares c = declared.declares_found

pub returns-clause-put : goal.returns-clause-put
returns-clause-put c = λ E x n d e. evaluates.put_found E E (weaker.puts E x) n d e

pub returns-clause-grown : goal.returns-clause-grown
returns-clause-grown c = skips.grown
