use Rattle.print_theory.proofs.Picks as picks
use Rattle.print_theory.proofs.names.picked_names_are_new.Goals as goal

pub returns-clause-picked : goal.returns-clause-picked
returns-clause-picked c = picks.picked_is

pub returns-clause-once : goal.returns-clause-once
returns-clause-once c = picks.picked_once

pub returns-clause-unused : goal.returns-clause-unused
returns-clause-unused c = picks.picked_unused

pub returns-clause-free : goal.returns-clause-free
returns-clause-free c = picks.picked_name
