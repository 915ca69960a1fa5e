use Rattle.std.proofs.Common.{◌≡◌, map, take}
use Rattle.term_core.specs.Formula.{meaning}
use Rattle.strip_core.specs.Drafts.{premise_of}
use Rattle.strip_core.proofs.draft.at_the_end.Given as goal

abbrev pub invariant-loop-premise : goal.invariant-loop-premise
invariant-loop-premise l = map meaning l.made.items ≡ map (premise_of l.opened) (take l.premise-index l.premises)
