use Rattle.std.proofs.Common.{◌≡◌, drop}
use Rattle.tactic_theory.specs.Refinements.{terms_mention}
use Rattle.term_core.specs.Term.{list_meaning}
use Rattle.tac_eq.proofs.mention.+term_mentions.Given as goal

abbrev pub invariant-terms_mention-loop-t : goal.invariant-terms_mention-loop-t
invariant-terms_mention-loop-t l = terms_mention l.name (list_meaning (drop l.t-index l.ts)) ≡ terms_mention l.name (list_meaning l.ts)
