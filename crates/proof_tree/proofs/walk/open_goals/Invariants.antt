use Rattle.std.proofs.Common.{◌≡◌, [], ◌∷◌, ◌++◌, drop, map}
use Rattle.term_core.specs.Context.{meaning}
use Rattle.logic_theory.specs.Goals.{goals}
use Rattle.proof_tree.specs.Meaning.{meanings}
use Rattle.proof_tree.specs.Places.{goal_of, AtPlaces, NamesEntries, IndicesFit}
use Rattle.proof_tree.specs.Stacks.{waiting}
use Rattle.proof_tree.proofs.walk.open_goals.Given as goal

abbrev pub invariant-loop-i : goal.invariant-loop-i
invariant-loop-i l =
    let rest = meanings (map (λ r. r.now) (drop l.i l.rules)) in
    record {
      names : AtPlaces NamesEntries rest (waiting l.stack.items);
      indices : AtPlaces IndicesFit rest (waiting l.stack.items);
      found : map goal_of l.found.items ++ goals rest (waiting l.stack.items)
          ≡ goals (meanings (map (λ r. r.now) l.rules)) (meaning l.fn.place ∷ []);
    }
