use Rattle.std.proofs.Common.{◌≡◌, ◌+◌, ◌<◌, ◌++◌, map, length, sym, ap, subst, ◌∙◌}
use Rattle.std.proofs.lemmas.List.{length-map}
use Rattle.tactic_theory.specs.States.{goals_behind, goals_of}
use Rattle.proof_tree.specs.Meaning.{meanings}
use Rattle.proof_tree.specs.Places.{goal_of, NamesEntries}
use Rattle.proof_state.specs.Frames.{frames_in}
use Rattle.proof_state.specs.Goals.{stands_for}
use Rattle.proof_state.proofs.Counted.{has_leaf, some_left, left_now, part_counted, leaves_now}
use Rattle.proof_state.proofs.Fitting.{kept, grafted_leads, refined_is}
use Rattle.proof_state.proofs.state.State.refine.Goals as goal

pub counted-requires : goal.counted-requires
counted-requires c = some_left (stands_for c.args.self.now.goals) c.in-Some.ensures c.args.self.now.counted

pub grafted-requires : goal.grafted-requires
grafted-requires c =
    let some = some_left (stands_for c.args.self.now.goals) c.in-Some.ensures c.args.self.now.counted in
    has_leaf (meanings c.args.self.now.tree) (subst (λ n. 0 < n) (sym c.args.self.now.leaves) some)

pub invariant_of-result : goal.invariant_of-result
invariant_of-result c =
    let before = stands_for c.args.self.now.goals in
    let new = map goal_of c.in_ok-new-in-Some.new.items in
    let some = some_left before c.in-Some.ensures c.args.self.now.counted in
    let many : length new ≡ length c.deref.result.now =
    length-map c.in_ok-new-in-Some.new.items goal_of ∙ ap length (sym c.deref.ensures.value) in
    let sum = c.in_ok-left-in-Some.ensures ∙ ap (λ z. c.args.self.now.left + z) (sym many) in
    let part = part_counted NamesEntries (meanings c.args.part) c.in-Some.ensures c.requires.names c.in_ok-new-in-Some.ensures in
    record {
      counted = left_now before (stands_for c.in_ok-goals-in-Some.goals) new c.in-Some.ensures c.in_ok-goals-in-Some.ensures
          c.args.self.now.counted sum;
      leaves = leaves_now (meanings c.args.part) (meanings c.args.self.now.tree) c.in_ok-tree-in-Some.ensures c.args.self.now.leaves
          some part sum;
    }

pub returns-clause-fits : goal.returns-clause-fits
returns-clause-fits c =
    let ps = meanings c.args.part in
    let fs = frames_in c.args.self.now.goals.frames in
    let now = ap goals_of c.in_ok-goals-in-Some.ensures
    ∙ ap (λ z. z ++ goals_behind fs) (refined_is ps c.in-Some.ensures c.in_ok-new-in-Some.ensures) in
    λ E g h hs w e p. kept E g c.in_ok-tree-in-Some.ensures now (grafted_leads E g ps (meanings c.args.self.now.tree) fs e p w)
