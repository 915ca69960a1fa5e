-- What each variant of a list of sequents stands for.
use Rattle.std.proofs.Common.{◌≡◌, List, [], ◌∷◌, ap, sym, ◌∙◌}
use Rattle.std.specs.Arc.{arc_value}
use Rattle.std.specs.declared.sync.Arc.{Arc}
use Rattle.std.specs.declared.alloc.Global.{Global}
use Rattle.logic_theory.specs.Goals.{Goal}
use Rattle.proof_tree.specs.Places.{goal_of}
use Rattle.proof_state.specs.Sequents.{goals_in, goals_step}
use Rattle.proof_state.specs.declared.sequents.Item.{Item}
use Rattle.proof_state.specs.declared.sequents.Sequents.{Sequents}
use Rattle.proof_state.specs.declared.sequents.Sequents.TheOpen as layer
use Rattle.proof_state.specs.declared.sequents.Sequents.TheVariants as made
use Rattle.proof_state.specs.declared.sequents.Sequents.TheFolds.{fold-roll-Sequents}

pub goals_Empty : goals_in made.Empty ≡ []
goals_Empty = ap goals_in (sym made.rolls-Empty) ∙ fold-roll-Sequents (List Goal) goals_step layer.Empty

pub goals_Listed : (i : Arc (Item Sequents) Global) → goals_in (made.Listed i) ≡ goal_of (arc_value i).sequent ∷ goals_in (arc_value i).rest
goals_Listed i = ap goals_in (sym (made.rolls-Listed i)) ∙ fold-roll-Sequents (List Goal) goals_step (layer.Listed i)

pub ruleset items = (goals_Empty, goals_Listed)
