use Rattle.std.proofs.Common.{◌≡◌, ◌++◌, [], IfOk, Bor, map, drop, reverse, take, subst, sym, ap, ◌∙◌}
use Rattle.std.proofs.lemmas.List.{take-map}
use Rattle.fol_theory.specs.Slots.{Slot, entries}
use Rattle.logic_theory.specs.Goals.{label}
use Rattle.term_core.specs.declared.context.Slot.{Slot as Told}
use Rattle.term_core.specs.declared.name.Name.{Name}
use Rattle.term_core.specs.Context.{slots, slot_meaning}
use Rattle.proof_tree.specs.Stacks.{renamed}
use Rattle.proof_tree.proofs.Labelled.{label_none, put_together}
use Rattle.proof_tree.proofs.labels.labelled.Goals as goal

pub returns : goal.returns
returns c =
    let f : Bor Told × Bor Name → Slot = λ p. renamed (slot_meaning p.0.now) p.1.now in
    let all = label (reverse c.args.names.now) (entries (slots c.args.context.now)) in
    let newer = map f c.loop-slot.newer.items in
    let none : slots c.loop-slot.at.now ≡ [] = c.in_default.ensures in
    let a : all ≡ newer ++ [] = c.loop-slot.invariant.named ∙ ap (λ z. newer ++ z) (label_none _ _ none) in
    let e : slots c.loop-slot.shared.now ≡ drop c.loop-slot.anew newer ++ [] = c.loop-slot.invariant.kept ∙ ap (λ z. drop c.loop-slot.anew newer ++ z) none in
    let t : map f c.truncate.new.self.items ≡ take c.loop-slot.anew newer = ap (map f) c.truncate.ensures.items ∙ sym (take-map f c.loop-slot.anew c.loop-slot.newer.items) in
    subst (λ z. IfOk c.push_renamed.result (λ d. slots d ≡ z))
    (put_together c.loop-slot.anew all newer (map f c.truncate.new.self.items) (slots c.loop-slot.shared.now) a e t)
    c.push_renamed.ensures
