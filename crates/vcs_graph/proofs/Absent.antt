-- An id that isn't there.
use Rattle.std.proofs.Common.{◌≡◌, ℕ, nat_eq, List, [], ◌∷◌, ◌++◌, false, cond, Some, None, refl, sym, ap, ◌∙◌}
use Rattle.std.specs.Prelude.{is_some}
use Rattle.line_theory.specs.Lists.{has}
use Rattle.line_theory.proofs.Lists.{absent_parts, not_either}
use Rattle.line_theory.specs.Shapes.{Item, lone, block, End, closed, proof, last}
use Rattle.line_theory.specs.Lines.{Closing, items_ids, item_ids, end_ids, unfound, after, found, split, at_lone, at_lemma, at_closer, missing, under, inside, locate}
use Rattle.vcs_graph.specs.Table.{look, all_places}
use Rattle.vcs_graph.specs.Blocks.{open_block, block_at, block_in}
use Rattle.vcs_graph.proofs.Places.{keys_has, all_keys}

pub split_absent : (i : ℕ) (b : List ℕ) → has i b ≡ false → split i b ≡ unfound
split_absent i [] h = refl
split_absent i (x ∷ b) h =
    let r = not_either (nat_eq i x) (has i b) h in
    ap (λ t. cond t (found [] b) (after x (split i b))) r.0 ∙ ap (after x) (split_absent i b r.1)

pub locate_absent : (i : ℕ) (xs : List (Item ℕ Closing)) → has i (items_ids xs) ≡ false → locate i xs ≡ missing
locate_absent i [] h = refl
locate_absent i (lone e ∷ t) h =
    let r = not_either (nat_eq i e) (has i (items_ids t)) h in
    ap (λ v. cond v (at_lone [] t) (under (lone e) (locate i t))) r.0 ∙ ap (under (lone e)) (locate_absent i t r.1)
locate_absent i (block l b c ∷ t) h =
    let p = absent_parts i (item_ids (block l b c)) (items_ids t) h in
    let r = not_either (nat_eq i l) (has i (b ++ (c.id ∷ []))) p.0 in
    let q = absent_parts i b (c.id ∷ []) r.1 in
    ap (λ v. cond v (at_lemma [] b c t) (inside i l b c t (split i b) (under (block l b c) (locate i t)))) r.0
    ∙ (ap (λ v. inside i l b c t v (under (block l b c) (locate i t))) (split_absent i b q.0)
    ∙ (ap (λ v. cond v (at_closer [] l b c t) (under (block l b c) (locate i t))) (not_either (nat_eq i c.id) false q.1).0
    ∙ ap (under (block l b c)) (locate_absent i t p.1)))

-- an id without a place is in no item and not in the end
pub no_place : (i : ℕ) (a : List (Item ℕ Closing)) (o : End ℕ) → look i (all_places a o) ≡ None → (has i (items_ids a) ≡ false)
    × (has i (end_ids o) ≡ false)
no_place i a o h = absent_parts i (items_ids a) (end_ids o) (sym (ap (has i) (all_keys a o)) ∙ (keys_has i (all_places a o) ∙ ap is_some h))

open_absent : (i : ℕ) (o : End ℕ) → has i (end_ids o) ≡ false → open_block i (last o) ≡ None
open_absent i closed h = refl
open_absent i (proof l b) h = ap (λ t. cond t (Some (record { start = l; stop = None; opaque = false })) None) h

pub block_absent : (i : ℕ) (a : List (Item ℕ Closing)) (o : End ℕ) → look i (all_places a o) ≡ None →
    block_in i (record { items = a; focus = last o }) ≡ None
block_absent i a o h =
    let r = no_place i a o h in
    ap (λ s. block_at i s (last o)) (locate_absent i a r.0) ∙ open_absent i o r.1
