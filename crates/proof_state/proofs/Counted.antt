-- The open leaves of a tree, counted.
use Rattle.std.proofs.Common.{◌≡◌, ℕ, suc, ◌+◌, ◌<◌, List, [], ◌∷◌, ◌++◌, length, length-append, drop, refl, ap, subst, ◌∙◌, arith}
use Rattle.fol_theory.specs.Contexts.{Sequent}
use Rattle.logic_theory.specs.Rules.{Rule, leaf, step, children}
use Rattle.logic_theory.specs.Goals.{Goal, sequent, goals}
use Rattle.logic_theory.specs.Grafts.{graft}
use Rattle.proof_tree.specs.Meaning.{HasLeaf}
use Rattle.proof_tree.specs.Places.{AtPlaces}
use Rattle.tactic_theory.specs.States.{State, state, goals_behind, goals_of}
use Rattle.proof_state.specs.Leaves.{open_leaves}
use Rattle.proof_state.specs.States.{FromFirst}

pub has_leaf : (rs : List Rule) → 0 < open_leaves rs → HasLeaf rs
has_leaf [] h = absurd (omega (arith, h))
has_leaf (leaf ns ∷ rs) h = tt
has_leaf (step r ∷ rs) h = has_leaf rs h

open_append : (ps rs : List Rule) → open_leaves (ps ++ rs) ≡ open_leaves ps + open_leaves rs
open_append [] rs = omega arith
open_append (leaf ns ∷ ps) rs = omega (arith, open_append ps rs)
open_append (step r ∷ ps) rs = open_append ps rs

-- a part at the first leaf has its own leaves in the place of one
pub open_graft : (ps rs : List Rule) → HasLeaf rs → open_leaves (graft ps rs) + 1 ≡ open_leaves ps + open_leaves rs
open_graft ps [] h = absurd h
open_graft ps (leaf ns ∷ rs) h = omega (arith, open_append ps rs)
open_graft ps (step r ∷ rs) h = open_graft ps rs h

-- a whole tree leaves a goal open for each leaf
pub goals_counted : (P : Rule → Sequent → Type 0) (rs : List Rule) (gs : List Sequent) → AtPlaces P rs gs → length (goals rs gs) ≡ open_leaves rs
goals_counted P [] [] h = refl
goals_counted P [] (g ∷ gs) h = absurd h
goals_counted P (leaf ns ∷ rs) [] h = absurd h
goals_counted P (step r ∷ rs) [] h = absurd h
goals_counted P (leaf ns ∷ rs) (g ∷ gs) h = ap suc (goals_counted P rs gs h.1)
goals_counted P (step r ∷ rs) (g ∷ gs) h = goals_counted P rs (children r g.context g.goal ++ gs) h.1

-- ---- a state with something focused

pub some_left : {g : Goal} {hs : List Goal} {left : ℕ} (s : State) → s.focused ≡ g ∷ hs → left ≡ length (goals_of s) → 0 < left
some_left {g} {hs} {left} s e h =
    let k : left ≡ length (g ∷ (hs ++ goals_behind s.frames)) = h ∙ ap (λ z. length (z ++ goals_behind s.frames)) e in
    omega (arith, k)

-- new goals in the place of the first
pub left_now : {g : Goal} {hs : List Goal} {left n : ℕ} (s t : State) (new : List Goal) → s.focused ≡ g ∷ hs
    → t ≡ state (new ++ drop 1 s.focused) s.frames → left ≡ length (goals_of s) → n + 1 ≡ left + length new → n ≡ length (goals_of t)
left_now {g} {hs} {left} {n} s t new e is h k =
    let fs = goals_behind s.frames in
    let before : left ≡ length (g ∷ (hs ++ fs)) = h ∙ ap (λ z. length (z ++ fs)) e in
    let after : length (goals_of t) ≡ length ((new ++ hs) ++ fs) =
    ap (λ z. length (goals_of z)) is ∙ ap (λ z. length ((new ++ drop 1 z) ++ fs)) e in
    omega (arith, before, after, k, length-append (new ++ hs) fs, length-append new hs, length-append hs fs)

-- a part has an open leaf for each new goal
pub part_counted : {g : Goal} {gs hs new : List Goal} (P : Rule → Sequent → Type 0) (ps : List Rule) → gs ≡ g ∷ hs → FromFirst P ps gs
    → new ≡ goals ps (sequent g ∷ []) → length new ≡ open_leaves ps
part_counted {g} P ps e h is = ap length is ∙ goals_counted P ps (sequent g ∷ []) (subst (FromFirst P ps) e h)

-- and so has the tree that it is grafted to
pub leaves_now : {left n m : ℕ} {qs : List Rule} (ps rs : List Rule) → qs ≡ graft ps rs → open_leaves rs ≡ left → 0 < left
    → m ≡ open_leaves ps → n + 1 ≡ left + m → open_leaves qs ≡ n
leaves_now {left} {n} {m} {qs} ps rs t l some part k =
    let whole : open_leaves qs + 1 ≡ open_leaves ps + open_leaves rs =
    ap (λ z. open_leaves z + 1) t ∙ open_graft ps rs (has_leaf rs (omega (arith, l, some))) in
    omega (arith, part, whole, l, k)
