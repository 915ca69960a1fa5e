-- Trees with names at their leaves: joined, and one grafted at the first leaf of another.
use Rattle.std.proofs.Common.{◌≡◌, ℕ, suc, List, [], ◌∷◌, ◌++◌, map, length, append_assoc, append-nil, refl, sym, ap, subst, ◌∙◌, arith}
use Rattle.fol_theory.specs.Contexts.{Entry, Sequent}
use Rattle.env_theory.specs.Declarations.{Declaration}
use Rattle.logic_theory.specs.Proofs.{Proves}
use Rattle.logic_theory.specs.Rules.{Rule, leaf, step, seq, children, leaves, Every, Formed, Follows, Holds}
use Rattle.logic_theory.specs.Grafts.{graft}
use Rattle.fol_theory.specs.Slots.{Slot, entries, names}
use Rattle.logic_theory.specs.Goals.{Goal, goal, sequent, label, goals, Opens}
use Rattle.logic_theory.proofs.Trees as trees

-- ---- names

pub label_entries : (ns : List (List ℕ)) (c : List Entry) → length ns ≡ length c → entries (label ns c) ≡ c
label_entries [] [] e = refl
label_entries [] (x ∷ c) e = absurd (omega (arith, e))
label_entries (n ∷ ns) [] e = absurd (omega (arith, e))
label_entries (n ∷ ns) (x ∷ c) e = ap (λ d. x ∷ d) (label_entries ns c (omega (arith, e)))

pub label_names : (c : List Slot) → label (names c) (entries c) ≡ c
label_names [] = refl
label_names (x ∷ c) = ap (λ d. x ∷ d) (label_names c)

pub names_entries : (c : List Slot) → length (names c) ≡ length (entries c)
names_entries [] = refl
names_entries (x ∷ c) = ap suc (names_entries c)

-- the leaves are the goals without their names
pub goals_leaves : (E : List Declaration) (rs : List Rule) (gs : List Sequent) → Follows E rs gs → map sequent (goals rs gs) ≡ leaves rs gs
goals_leaves E [] gs p = refl
goals_leaves E (leaf ns ∷ rs) [] p = absurd p
goals_leaves E (step r ∷ rs) [] p = absurd p
goals_leaves E (leaf ns ∷ rs) (g ∷ gs) p = λ i. seq (label_entries ns g.context p.0 i) g.goal ∷ goals_leaves E rs gs p.1 i
goals_leaves E (step r ∷ rs) (g ∷ gs) p = goals_leaves E rs (children r g.context g.goal ++ gs) p.1

-- ---- trees one after another

pub follows_append : (E : List Declaration) (ps rs : List Rule) (hs gs : List Sequent) → Follows E ps hs → Follows E rs gs →
    Follows E (ps ++ rs) (hs ++ gs)
follows_append E [] rs [] gs p q = q
follows_append E [] rs (h ∷ hs) gs p q = absurd p
follows_append E (leaf ns ∷ ps) rs [] gs p q = absurd p
follows_append E (step r ∷ ps) rs [] gs p q = absurd p
follows_append E (leaf ns ∷ ps) rs (h ∷ hs) gs p q = (p.0, follows_append E ps rs hs gs p.1 q)
follows_append E (step r ∷ ps) rs (h ∷ hs) gs p q = (
  p.0,
  subst (Follows E (ps ++ rs)) (append_assoc (children r h.context h.goal) hs gs)
      (follows_append E ps rs (children r h.context h.goal ++ hs) gs p.1 q),
)

pub goals_append : (E : List Declaration) (ps rs : List Rule) (hs gs : List Sequent) → Follows E ps hs →
    goals (ps ++ rs) (hs ++ gs) ≡ goals ps hs ++ goals rs gs
goals_append E [] rs [] gs p = refl
goals_append E [] rs (h ∷ hs) gs p = absurd p
goals_append E (leaf ns ∷ ps) rs [] gs p = absurd p
goals_append E (step r ∷ ps) rs [] gs p = absurd p
goals_append E (leaf ns ∷ ps) rs (h ∷ hs) gs p = ap (λ ls. goal (label ns h.context) h.goal ∷ ls) (goals_append E ps rs hs gs p.1)
goals_append E (step r ∷ ps) rs (h ∷ hs) gs p = ap (goals (ps ++ rs)) (sym (append_assoc (children r h.context h.goal) hs gs)) ∙
    goals_append E ps rs (children r h.context h.goal ++ hs) gs p.1

-- the same of leaves, where all are closed
leaves_closed : (E : List Declaration) (ps rs : List Rule) (hs gs : List Sequent) → Follows E ps hs → leaves ps hs ≡ []
    → leaves (ps ++ rs) (hs ++ gs) ≡ leaves rs gs
leaves_closed E [] rs [] gs p e = refl
leaves_closed E [] rs (h ∷ hs) gs p e = absurd p
leaves_closed E (leaf ns ∷ ps) rs [] gs p e = absurd p
leaves_closed E (step r ∷ ps) rs [] gs p e = absurd p
leaves_closed E (leaf ns ∷ ps) rs (h ∷ hs) gs p e = absurd cc
leaves_closed E (step r ∷ ps) rs (h ∷ hs) gs p e = ap (leaves (ps ++ rs)) (sym (append_assoc (children r h.context h.goal) hs gs)) ∙
    leaves_closed E ps rs (children r h.context h.goal ++ hs) gs p.1 e

-- proofs of some sequents and then of others
pub proves_append : (E : List Declaration) (ps rs : List Rule) (hs gs : List Sequent) → Proves E ps hs → Proves E rs gs →
    Proves E (ps ++ rs) (hs ++ gs)
proves_append E ps rs hs gs p q = (follows_append E ps rs hs gs p.0 q.0, leaves_closed E ps rs hs gs p.0 p.1 ∙ q.1)

-- ---- the part in the place of the first leaf: a tree again, whose goals are the part's and then the others

first_of_two : {A : Type 0} (x y : A) (xs ys : List A) → x ∷ xs ≡ y ∷ ys → (x ≡ y) × (xs ≡ ys)
first_of_two x y xs ys e = (cc, cc)

module _ (E : List Declaration) (part : List Rule) (hs : List Goal) (g : Goal) (q : Follows E part (sequent g ∷ [])) where
  pub follows_graft : (rs : List Rule) (gs : List Sequent) → Follows E rs gs → goals rs gs ≡ g ∷ hs → Follows E (graft part rs) gs
  follows_graft [] gs p e = absurd cc
  follows_graft (leaf ns ∷ rs) [] p e = absurd p
  follows_graft (step r ∷ rs) [] p e = absurd p
  follows_graft (leaf ns ∷ rs) (k ∷ ks) p e =
      let t = first_of_two (goal (label ns k.context) k.goal) g (goals rs ks) hs e in
      let same : sequent g ≡ k = ap sequent (sym t.0) ∙ ap (λ c. seq c k.goal) (label_entries ns k.context p.0) in
      follows_append E part rs (k ∷ []) ks (subst (λ z. Follows E part (z ∷ [])) same q) p.1
  follows_graft (step r ∷ rs) (k ∷ ks) p e = (p.0, follows_graft rs (children r k.context k.goal ++ ks) p.1 e)

  pub goals_graft : (rs : List Rule) (gs : List Sequent) → Follows E rs gs → goals rs gs ≡ g ∷ hs
      → goals (graft part rs) gs ≡ goals part (sequent g ∷ []) ++ hs
  goals_graft [] gs p e = absurd cc
  goals_graft (leaf ns ∷ rs) [] p e = absurd p
  goals_graft (step r ∷ rs) [] p e = absurd p
  goals_graft (leaf ns ∷ rs) (k ∷ ks) p e =
      let t = first_of_two (goal (label ns k.context) k.goal) g (goals rs ks) hs e in
      let same : sequent g ≡ k = ap sequent (sym t.0) ∙ ap (λ c. seq c k.goal) (label_entries ns k.context p.0) in
      goals_append E part rs (k ∷ []) ks (subst (λ z. Follows E part (z ∷ [])) same q) ∙ (λ i. goals part (sym same i ∷ []) ++ t.1 i)
  goals_graft (step r ∷ rs) (k ∷ ks) p e = goals_graft rs (children r k.context k.goal ++ ks) p.1 e

-- ---- what a tree leads to

-- one tree and then another at its first leaf
pub opens_first : (E : List Declaration) (g h : Goal) (hs ks : List Goal) → Opens E g (h ∷ hs) → Opens E h ks → Opens E g (ks ++ hs)
opens_first E g h hs ks p q = record {
  tree = graft q.tree p.tree;
  follows = follows_graft E q.tree hs h q.follows p.tree (sequent g ∷ []) p.follows p.leaves;
  leaves = goals_graft E q.tree hs h q.follows p.tree (sequent g ∷ []) p.follows p.leaves ∙ ap (λ l. l ++ hs) q.leaves;
}

pub opens_then : (E : List Declaration) (g h : Goal) (ks : List Goal) → Opens E g (h ∷ []) → Opens E h ks → Opens E g ks
opens_then E g h ks p q = subst (Opens E g) (append-nil ks) (opens_first E g h [] ks p q)

pub opens_itself : (E : List Declaration) (g : Goal) → Opens E g (g ∷ [])
opens_itself E g = record {
  tree = leaf (names g.slots) ∷ [];
  follows = (names_entries g.slots, tt);
  leaves =
      ap (λ d. goal d g.shown ∷ []) (label_names g.slots);
}

-- if the goals are derivable, so is what they come from; and they are well formed
pub opens_sound : (E : List Declaration) (g : Goal) (hs : List Goal) → Opens E g hs → Formed E (sequent g) →
    Every (Holds E) (map sequent hs) → Holds E (sequent g)
opens_sound E g hs p f h =
    (trees.sound E p.tree (sequent g ∷ []) p.follows (f, tt) (subst (Every (Holds E)) (ap (map sequent) (sym p.leaves) ∙
    goals_leaves E p.tree (sequent g ∷ []) p.follows) h)).0

pub opens_formed : (E : List Declaration) (g : Goal) (hs : List Goal) → Opens E g hs → Formed E (sequent g) →
    Every (Formed E) (map sequent hs)
opens_formed E g hs p f = subst (Every (Formed E)) (sym (goals_leaves E p.tree (sequent g ∷ []) p.follows) ∙
    ap (map sequent) p.leaves) (trees.leaves_formed E p.tree (sequent g ∷ []) p.follows (f, tt))
