-- Trees put together: a leaf, a rule, one tree after another.
use Rattle.std.proofs.Common.{◌≡◌, List, [], ◌∷◌, ◌++◌, refl, ◌∙◌}
use Rattle.fol_theory.specs.Syntax.{Formula}
use Rattle.fol_theory.specs.Contexts.{Entry, Sequent}
use Rattle.env_theory.specs.Declarations.{Declaration}
use Rattle.logic_theory.specs.Rules.{Step, Rule, leaf, step, seq, children, Asks, Follows}
use Rattle.fol_theory.specs.Slots.{Slot, entries, names}
use Rattle.logic_theory.specs.Goals.{Goal, goal, goals, Leads}
use Rattle.logic_theory.proofs.Grafting.{label_names, names_entries, follows_append, goals_append}

-- nothing is left to be shown
pub nothing : {E : List Declaration} → Leads E [] []
nothing = record { tree = []; follows = tt; leaves = refl }

-- a sequent is left open, with the names of its slots
pub left_open : {E : List Declaration} {gs : List Sequent} {hs : List Goal} (c : List Slot) (a : Formula) → Leads E gs hs →
    Leads E (seq (entries c) a ∷ gs) (goal c a ∷ hs)
left_open c a t = record {
  tree = leaf (names c) ∷ t.tree;
  follows = (names_entries c, t.follows);
  leaves =
      λ i. goal (label_names c i) a ∷ t.leaves i;
}

-- a rule, and trees for its children
pub by_rule : {E : List Declaration} {gs : List Sequent} {hs : List Goal} (r : Step) (c : List Entry) (a : Formula) →
    Asks E r c a → Leads E (children r c a ++ gs) hs → Leads E (seq c a ∷ gs) hs
by_rule r c a q t = record { tree = step r ∷ t.tree; follows = (q, t.follows); leaves = t.leaves }

-- the trees for these sequents, and those for others
pub and_then_those : {E : List Declaration} {gs ks : List Sequent} {hs js : List Goal} → Leads E gs hs → Leads E ks js →
    Leads E (gs ++ ks) (hs ++ js)
and_then_those {E} {gs} {ks} t u = record {
  tree = t.tree ++ u.tree;
  follows = follows_append E t.tree u.tree gs ks t.follows
      u.follows;
  leaves = goals_append E t.tree u.tree gs ks t.follows ∙ (λ i. t.leaves i ++ u.leaves i);
}

-- a tree that leads to no goals has no open leaf
abbrev pub IsClosed : List Rule → Type 0
IsClosed [] = Unit {0}
IsClosed (leaf ns ∷ rs) = ⊥
IsClosed (step r ∷ rs) = IsClosed rs

pub finished : (E : List Declaration) (rs : List Rule) (gs : List Sequent) → Follows E rs gs → goals rs gs ≡ [] → IsClosed rs
finished E [] gs p e = tt
finished E (leaf ns ∷ rs) [] p e = absurd p
finished E (step r ∷ rs) [] p e = absurd p
finished E (leaf ns ∷ rs) (g ∷ gs) p e = absurd cc
finished E (step r ∷ rs) (g ∷ gs) p e = finished E rs (children r g.context g.goal ++ gs) p.1 e
