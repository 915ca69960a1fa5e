-- Trees with the goals that they leave open, put together.
use Rattle.std.proofs.Common.{◌≡◌, ℕ, ◌<◌, List, [], ◌∷◌, ◌++◌, map, Option, Some, None, refl, sym, ap, subst, ◌∙◌, arith}
use Rattle.fol_theory.specs.Syntax.{Formula}
use Rattle.fol_theory.specs.Contexts.{Entry, Sequent, count, without}
use Rattle.fol_theory.specs.Slots.{Slot, entries, names, slots_without}
use Rattle.fol_theory.proofs.Slots.{entries_append, entries_without}
use Rattle.fol_theory.proofs.Numbers.{hypothesis_there}
use Rattle.env_theory.specs.Declarations.{Declaration}
use Rattle.logic_theory.specs.Goals.{Goal, goal, sequent, goals}
use Rattle.logic_theory.specs.Proofs.{IsProof}
use Rattle.logic_theory.specs.Rules.{Step, Rule, leaf, step, drop, seq, children, Asks, Follows}
use Rattle.logic_theory.proofs.Grafting.{label_names, names_entries, goals_leaves, follows_append, goals_append}
use Rattle.tactic_theory.proofs.Found.{without_newer, count_more}
use Rattle.tac_core.specs.Destructs.{left_of, branch}

-- the rules are trees for these sequents, and leave these goals open
pub record Trees (E : List Declaration) (rs : List Rule) (gs : List Sequent) (hs : List Goal) : Type 0 where
  pub follows : Follows E rs gs
  pub leaves : goals rs gs ≡ hs

-- a goal is left open
pub by_leaf : (E : List Declaration) (c : List Slot) (a : Formula) → Trees E (leaf (names c) ∷ []) (seq (entries c) a ∷ []) (goal c a ∷ [])
by_leaf E c a = record { follows = (names_entries c, tt); leaves = λ i. goal (label_names c i) a ∷ [] }

-- a rule, and trees for its children
pub by_rule : (E : List Declaration) (r : Step) (rs : List Rule) (c : List Entry) (a : Formula) (hs : List Goal) → Asks E r c a
    → Trees E rs (children r c a ++ []) hs → Trees E (step r ∷ rs) (seq c a ∷ []) hs
by_rule E r rs c a hs q t = record { follows = (q, t.follows); leaves = t.leaves }

-- trees for some sequents, and for others
pub joined : (E : List Declaration) (rs ts : List Rule) (gs ks : List Sequent) (hs js : List Goal) → Trees E rs gs hs → Trees E ts ks js
    → Trees E (rs ++ ts) (gs ++ ks) (hs ++ js)
joined E rs ts gs ks hs js t u = record {
  follows = follows_append E rs ts gs ks t.follows u.follows;
  leaves = goals_append E rs ts gs ks t.follows ∙ (λ i. t.leaves i ++ u.leaves i);
}

none_left : (hs : List Goal) → map sequent hs ≡ [] → hs ≡ []
none_left [] e = refl
none_left (h ∷ hs) e = absurd cc

-- a proof leaves nothing open
pub by_proof : (E : List Declaration) (rs : List Rule) (g : Sequent) → IsProof E rs g → Trees E rs (g ∷ []) []
by_proof E rs g p = record { follows = p.0; leaves = none_left (goals rs (g ∷ [])) (goals_leaves E rs (g ∷ []) p.0 ∙ p.1) }

-- the hypothesis is there, if one is told
abbrev pub IsThere : List Entry → Option ℕ → Type 0
IsThere c None = Unit {0}
IsThere c (Some i) = i < count c

-- a branch leaves the goal open over what is left of the slots, with newer ones
pub kept_leads : (E : List Declaration) (newer c : List Slot) (o : Option ℕ) (a : Formula) → IsThere (entries c) o
    → Trees E (branch o (names (newer ++ left_of c o))) (seq (entries (newer ++ c)) a ∷ []) (goal (newer ++ left_of c o) a ∷ [])
kept_leads E newer c None a h = by_leaf E (newer ++ c) a
kept_leads E newer c (Some i) a h =
    let k : List Slot = newer ++ slots_without c i in
    by_rule E (drop i) (leaf (names k) ∷ []) (entries (newer ++ c)) a (goal k a ∷ []) (hypothesis_there (entries (newer ++ c)) i below)
    (subst (λ z. Trees E (leaf (names k) ∷ []) (seq z a ∷ []) (goal k a ∷ [])) same (by_leaf E k a))
  where
    at : entries (newer ++ c) ≡ entries newer ++ entries c
    at = entries_append newer c

    below : i < count (entries (newer ++ c))
    below = subst (λ z. i < count z) (sym at) (omega (arith, h, count_more (entries newer) (entries c)))

    same : entries (newer ++ slots_without c i) ≡ without (entries (newer ++ c)) i
    same = entries_append newer (slots_without c i) ∙ ap (λ z. entries newer ++ z) (entries_without c i)
        ∙ sym (without_newer (entries newer) (entries c) i h) ∙ ap (λ z. without z i) (sym at)
