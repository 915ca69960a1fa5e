-- Introductions one after another, from the goal as it is written.
use Rattle.std.proofs.Common.{◌≡◌, ℕ, List, [], ◌∷◌, ◌++◌, reverse, codes, append_assoc, append-nil, Result, Ok, Err, IfOk, refl, sym, ap, subst, ◌∙◌}
use Rattle.std.proofs.lemmas.List.{reverse-append}
use Rattle.std.specs.Borrow.{Bor}
use Rattle.term_core.specs.declared.formula.Formula.{Formula as Made}
use Rattle.fol_theory.specs.Syntax.{Formula, implies, all}
use Rattle.fol_theory.specs.Contexts.{Entry, variable, hypothesis, variables}
use Rattle.fol_theory.specs.Slots.{Slot, slot, entries, names}
use Rattle.env_theory.specs.Declarations.{Declaration}
use Rattle.env_theory.specs.Typing.{WellFormed}
use Rattle.logic_theory.specs.Rules.{Rule, leaf, step, seq, plain, all_i, imp_i, Follows}
use Rattle.logic_theory.specs.Goals.{Goal, goal, sequent, goals}
use Rattle.logic_theory.proofs.Grafting.{label_names, names_entries}
use Rattle.tactic_theory.specs.Names.{fresh}
use Rattle.tactic_theory.specs.Refinements.{Part, part, intro_all, formula_of as entry_formula, formulas_of}
use Rattle.tactic_theory.proofs.Named.{same_all_named}
use Rattle.tac_base.specs.declared.top.Top.{Top}
use Rattle.tac_base.specs.declared.top.Top.TheVariants.{Implies, All}
use Rattle.base_core.specs.declared.no_memory.NoMemory.{NoMemory}
use Rattle.tac_base.specs.declared.opening.Opening.{Opening}
use Rattle.tac_base.specs.Openings.{Made as Rules, opening, made, with_rule, with_formula, with_goal, Opens}
use Rattle.tac_base.specs.Tops.{formula_of}

-- the formulas of slots one after another
formulas_append : (xs ys : List Slot) → formulas_of (xs ++ ys) ≡ formulas_of xs ++ formulas_of ys
formulas_append [] ys = refl
formulas_append (x ∷ xs) ys = go x.entry (formulas_append xs ys)
  where
    go : (e : Entry) → formulas_of (xs ++ ys) ≡ formulas_of xs ++ formulas_of ys
        → entry_formula e (formulas_of (xs ++ ys)) ≡ entry_formula e (formulas_of xs) ++ formulas_of ys
    go (variable s) k = k
    go (hypothesis a) k = ap (λ ls. a ∷ ls) k

-- those of the newest slots, the oldest first, with one slot more
newer_formulas : (x : Slot) (more : List Slot) → formulas_of (reverse (x ∷ more)) ≡ formulas_of (reverse more) ++ formulas_of (x ∷ [])
newer_formulas x more = ap formulas_of (reverse-append (x ∷ []) more) ∙ formulas_append (reverse more) (x ∷ [])

-- Some rules lead from a goal to one formula that is left, in a context with further slots; the formulas are those of these slots, and
-- what is left of the goal as written is this formula.
pub record Walked (E : List Declaration) (g : Goal) (c : List Slot) (m : Rules) (a : Formula) : Type 0 where
  pub more : List Slot
  pub context : c ≡ more ++ g.slots
  pub rest : intro_all E [] g.slots g.shown ≡ intro_all E more g.slots a
  pub formed : WellFormed E (variables (entries c)) a
  pub follows : (rs : List Rule) → Follows E rs (seq (entries c) a ∷ []) → Follows E (m.rules ++ rs) (sequent g ∷ [])
  pub leaves : (rs : List Rule) → Follows E rs (seq (entries c) a ∷ [])
      → goals (m.rules ++ rs) (sequent g ∷ []) ≡ goals rs (seq (entries c) a ∷ [])
  pub formulas : m.formulas ≡ formulas_of (reverse more)

pub walk_begins : (E : List Declaration) (g : Goal) (c : List Slot) (m : Rules) → c ≡ g.slots → m ≡ made [] []
    → WellFormed E (variables (entries g.slots)) g.shown → Walked E g c m g.shown
walk_begins E g c m e k w = record {
  more = [];
  context = e;
  rest = refl;
  formed = subst (λ z. WellFormed E (variables (entries z)) g.shown) (sym e) w;
  follows = λ rs h. subst (λ z. Follows E (z.rules ++ rs) (sequent g ∷ [])) (sym k)
      (subst (λ z. Follows E rs (seq (entries z) g.shown ∷ [])) e h);
  leaves = λ rs h. ap (λ z. goals (z.rules ++ rs) (sequent g ∷ [])) k ∙ ap (λ z. goals rs (seq (entries z) g.shown ∷ [])) (sym e);
  formulas = ap (λ z. z.formulas) k;
}

module _ (E : List Declaration) (g : Goal) (c : List Slot) (m : Rules) where
  pub walk_variable : (s x : List ℕ) (b : Formula) (d : List Slot) (n : Rules) → Walked E g c m (all s x b)
      → d ≡ slot (fresh E c x) (variable s) ∷ c → n ≡ with_rule (step (all_i s b)) m → Walked E g d n b
  walk_variable s x b d n w e k =
      let new : Slot = slot (fresh E c x) (variable s) in
      subst (λ z. Walked E g z n b) (sym e) (subst (λ z. Walked E g (new ∷ c) z b) (sym k) (record {
        more = new ∷ w.more;
        context = ap (λ z. new ∷ z) w.context;
        rest = w.rest ∙ ap (λ z. intro_all E (slot (fresh E z x) (variable s) ∷ w.more) g.slots b) (sym w.context);
        formed = w.formed.1;
        follows = λ rs h. subst (λ z. Follows E z (sequent g ∷ [])) (sym (append_assoc m.rules (step (all_i s b) ∷ []) rs))
            (w.follows (step (all_i s b) ∷ rs) ((w.formed, same_all_named E s plain x b), h));
        leaves = λ rs h. ap (λ z. goals z (sequent g ∷ [])) (append_assoc m.rules (step (all_i s b) ∷ []) rs)
            ∙ w.leaves (step (all_i s b) ∷ rs) ((w.formed, same_all_named E s plain x b), h);
        formulas = w.formulas ∙ sym (append-nil (formulas_of (reverse w.more))) ∙ sym (newer_formulas new w.more);
      }))

  pub walk_premise : (a b : Formula) (d : List Slot) (n : Rules) → Walked E g c m (implies a b)
      → d ≡ slot (fresh E c (codes "H")) (hypothesis a) ∷ c → n ≡ with_formula a (with_rule (step (imp_i a b)) m) → Walked E g d n b
  walk_premise a b d n w e k =
      let new : Slot = slot (fresh E c (codes "H")) (hypothesis a) in
      subst (λ z. Walked E g z n b) (sym e) (subst (λ z. Walked E g (new ∷ c) z b) (sym k) (record {
        more = new ∷ w.more;
        context = ap (λ z. new ∷ z) w.context;
        rest = w.rest ∙ ap (λ z. intro_all E (slot (fresh E z (codes "H")) (hypothesis a) ∷ w.more) g.slots b) (sym w.context);
        formed = w.formed.1;
        follows = λ rs h. subst (λ z. Follows E z (sequent g ∷ [])) (sym (append_assoc m.rules (step (imp_i a b) ∷ []) rs))
            (w.follows (step (imp_i a b) ∷ rs) ((w.formed, refl), h));
        leaves = λ rs h. ap (λ z. goals z (sequent g ∷ [])) (append_assoc m.rules (step (imp_i a b) ∷ []) rs)
            ∙ w.leaves (step (imp_i a b) ∷ rs) ((w.formed, refl), h);
        formulas = ap (λ z. z ++ a ∷ []) w.formulas ∙ sym (newer_formulas new w.more);
      }))

  -- what is left is a goal
  ended : (a : Formula) (w : Walked E g c m a) → intro_all E w.more g.slots a ≡ part w.more g.slots a
      → Opens E g (intro_all E [] g.slots g.shown ∷ []) (with_goal [] c a m)
  ended a w e = record {
    follows = w.follows (leaf (names c) ∷ []) (names_entries c, tt);
    leaves = w.leaves (leaf (names c) ∷ []) (names_entries c, tt) ∙ ap (λ z. goal z a ∷ []) (label_names c ∙ w.context)
        ∙ ap (λ p. goal (p.more ++ p.kept) p.shown ∷ []) (sym (w.rest ∙ e));
    formulas = ap (λ z. z ++ a ∷ []) w.formulas ∙ sym (append-nil (formulas_of (reverse w.more) ++ a ∷ []))
        ∙ ap (λ p. (formulas_of (reverse p.more) ++ p.shown ∷ []) ++ []) (sym (w.rest ∙ e));
  }

  pub walk_ends : (t : Top) (a : Formula) → formula_of t ≡ a → ((s x : Bor (List ℕ)) (b : Bor Made) → t ≡ All s x b → ⊥)
      → ((x y : Bor Made) → t ≡ Implies x y → ⊥) → Walked E g c m a
      → Opens E g (intro_all E [] g.slots g.shown ∷ []) (with_goal [] c a m)
  walk_ends t a e k l w = ended a w (subst (λ z. intro_all E w.more g.slots z ≡ part w.more g.slots z) e (go t k l))
    where
      go : (t : Top) → ((s x : Bor (List ℕ)) (b : Bor Made) → t ≡ All s x b → ⊥) → ((x y : Bor Made) → t ≡ Implies x y → ⊥)
          → intro_all E w.more g.slots (formula_of t) ≡ part w.more g.slots (formula_of t)
      go (All s x b) k l = absurd (k s x b refl)
      go (Implies x y) k l = absurd (l x y refl)
      go t k l = refl

pub finished : (E : List Declaration) (g : Goal) (ps : List Part) (m : Rules) (r : Result Opening NoMemory) → IfOk r (λ o. opening o ≡ m)
    → Opens E g ps m → IfOk r (λ o. Opens E g ps (opening o))
finished E g ps m (Ok o) k w = subst (Opens E g ps) (sym k) w
finished E g ps m (Err e) k w = tt
