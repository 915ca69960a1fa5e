-- What each variant of a formula counts.
use Rattle.std.proofs.Common.{◌≡◌, ℕ, ◌+◌, ◌^◌, max, min, List, sym, ap, ◌∙◌, arith}
use Rattle.std.specs.declared.alloc.Global.{Global}
use Rattle.std.specs.declared.sync.Arc.{Arc}
use Rattle.std.specs.Arc.{arc_value}
use Rattle.term_core.specs.Term as term
use Rattle.term_core.specs.Formula.{meaning}
use Rattle.term_core.proofs.Variants.{meaning_True, meaning_False, meaning_Eq, meaning_And, meaning_Or, meaning_Imp, meaning_All}
use Rattle.term_core.proofs.Variants.{meaning_Ex}
use Rattle.term_core.specs.declared.term.Term.{Term}
use Rattle.term_core.specs.declared.formula.Formula.{Formula}
use Rattle.term_core.specs.declared.formula.Formula.TheVariants as made
use Rattle.env_theory.specs.Count.{Scale, Table, by_nodes, by_height, bind, node, only, count_term, count}
use Rattle.env_theory.proofs.Scales.{node_by_nodes, node_by_height}
use Rattle.env_theory.proofs.Linear.{bind_only}

module _ (S : Scale) (T : Table) (e : ℕ) (w : ℕ → ℕ) (f : Formula) where
  pub true_counts : f ≡ made.True → count S T e w (meaning f) ≡ node S e 0
  true_counts i = ap (λ z. count S T e w (meaning z)) i ∙ ap (count S T e w) meaning_True

  pub false_counts : f ≡ made.False → count S T e w (meaning f) ≡ node S e 0
  false_counts i = ap (λ z. count S T e w (meaning z)) i ∙ ap (count S T e w) meaning_False

  pub eq_counts : (s : List ℕ) (t u : Term) → f ≡ made.Eq s t u → count S T e w (meaning f)
      ≡ node S e (S.plus (count_term S T.functions e w (term.meaning t)) (count_term S T.functions e w (term.meaning u)))
  eq_counts s t u i = ap (λ z. count S T e w (meaning z)) i ∙ ap (count S T e w) (meaning_Eq s t u)

  pub and_counts : (a b : Arc Formula Global) (l r : Formula) → f ≡ made.And a b → l ≡ arc_value a → r ≡ arc_value b
      → count S T e w (meaning f) ≡ node S e (S.plus (count S T e w (meaning l)) (count S T e w (meaning r)))
  and_counts a b l r i j k = ap (λ z. count S T e w (meaning z)) i ∙ ap (count S T e w) (meaning_And a b)
      ∙ sym (λ z. node S e (S.plus (count S T e w (meaning (j z))) (count S T e w (meaning (k z)))))

  pub or_counts : (a b : Arc Formula Global) (l r : Formula) → f ≡ made.Or a b → l ≡ arc_value a → r ≡ arc_value b
      → count S T e w (meaning f) ≡ node S e (S.plus (count S T e w (meaning l)) (count S T e w (meaning r)))
  or_counts a b l r i j k = ap (λ z. count S T e w (meaning z)) i ∙ ap (count S T e w) (meaning_Or a b)
      ∙ sym (λ z. node S e (S.plus (count S T e w (meaning (j z))) (count S T e w (meaning (k z)))))

  pub imp_counts : (a b : Arc Formula Global) (l r : Formula) → f ≡ made.Imp a b → l ≡ arc_value a → r ≡ arc_value b
      → count S T e w (meaning f) ≡ node S e (S.plus (count S T e w (meaning l)) (count S T e w (meaning r)))
  imp_counts a b l r i j k = ap (λ z. count S T e w (meaning z)) i ∙ ap (count S T e w) (meaning_Imp a b)
      ∙ sym (λ z. node S e (S.plus (count S T e w (meaning (j z))) (count S T e w (meaning (k z)))))

  pub all_counts : (s x : List ℕ) (a : Arc Formula Global) (l : Formula) (v : ℕ → ℕ) → f ≡ made.All s x a → l ≡ arc_value a → v ≡ bind e w
      → count S T e w (meaning f) ≡ node S e (count S T e v (meaning l))
  all_counts s x a l v i j k = ap (λ z. count S T e w (meaning z)) i ∙ ap (count S T e w) (meaning_All s x a)
      ∙ sym (λ z. node S e (count S T e (k z) (meaning (j z))))

  pub ex_counts : (s x : List ℕ) (a : Arc Formula Global) (l : Formula) (v : ℕ → ℕ) → f ≡ made.Ex s x a → l ≡ arc_value a → v ≡ bind e w
      → count S T e w (meaning f) ≡ node S e (count S T e v (meaning l))
  ex_counts s x a l v i j k = ap (λ z. count S T e w (meaning z)) i ∙ ap (count S T e w) (meaning_Ex s x a)
      ∙ sym (λ z. node S e (count S T e (k z) (meaning (j z))))

-- ---- numbers that stop

pub nodes_leaf : (z : ℕ) → z ≡ node by_nodes 1 0 → 1 ≡ min z (2 ^ 32)
nodes_leaf z e = let f = e ∙ node_by_nodes 0 in omega (arith, f)

pub height_leaf : (z : ℕ) → z ≡ node by_height 1 0 → 1 ≡ min z (2 ^ 32)
height_leaf z e = let f = e ∙ node_by_height 0 in omega (arith, f)

pub nodes_two : (r b x y X Y z : ℕ) → x ≡ min X (2 ^ 32) → y ≡ min Y (2 ^ 32) → b ≡ min (x + y) (2 ^ 32) → r ≡ min (b + 1) (2 ^ 32)
    → z ≡ node by_nodes 1 (X + Y) → r ≡ min z (2 ^ 32)
nodes_two r b x y X Y z p q s t e = let f = e ∙ node_by_nodes (X + Y) in omega (arith, p, q, s, t, f)

pub height_two : (r b x y X Y z : ℕ) → x ≡ min X (2 ^ 32) → y ≡ min Y (2 ^ 32) → b ≡ min (max x y) (2 ^ 32) → r ≡ min (b + 1) (2 ^ 32)
    → z ≡ node by_height 1 (max X Y) → r ≡ min z (2 ^ 32)
height_two r b x y X Y z p q s t e = let f = e ∙ node_by_height (max X Y) in omega (arith, p, q, s, t, f)

pub nodes_one : (r x X z : ℕ) → x ≡ min X (2 ^ 32) → r ≡ min (x + 1) (2 ^ 32) → z ≡ node by_nodes 1 X → r ≡ min z (2 ^ 32)
nodes_one r x X z p t e = let f = e ∙ node_by_nodes X in omega (arith, p, t, f)

pub height_one : (r x X z : ℕ) → x ≡ min X (2 ^ 32) → r ≡ min (x + 1) (2 ^ 32) → z ≡ node by_height 1 X → r ≡ min z (2 ^ 32)
height_one r x X z p t e = let f = e ∙ node_by_height X in omega (arith, p, t, f)

-- the use of one variable below a quantifier
pub all_uses : (S : Scale) (T : Table) (k b : ℕ) (f : Formula) (s x : List ℕ) (a : Arc Formula Global) (l : Formula) → f
    ≡ made.All s x a → l ≡ arc_value a
    → count S T 0 (only (k + b)) (meaning f) ≡ node S 0 (count S T 0 (only (k + (b + 1))) (meaning l))
all_uses S T k b f s x a l i j = all_counts S T 0 (only (k + b)) f s x a l (only (k + (b + 1))) i j (sym (bind_only k b))

pub ex_uses : (S : Scale) (T : Table) (k b : ℕ) (f : Formula) (s x : List ℕ) (a : Arc Formula Global) (l : Formula) → f
    ≡ made.Ex s x a → l ≡ arc_value a
    → count S T 0 (only (k + b)) (meaning f) ≡ node S 0 (count S T 0 (only (k + (b + 1))) (meaning l))
ex_uses S T k b f s x a l i j = ex_counts S T 0 (only (k + b)) f s x a l (only (k + (b + 1))) i j (sym (bind_only k b))
