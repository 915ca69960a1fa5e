-- One rule of a tree, and rules one after another.
use Rattle.std.proofs.Common.{◌≡◌, ◌↔◌, ℕ, ◌+◌, ◌≤◌, Bool, true, false, IsTrue, List, [], ◌∷◌, ◌++◌, length, reverse, map, Bor}
use Rattle.std.proofs.Common.{refl, sym, ap, subst, ◌∙◌, arith}
use Rattle.std.proofs.lemmas.List.{reverse-append}
use Rattle.fol_theory.specs.Syntax.{Formula}
use Rattle.fol_theory.specs.Contexts.{Entry, variables, Sequent}
use Rattle.fol_theory.proofs.Entries.{without_variables}
use Rattle.env_theory.specs.Declarations.{Declaration}
use Rattle.logic_theory.specs.Rules.{Step, hyp, known, true_i, false_e, and_i, and_e, or_i1, or_i2, or_e, imp_i, imp_e, cut, conv}
use Rattle.logic_theory.specs.Rules.{all_i, ex_e, all_e, ex_i, eq_i, eq_e, drop, Rule as Meaning, leaf, step, children, leaves}
use Rattle.logic_theory.specs.Rules.{Every, Follows, Formed, Holds}
use Rattle.logic_theory.proofs.Trees.{children_formed, every_join, sound}
use Rattle.term_core.specs.declared.context.Sequent.{Sequent as Place}
use Rattle.term_core.specs.Context as context
use Rattle.proof_tree.specs.declared.rule.Rule.{Rule}
use Rattle.proof_tree.specs.Meaning.{meanings}
use Rattle.proof_tree.specs.Stacks.{waiting}
use Rattle.proof_tree.proofs.Stacked.{top}
use Rattle.logic_theory.specs.Proofs.{IsProof, Proves}
use Rattle.kernel_core.specs.Stacks.{IsReady, AreReady, TakesRule}

false_is_not : IsTrue false → ⊥
false_is_not h = cc

one_is_some : {A : Type 0} (x : A) (xs : List A) → (x ∷ xs) ≡ [] → ⊥
one_is_some x xs h = cc

-- ---- a rule leads to sequents with one variable more at the most

abbrev bounded : ℕ → Sequent → Type 0
bounded n g = length (variables g.context) ≤ n

children_bounded : (n : ℕ) (r : Step) (c : List Entry) (g : Formula) → length (variables c) ≤ n → Every (bounded (n + 1)) (children r c g)
children_bounded n (hyp i) c g h = tt
children_bounded n (known m) c g h = tt
children_bounded n true_i c g h = tt
children_bounded n false_e c g h = (omega (arith, h), tt)
children_bounded n (and_i x y) c g h = (omega (arith, h), (omega (arith, h), tt))
children_bounded n (and_e x y) c g h = (omega (arith, h), (omega (arith, h), tt))
children_bounded n (or_i1 x y) c g h = (omega (arith, h), tt)
children_bounded n (or_i2 x y) c g h = (omega (arith, h), tt)
children_bounded n (or_e x y) c g h = (omega (arith, h), (omega (arith, h), (omega (arith, h), tt)))
children_bounded n (imp_i x y) c g h = (omega (arith, h), tt)
children_bounded n (imp_e x) c g h = (omega (arith, h), (omega (arith, h), tt))
children_bounded n (all_i s x) c g h = (omega (arith, h), tt)
children_bounded n (all_e s x t) c g h = (omega (arith, h), tt)
children_bounded n (ex_i s x t) c g h = (omega (arith, h), tt)
children_bounded n (ex_e s x) c g h = (omega (arith, h), (omega (arith, h), tt))
children_bounded n (eq_i s t) c g h = tt
children_bounded n (eq_e s x t u) c g h = (omega (arith, h), (omega (arith, h), tt))
children_bounded n (cut x) c g h = (omega (arith, h), (omega (arith, h), tt))
children_bounded n (drop i) c g h = (omega (arith, h, ap length (without_variables c i)), tt)
children_bounded n (conv x) c g h = (omega (arith, h), tt)

both_ways : (E : List Declaration) (n : ℕ) (gs : List Sequent) → Every (Formed E) gs → Every (bounded n) gs → AreReady E n gs
both_ways E n [] f b = tt
both_ways E n (g ∷ gs) f b = ((f.0, b.0), both_ways E n gs f.1 b.1)

others_ready : (E : List Declaration) (n : ℕ) (gs : List Sequent) → AreReady E n gs → AreReady E (n + 1) gs
others_ready E n [] h = tt
others_ready E n (g ∷ gs) h = ((h.0.0, omega (arith, h.0.1)), others_ready E n gs h.1)

-- ---- one rule

taken : (E : List Declaration) (r : Meaning) (g : Sequent) (old new : List Sequent) (b : Bool) → TakesRule E r g old new b → (rs : List Meaning)
    → (IsTrue b × Proves E rs new) ↔ Proves E (r ∷ rs) (g ∷ old)
taken E (leaf ns) g old new true h rs = absurd (false_is_not (sym h))
taken E (leaf ns) g old new false h rs = ((λ q. absurd (false_is_not q.0)), (λ q. absurd (one_is_some _ _ q.1)))
taken E (step r) g old new true h rs = (
  (λ q. ((h.0, subst (Follows E rs) h.1 q.1.0), subst (λ gs. leaves rs gs ≡ []) h.1 q.1.1)),
  (λ q. (refl, (subst (Follows E rs) (sym h.1) q.0.1, subst (λ gs. leaves rs gs ≡ []) (sym h.1) q.1))),
)
taken E (step r) g old new false h rs = ((λ q. absurd (false_is_not q.0)), (λ q. absurd (h q.0.0)))

taken_ready : (E : List Declaration) (n : ℕ) (r : Meaning) (g : Sequent) (old new : List Sequent) (b : Bool) → TakesRule E r g old new b
    → IsReady E n g → AreReady E n old → IsTrue b → AreReady E (n + 1) new
taken_ready E n (leaf ns) g old new true h x y t = absurd (false_is_not (sym h))
taken_ready E n (leaf ns) g old new false h x y t = absurd (false_is_not t)
taken_ready E n (step r) g old new true h x y t = subst (AreReady E (n + 1)) (sym h.1)
    (every_join (IsReady E (n + 1)) (children r g.context g.goal) old
    (both_ways E (n + 1) (children r g.context g.goal) (children_formed E r g.context g.goal h.0 x.0.0 x.0.1)
    (children_bounded n r g.context g.goal x.1)) (others_ready E n old y))
taken_ready E n (step r) g old new false h x y t = absurd (false_is_not t)

-- ---- with the sequent on top of the stack

module _ (E : List Declaration) (old rest : List Place) (p : Place) (e : old ≡ rest ++ p ∷ []) where
  on : waiting old ≡ context.meaning p ∷ waiting rest
  on = ap waiting e ∙ top rest p

  pub on_top : (n : ℕ) → AreReady E n (waiting old) → IsReady E n (context.meaning p) × AreReady E n (waiting rest)
  on_top n h = subst (AreReady E n) on h

  pub next_proves : (r : Meaning) (new : List Sequent) (b : Bool) → TakesRule E r (context.meaning p) (waiting rest) new b
      → (rs : List Meaning) → (IsTrue b × Proves E rs new) ↔ Proves E (r ∷ rs) (waiting old)
  next_proves r new b h rs = subst (λ gs. (IsTrue b × Proves E rs new) ↔ Proves E (r ∷ rs) gs) (sym on)
      (taken E r (context.meaning p) (waiting rest) new b h rs)

  pub next_ready : (n : ℕ) (r : Meaning) (new : List Sequent) (b : Bool) → TakesRule E r (context.meaning p) (waiting rest) new b
      → AreReady E n (waiting old) → IsTrue b → AreReady E (n + 1) new
  next_ready n r new b h y t = let w = on_top n y in taken_ready E n r (context.meaning p) (waiting rest) new b h w.0 w.1 t

-- ---- rules one after another

nothing : (E : List Declaration) (gs : List Sequent) → Follows E [] gs → gs ≡ []
nothing E [] h = refl
nothing E (g ∷ gs) h = absurd h

none_waits : (ps : List Place) → waiting ps ≡ [] → ps ≡ []
none_waits [] h = refl
none_waits (p ∷ ps) h = absurd (go (reverse ps) (subst (λ qs. map context.meaning qs ≡ []) (reverse-append (p ∷ []) ps) h))
  where
    go : (qs : List Place) → map context.meaning (qs ++ (p ∷ [])) ≡ [] → ⊥
    go [] k = one_is_some _ _ k
    go (q ∷ qs) k = one_is_some _ _ k

-- no rule is left: it is a proof exactly where nothing is on the stack
pub ended : (E : List Declaration) (rs : List Meaning) (ps : List Place) → rs ≡ [] → Proves E rs (waiting ps) ↔ (ps ≡ [])
ended E rs ps e = (
  (λ q. none_waits ps (nothing E (waiting ps) (subst (λ qs. Proves E qs (waiting ps)) e q).0)),
  (λ h. subst (λ qs. Proves E qs (waiting ps)) (sym e) (subst (λ qs. Proves E [] (waiting qs)) (sym h) (tt, refl))),
)

no_rules : (rules : List (Bor Rule)) → rules ≡ [] → meanings (map (λ r. r.now) rules) ≡ []
no_rules [] e = refl
no_rules (r ∷ rules) e = absurd (one_is_some r rules e)

-- what is done at the end of the rules, from what stands behind the last
pub ended_behind : (E : List Declaration) (rules : List (Bor Rule)) (ps : List Place) (b : Bool) (P : Type 0) → rules ≡ []
    → (Proves E (meanings (map (λ r. r.now) rules)) (waiting ps) ↔ P) → (IsTrue b ↔ (ps ≡ [])) → IsTrue b ↔ P
ended_behind E rules ps b P e h k =
    let w = ended E (meanings (map (λ r. r.now) rules)) ps (no_rules rules e) in
    ((λ t. h.0 (w.1 (k.0 t))), (λ x. k.1 (w.0 (h.1 x))))

-- a proof of a well formed sequent gives a derivation
pub proof_holds : (E : List Declaration) (rs : List Meaning) (g : Sequent) → Formed E g → IsProof E rs g → Holds E g
proof_holds E rs g f q = (sound E rs (g ∷ []) q.0 (f, tt) (subst (Every (Holds E)) (sym q.1) tt)).0
