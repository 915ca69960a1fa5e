-- Comparing heads, over frames.
use Rattle.std.proofs.Common.{min, ◌≡◌, ◌↔◌, ℕ, suc, ◌+◌, ◌<◌, ◌≤◌, ◌^◌, Bool, true, false, List, [], ◌∷◌, ◌++◌, length, map, take}
use Rattle.std.proofs.Common.{get_or, refl, sym, ap, subst, ◌∙◌, Option, Some, None, arith}
use Rattle.std.specs.Prelude.{option_map, MatchOption, IfOk, Result, Ok, Err}
use Rattle.std.specs.Borrow.{Bor}
use Rattle.std.proofs.lemmas.Grind.{common_steps}
use Rattle.std.proofs.lemmas.List.{append-nil, append_assoc}
use Rattle.fol_theory.specs.Syntax.{Term as Meaning, Terms, Formula as FormulaMeaning, var, app}
use Rattle.fol_theory.specs.Measures.{term_nodes, term_height, term_reach, terms_reach, nodes, height}
use Rattle.fol_theory.specs.Printing.{unnamed}
use Rattle.fol_theory.proofs.Names.{nodes_unnamed, height_unnamed}
use Rattle.term_core.specs.declared.term.Term.{Term}
use Rattle.term_core.specs.Term.{meaning, list_meaning}
use Rattle.term_core.specs.Formula as formula
use Rattle.env_theory.specs.Declarations.{Declaration}
use Rattle.env_theory.specs.Scopes.{
  Scope,
  whole,
  under,
  CostRow,
  cost_row,
  cost_headed,
  costs,
  cost_argument,
  cost_table,
  scope_cost,
  value,
}
use Rattle.env_theory.specs.Scopes.{values}
use Rattle.env_theory.specs.Machine.{ReadsTerm, ReadsTerms, left, lefts, unders}
use Rattle.env_theory.specs.Typing.{HasSort, HaveSorts}
use Rattle.env_theory.specs.Normal.{normal_term, normal, Same}
use Rattle.env_theory.specs.Compare as theory
use Rattle.env_theory.proofs.Values.{values_cons, term_whole, formula_whole}
use Rattle.env_theory.proofs.Agrees.{arguments_agree, arguments_left, functions_agree, variables_agree, heads_differ}
use Rattle.conv_core.specs.declared.frame.Frame.{Frame}
use Rattle.conv_core.specs.declared.head.Head.{Head}
use Rattle.conv_core.specs.declared.head.Head.TheVariants.{Variable, Function}
use Rattle.conv_core.specs.declared.pair.Pair.{Pair}
use Rattle.conv_core.specs.declared.pair.Pair.TheVariants as Pairs
use Rattle.conv_core.specs.Frames.{scope_of, Ordered, Extends}
use Rattle.conv_core.specs.Heads.{Standing, StandingAll, Headed}
use Rattle.conv_core.specs.Formulas.{StandingFormula, StandingBelow, Scoped}
use Rattle.conv_core.specs.Pairs.{pair_of, StandingPair, StandingPairs, Split, IsPair, Aligned, Pushed}
use Rattle.conv_core.proofs.Steps.{extended}

-- ---- the same in further frames

longer : (fs gs : List Frame) → Extends fs gs → (c : ℕ) → c ≤ length fs → c ≤ length gs
longer fs gs (hs, e) c h = subst (λ l. c ≤ length l) (sym e) (joint fs hs c h)
  where
    joint : (fs hs : List Frame) (c : ℕ) → c ≤ length fs → c ≤ length (fs ++ hs)
    joint fs hs c h = grind (arith, common_steps)

pub standing_later : (E : List Declaration) (fs gs : List Frame) → Extends fs gs → Ordered gs → (c by : ℕ) (t : Meaning)
    → Standing E fs c by t → Standing E gs c by t
standing_later E fs gs x o c by t s = let e = sym (extended fs gs x c s.1) in (
  o,
  longer fs gs x c s.1,
  subst (λ k. ReadsTerm E k t) e s.2,
  subst (λ k. by + unders k < 2 ^ 64) e s.3,
  subst (λ k. term_reach
      (value E k by t) ≤ 2 ^ 64) e s.4,
)

all_later : (E : List Declaration) (fs gs : List Frame) → Extends fs gs → Ordered gs → (c by : ℕ) (ts : Terms)
    → StandingAll E fs c by ts → StandingAll E gs c by ts
all_later E fs gs x o c by ts s = let e = sym (extended fs gs x c s.1) in (
  o,
  longer fs gs x c s.1,
  subst (λ k. ReadsTerms E k ts) e s.2,
  subst (λ k. by + unders k < 2 ^ 64) e s.3,
  subst (λ k. terms_reach
      (values E k by ts) ≤ 2 ^ 64) e s.4,
)

pub headed_later : (E : List Declaration) (fs gs : List Frame) → Extends fs gs → Ordered gs
    → (c : Scope) (by : ℕ) (t : Meaning) (h : Head) → Headed E fs c by t h → Headed E gs c by t h
headed_later E fs gs x o c by t (Variable j) h = h
headed_later E fs gs x o c by t (Function f ts d b) h = let e = sym (extended fs gs x d h.2.1) in (
  h.0 ∙ ap (λ k. app f.now (values E k b (list_meaning ts.now))) e,
  subst (λ k. lefts E k
      (list_meaning ts.now) < left E c t) e h.1,
  all_later E fs gs x o d b (list_meaning ts.now) h.2,
)

pub formula_later : (E : List Declaration) (fs gs : List Frame) → Extends fs gs → Ordered gs → (c : ℕ) (a : FormulaMeaning)
    → StandingFormula E fs c a → StandingFormula E gs c a
formula_later E fs gs x o c a s = let e = sym (extended fs gs x c s.1) in (
  o,
  longer fs gs x c s.1,
  subst (λ k. Scoped E k a) e s.2,
)

pub below_later : (E : List Declaration) (fs gs : List Frame) → Extends fs gs → Ordered gs → (c : ℕ) (a : FormulaMeaning)
    → StandingBelow E fs c a → StandingBelow E gs c a
below_later E fs gs x o c a s = let e = sym (extended fs gs x c s.1) in (
  o,
  longer fs gs x c s.1,
  subst (λ k. Scoped E (under k) a) e s.2,
)

pair_later : (E : List Declaration) (fs gs : List Frame) → Extends fs gs → Ordered gs → (p : Pair) → StandingPair E fs p
    → StandingPair E gs p
pair_later E fs gs x o (Pairs.Terms p) s = (
  standing_later E fs gs x o p.first_scope p.first_by (meaning p.first.now) s.0,
  standing_later E fs gs x o p.second_scope p.second_by (meaning p.second.now) s.1,
)
pair_later E fs gs x o (Pairs.Formulas p) s = (
  formula_later E fs gs x o p.first_scope (formula.meaning p.first.now) s.0,
  formula_later E fs gs x o p.second_scope (formula.meaning p.second.now) s.1,
)

same_pair : (E : List Declaration) (fs gs : List Frame) → Extends fs gs → (p : Pair) → StandingPair E fs p → pair_of gs p ≡ pair_of fs p
same_pair E fs gs x (Pairs.Terms p) s = λ i. theory.both_terms (extended fs gs x p.first_scope s.0.1 i) p.first_by (meaning p.first.now)
    (extended fs gs x p.second_scope s.1.1 i) p.second_by (meaning p.second.now)
same_pair E fs gs x (Pairs.Formulas p) s = λ i. theory.both_formulas (extended fs gs x p.first_scope s.0.1 i) (formula.meaning p.first.now)
    (extended fs gs x p.second_scope s.1.1 i) (formula.meaning p.second.now)

-- ---- the whole stack

-- one pair less, and what was left of it more
pub stack_step : (E : List Declaration) (fs gs : List Frame) → Extends fs gs → Ordered gs
    → (old : List Pair) (p : Pair) (new : List Pair) → StandingPairs E fs (old ++ (p ∷ [])) → StandingPairs E gs new →
    (theory.AllAgree E (map (pair_of gs) new) ↔ theory.Agree E (pair_of fs p))
    → theory.pairs_left E (map (pair_of gs) new) < theory.pair_left E (pair_of fs p) →
    StandingPairs E gs (old ++ new) × (theory.AllAgree E (map (pair_of gs) (old ++ new)) ↔ theory.AllAgree E (map (pair_of fs) (old ++
    (p ∷ [])))) ×
    (theory.pairs_left E (map (pair_of gs) (old ++ new)) < theory.pairs_left E (map (pair_of fs) (old ++ (p ∷ []))))
stack_step E fs gs x o [] p new s k a l = (k, ((λ h. (a.0 h, tt)), (λ h. a.1 h.0)), omega (arith, l))
stack_step E fs gs x o (q ∷ qs) p new s k a l =
    let w = stack_step E fs gs x o qs p new s.1 k a l in
    let e = same_pair E fs gs x q s.0 in
    let n = ap (theory.pair_left E) e in (
      (pair_later E fs gs x o q s.0, w.0),
      ((λ h. (subst (theory.Agree E) e h.0, w.1.0 h.1)), (λ h. (subst (theory.Agree E) (sym e) h.0, w.1.1 h.1))),
      omega (arith, w.2, n),
    )

pub stack_fails : (E : List Declaration) (fs : List Frame) (old : List Pair) (p : Pair) → (theory.Agree E (pair_of fs p) → ⊥)
    → theory.AllAgree E (map (pair_of fs) (old ++ (p ∷ []))) → ⊥
stack_fails E fs [] p f h = f h.0
stack_fails E fs (q ∷ qs) p f h = stack_fails E fs qs p f h.1

-- ---- arguments

pub aligned_more : (c m : ℕ) (ts : List Term) (d n : ℕ) (us : List Term) (ps : List Pair) (t u : Term) (p : Pair)
    → Aligned c m ts d n us ps → IsPair c m t d n u p → Aligned c m (ts ++ (t ∷ [])) d n (us ++ (u ∷ [])) (ps ++ (p ∷ []))
aligned_more c m [] d n [] [] t u p a i = (i, tt)
aligned_more c m [] d n [] (q ∷ qs) t u p a i = absurd a
aligned_more c m [] d n (v ∷ us) qs t u p a i = absurd a
aligned_more c m (s ∷ ts) d n [] qs t u p a i = absurd a
aligned_more c m (s ∷ ts) d n (v ∷ us) [] t u p a i = absurd a
aligned_more c m (s ∷ ts) d n (v ∷ us) (q ∷ qs) t u p a i = (a.0, aligned_more c m ts d n us qs t u p a.1 i)

pub aligned_pair : (fs : List Frame) (c m : ℕ) (t : Term) (d n : ℕ) (u : Term) (p : Pair) → IsPair c m t d n u p → pair_of fs p
    ≡ theory.both_terms (scope_of fs c) m (meaning t) (scope_of fs d) n (meaning u)
aligned_pair fs c m t d n u (Pairs.Formulas p) h = absurd h
aligned_pair fs c m t d n u (Pairs.Terms p) h = λ i. theory.both_terms (scope_of fs (h.0 i)) (h.1 i) (meaning (h.2 i))
    (scope_of fs (h.3 i)) (h.4 i)
    (meaning (h.5 i))

aligned_sides : (fs : List Frame) (c m : ℕ) (ts : List Term) (d n : ℕ) (us : List Term) (ps : List Pair) → Aligned c m ts d n us ps
    → theory.side_by_side (scope_of fs c) m (list_meaning ts) (scope_of fs d) n (list_meaning us) ≡ Some (map (pair_of fs) ps)
aligned_sides fs c m [] d n [] [] a = refl
aligned_sides fs c m [] d n [] (q ∷ qs) a = absurd a
aligned_sides fs c m [] d n (v ∷ us) qs a = absurd a
aligned_sides fs c m (s ∷ ts) d n [] qs a = absurd a
aligned_sides fs c m (s ∷ ts) d n (v ∷ us) [] a = absurd a
aligned_sides fs c m (s ∷ ts) d n (v ∷ us) (q ∷ qs) a =
    ap (option_map (λ ps. theory.both_terms (scope_of fs c) m (meaning s) (scope_of fs d) n (meaning v) ∷ ps))
    (aligned_sides fs c m ts d n us qs a.1) ∙ ap (λ x. Some (x ∷ map (pair_of fs) qs)) (sym (aligned_pair fs c m s d n v q a.0))

unequal_sides : (c : Scope) (m : ℕ) (ts : List Term) (d : Scope) (n : ℕ) (us : List Term) → (length ts ≡ length us → ⊥)
    → theory.side_by_side c m (list_meaning ts) d n (list_meaning us) ≡ None
unequal_sides c m [] d n [] h = absurd (h refl)
unequal_sides c m [] d n (u ∷ us) h = refl
unequal_sides c m (t ∷ ts) d n [] h = refl
unequal_sides c m (t ∷ ts) d n (u ∷ us) h = ap (option_map (λ ps. theory.both_terms c m (meaning t) d n (meaning u) ∷ ps))
    (unequal_sides c m ts d n us (λ e. h (ap suc e)))

-- the first of terms that stand, and the others
first_stands : (E : List Declaration) (fs : List Frame) (c by : ℕ) (t : Term) (ts : List Term)
    → StandingAll E fs c by (list_meaning (t ∷ ts)) → Standing E fs c by (meaning t) × StandingAll E fs c by (list_meaning ts)
first_stands E fs c by t ts s = go s.2.1 s.2.3
  where
    go : (ss : List (List ℕ)) → HaveSorts E s.2.0 (list_meaning (t ∷ ts)) ss → Standing E fs c by (meaning t)
        × StandingAll E fs c by (list_meaning ts)
    go [] h = absurd h
    go (q ∷ qs) h =
        let r = subst (λ z. terms_reach z ≤ 2 ^ 64) (values_cons E (scope_of fs c) by (meaning t) (list_meaning ts)) s.4 in
        ((s.0, s.1, (s.2.0, q, s.2.2, h.0), s.3, omega (arith, r)), (s.0, s.1, (s.2.0, qs, s.2.2, h.1), s.3, omega (arith, r)))

pub pair_stands : (E : List Declaration) (fs : List Frame) (c m : ℕ) (t : Term) (d n : ℕ) (u : Term) (p : Pair) → IsPair c m t d n u p
    → Standing E fs c m (meaning t) → Standing E fs d n (meaning u) → StandingPair E fs p
pair_stands E fs c m t d n u (Pairs.Formulas p) h x y = absurd h
pair_stands E fs c m t d n u (Pairs.Terms p) h x y = (
  subst (λ k. Standing E fs k p.first_by (meaning p.first.now)) (sym h.0) (subst (λ k. Standing E fs c k (meaning p.first.now))
      (sym h.1) (subst (λ k. Standing E fs c m (meaning k)) (sym h.2) x)),
  subst (λ k. Standing E fs k p.second_by (meaning p.second.now)) (sym h.3) (subst (λ k. Standing E fs d k (meaning p.second.now))
      (sym h.4) (subst (λ k. Standing E fs d n (meaning k)) (sym h.5) y)),
)

aligned_stand : (E : List Declaration) (fs : List Frame) (c m : ℕ) (ts : List Term) (d n : ℕ) (us : List Term) (ps : List Pair)
    → Aligned c m ts d n us ps → StandingAll E fs c m (list_meaning ts) → StandingAll E fs d n (list_meaning us) → StandingPairs E fs ps
aligned_stand E fs c m [] d n [] [] a x y = tt
aligned_stand E fs c m [] d n [] (q ∷ qs) a x y = absurd a
aligned_stand E fs c m [] d n (v ∷ us) qs a x y = absurd a
aligned_stand E fs c m (s ∷ ts) d n [] qs a x y = absurd a
aligned_stand E fs c m (s ∷ ts) d n (v ∷ us) [] a x y = absurd a
aligned_stand E fs c m (s ∷ ts) d n (v ∷ us) (q ∷ qs) a x y =
    let h = first_stands E fs c m s ts x in
    let k = first_stands E fs d n v us y in
    (pair_stands E fs c m s d n v q a.0 h.0 k.0, aligned_stand E fs c m ts d n us qs a.1 h.1 k.1)

module _ (E : List Declaration) (gs : List Frame) (q : theory.Pair) (k b : ℕ) (ts : List Term) (l e : ℕ) (us : List Term)
    (h : StandingAll E gs k b (list_meaning ts) × StandingAll E gs l e (list_meaning us))
    (a : theory.Agree E q ↔ (values E (scope_of gs k) b (list_meaning ts) ≡ values E (scope_of gs l) e (list_meaning us)))
    (m : lefts E (scope_of gs k) (list_meaning ts) < theory.pair_left E q) where
  -- arguments that are left on the stack, where a pair agrees exactly where they do
  pub arguments_split : (old new : List Pair) (r : Bool) → Pushed k b ts l e us old new r → Split E q gs old new r
  arguments_split old new false p = λ g.
      let none = subst (λ o. MatchOption o (values E (scope_of gs k) b (list_meaning ts)
      ≡ values E (scope_of gs l) e (list_meaning us) → ⊥) (λ ps. theory.AllAgree E ps ↔ (values E (scope_of gs k) b
      (list_meaning ts) ≡ values E (scope_of gs l) e (list_meaning us))))
      (unequal_sides (scope_of gs k) b ts (scope_of gs l) e us p) (arguments_agree E (scope_of gs k) b (list_meaning ts)
      (scope_of gs l) e (list_meaning us)) in
      none (a.0 g)
  arguments_split old new true (ps, i, s) =
      let some = subst (λ o. MatchOption o (values E (scope_of gs k) b (list_meaning ts)
      ≡ values E (scope_of gs l) e (list_meaning us) → ⊥) (λ ps. theory.AllAgree E ps ↔ (values E (scope_of gs k) b
      (list_meaning ts) ≡ values E (scope_of gs l) e (list_meaning us))))
      (aligned_sides gs k b ts l e us ps s) (arguments_agree E (scope_of gs k) b (list_meaning ts) (scope_of gs l) e
      (list_meaning us)) in
      let fewer = subst (λ o. MatchOption o (Unit {0}) (λ ps. theory.pairs_left E ps ≤ lefts E (scope_of gs k) (list_meaning ts)))
      (aligned_sides gs k b ts l e us ps s) (arguments_left E (scope_of gs k) b (list_meaning ts) (scope_of gs l) e
      (list_meaning us)) in (
        ps,
        i,
        aligned_stand E gs k b ts l e us ps s h.0 h.1,
        (
          (λ x. a.1 (some.0 x)),
          (λ g. some.1 (a.0 g)),
        ),
        omega (arith, fewer, m),
      )

-- ---- two heads

some_left : (E : List Declaration) (c : Scope) (t : Meaning) → 0 < left E c t
some_left E c (var i) = omega arith
some_left E c (app f ts) = go (cost_row (cost_table E) f)
  where
    go : (o : Option CostRow) → 0 < cost_headed o (costs (cost_table E) (scope_cost (cost_table E) c) ts) (cost_argument
        (cost_table E) (scope_cost (cost_table E) c) ts)
    go None = omega arith
    go (Some r) = omega arith

pub variables_split : (E : List Declaration) (c : Scope) (m : ℕ) (t : Meaning) (d : Scope) (n : ℕ) (u : Meaning) (gs : List Frame)
    (i j : ℕ) (old : List Pair) → Headed E gs c m t (Variable i) → Headed E gs d n u (Variable j) → i ≡ j
    → Split E (theory.both_terms c m t d n u) gs old old true
variables_split E c m t d n u gs i j old h k e = (
  [],
  sym (append-nil old),
  tt,
  (
    (λ x. (variables_agree _ _ i j h k).1 e),
    (λ x. tt),
  ),
  some_left E c t,
)

pub variables_fail : (E : List Declaration) (c : Scope) (m : ℕ) (t : Meaning) (d : Scope) (n : ℕ) (u : Meaning) (gs : List Frame)
    (i j : ℕ) → Headed E gs c m t (Variable i) → Headed E gs d n u (Variable j) → (i ≡ j → ⊥)
    → theory.Agree E (theory.both_terms c m t d n u) → ⊥
variables_fail E c m t d n u gs i j h k e a = e ((variables_agree _ _ i j h k).0 a)

pub heads_fail : (E : List Declaration) (c : Scope) (m : ℕ) (t : Meaning) (d : Scope) (n : ℕ) (u : Meaning) (gs : List Frame) (i : ℕ)
    (g : Bor (List ℕ)) (us : Bor (List Term)) (l e : ℕ) → Headed E gs c m t (Variable i) → Headed E gs d n u (Function g us l e)
    → theory.Agree E (theory.both_terms c m t d n u) → ⊥
heads_fail E c m t d n u gs i g us l e h k a = heads_differ _ _ i g.now _ h k.0 a

module _ (E : List Declaration) (c : Scope) (m : ℕ) (t : Meaning) (d : Scope) (n : ℕ) (u : Meaning) (gs : List Frame) (f g : Bor
    (List ℕ)) (ts us : Bor (List Term)) (k b l e : ℕ)
    (h : Headed E gs c m t (Function f ts k b)) (w : Headed E gs d n u (Function g us l e)) where
  agree : theory.Agree E (theory.both_terms c m t d n u) ↔ ((f.now ≡ g.now) × (values E (scope_of gs k) b (list_meaning ts.now)
      ≡ values E (scope_of gs l) e (list_meaning us.now)))
  agree = functions_agree E _ _ f.now g.now _ _ h.0 w.0

  pub names_fail : (f.now ≡ g.now → ⊥) → theory.Agree E (theory.both_terms c m t d n u) → ⊥
  names_fail q a = q (agree.0 a).0

  pub sides_split : f.now ≡ g.now → (old new : List Pair) (r : Bool) → Pushed k b ts.now l e us.now old new r
      → Split E (theory.both_terms c m t d n u) gs old new r
  sides_split q old new r p = arguments_split E gs (theory.both_terms c m t d n u) k b ts.now l e us.now (h.2, w.2)
      ((λ a. (agree.0 a).1), (λ v. agree.1 (q, v))) h.1 old new r p

-- ---- the start

pub start_term : (E : List Declaration) (t : Meaning) → (V : List (List ℕ)) × (s : List ℕ) × HasSort E V t s
    → term_reach (normal_term E t) ≤ 2 ^ 64 → Standing E [] 0 0 t
start_term E t h r = (
  λ i d l. absurd (omega (arith, l)),
  omega arith,
  (h.0, h.1, tt, h.2),
  omega arith,
  subst
      (λ z. term_reach z ≤ 2 ^ 64) (sym (term_whole E t)) r,
)

pub start_agree : (E : List Declaration) (t u : Meaning) → theory.Agree E (theory.both_terms whole 0 t whole 0 u) ↔ (normal_term E t
    ≡ normal_term E u)
start_agree E t u = ((λ h. sym (term_whole E t) ∙ h ∙ term_whole E u), (λ h. term_whole E t ∙ h ∙ sym (term_whole E u)))

pub through_same : {A X Y : Type 0} → A ↔ X → X ↔ Y → A ↔ Y
through_same a b = ((λ h. b.0 (a.0 h)), (λ h. a.1 (b.1 h)))

-- ---- one pair of arguments more

first_more : {X : Type 0} (xs : List X) (i : ℕ) (x : X) → i < length xs → x ≡ get_or xs i x → take (i + 1) xs ≡ take i xs ++ (x ∷ [])
first_more xs i x h e = grind (arith, common_steps)

pub side_pushed : (c m : ℕ) (ts us : List Term) (d n i : ℕ) (old stack new : List Pair) (t u : Term) (p : Pair) → i < length ts → t
    ≡ get_or ts i t → u ≡ get_or us i u → new ≡ stack ++ (p ∷ []) → IsPair c m t d n u p →
    (length ts ≡ length us) × (i ≤ length ts) × ((left : List Pair) × (stack ≡ old ++ left)
    × Aligned c m (take i ts) d n (take i us) left) →
    (length ts ≡ length us) × (i + 1 ≤ length ts) × ((left : List Pair) × (new ≡ old ++ left)
    × Aligned c m (take (i + 1) ts) d n (take (i + 1) us) left)
side_pushed c m ts us d n i old stack new t u p h e k w q (l, b, (ps, x, a)) = (
  l,
  omega (arith, h),
  (
    ps ++ (p ∷ []),
    w ∙ ap (λ z. z ++ (p ∷ [])) x ∙ append_assoc old ps (p ∷ []),
    subst (λ z. Aligned c m z d n (take (i + 1) us) (ps ++ (p ∷ []))) (sym (first_more ts i t h e))
        (subst (λ z. Aligned c m (take i ts ++ (t ∷ [])) d n z (ps ++ (p ∷ []))) (sym (first_more us i u (subst (λ z. i < z) l h) k))
        (aligned_more c m (take i ts) d n (take i us) ps t u p a q)),
  ),
)

pub if_ok : {A Z : Type 0} {P Q : A → Type 0} (r : Result A Z) → ((x : A) → P x → Q x) → IfOk r P → IfOk r Q
if_ok (Ok x) f h = f x h
if_ok (Err e) f h = tt

-- ---- the loop

pub last_stands : (E : List Declaration) (fs : List Frame) (old : List Pair) (p : Pair) → StandingPairs E fs (old ++ (p ∷ []))
    → StandingPair E fs p
last_stands E fs [] p h = h.0
last_stands E fs (q ∷ qs) p h = last_stands E fs qs p h.1

pub loop_step : (E : List Declaration) (fs gs : List Frame) → Extends fs gs → Ordered gs → (old stack new : List Pair) (p : Pair)
    → stack ≡ old ++ (p ∷ []) → StandingPairs E fs stack → (X : Type 0) → theory.AllAgree E (map (pair_of fs) stack) ↔ X →
    (r : Bool) → r ≡ true → Split E (pair_of fs p) gs old new r →
    StandingPairs E gs new × (theory.AllAgree E (map (pair_of gs) new) ↔ X)
    × (theory.pairs_left E (map (pair_of gs) new) < theory.pairs_left E (map (pair_of fs) stack))
loop_step E fs gs x o old stack new p k s X a r e q = go (subst (Split E (pair_of fs p) gs old new) e q)
  where
    go : Split E (pair_of fs p) gs old new true → StandingPairs E gs new × (theory.AllAgree E (map (pair_of gs) new) ↔ X)
        × (theory.pairs_left E (map (pair_of gs) new) < theory.pairs_left E (map (pair_of fs) stack))
    go (rest, i, t, g, f) =
        let w = stack_step E fs gs x o old p rest (subst (StandingPairs E fs) k s) t g f in (
          subst (StandingPairs E gs) (sym i) w.0,
          (
            (λ h. a.0 (subst (λ l. theory.AllAgree E (map (pair_of fs) l)) (sym k) (w.1.0 (subst (λ l. theory.AllAgree E (map
                (pair_of gs) l)) i h)))),
            (λ y. subst (λ l. theory.AllAgree E (map (pair_of gs) l)) (sym i) (w.1.1 (subst (λ l. theory.AllAgree E (map
                (pair_of fs) l)) k (a.1 y)))),
          ),
          subst (λ l. theory.pairs_left E (map (pair_of gs) l) < theory.pairs_left E (map (pair_of fs) stack)) (sym i)
              (subst (λ l. theory.pairs_left E (map (pair_of gs) (old ++ rest)) < theory.pairs_left E (map (pair_of fs) l)) (sym k) w.2),
        )

pub loop_fails : (E : List Declaration) (fs gs : List Frame) (old stack new : List Pair) (p : Pair) → stack ≡ old ++ (p ∷ [])
    → (X : Type 0) → theory.AllAgree E (map (pair_of fs) stack) ↔ X → (r : Bool) → r ≡ false → Split E (pair_of fs p) gs old new r → X → ⊥
loop_fails E fs gs old stack new p k X a r e q y =
    stack_fails E fs old p (subst (Split E (pair_of fs p) gs old new) e q) (subst (λ l. theory.AllAgree E (map (pair_of fs) l)) k (a.1 y))

pub start_loop : (E : List Declaration) (fs : List Frame) (none stack : List Pair) (p : Pair) → none ≡ [] → stack ≡ none ++ (p ∷ [])
    → StandingPair E fs p →
    StandingPairs E fs stack × (theory.AllAgree E (map (pair_of fs) stack) ↔ theory.Agree E (pair_of fs p))
start_loop E fs none stack p n k s =
    let q : stack ≡ p ∷ [] = k ∙ ap (λ l. l ++ (p ∷ [])) n in (
      subst (StandingPairs E fs) (sym q) (s, tt),
      subst (λ l. theory.AllAgree E (map (pair_of fs) l) ↔ theory.Agree E (pair_of fs p))
          (sym q) ((λ h. h.0), (λ h. (h, tt))),
    )

-- ---- terms whose sizes differ

pub nodes_differ : (E : List Declaration) (t u : Meaning) (n m : ℕ) → n ≡ min (term_nodes (normal_term E t)) (2 ^ 32)
    → m ≡ min (term_nodes (normal_term E u)) (2 ^ 32) → (n ≡ m → ⊥) → normal_term E t ≡ normal_term E u → ⊥
nodes_differ E t u n m e f d s = d (e ∙ ap (λ v. min (term_nodes v) (2 ^ 32)) s ∙ sym f)

pub heights_differ : (E : List Declaration) (t u : Meaning) (n m : ℕ) → n ≡ min (term_height (normal_term E t)) (2 ^ 32)
    → m ≡ min (term_height (normal_term E u)) (2 ^ 32) → (n ≡ m → ⊥) → normal_term E t ≡ normal_term E u → ⊥
heights_differ E t u n m e f d s = d (e ∙ ap (λ v. min (term_height v) (2 ^ 32)) s ∙ sym f)

pub ruleset sizes = (nodes_differ, heights_differ)

pub formula_nodes_differ : (E : List Declaration) (a b : FormulaMeaning) (n m : ℕ) → n ≡ min (nodes (normal E a)) (2 ^ 32)
    → m ≡ min (nodes (normal E b)) (2 ^ 32) → (n ≡ m → ⊥) → Same E a b → ⊥
formula_nodes_differ E a b n m e f d s = d (e ∙ ap (λ k. min k (2 ^ 32)) (sym (nodes_unnamed (normal E a)) ∙ ap nodes s ∙
    nodes_unnamed (normal E b)) ∙ sym f)

pub formula_heights_differ : (E : List Declaration) (a b : FormulaMeaning) (n m : ℕ) → n ≡ min (height (normal E a)) (2 ^ 32)
    → m ≡ min (height (normal E b)) (2 ^ 32) → (n ≡ m → ⊥) → Same E a b → ⊥
formula_heights_differ E a b n m e f d s = d (e ∙ ap (λ k. min k (2 ^ 32)) (sym (height_unnamed (normal E a)) ∙ ap height s ∙
    height_unnamed (normal E b)) ∙ sym f)

pub ruleset formula_sizes = (formula_nodes_differ, formula_heights_differ)

pub start_formulas : (E : List Declaration) (a b : FormulaMeaning) → theory.Agree E (theory.both_formulas whole a whole b) ↔ Same E a b
start_formulas E a b = (
  (λ h. ap unnamed (sym (formula_whole E a)) ∙ h ∙ ap unnamed (formula_whole E b)),
  (λ h. ap unnamed (formula_whole E a) ∙ h ∙ ap unnamed (sym (formula_whole E b))),
)
