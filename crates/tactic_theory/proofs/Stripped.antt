-- Strips: the first that fits is the least, there are no more of them, and a tree leads through them to the premises.
use Rattle.tactic_theory.proofs.Named.{same_all_named}
use Rattle.env_theory.proofs.Sameness.{same_replace, same_implies}
use Rattle.env_theory.proofs.Sorts.{replace_formed}
use Rattle.logic_theory.specs.Goals.{Goal, goal, Leads}
use Rattle.fol_theory.specs.Slots.{Slot, entries}
use Rattle.env_theory.specs.Orders.{Lawful}
use Rattle.env_theory.specs.Heads.{head_form}
use Rattle.env_theory.specs.Normal.{normal, Same}
use Rattle.env_theory.specs.Typing.{WellFormed, Fits}
use Rattle.env_theory.specs.Declarations.{Declaration}
use Rattle.std.proofs.Common.{
  ◌≡◌,
  ℕ,
  zero,
  suc,
  ◌-◌,
  Bool,
  true,
  false,
  if◌then◌else◌,
  List,
  [],
  ◌∷◌,
  ◌++◌,
  map,
  length,
  Option,
  Some,
  None,
  refl,
  sym,
  ap,
  subst,
  ◌∙◌,
  arith,
}
use Rattle.std.proofs.Math.Path.{fun_ext}
use Rattle.fol_theory.specs.Syntax.{Term, var, Formula, implies, all}
use Rattle.fol_theory.specs.Substitution.{replace_term, replace, next, lift, first, under, instantiate}
use Rattle.fol_theory.specs.Contexts.{variables}
use Rattle.fol_theory.proofs.Laws.{replace_twice, replace_identity, term_undo}
use Rattle.match_theory.proofs.Solved.{Lowers}
use Rattle.match_theory.proofs.Matched.{matches_sound, matches_complete}
use Rattle.fol_theory.specs.Printing.{unnamed}
use Rattle.logic_theory.specs.Rules.{Every, all_e, imp_e, plain, seq}
use Rattle.logic_theory.proofs.Leading.{nothing, left_open, by_rule, and_then_those}
use Rattle.tactic_theory.specs.Strips.{
  Strip,
  strip,
  strip_form,
  each_from,
  strips,
  fitting_terms,
  fitting_or,
  fitting,
  NoneFits,
  IsLeast,
  is_equation,
  equation,
  Stripped,
  unstripped,
  quantifier,
  premise,
}

some_injective : {A : Type 0} (x y : A) → Some x ≡ Some y → x ≡ y
some_injective x y e = cc

no_some : {A : Type 0} (x : A) → ◌≡◌ {A = Option A} None (Some x) → ⊥
no_some x e = cc

-- ---- the first that fits

pub fitting_least : (E : List Declaration) (g : Formula) (ss : List Strip) (w : Strip × List Term) → fitting E g ss ≡ Some w →
    IsLeast E g ss w
fitting_least E g [] w e = absurd (no_some w e)
fitting_least E g (s ∷ ss) w e = go (fitting_terms E g s) refl (fitting_least E g ss w) e
  where
    go : (o : Option (List Term)) → fitting_terms E g s ≡ o → (fitting E g ss ≡ Some w → IsLeast E g ss w) →
        fitting_or s o (fitting E g ss) ≡ Some w → IsLeast E g (s ∷ ss) w
    go (Some ts) q h d = subst (IsLeast E g (s ∷ ss)) (some_injective (s, ts) w d) (record {
      before = [];
      behind = ss;
      whole =
          refl;
      is = matches_sound (length s.sorts) (normal E s.rest) (normal E g) ts q;
      none_before = tt;
    })
    go None q h d = let r = h d in record {
      before = s ∷ r.before;
      behind = r.behind;
      whole = ap (λ l. s ∷ l) r.whole;
      is =
          r.is;
      none_before = (
        (λ ts m. let k = matches_complete (length s.sorts) (normal E s.rest) (normal E g) ts m in
            no_some k.0 (sym q ∙ k.1)),
        r.none_before,
      );
    }

pub fitting_none : (E : List Declaration) (g : Formula) (ss : List Strip) → fitting E g ss ≡ None → NoneFits E g ss
fitting_none E g [] e = tt
fitting_none E g (s ∷ ss) e = go (fitting_terms E g s) refl (fitting_none E g ss) e
  where
    go : (o : Option (List Term)) → fitting_terms E g s ≡ o → (fitting E g ss ≡ None → NoneFits E g ss) →
        fitting_or s o (fitting E g ss) ≡ None → NoneFits E g (s ∷ ss)
    go (Some ts) q h d = absurd (no_some (s, ts) (sym d))
    go None q h d = (
      (λ ts m. let k = matches_complete (length s.sorts) (normal E s.rest) (normal E g) ts m in
          no_some k.0 (sym q ∙ k.1)),
      h d,
    )

-- one more
next_stripped : (E : List Declaration) (a : Formula) (s t : Strip) (h : Formula) → head_form E s.rest ≡ h → Stripped E a s →
    strip_form s h ≡ Some t → Stripped E a t
next_stripped E a s t (all r x b) q k e = subst (Stripped E a) (some_injective (strip (r ∷ s.sorts) (map under s.premises) b) t
    e) (quantifier s r x b k q)
next_stripped E a s t (implies p b) q k e = subst (Stripped E a) (some_injective (strip s.sorts (s.premises ++ p ∷ []) b) t e)
    (premise s p b k q)
next_stripped E a s t h q k e = absurd cc

-- each of the list is stripped
pub strips_stripped : (k : ℕ) (E : List Declaration) (a : Formula) (s : Strip) → Stripped E a s → Every (Stripped E a) (strips k E s)
strips_stripped zero E a s h = (h, tt)
strips_stripped (suc k) E a s h = (h, go (strip_form s (head_form E s.rest)) refl (λ t m. strips_stripped k E a t m))
  where
    go : (o : Option Strip) → strip_form s (head_form E s.rest) ≡ o →
        ((t : Strip) → Stripped E a t → Every (Stripped E a) (strips k E t)) → Every (Stripped E a) (each_from o (λ t. strips k E t))
    go None q f = tt
    go (Some t) q f = f t (next_stripped E a s t (head_form E s.rest) refl h q)

pub fitting_stripped : (E : List Declaration) (a g : Formula) (ss : List Strip) → Every (Stripped E a) ss →
    (w : Strip × List Term) → fitting E g ss ≡ Some w → Stripped E a w.0
fitting_stripped E a g [] h w e = absurd (no_some w e)
fitting_stripped E a g (s ∷ ss) h w e = go (fitting_terms E g s) (fitting_stripped E a g ss h.1 w) e
  where
    go : (o : Option (List Term)) → (fitting E g ss ≡ Some w → Stripped E a w.0) → fitting_or s o (fitting E g ss) ≡ Some w →
        Stripped E a w.0
    go (Some ts) f d = subst (λ z. Stripped E a z.0) (some_injective (s, ts) w d) h.0
    go None f d = f d

pub equation_stripped : (E : List Declaration) (a : Formula) (ss : List Strip) → Every (Stripped E a) ss → (s : Strip) →
    equation E ss ≡ Some s → Stripped E a s
equation_stripped E a [] h s e = absurd (no_some s e)
equation_stripped E a (z ∷ ss) h s e = go (is_equation (head_form E z.rest)) (equation_stripped E a ss h.1 s) e
  where
    go : (v : Bool) → (equation E ss ≡ Some s → Stripped E a s) → (if v then Some z else equation E ss) ≡ Some s → Stripped E a s
    go true f d = subst (Stripped E a) (some_injective z s d) h.0
    go false f d = f d

-- ---- well formed

pub stripped_formed : (E : List Declaration) → Lawful E → (V : List (List ℕ)) (a : Formula) (s : Strip) → WellFormed E V a →
    Stripped E a s → WellFormed E (s.sorts ++ V) s.rest
stripped_formed E l V a s w unstripped = w
stripped_formed E l V a t w (quantifier s r x b k q) =
    (subst (WellFormed E (s.sorts ++ V)) q (l.head_formed (s.sorts ++ V) s.rest (stripped_formed E l V a s w k))).1
stripped_formed E l V a t w (premise s p b k q) =
    (subst (WellFormed E (s.sorts ++ V)) q (l.head_formed (s.sorts ++ V) s.rest (stripped_formed E l V a s w k))).1

-- ---- the tree

-- a term for the newest variable, and the others at once
one_first_at : (σ : ℕ → Term) (i : ℕ) → replace_term (first (σ zero)) (lift (λ j. σ (suc j)) i) ≡ σ i
one_first_at σ zero = refl
one_first_at σ (suc i) = term_undo (first (σ zero)) next (λ j. refl) (σ (suc i))

one_first : (σ : ℕ → Term) (b : Formula) → instantiate (replace (lift (λ j. σ (suc j))) b) (σ zero) ≡ replace σ b
one_first σ b = replace_twice (first (σ zero)) (lift (λ j. σ (suc j))) b ∙ ap (λ ρ. replace ρ b) (fun_ext (one_first_at σ))

none_open : (σ : ℕ → Term) (a : Formula) → Lowers 0 σ → replace σ a ≡ a
none_open σ a h = ap (λ ρ. replace ρ a) (fun_ext (λ i. h i (omega arith) ∙ ap var (same i))) ∙ replace_identity a
  where
    same : (i : ℕ) → i - 0 ≡ i
    same i = omega arith

lowers_less : (n : ℕ) (σ : ℕ → Term) → Lowers (suc n) σ → Lowers n (λ i. σ (suc i))
lowers_less n σ h i k = h (suc i) (omega (arith, k)) ∙ ap var (less i n)
  where
    less : (i n : ℕ) → suc i - suc n ≡ i - n
    less i n = omega arith

-- a goal for each premise
abbrev pub premise_goals : List Slot → (ℕ → Term) → List Formula → List Goal
premise_goals c σ ps = map (λ p. goal c (replace σ p)) ps

under_goals : (c : List Slot) (σ : ℕ → Term) (ps : List Formula) → premise_goals c (λ i. σ (suc i)) ps ≡ premise_goals c σ (map under ps)
under_goals c σ [] = refl
under_goals c σ (p ∷ ps) = λ i. goal c (sym (replace_twice σ next p) i) ∷ under_goals c σ ps i

more_goals : (c : List Slot) (σ : ℕ → Term) (ps : List Formula) (p : Formula) → premise_goals c σ ps ++ goal c (replace σ p)
    ∷ [] ≡ premise_goals c σ (ps ++ p ∷ [])
more_goals c σ [] p = refl
more_goals c σ (q ∷ ps) p = ap (λ l. goal c (replace σ q) ∷ l) (more_goals c σ ps p)

module _ (E : List Declaration) (l : Lawful E) (c : List Slot) (a : Formula) (w : WellFormed E (variables (entries c)) a)
    (lead : (z : Formula) → Same E a z → Leads E (seq (entries c) z ∷ []) []) where
  pub strip_leads : (s : Strip) → Stripped E a s → (σ : ℕ → Term) → Lowers (length s.sorts) σ →
      Fits E σ (s.sorts ++ variables (entries c)) (variables (entries c)) → (z : Formula) → Same E (replace σ s.rest) z →
      Leads E (seq (entries c) z ∷ []) (premise_goals c σ s.premises)
  strip_leads s unstripped σ h f z q = lead z (subst (λ y. Same E y z) (none_open σ a h) q)
  strip_leads t (quantifier s r x b k e) σ h f z q =
      let V : List (List ℕ) = variables (entries c) in
      let τ : ℕ → Term = λ i. σ (suc i) in
      let fτ : Fits E τ (s.sorts ++ V) V = λ i y p. f (suc i) y p in
      let m = stripped_formed E l V a s w k in
      let n : WellFormed E (s.sorts ++ V) (all r x b) = subst (WellFormed E (s.sorts ++ V)) e (l.head_formed (s.sorts ++ V) s.rest m) in
      let is : Same E (replace τ s.rest) (all r plain (replace (lift τ) b)) =
      sym (same_replace E τ (head_form E s.rest) s.rest (l.head_same s.rest)) ∙ (λ i. unnamed (normal E (replace τ (e i)))) ∙
      same_all_named E r x plain (replace (lift τ) b) in
      by_rule (all_e r (replace (lift τ) b) (σ zero)) (entries c) z
      (replace_formed E τ (s.sorts ++ V) V fτ (all r x b) n, f zero r refl, subst (λ y. Same E y z) (sym (one_first σ b)) q)
      (subst (Leads E (seq (entries c) (all r plain (replace (lift τ) b)) ∷ [])) (under_goals c σ s.premises)
      (strip_leads s k τ (lowers_less (length s.sorts) σ h) fτ (all r plain (replace (lift τ) b)) is))
  strip_leads t (premise s p b k e) σ h f z q =
      let V : List (List ℕ) = variables (entries c) in
      let m = stripped_formed E l V a s w k in
      let n : WellFormed E (s.sorts ++ V) (implies p b) = subst (WellFormed E (s.sorts ++ V)) e (l.head_formed (s.sorts ++ V) s.rest m) in
      let is : Same E (replace σ s.rest) (implies (replace σ p) z) =
      sym (same_replace E σ (head_form E s.rest) s.rest (l.head_same s.rest)) ∙ (λ i. unnamed (normal E (replace σ (e i)))) ∙
      same_implies E (replace σ p) (replace σ b) (replace σ p) z refl q in
      by_rule (imp_e (replace σ p)) (entries c) z (replace_formed E σ (s.sorts ++ V) V f p n.0)
      (subst (Leads E (seq (entries c) (implies (replace σ p) z) ∷ seq (entries c) (replace σ p) ∷ [])) (more_goals c σ s.premises p)
      (and_then_those (strip_leads s k σ h f (implies (replace σ p) z) is) (left_open c (replace σ p) nothing)))
