-- One strip more of a draft, its premises at the end, and formulas that are no strip and no equation.
use Rattle.std.proofs.Common.{
  ◌≡◌,
  ◌<◌,
  ◌≤◌,
  ◌+◌,
  ◌-◌,
  ℕ,
  false,
  List,
  [],
  ◌∷◌,
  ◌++◌,
  length,
  get_or,
  map,
  reverse,
  Option,
  Some,
  None,
  refl,
  sym,
  ap,
  subst,
  ◌∙◌,
  arith,
}
use Rattle.std.specs.List.{All}
use Rattle.std.specs.declared.alloc.Global.{Global}
use Rattle.std.specs.declared.sync.Arc.{Arc}
use Rattle.std.proofs.lemmas.List.{reverse-append, length_push, length-append, length-reverse, length-map, map_push, get_or-map}
use Rattle.std.proofs.lemmas.List.Elements.{All-head, All-tail, All-get_or}
use Rattle.fol_theory.specs.Syntax as theory
use Rattle.fol_theory.specs.Syntax.{equal, implies, all}
use Rattle.fol_theory.specs.Substitution.{shift, under}
use Rattle.fol_theory.specs.Printing.{unnamed}
use Rattle.fol_theory.proofs.AtIndex.{shift_none, under_shift}
use Rattle.env_theory.specs.Declarations.{Declaration}
use Rattle.env_theory.specs.Typing.{WellFormed}
use Rattle.tactic_theory.specs.Strips.{Strip, strip, strip_form}
use Rattle.term_core.specs.Formula.{meaning}
use Rattle.term_core.specs.declared.formula.Formula.{Formula}
use Rattle.term_core.specs.declared.formula.Formula.TheVariants as made
use Rattle.term_core.specs.declared.term.Term.{Term}
use Rattle.term_core.proofs.Shapes.{kind, made_alike, is_all, is_imp, is_eq}
use Rattle.strip_core.specs.declared.draft.Draft.{Draft}
use Rattle.strip_core.specs.declared.draft.Head.TheVariants.{Other}
use Rattle.strip_core.specs.declared.draft.Premise.{Premise}
use Rattle.strip_core.specs.Drafts.{premise_of, drafted, Stands, Turns}

-- one variable more is open
newer : (n : ℕ) (p : Premise) → p.opened ≤ n → under (premise_of n p) ≡ premise_of (n + 1) p
newer n p h = under_shift (n - p.opened) (meaning p.formula) ∙ ap (λ k. shift 0 k (meaning p.formula)) more
  where
    more : n - p.opened + 1 ≡ n + 1 - p.opened
    more = omega (arith, h)

all_newer : (n : ℕ) (ps : List Premise) → All (λ p. p.opened ≤ n) ps → map under (map (premise_of n) ps) ≡ map (premise_of (n + 1)) ps
all_newer n [] h = refl
all_newer n (p ∷ ps) h = λ i. newer n p (All-head (λ p. p.opened ≤ n) p ps h) i ∷ all_newer n ps (All-tail (λ p. p.opened ≤ n) p ps h) i

module _ (ns : List (List ℕ)) (ps : List Premise) (a b c h : theory.Formula) (same : c ≡ b) where
  -- a quantifier's variable
  pub opened : (r x : List ℕ) (ms : List (List ℕ)) → All (λ p. p.opened ≤ length ns) ps → h ≡ all r x b → ms ≡ ns ++ r ∷ []
      → strip_form (strip (reverse ns) (map (premise_of (length ns)) ps) a) h ≡ Some (strip (reverse ms) (map (premise_of (length ms)) ps) c)
  opened r x ms older is more =
      ap (strip_form (strip (reverse ns) (map (premise_of (length ns)) ps) a)) is
      ∙ (λ i. Some (strip (sym (reverse-append ns (r ∷ [])) i)
      ((all_newer (length ns) ps older ∙ ap (λ n. map (premise_of n) ps) (sym (length_push ns r))) i) (sym same i)))
      ∙ ap (λ l. Some (strip (reverse l) (map (premise_of (length l)) ps) c)) (sym more)

  -- an implication's left side
  pub supposed : (p : Premise) (q : theory.Formula) (qs : List Premise) → h ≡ implies q b → p.opened ≡ length ns → meaning p.formula ≡ q
      → qs ≡ ps ++ p ∷ []
      → strip_form (strip (reverse ns) (map (premise_of (length ns)) ps) a) h ≡ Some (strip (reverse ns) (map (premise_of (length ns)) qs) c)
  supposed p q qs is e m more =
      ap (strip_form (strip (reverse ns) (map (premise_of (length ns)) ps) a)) is
      ∙ (λ i. Some (strip (reverse ns) (map (premise_of (length ns)) ps ++ itself i ∷ []) (sym same i)))
      ∙ ap (λ l. Some (strip (reverse ns) l c)) (sym (ap (map (premise_of (length ns))) more ∙ map_push (premise_of (length ns)) ps p))
    where
      none : 0 ≡ length ns - p.opened
      none = omega (arith, e)

      itself : q ≡ premise_of (length ns) p
      itself = sym m ∙ sym (shift_none 0 (meaning p.formula)) ∙ ap (λ k. shift 0 k (meaning p.formula)) none

-- ---- other formulas

pub other : (a : Formula) → ((s x : List ℕ) (b : Arc Formula Global) → a ≡ made.All s x b → ⊥)
    → ((b c : Arc Formula Global) → a ≡ made.Imp b c → ⊥) → ((s : List ℕ) (t u : Term) → a ≡ made.Eq s t u → ⊥)
    → (s : Strip) → Turns s s (meaning a) Other
other a no_all no_imp no_eq s = go (meaning a) (λ e. let w = made_alike is_all a a e refl in no_all w.0 w.1 w.2 w.3)
    (λ e. let w = made_alike is_imp a a e refl in no_imp w.0 w.1 w.2) (λ e. let w = made_alike is_eq a a e refl in no_eq w.0 w.1 w.2 w.3)
  where
    go : (b : theory.Formula) → (kind (unnamed b) ≡ is_all → ⊥) → (kind (unnamed b) ≡ is_imp → ⊥) → (kind (unnamed b) ≡ is_eq → ⊥)
        → Turns s s b Other
    go (all r x b) h k l = absurd (h refl)
    go (implies b c) h k l = absurd (k refl)
    go (equal r t u) h k l = absurd (l refl)
    go b h k l = (refl, refl, refl)

-- ---- at the end

pub premise_at : (P : theory.Formula → Type 0) (n : ℕ) (ps : List Premise) (i : ℕ) (p : Premise) → i < length ps → p ≡ get_or ps i p
    → All P (map (premise_of n) ps) → P (premise_of n p)
premise_at P n ps i p h e k =
    subst P (get_or-map (premise_of n) ps i p (premise_of n p) h ∙ ap (premise_of n) (sym e))
    (All-get_or P (map (premise_of n) ps) i (premise_of n p) (subst (λ j. i < j) (sym (length-map ps (premise_of n))) h) k)

-- all of them are well formed over all variables
pub premises_stand : (E : List Declaration) (n : ℕ) (d : Draft) → Stands E n (drafted d) → (m k : ℕ) (ps : List Premise)
    → m ≡ n + length d.sorts.items → k ≡ length d.sorts.items → ps ≡ d.premises.items
    → (E : List Declaration) × (V : List (List ℕ)) × (length V ≤ m) × All (WellFormed E V) (map (premise_of k) ps)
premises_stand E n d w m k ps em ek ep = (
  E,
  reverse d.sorts.items ++ w.0,
  omega (arith, w.1, em, length-append (reverse d.sorts.items) w.0, length-reverse d.sorts.items),
  subst (All (WellFormed E (reverse d.sorts.items ++ w.0))) (λ i. map (premise_of (sym ek i)) (sym ep i)) w.3,
)
