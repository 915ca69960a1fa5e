-- What the tests of the table find: sameness, hypotheses by name and number, sorts.
use Rattle.logic_theory.proofs.Derived.{among_of_under}
use Rattle.fol_theory.specs.Slots.{Slot, entries}
use Rattle.env_theory.specs.Normal.{normal, Same}
use Rattle.env_theory.specs.Typing.{HasSort}
use Rattle.env_theory.specs.Orders.{Lawful}
use Rattle.env_theory.specs.Declarations.{Declaration}
use Rattle.std.proofs.Common.{◌≡◌, ℕ, ◌<◌, ◌≤◌, Bool, true, false, ◌||◌, if◌then◌else◌, ◌==◌, List, [], ◌∷◌, ◌++◌, Option, Some, None, option_map, is_some, Decides, refl, sym, ap, ◌∙◌, arith, ◌⊎◌, inl, inr}
use Rattle.std.proofs.lemmas.Bool.Decides.{Decides-eqb}
use Rattle.fol_theory.specs.Syntax.{Term, Formula, is_name}
use Rattle.fol_theory.specs.Substitution.{under}
use Rattle.fol_theory.specs.Printing.{unnamed, Alike}
use Rattle.fol_theory.specs.Contexts.{Entry, variable, hypothesis, variables, hypotheses, count, IsHypothesis, without}
use Rattle.fol_theory.proofs.Laws.{replace_identity}
use Rattle.match_theory.specs.Instances.{IsInstance}
use Rattle.match_theory.specs.Matching.{matches}
use Rattle.match_theory.proofs.Matched.{matches_sound, matches_complete}
use Rattle.logic_theory.specs.Rules.{FormedContext}
use Rattle.logic_theory.specs.Derivations.{Among}
use Rattle.logic_theory.proofs.Derived.{among_of_under}
use Rattle.env_theory.specs.Typing.{AreSorts, IsSort}
use Rattle.env_theory.specs.Declarations.{find}
use Rattle.tactic_theory.specs.Names.{number_of, hypothesis_named, hypothesis_at}
use Rattle.tactic_theory.specs.Evidence.{is_same}
use Rattle.tactic_theory.specs.Refinements.{has_same}

-- ---- sameness decided

no_open : (a b : Formula) (ts : List Term) → IsInstance 0 a b ts → Alike a b
no_open a b [] h = ap unnamed (sym (replace_identity a)) ∙ h.1
no_open a b (t ∷ ts) h = absurd (omega (arith, h.0))

pub is_same_decides : (E : List Declaration) (a b : Formula) → Decides (is_same E a b) (Same E a b)
is_same_decides E a b = (
  go (matches 0 (normal E a) (normal E b)) refl,
  λ e. back (matches_complete 0 (normal E a) (normal E b) [] (refl, ap unnamed (replace_identity (normal E a)) ∙ e)),
)
  where
    go : (o : Option (List Term)) → matches 0 (normal E a) (normal E b) ≡ o → is_some o ≡ true → Same E a b
    go None p e = absurd cc
    go (Some ts) p e = no_open (normal E a) (normal E b) ts (matches_sound 0 (normal E a) (normal E b) ts p)

    back : (us : List Term) × (matches 0 (normal E a) (normal E b) ≡ Some us) → is_same E a b ≡ true
    back r = ap is_some r.1

-- ---- hypotheses

some_injective : {A : Type 0} (x y : A) → Some x ≡ Some y → x ≡ y
some_injective x y e = cc

pub hypothesis_at_is : (c : List Entry) (i : ℕ) (a : Formula) → hypothesis_at c i ≡ Some a → IsHypothesis c i a
hypothesis_at_is [] i a e = absurd cc
hypothesis_at_is (variable s ∷ c) i a e = go (hypothesis_at c i) (hypothesis_at_is c i) e
  where
    go : (o : Option Formula) → ((b : Formula) → o ≡ Some b → IsHypothesis c i b) → option_map under o ≡ Some a →
        (b : Formula) × IsHypothesis c i b × (a ≡ under b)
    go None h q = absurd cc
    go (Some b) h q = (b, h b refl, sym (some_injective (under b) a q))
hypothesis_at_is (hypothesis b ∷ c) i a e = go (i == count c) (Decides-eqb i (count c)) (hypothesis_at_is c i a) e
  where
    go : (t : Bool) → Decides t (i ≡ count c) → (hypothesis_at c i ≡ Some a → IsHypothesis c i a) →
        (if t then Some b else hypothesis_at c i) ≡ Some a → ((i ≡ count c) × (a ≡ b)) ⊎ IsHypothesis c i a
    go true d h q = inl (d.0 refl, sym (some_injective b a q))
    go false d h q = inr (h q)

pub named_below : (c : List Slot) (n : List ℕ) (i : ℕ) → hypothesis_named c n ≡ Some i → i < count (entries c)
named_below [] n i e = absurd cc
named_below (x ∷ c) n i e = entry_below x.entry c (is_name n x.name) i (hypothesis_named c n) (named_below c n i) e
  where
    entry_below : (d : Entry) (c : List Slot) (t : Bool) (i : ℕ) (o : Option ℕ) → (o ≡ Some i → i < count (entries c)) →
        (if t then number_of d c else o) ≡ Some i → i < count (d ∷ entries c)
    entry_below (variable s) c true i o h q = absurd cc
    entry_below (variable s) c false i o h q = h q
    entry_below (hypothesis a) c true i o h q = let k = some_injective (count (entries c)) i q in omega (arith, k)
    entry_below (hypothesis a) c false i o h q = omega (arith, h q)

pub member_is : (c : List Entry) (a : Formula) → Among a (hypotheses c) → (i : ℕ) × IsHypothesis c i a
member_is [] a m = absurd m
member_is (variable s ∷ c) a m = let r = among_of_under a (hypotheses c) m in let k = member_is c r.0 r.1 in (k.0, (r.0, k.1, r.2))
member_is (hypothesis b ∷ c) a (inl e) = (count c, inl (refl, e))
member_is (hypothesis b ∷ c) a (inr m) = let k = member_is c a m in (k.0, inr k.1)

pub has_same_is : (E : List Declaration) (ls : List Formula) (g : Formula) → has_same E ls g ≡ true → (a : Formula) ×
    Among a ls × Same E a g
has_same_is E [] g e = absurd cc
has_same_is E (a ∷ ls) g e = go (is_same E a g) (is_same_decides E a g) (has_same_is E ls g) e
  where
    go : (t : Bool) → Decides t (Same E a g) → (has_same E ls g ≡ true → (b : Formula) × Among b ls × Same E b g) →
        (t || has_same E ls g) ≡ true → (b : Formula) × Among b (a ∷ ls) × Same E b g
    go true d h q = (a, inl refl, d.0 refl)
    go false d h q = let r = h q in (r.0, inr r.1, r.2)

-- a hypothesis of the older part, left out below newer entries
pub count_more : (ds c : List Entry) → count c ≤ count (ds ++ c)
count_more [] c = omega arith
count_more (variable s ∷ ds) c = count_more ds c
count_more (hypothesis a ∷ ds) c = omega (arith, count_more ds c)

pub without_newer : (ds c : List Entry) (i : ℕ) → i < count c → without (ds ++ c) i ≡ ds ++ without c i
without_newer [] c i h = refl
without_newer (variable s ∷ ds) c i h = ap (λ l. variable s ∷ l) (without_newer ds c i h)
without_newer (hypothesis a ∷ ds) c i h = go (i == count (ds ++ c)) (Decides-eqb i (count (ds ++ c))) (without_newer ds c i h)
  where
    go : (t : Bool) → Decides t (i ≡ count (ds ++ c)) → without (ds ++ c) i ≡ ds ++ without c i →
        (if t then ds ++ c else hypothesis a ∷ without (ds ++ c) i) ≡ hypothesis a ∷ (ds ++ without c i)
    go true d k = absurd (omega (arith, h, d.0 refl, count_more ds c))
    go false d k = ap (λ l. hypothesis a ∷ l) k

pub entries_append : (xs ys : List Slot) → entries (xs ++ ys) ≡ entries xs ++ entries ys
entries_append [] ys = refl
entries_append (x ∷ xs) ys = ap (λ l. x.entry ∷ l) (entries_append xs ys)

-- ---- sorts

pub context_sorts : (E : List Declaration) (c : List Entry) → FormedContext E c → AreSorts E (variables c)
context_sorts E [] f = tt
context_sorts E (variable r ∷ c) f = (f.0, context_sorts E c f.1)
context_sorts E (hypothesis a ∷ c) f = context_sorts E c f.1

pub sort_declared : (E : List Declaration) → Lawful E → (c : List Entry) (t : Term) (s : List ℕ) → FormedContext E c →
    HasSort E (variables c) t s → IsSort (find E s)
sort_declared E l c t s f h = l.sort_declared (variables c) (context_sorts E c f) t s h
