-- A hypothesis that is the same as the goal, looked for from the newest entry on.
use Rattle.std.proofs.Common.{◌≡◌, ℕ, ◌+◌, Bool, true, false, ◌||◌, List, [], ◌∷◌, ◌++◌, map, length, append_assoc, Some, refl, sym, ap, subst, ◌∙◌, inl, inr, arith}
use Rattle.std.proofs.Math.Path.{fun_ext}
use Rattle.std.proofs.lemmas.Bool.Decides.{nat_tests}
use Rattle.fol_theory.specs.Syntax.{Formula}
use Rattle.fol_theory.specs.Substitution.{replace, replace_term, next, raise, shift, under}
use Rattle.fol_theory.specs.Contexts.{Entry, variable, hypothesis, variables, hypotheses, count, IsHypothesis}
use Rattle.fol_theory.specs.Slots.{Slot, entries}
use Rattle.fol_theory.proofs.AtIndex.{shift_none}
use Rattle.fol_theory.proofs.Laws.{replace_twice}
use Rattle.fol_theory.proofs.Numbers.{hypothesis_placed}
use Rattle.env_theory.specs.Declarations.{Declaration}
use Rattle.env_theory.specs.Normal.{Same}
use Rattle.env_theory.specs.Typing.{WellFormed}
use Rattle.logic_theory.specs.Derivations.{Among}
use Rattle.logic_theory.specs.Rules.{FormedContext}
use Rattle.logic_theory.proofs.Trees.{is_member, hypotheses_formed}
use Rattle.tactic_theory.specs.Evidence.{is_same}
use Rattle.tactic_theory.specs.Refinements.{has_same}
use Rattle.tactic_theory.proofs.Found.{is_same_decides}
use Rattle.tac_core.specs.Exacts.{FindsSame}

-- ---- one that is there

or_true : (p q : Bool) → q ≡ true → (p || q) ≡ true
or_true true q e = refl
or_true false q e = e

among_same : (E : List Declaration) (a g : Formula) (ls : List Formula) → Among a ls → Same E a g → has_same E ls g ≡ true
among_same E a g [] m s = absurd m
among_same E a g (b ∷ ls) (inl e) s =
    ap (λ t. t || has_same E ls g) ((is_same_decides E b g).1 (subst (λ z. Same E z g) e s))
among_same E a g (b ∷ ls) (inr m) s = or_true (is_same E b g) (has_same E ls g) (among_same E a g ls m s)

pub same_there : (E : List Declaration) (c : List Entry) (i : ℕ) (a g : Formula) → IsHypothesis c i a → Same E a g
    → has_same E (hypotheses c) g ≡ true
same_there E c i a g h s = among_same E a g (hypotheses c) (is_member c i a h) s

-- ---- entries that are passed

under_raised : (n i : ℕ) → replace_term (raise 0 n) (next i) ≡ raise 0 (n + 1) i
under_raised n i = grind (arith, nat_tests)

under_shifted : (n : ℕ) (a : Formula) → shift 0 n (under a) ≡ shift 0 (n + 1) a
under_shifted n a = replace_twice (raise 0 n) next a ∙ ap (λ ρ. replace ρ a) (fun_ext (under_raised n))

unshifted : (ls : List Formula) → map (shift 0 0) ls ≡ ls
unshifted [] = refl
unshifted (a ∷ ls) = λ i. shift_none 0 a i ∷ unshifted ls i

further : (n : ℕ) (ls : List Formula) → map (shift 0 n) (map under ls) ≡ map (shift 0 (n + 1)) ls
further n [] = refl
further n (a ∷ ls) = λ i. under_shifted n a i ∷ further n ls i

variables_after : (ds c : List Entry) → length (variables (ds ++ c)) ≡ length (variables ds) + length (variables c)
variables_after [] c = omega arith
variables_after (variable s ∷ ds) c = omega (arith, variables_after ds c)
variables_after (hypothesis a ∷ ds) c = variables_after ds c

-- Of a context some entries are passed, with n variables, and none of their hypotheses is the same as g. The others are left.
pub record IsPassed (E : List Declaration) (c : List Entry) (g : Formula) (n : ℕ) (left : List Entry) : Type 0 where
  pub passed : List Entry
  pub whole : c ≡ passed ++ left
  pub newer : n ≡ length (variables passed)
  pub rest : has_same E (hypotheses c) g ≡ has_same E (map (shift 0 n) (hypotheses left)) g

pub none_passed : (E : List Declaration) (c : List Entry) (g : Formula) → IsPassed E c g 0 c
none_passed E c g = record { passed = []; whole = refl; newer = refl; rest = ap (λ ls. has_same E ls g) (sym (unshifted (hypotheses c))) }

-- the newest slot that is left, and those behind it
module _ (E : List Declaration) (c : List Entry) (g : Formula) (n : ℕ) (l d : List Slot) (x : Slot) (p : IsPassed E c g n (entries l)) (e : l ≡ x ∷ d) where
  left_is : (y : Entry) → x.entry ≡ y → entries l ≡ y ∷ entries d
  left_is y q = ap entries e ∙ ap (λ z. z ∷ entries d) q

  whole_is : (y : Entry) → x.entry ≡ y → c ≡ p.passed ++ y ∷ entries d
  whole_is y q = p.whole ∙ ap (λ z. p.passed ++ z) (left_is y q)

  pub variable_passed : (w : ℕ) → w ≡ n + 1 → (s : List ℕ) → x.entry ≡ variable s → IsPassed E c g w (entries d)
  variable_passed w h s q = record {
    passed = p.passed ++ variable s ∷ [];
    whole = whole_is (variable s) q ∙ sym (append_assoc p.passed (variable s ∷ []) (entries d));
    newer = omega (arith, h, p.newer, variables_after p.passed (variable s ∷ []));
    rest = p.rest ∙ ap (λ z. has_same E (map (shift 0 n) (hypotheses z)) g) (left_is (variable s) q)
        ∙ ap (λ ls. has_same E ls g) (further n (hypotheses (entries d))) ∙ ap (λ z. has_same E (map (shift 0 z) (hypotheses (entries d))) g) (sym h);
  }

  module _ (a : Formula) (q : x.entry ≡ hypothesis a) where
    found_at : (i : ℕ) → i ≡ count (entries d) → IsHypothesis c i (shift 0 n a)
    found_at i k = subst (λ z. IsHypothesis z i (shift 0 n a)) (sym (whole_is (hypothesis a) q))
        (subst (λ z. IsHypothesis (p.passed ++ hypothesis a ∷ entries d) z (shift 0 n a)) (sym k)
        (subst (λ z. IsHypothesis (p.passed ++ hypothesis a ∷ entries d) (count (entries d)) (shift 0 z a)) (sym p.newer)
        (hypothesis_placed p.passed (entries d) a)))

    pub hypothesis_found : (i : ℕ) → i ≡ count (entries d) → Same E (shift 0 n a) g → FindsSame E c g (Some i)
    hypothesis_found i k s = (shift 0 n a, found_at i k, s)

    pub hypothesis_formed : FormedContext E c → WellFormed E (variables c) (shift 0 n a)
    hypothesis_formed f = hypotheses_formed E c (shift 0 n a) f (is_member c (count (entries d)) (shift 0 n a) (found_at _ refl))

    pub hypothesis_passed : (Same E (shift 0 n a) g → ⊥) → IsPassed E c g n (entries d)
    hypothesis_passed h = record {
      passed = p.passed ++ hypothesis a ∷ [];
      whole = whole_is (hypothesis a) q ∙ sym (append_assoc p.passed (hypothesis a ∷ []) (entries d));
      newer = omega (arith, p.newer, variables_after p.passed (hypothesis a ∷ []));
      rest = p.rest ∙ ap (λ z. has_same E (map (shift 0 n) (hypotheses z)) g) (left_is (hypothesis a) q)
          ∙ ap (λ t. t || has_same E (map (shift 0 n) (hypotheses (entries d))) g)
          (differs (is_same E (shift 0 n a) g) (is_same_decides E (shift 0 n a) g).0);
    }
      where
        differs : (t : Bool) → (t ≡ true → Same E (shift 0 n a) g) → t ≡ false
        differs true k = absurd (h (k refl))
        differs false k = refl
