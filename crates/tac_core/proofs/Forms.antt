-- The rows that look at the goal's form.
use Rattle.std.proofs.Common.{◌≡◌, ℕ, Bool, true, false, List, [], ◌∷◌, Ok, Err, Decides, refl, sym, subst, ◌∙◌, if◌then◌else◌}
use Rattle.std.specs.Cmp.Lexicographic.{bytes_decides}
use Rattle.fol_theory.specs.Syntax.{Term, Formula, truth, falsity, both, either, ex, is_name}
use Rattle.fol_theory.specs.Substitution.{instantiate}
use Rattle.fol_theory.specs.Contexts.{variables}
use Rattle.fol_theory.specs.Slots.{Slot, entries, names}
use Rattle.env_theory.specs.Declarations.{Declaration}
use Rattle.env_theory.specs.Typing.{HasSort, WellFormed, AreSorts, Environment}
use Rattle.vern_grammar.specs.Trees.{Expression}
use Rattle.elab_theory.specs.Locals.{locals_in}
use Rattle.elab_theory.specs.Expressions.{term_of, formula_of}
use Rattle.elab_theory.proofs.Formed.{term_formed, formula_formed}
use Rattle.env_theory.specs.Normal.{Same}
use Rattle.logic_theory.specs.Rules.{leaf, step, plain, FormedContext, true_i, false_e, and_i, or_i1, or_i2, ex_i}
use Rattle.logic_theory.specs.Goals.{Goal, goal}
use Rattle.logic_theory.proofs.Grafting.{label_names, names_entries}
use Rattle.vern_lex.specs.declared.span.Span.{Span}
use Rattle.elab_theory.specs.Faults.{wrong_sort}
use Rattle.tactic_theory.specs.Faults.{of_typing}
use Rattle.tactic_theory.proofs.Found.{context_sorts}
use Rattle.tactic_theory.proofs.Typed.{locals_sorts}
use Rattle.tactic_theory.specs.Refinements.{part, witness_form}
use Rattle.tactic_theory.proofs.Named.{same_ex_named}
use Rattle.tac_base.specs.Openings.{made, Opens}

-- ---- the rules that lead to the new goals

module _ (E : List Declaration) (g : Goal) where
  -- a well formed form of the goal
  abbrev IsForm : Formula → Type 0
  IsForm h = WellFormed E (variables (entries g.slots)) h × Same E h g.shown

  pub both_opens : (a b : Formula) → IsForm (both a b) → Opens E g (part [] g.slots a ∷ part [] g.slots b ∷ [])
      (made (step (and_i a b) ∷ leaf (names g.slots) ∷ leaf (names g.slots) ∷ []) (a ∷ b ∷ []))
  both_opens a b w = record {
    follows = (w, (names_entries g.slots, (names_entries g.slots, tt)));
    leaves = λ i. goal (label_names g.slots i) a ∷ goal (label_names g.slots i) b ∷ [];
    formulas = refl;
  }

  pub truth_opens : IsForm truth → Opens E g [] (made (step true_i ∷ []) [])
  truth_opens w = record { follows = (w.1, tt); leaves = refl; formulas = refl }

  pub left_opens : (a b : Formula) → IsForm (either a b) → Opens E g (part [] g.slots a ∷ [])
      (made (step (or_i1 a b) ∷ leaf (names g.slots) ∷ []) (a ∷ []))
  left_opens a b w = record { follows = (w, (names_entries g.slots, tt)); leaves = λ i. goal (label_names g.slots i) a ∷ []; formulas = refl }

  pub right_opens : (a b : Formula) → IsForm (either a b) → Opens E g (part [] g.slots b ∷ [])
      (made (step (or_i2 a b) ∷ leaf (names g.slots) ∷ []) (b ∷ []))
  right_opens a b w = record { follows = (w, (names_entries g.slots, tt)); leaves = λ i. goal (label_names g.slots i) b ∷ []; formulas = refl }

  pub falsity_opens : Opens E g (part [] g.slots falsity ∷ []) (made (step false_e ∷ leaf (names g.slots) ∷ []) (falsity ∷ []))
  falsity_opens = record { follows = (tt, (names_entries g.slots, tt)); leaves = λ i. goal (label_names g.slots i) falsity ∷ []; formulas = refl }

  pub witness_opens : (s x : List ℕ) (b : Formula) (t : Term) → IsForm (ex s x b) → HasSort E (variables (entries g.slots)) t s
      → Opens E g (part [] g.slots (instantiate b t) ∷ [])
      (made (step (ex_i s b t) ∷ leaf (names g.slots) ∷ []) (instantiate b t ∷ []))
  witness_opens s x b t w k = record {
    follows = ((w.0, k, same_ex_named E s plain x b ∙ w.1), (names_entries g.slots, tt));
    leaves = λ i. goal (label_names g.slots i) (instantiate b t) ∷ [];
    formulas = refl;
  }

-- ---- a witness has its sort

pub witness_sorted : (c : List Slot) (r s x : List ℕ) (u : Term) (p : Span) (b : Formula) → r ≡ s
    → witness_form c s u p (ex r x b) ≡ Ok (part [] c (instantiate b u) ∷ [])
witness_sorted c r s x u p b e = go (is_name r s) (bytes_decides r s)
  where
    go : (q : Bool) → Decides q (r ≡ s)
        → (if q then Ok (part [] c (instantiate b u) ∷ []) else Err (of_typing (wrong_sort p))) ≡ Ok (part [] c (instantiate b u) ∷ [])
    go true d = refl
    go false d = let w = d.1 e in absurd cc

-- ---- arguments

pub term_sorted : (E : List Declaration) (c : List Slot) (a : Expression) (t : Term) (s : List ℕ) → term_of E (locals_in c) a ≡ Ok (t, s)
    → HasSort E (variables (entries c)) t s
term_sorted E c a t s e = subst (λ V. HasSort E V t s) (locals_sorts c) (term_formed E (locals_in c) a (t, s) e)

pub formula_sorted : (E : List Declaration) → Environment E → (c : List Slot) (a : Expression) (b : Formula) → FormedContext E (entries c)
    → formula_of E (locals_in c) a ≡ Ok b → WellFormed E (variables (entries c)) b
formula_sorted E x c a b f e = subst (λ V. WellFormed E V b) (locals_sorts c)
    (formula_formed E x a (locals_in c) (subst (AreSorts E) (sym (locals_sorts c)) (context_sorts E (entries c) f)) b e)
